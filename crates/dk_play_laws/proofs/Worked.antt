-- Workers end what they claim.
use Rattle.std.proofs.Common.{◌≡◌, ◌≢◌, ℕ, ◌==◌, Bool, true, false, cond, inl, inr, Option, Some, None, List, [], ◌∷◌, ◌++◌, refl, sym, ap, subst, ◌∙◌, eq-eqb, ne_eqb}
use Rattle.std.specs.FinMap.{get, remove}
use Rattle.std.specs.List.{filter_map}
use Rattle.std.proofs.lemmas.Bool.Decides.{eqb_tells}
use Rattle.dk_types.specs.declared.number.RunNo.{RunNo}
use Rattle.dk_types.specs.declared.event.Event.{Event}
use Rattle.dk_types.specs.declared.event.Event.TheVariants as event
use Rattle.dk_types.specs.declared.event.ClaimReply.TheVariants as claimed
use Rattle.dk_model.specs.Worlds.{World, Claim}
use Rattle.dk_model.specs.Events.{Meaning, Happens}
use Rattle.dk_model.specs.Histories.{Leads}
use Rattle.dk_model.specs.Legal.{pass_of}
use Rattle.dk_model.specs.Orders.{OrderItem, Claimed, Committed, AreInTurn, item_of, job_text, outcome_text}
use Rattle.dk_model.specs.Transcripts.{Follows}
use Rattle.dk_laws.proofs.NumberedMaps.{one_run, run-insert, run-remove}
use Rattle.dk_play_laws.specs.Reported.{reported_of, AreKept}
use Rattle.dk_play_laws.specs.Worked.{Handles, AreWorked}
use Rattle.dk_play_laws.specs.WorkedLaw.{IsUnclaimed, WorkersLeaveNoClaim, OneWorkerIsInTurn}
use Rattle.dk_play_laws.proofs.Own.{of_pass, of_first, of_rest}

-- which run each pass has in hand
abbrev InHand : Type 0
InHand = ℕ → Option RunNo

-- with this in the hand of one pass
abbrev put : InHand → ℕ → Option RunNo → InHand
put hand n o k = cond (k == n) o (hand k)

put_here : (hand : InHand) (n k : ℕ) (o : Option RunNo) → k ≡ n → put hand n o k ≡ o
put_here hand n k o is = ap (λ (b : Bool). cond b o (hand k)) (eq-eqb k n is)

put_other : (hand : InHand) (n k : ℕ) (o : Option RunNo) → k ≢ n → put hand n o k ≡ hand k
put_other hand n k o other = ap (λ (b : Bool). cond b o (hand k)) (ne_eqb k n other)

-- each claim is in the hand of its pass
abbrev AreHeld : World → InHand → Type 0
AreHeld w hand = (run : RunNo) (claim : Claim) → get w.claims run ≡ Some claim → hand claim.pass ≡ Some run

-- what a pass had in hand it has still, unless it is what its hand let go
held_still : (hand : InHand) (n k : ℕ) (h mid : Option RunNo) (run : RunNo) → hand n ≡ h → hand k ≡ Some run → (h ≡ Some run → ⊥) → put hand n mid k ≡ Some run
held_still hand n k h mid run had held apart = elim (eqb_tells k n) [
  | inl t ↦ absurd (apart (sym had ∙ ap hand (sym t.1) ∙ held))
  | inr t ↦ put_other hand n k mid t.1 ∙ held
]

none_some : (run : RunNo) → ◌≡◌ {A = Option RunNo} None (Some run) → ⊥
none_some run e = cc

some_run : (a b : RunNo) → Some a ≡ Some b → a ≡ b
some_run a b e = cc

none_claim : (c : Claim) → ◌≡◌ {A = Option Claim} None (Some c) → ⊥
none_claim c e = cc

some_claim : (a b : Claim) → Some a ≡ Some b → a ≡ b
some_claim a b e = cc

-- a claim that was let go is not there, and the others are held still
module _ (w : World) (hand : InHand) (n : ℕ) (r ran : RunNo) (mid : Option RunNo) (had : hand n ≡ Some r) (same : ran ≡ r) (held : AreHeld w hand) where
  let_go : (run : RunNo) (claim : Claim) → get (remove w.claims ran) run ≡ Some claim → put hand n mid claim.pass ≡ Some run
  let_go run claim there = elim (eqb_tells run.0 ran.0) [
    | inl t ↦ absurd (none_claim claim (sym (run-remove w.claims ran run ∙ ap (λ (b : Bool). cond b None (get w.claims run)) t.0) ∙ there))
    | inr t ↦
        let was : get w.claims run ≡ Some claim = sym (run-remove w.claims ran run ∙ ap (λ (b : Bool). cond b None (get w.claims run)) t.0) ∙ there in
        held_still hand n claim.pass (Some r) mid run had (held run claim was) (λ e. t.1 (ap (λ (x : RunNo). x.0) (sym (some_run r run e) ∙ sym same)))
  ]

-- what is held after a worker's event
handled : (rules : Meaning) (w : World) (hand : InHand) (e : Event) (after : World) (h mid : Option RunNo) → hand (pass_of e) ≡ h → Handles h e mid → Happens rules w e after → AreHeld w hand → AreHeld after (put hand (pass_of e) mid)
handled rules w hand (event.Claim pass (claimed.Granted run at job)) after None mid had m h held r claim there =
    let c : Claim = record { pass = pass; job = job; at = w.moment } in
    let now = sym (ap (λ (x : World). get x.claims r) h.5 ∙ run-insert w.claims (record { 0 = w.next }) c r) ∙ there in
    elim (eqb_tells r.0 w.next) [
      | inl t ↦
          let is : c ≡ claim = some_claim c claim (sym (ap (λ (b : Bool). cond b (Some c) (get w.claims r)) t.0) ∙ now) in
          put_here hand pass claim.pass mid (ap (λ (x : Claim). x.pass) (sym is)) ∙ m ∙ ap (λ (x : RunNo). Some x) (h.3 ∙ one_run (record { 0 = w.next }) r (sym t.1))
      | inr t ↦
          let was : get w.claims r ≡ Some claim = sym (ap (λ (b : Bool). cond b (Some c) (get w.claims r)) t.0) ∙ now in
          held_still hand pass claim.pass None mid r had (held r claim was) (none_some r)
    ]
handled rules w hand (event.Claim pass claimed.Nothing) after None mid had m h held r claim there =
    held_still hand pass claim.pass None mid r had (held r claim (ap (λ (x : World). get x.claims r) (sym h.1) ∙ there)) (none_some r)
handled rules w hand (event.Claim pass (claimed.Spent granted)) after None mid had m h held r claim there =
    held_still hand pass claim.pass None mid r had (held r claim (ap (λ (x : World). get x.claims r) (sym h.3) ∙ there)) (none_some r)
handled rules w hand (event.Claim pass (claimed.Exhausted next)) after None mid had m h held r claim there =
    held_still hand pass claim.pass None mid r had (held r claim (ap (λ (x : World). get x.claims r) (sym h.4) ∙ there)) (none_some r)
handled rules w hand (event.Commit pass ran seq outcome) after (Some run) mid had m h held r claim there =
    let_go w hand pass run ran mid had m.0 held r claim (ap (λ (x : World). get x.claims r) (sym h.5) ∙ there)
handled rules w hand (event.Release pass ran) after (Some run) mid had m h held r claim there =
    let_go w hand pass run ran mid had m.0 held r claim (ap (λ (x : World). get x.claims r) (sym h.3) ∙ there)
handled rules w hand (event.Connect pass name reply) after None mid had m h held r claim there = absurd m
handled rules w hand (event.Post pass conn input reply) after None mid had m h held r claim there = absurd m
handled rules w hand (event.Release pass ran) after None mid had m h held r claim there = absurd m
handled rules w hand (event.Commit pass ran seq outcome) after None mid had m h held r claim there = absurd m
handled rules w hand (event.Hand pass conn most outs end) after None mid had m h held r claim there = absurd m
handled rules w hand (event.Tick pass moment) after None mid had m h held r claim there = absurd m
handled rules w hand (event.Connect pass name reply) after (Some run) mid had m h held r claim there = absurd m
handled rules w hand (event.Post pass conn input reply) after (Some run) mid had m h held r claim there = absurd m
handled rules w hand (event.Claim pass reply) after (Some run) mid had m h held r claim there = absurd m
handled rules w hand (event.Hand pass conn most outs end) after (Some run) mid had m h held r claim there = absurd m
handled rules w hand (event.Tick pass moment) after (Some run) mid had m h held r claim there = absurd m

-- each pass goes on from what it has in hand, and ends with nothing in hand
abbrev AllGoOn : InHand → List Event → Type 0
AllGoOn hand events = (pass : ℕ) → AreWorked (hand pass) (of_pass pass events) None

module _ (hand : InHand) (e : Event) (events : List Event) (go : AllGoOn hand (e ∷ events)) where
  -- the first of them is its pass's next
  first_go : AreWorked (hand (pass_of e)) (e ∷ of_pass (pass_of e) events) None
  first_go = subst (λ es. AreWorked (hand (pass_of e)) es None) (of_first (pass_of e) e events refl) (go (pass_of e))

  -- and then they go on
  rest_go : AllGoOn (put hand (pass_of e) first_go.0) events
  rest_go k = elim (eqb_tells k (pass_of e)) [
    | inl t ↦
        subst (λ (h : Option RunNo). AreWorked h (of_pass k events) None) (sym (put_here hand (pass_of e) k first_go.0 t.1))
        (subst (λ (j : ℕ). AreWorked first_go.0 (of_pass j events) None) (sym t.1) first_go.2)
    | inr t ↦
        subst (λ (h : Option RunNo). AreWorked h (of_pass k events) None) (sym (put_other hand (pass_of e) k first_go.0 t.1))
        (subst (λ es. AreWorked (hand k) es None) (of_rest k e events (λ same. t.1 (sym same))) (go k))
  ]

-- at the end nothing is claimed
unclaimed : (rules : Meaning) (w : World) (hand : InHand) (events : List Event) (after : World) → AllGoOn hand events → AreHeld w hand → Leads rules w events after → IsUnclaimed after
unclaimed rules w hand [] after go held h run = elim (get after.claims run) as (λ o. get after.claims run ≡ o → o ≡ None) [
  | None ↦ λ e. refl
  | Some claim ↦ λ e. absurd (none_some run (go claim.pass ∙ held run claim (ap (λ (x : World). get x.claims run) (sym h) ∙ e)))
] refl
unclaimed rules w hand (e ∷ events) after go held h run =
    let first = first_go hand e events go in
    unclaimed rules h.0 (put hand (pass_of e) first.0) events after (rest_go hand e events go) (handled rules w hand e h.0 (hand (pass_of e)) first.0 refl first.1 h.1 held) h.2 run

-- a worker's event that is kept, and then the others, follow
follows_on : (rules : Meaning) (w mid : World) (e : Event) (events : List Event) (after : World) (hand to : Option RunNo) → Handles hand e to → AreKept (e ∷ events) → Happens rules w e mid
    → Follows rules mid (filter_map item_of events) (reported_of events) after → Follows rules w (filter_map item_of (e ∷ events)) (reported_of (e ∷ events)) after
follows_on rules w mid (event.Claim pass (claimed.Granted run at job)) events after None to m kept h rest = (mid, refl, h, rest)
follows_on rules w mid (event.Claim pass claimed.Nothing) events after None to m kept h rest = subst (λ (x : World). Follows rules x (filter_map item_of events) (reported_of events) after) h.1 rest
follows_on rules w mid (event.Claim pass (claimed.Spent granted)) events after None to m kept h rest = subst (λ (x : World). Follows rules x (filter_map item_of events) (reported_of events) after) h.3 rest
follows_on rules w mid (event.Claim pass (claimed.Exhausted next)) events after None to m kept h rest = subst (λ (x : World). Follows rules x (filter_map item_of events) (reported_of events) after) h.4 rest
follows_on rules w mid (event.Commit pass ran seq outcome) events after (Some run) to m kept h rest = (mid, refl, h, rest)
follows_on rules w mid (event.Release pass ran) events after (Some run) to m kept h rest = let k = kept.0 in absurd (true_false k) where
  true_false : ◌≡◌ {A = Bool} true false → ⊥
  true_false e = cc
follows_on rules w mid (event.Connect pass name reply) events after None to m kept h rest = absurd m
follows_on rules w mid (event.Post pass conn input reply) events after None to m kept h rest = absurd m
follows_on rules w mid (event.Release pass ran) events after None to m kept h rest = absurd m
follows_on rules w mid (event.Commit pass ran seq outcome) events after None to m kept h rest = absurd m
follows_on rules w mid (event.Hand pass conn most outs end) events after None to m kept h rest = absurd m
follows_on rules w mid (event.Tick pass moment) events after None to m kept h rest = absurd m
follows_on rules w mid (event.Connect pass name reply) events after (Some run) to m kept h rest = absurd m
follows_on rules w mid (event.Post pass conn input reply) events after (Some run) to m kept h rest = absurd m
follows_on rules w mid (event.Claim pass reply) events after (Some run) to m kept h rest = absurd m
follows_on rules w mid (event.Hand pass conn most outs end) events after (Some run) to m kept h rest = absurd m
follows_on rules w mid (event.Tick pass moment) events after (Some run) to m kept h rest = absurd m

follows : (rules : Meaning) (w : World) (hand : InHand) (events : List Event) (after : World) → AllGoOn hand events → AreKept events → Leads rules w events after → Follows rules w (filter_map item_of events) (reported_of events) after
follows rules w hand [] after go kept h = h
follows rules w hand (e ∷ events) after go kept h =
    let first = first_go hand e events go in
    follows_on rules w h.0 e events after (hand (pass_of e)) first.0 first.1 kept h.1 (follows rules h.0 (put hand (pass_of e) first.0) events after (rest_go hand e events go) kept.1 h.2)

-- no pass has anything in hand
abbrev empty_hands : InHand
empty_hands pass = None

none_held : (w : World) → IsUnclaimed w → AreHeld w empty_hands
none_held w none run claim there = absurd (none_claim claim (sym (none run) ∙ there))

pub workers_leave : WorkersLeaveNoClaim
workers_leave rules w events after none work h =
    record { unclaimed = unclaimed rules w empty_hands events after work (none_held w none) h; follows = λ kept. follows rules w empty_hands events after work kept h }

-- what is in hand is committed next
record IsCommittedNext (run : RunNo) (items : List OrderItem) : Type 0 where
  outcome : List ℕ
  rest : List OrderItem
  next : items ≡ Committed run.0 outcome ∷ rest
  turns : AreInTurn rest

-- the items of a worker that has this in hand
abbrev AreNext : Option RunNo → List OrderItem → Type 0
AreNext None items = AreInTurn items
AreNext (Some run) items = IsCommittedNext run items

in_turn : (hand : Option RunNo) (events : List Event) → AreWorked hand events None → AreKept events → AreNext hand (filter_map item_of events)
in_turn None [] worked kept = tt
in_turn (Some run) [] worked kept = absurd (none_some run worked)
in_turn None (event.Claim pass (claimed.Granted run at job) ∷ events) worked kept =
    let next = subst (λ h. AreNext h (filter_map item_of events)) worked.1 (in_turn worked.0 events worked.2 kept.1) in
    subst (λ items. AreInTurn (Claimed run.0 at (job_text job) ∷ items)) (sym next.next) (refl, next.turns)
in_turn None (event.Claim pass claimed.Nothing ∷ events) worked kept = subst (λ h. AreNext h (filter_map item_of events)) worked.1 (in_turn worked.0 events worked.2 kept.1)
in_turn None (event.Claim pass (claimed.Spent granted) ∷ events) worked kept = subst (λ h. AreNext h (filter_map item_of events)) worked.1 (in_turn worked.0 events worked.2 kept.1)
in_turn None (event.Claim pass (claimed.Exhausted next) ∷ events) worked kept = subst (λ h. AreNext h (filter_map item_of events)) worked.1 (in_turn worked.0 events worked.2 kept.1)
in_turn (Some run) (event.Commit pass ran seq outcome ∷ events) worked kept = record {
  outcome = outcome_text outcome;
  rest = filter_map item_of events;
  next = ap (λ (r : RunNo). Committed r.0 (outcome_text outcome) ∷ filter_map item_of events) worked.1.0;
  turns = subst (λ h. AreNext h (filter_map item_of events)) worked.1.1 (in_turn worked.0 events worked.2 kept.1);
}
in_turn (Some run) (event.Release pass ran ∷ events) worked kept = let k = kept.0 in absurd (true_false k) where
  true_false : ◌≡◌ {A = Bool} true false → ⊥
  true_false e = cc
in_turn None (event.Connect pass name reply ∷ events) worked kept = absurd worked.1
in_turn None (event.Post pass conn input reply ∷ events) worked kept = absurd worked.1
in_turn None (event.Release pass ran ∷ events) worked kept = absurd worked.1
in_turn None (event.Commit pass ran seq outcome ∷ events) worked kept = absurd worked.1
in_turn None (event.Hand pass conn most outs end ∷ events) worked kept = absurd worked.1
in_turn None (event.Tick pass moment ∷ events) worked kept = absurd worked.1
in_turn (Some run) (event.Connect pass name reply ∷ events) worked kept = absurd worked.1
in_turn (Some run) (event.Post pass conn input reply ∷ events) worked kept = absurd worked.1
in_turn (Some run) (event.Claim pass reply ∷ events) worked kept = absurd worked.1
in_turn (Some run) (event.Hand pass conn most outs end ∷ events) worked kept = absurd worked.1
in_turn (Some run) (event.Tick pass moment ∷ events) worked kept = absurd worked.1

pub one_in_turn : OneWorkerIsInTurn
one_in_turn events worked kept = in_turn None events worked kept

-- one part of the work, and then another
pub worked_then : (hand mid after : Option RunNo) (xs ys : List Event) → AreWorked hand xs mid → AreWorked mid ys after → AreWorked hand (xs ++ ys) after
worked_then hand mid after [] ys f g = subst (λ h. AreWorked h ys after) f g
worked_then hand mid after (x ∷ xs) ys f g = (f.0, f.1, worked_then f.0 mid after xs ys f.2 g)
