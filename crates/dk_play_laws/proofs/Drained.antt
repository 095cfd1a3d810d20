-- A drain: what the main pass and the workers know of each other's events.
use Rattle.std.proofs.Common.{◌≡◌, ℕ, ◌+◌, ◌<◌, ◌≤◌, None, inl, inr, List, [], ◌∷◌, ◌++◌, length, refl, sym, ap, subst, ◌∙◌, arith, append_assoc}
use Rattle.std.specs.List.{AllByRecursion}
use Rattle.std.proofs.lemmas.List.{append-nil, append_cancel_left}
use Rattle.std.proofs.lemmas.Bool.Decides.{eqb_tells, leb_tells}
use mathlib.Core.List.{IsPrefix}
use Rattle.dk_types.specs.declared.event.Event.{Event}
use Rattle.dk_types.specs.declared.event.Event.TheVariants as event
use Rattle.dk_types.specs.declared.event.ClaimReply.{ClaimReply}
use Rattle.dk_model.specs.Legal.{pass_of}
use Rattle.dk_turn.specs.Fronts.{Known, Continues}
use Rattle.dk_play_laws.specs.AloneLaw.{AreNamed, IsAlone}
use Rattle.dk_play_laws.specs.Phased.{HasMet, HasWorkedOn, IsDrain, IsDrained}
use Rattle.dk_play_laws.specs.PhasedLaw.{DrainTells, DrainsEndTheirClaims}
use Rattle.dk_play_laws.specs.Seen.{AreNumbered, AreBehind, HaveSeen, ArePaired}
use Rattle.dk_play_laws.specs.Worked.{AreWorked}
use Rattle.dk_play_laws.specs.WorkedLaw.{AllWork}
use Rattle.dk_play_laws.proofs.Own.{of_pass, of_append, of_own, of_other, of_all, AreOf, none_above, none_rest, named_first, named_last, seen_first, alone}
use Rattle.dk_play_laws.proofs.Worked.{worked_then}

-- one front begins with another that begins with a third
pub prefix_then : (xs ys zs : List Event) → IsPrefix xs ys → IsPrefix ys zs → IsPrefix xs zs
prefix_then xs ys zs f g = (f.0 ++ g.0, sym (append_assoc xs f.0 g.0) ∙ ap (λ (es : List Event). es ++ g.0) f.1 ∙ g.1)

-- passes keep their numbers, and are as many as before
pub paired_numbered : (R : Known Event → Known Event → Type 0) (n : ℕ) (before after : List (Known Event)) → ((p q : Known Event) → R p q → q.number ≡ p.number) → ArePaired R before after → AreNumbered n before → AreNumbered n after
paired_numbered R n [] [] same pairs numbered = tt
paired_numbered R n (p ∷ before) (q ∷ after) same pairs numbered = (same p q pairs.0 ∙ numbered.0, paired_numbered R (n + 1) before after same pairs.1 numbered.1)
paired_numbered R n [] (q ∷ after) same pairs numbered = absurd pairs
paired_numbered R n (p ∷ before) [] same pairs numbered = absurd pairs

pub paired_count : (R : Known Event → Known Event → Type 0) (before after : List (Known Event)) → ArePaired R before after → length after ≡ length before
paired_count R [] [] pairs = refl
paired_count R (p ∷ before) (q ∷ after) pairs = let rest = paired_count R before after pairs.1 in omega (arith, rest)
paired_count R [] (q ∷ after) pairs = absurd pairs
paired_count R (p ∷ before) [] pairs = absurd pairs

-- those who met the main pass are behind it
met_behind : (from to : List Event) (before after : List (Known Event)) → ArePaired (HasMet from to) before after → AreBehind after to
met_behind from to [] [] pairs = tt
met_behind from to (p ∷ before) (q ∷ after) pairs = (pairs.0.ends, met_behind from to before after pairs.1)
met_behind from to [] (q ∷ after) pairs = absurd pairs
met_behind from to (p ∷ before) [] pairs = absurd pairs

-- what each worker had seen before a round is all of its own that the main pass had seen then
met_seen : (from to : List Event) (before after : List (Known Event)) → ArePaired (HasMet from to) before after → AreBehind before from → HaveSeen before from
met_seen from to [] [] pairs behind = tt
met_seen from to (p ∷ before) (q ∷ after) pairs behind =
    let m = pairs.0 in
    let s = seen_first (p ∷ []) from m.begins.0 (behind.0, tt) (subst (Continues pass_of p.number p.front) (sym m.begins.1) m.continues, tt) in
    (s.0.0, met_seen from to before after pairs.1 behind.1)
met_seen from to [] (q ∷ after) pairs behind = absurd pairs
met_seen from to (p ∷ before) [] pairs behind = absurd pairs

-- the own events of a worker beyond a front
record Entered (n : ℕ) (from log : List Event) : Type 0 where
  events : List Event
  own_events : of_pass n log ≡ of_pass n from ++ events
  worked : AreWorked None events None

-- for each of these passes
abbrev AllEntered : List (Known Event) → List Event → List Event → Type 0
AllEntered passes from log = AllByRecursion (λ p. Entered p.number from log) passes

-- what a worker entered in a drain, where it has entered nothing since
way_entered : (from to mid end log : List Event) (p q r s : Known Event) → HasMet from to p q → HasWorkedOn q r → HasMet mid end r s → Continues pass_of p.number p.front from → Continues pass_of s.number s.front log → Entered s.number from log
way_entered from to mid end log p q r s first work second seen now =
    let same : s.number ≡ p.number = second.number ∙ work.goes.number ∙ first.number in
    let begun : of_pass p.number q.front ≡ of_pass p.number from = first.continues.none_beyond ∙ sym seen.none_beyond in
    let worked : of_pass p.number r.front ≡ of_pass p.number from ++ work.events =
    ap (λ (n : ℕ). of_pass n r.front) (sym first.number) ∙ work.goes.own_events ∙ ap (λ (n : ℕ). of_pass n q.front ++ work.events) first.number ∙ ap (λ (es : List Event). es ++ work.events) begun in
    let rest : of_pass s.number log ≡ of_pass s.number r.front = now.none_beyond ∙ ap (λ (n : ℕ). of_pass n s.front) second.number ∙ second.continues.none_beyond ∙ ap (λ (n : ℕ). of_pass n r.front) (sym second.number) in
    record {
      events = work.events;
      own_events = rest ∙ ap (λ (n : ℕ). of_pass n r.front) same ∙ worked ∙ ap (λ (n : ℕ). of_pass n from ++ work.events) (sym same);
      worked = work.worked;
    }

ways_entered : (from to mid end log : List Event) (ps qs rs ss : List (Known Event)) → ArePaired (HasMet from to) ps qs → ArePaired HasWorkedOn qs rs → ArePaired (HasMet mid end) rs ss → HaveSeen ps from → HaveSeen ss log → AllEntered ss from log
ways_entered from to mid end log [] [] [] [] first work second seen now = tt
ways_entered from to mid end log (p ∷ ps) (q ∷ qs) (r ∷ rs) (s ∷ ss) first work second seen now =
    (way_entered from to mid end log p q r s first.0 work.0 second.0 seen.0 now.0, ways_entered from to mid end log ps qs rs ss first.1 work.1 second.1 seen.1 now.1)
ways_entered from to mid end log [] (q ∷ qs) rs ss first work second seen now = absurd first
ways_entered from to mid end log (p ∷ ps) [] rs ss first work second seen now = absurd first
ways_entered from to mid end log [] [] (r ∷ rs) ss first work second seen now = absurd work
ways_entered from to mid end log (p ∷ ps) (q ∷ qs) [] ss first work second seen now = absurd work
ways_entered from to mid end log [] [] [] (s ∷ ss) first work second seen now = absurd second
ways_entered from to mid end log (p ∷ ps) (q ∷ qs) (r ∷ rs) [] first work second seen now = absurd second

-- of what lies beyond the front each worker's own events are its work
own_work : (n : ℕ) (from later : List Event) → Entered n from (from ++ later) → AreWorked None (of_pass n later) None
own_work n from later e = subst (λ es. AreWorked None es None) (append_cancel_left (of_pass n from) e.events (of_pass n later) (sym e.own_events ∙ of_append n from later)) e.worked

works_below : (from later : List Event) (m : ℕ) (passes : List (Known Event)) (n : ℕ) → AreNumbered m passes → AllEntered passes from (from ++ later) → n ≡ m + length passes → (k : ℕ) → m ≤ k → k < n → AreWorked None (of_pass k later) None
works_below from later m [] n numbered entered is k le lt = absurd (omega (arith, is, le, lt))
works_below from later m (p ∷ passes) n numbered entered is k le lt = elim (eqb_tells k m) [
  | inl t ↦ subst (λ (j : ℕ). AreWorked None (of_pass j later) None) (numbered.0 ∙ sym t.1) (own_work p.number from later entered.0)
  | inr t ↦ works_below from later (m + 1) passes n numbered.1 entered.1 (omega (arith, is)) k (omega (arith, le, t.1)) lt
]

-- those behind a front are behind a longer one
pub behind_more : (passes : List (Known Event)) (front log : List Event) → IsPrefix front log → AreBehind passes front → AreBehind passes log
behind_more [] front log more behind = tt
behind_more (p ∷ passes) front log more behind = (prefix_then p.front front log behind.0 more, behind_more passes front log more behind.1)

-- the last of a pass's events are its own
of_last : (n : ℕ) (xs ys : List Event) → AreOf n (xs ++ ys) → AreOf n ys
of_last n [] ys all = all
of_last n (x ∷ xs) ys all = of_last n xs ys all.1

-- events of two passes, of which none is of the second, are of the first
of_zero : (events : List Event) → AreNamed 1 events → of_pass 1 events ≡ [] → AreOf 0 events
of_zero [] named none = tt
of_zero (e ∷ events) named none =
    let rest = none_rest 1 e events none in
    let below : pass_of e < 1 + 1 = named.0 in
    (elim (leb_tells (pass_of e) 0) [ inl t ↦ omega (arith, t.1) | inr t ↦ absurd (rest.0 (omega (arith, t.1, below))) ], of_zero events named.1 rest.1)

module _ (reply : ClaimReply) (workers after : List (Known Event)) (old new : Known Event) (numbered : AreNumbered 0 workers) (number : old.number ≡ length workers) (behind : AreBehind workers old.front)
    (named : AreNamed (length workers) new.front) (d : IsDrain reply workers after old new) where
  abbrev n : ℕ
  n = length workers

  count : length after ≡ n
  count = paired_count (HasMet d.at_work.front d.met.front) d.ended after d.second.each ∙ paired_count HasWorkedOn d.begun d.ended d.works ∙ paired_count (HasMet old.front d.at_work.front) workers d.begun d.first.each

  after_numbered : AreNumbered 0 after
  after_numbered =
      paired_numbered (HasMet d.at_work.front d.met.front) 0 d.ended after (λ p q h. h.number) d.second.each
      (paired_numbered HasWorkedOn 0 d.begun d.ended (λ p q h. h.goes.number) d.works (paired_numbered (HasMet old.front d.at_work.front) 0 workers d.begun (λ p q h. h.number) d.first.each numbered))

  met_number : d.met.number ≡ n
  met_number = d.second.main.number ∙ d.first.main.number ∙ number

  behind_met : AreBehind after d.met.front
  behind_met = met_behind d.at_work.front d.met.front d.ended after d.second.each

  -- what the main pass entered last
  abbrev last : List Event
  last = d.last.events ++ event.Claim d.met.number reply ∷ []

  abbrev begins : IsPrefix old.front d.met.front
  begins = prefix_then old.front d.at_work.front d.met.front d.first.main.begins d.second.main.begins

  -- what the workers entered, as the main pass met them
  abbrev between : List Event
  between = begins.0

  last_own : of_pass n new.front ≡ of_pass n d.met.front ++ last
  last_own = subst (λ (k : ℕ). of_pass k new.front ≡ of_pass k d.met.front ++ last) met_number d.last.goes.own_events

  last_is_own : AreOf n last
  last_is_own = of_last n (of_pass n d.met.front) last (subst (AreOf n) last_own (of_own n new.front))

  seen_old : HaveSeen workers old.front
  seen_old = met_seen old.front d.at_work.front workers d.begun d.first.each behind

  -- the main pass entered nothing meanwhile
  none_own : of_pass n between ≡ []
  none_own =
      let first : of_pass n d.at_work.front ≡ of_pass n old.front = subst (λ (k : ℕ). of_pass k d.at_work.front ≡ of_pass k old.front ++ []) number d.first.main.own_events ∙ append-nil (of_pass n old.front) in
      let second : of_pass n d.met.front ≡ of_pass n d.at_work.front = subst (λ (k : ℕ). of_pass k d.met.front ≡ of_pass k d.at_work.front ++ []) (d.first.main.number ∙ number) d.second.main.own_events ∙ append-nil (of_pass n d.at_work.front) in
      append_cancel_left (of_pass n old.front) (of_pass n between) [] (sym (of_append n old.front between) ∙ ap (of_pass n) begins.1 ∙ second ∙ first ∙ sym (append-nil (of_pass n old.front)))

  module _ (now : HaveSeen after new.front) where
    still : IsAlone after d.met.front last new.front
    still =
        alone after d.met.front last new.front after_numbered (subst (λ (k : ℕ). AreNamed k new.front) (sym count) named) behind_met now d.last.goes.begins
        (subst (λ (k : ℕ). of_pass k new.front ≡ of_pass k d.met.front ++ last) (sym count) last_own)

    named_between : AreNamed n between
    named_between =
        named_last n old.front between (subst (AreNamed n) (sym begins.1) (named_first n d.met.front last (subst (AreNamed n) still.all named)))

    entered : AllEntered after old.front (old.front ++ between)
    entered = subst (AllEntered after old.front) (sym begins.1) (ways_entered old.front d.at_work.front d.at_work.front d.met.front d.met.front workers d.begun d.ended after d.first.each d.works d.second.each seen_old still.seen)

    -- each pass ended its own
    work_between : (k : ℕ) → AreWorked None (of_pass k between) None
    work_between k = elim (leb_tells n k) [
      | inl t ↦ elim (eqb_tells k n) [
        | inl u ↦ subst (λ es. AreWorked None es None) (sym (ap (λ (j : ℕ). of_pass j between) u.1 ∙ none_own)) refl
        | inr u ↦ subst (λ es. AreWorked None es None) (sym (none_above n k between named_between (omega (arith, t.1, u.1)))) refl
      ]
      | inr t ↦ works_below old.front between 0 after n after_numbered entered (omega (arith, count)) k (omega arith) t.1
    ]

    work_all : AllWork (between ++ last)
    work_all k = subst (λ es. AreWorked None es None) (sym (of_append k between last)) (elim (eqb_tells k n) [
      | inl t ↦
          worked_then None None None (of_pass k between) (of_pass k last) (work_between k)
          (subst (λ es. AreWorked None es None) (sym (ap (λ (j : ℕ). of_pass j last) t.1 ∙ of_all n last last_is_own)) d.last.worked)
      | inr t ↦
          worked_then None None None (of_pass k between) (of_pass k last) (work_between k) (subst (λ es. AreWorked None es None) (sym (of_other k n last t.1 last_is_own)) refl)
    ])

    turns : n ≡ 1 → AreWorked None (between ++ last) None
    turns one =
        let zero_named : AreNamed 1 between = subst (λ (k : ℕ). AreNamed k between) one named_between in
        let zero_own : of_pass 0 between ≡ between = of_all 0 between (of_zero between zero_named (ap (λ (k : ℕ). of_pass k between) (sym one) ∙ none_own)) in
        worked_then None None None between last (subst (λ es. AreWorked None es None) zero_own (work_between 0)) d.last.worked

    -- the drain's events, with the last claim apart
    parts : between ++ last ≡ (between ++ d.last.events) ++ event.Claim new.number reply ∷ []
    parts =
        sym (append_assoc between d.last.events (event.Claim d.met.number reply ∷ []))
        ∙ ap (λ (k : ℕ). (between ++ d.last.events) ++ event.Claim k reply ∷ []) (sym d.last.goes.number)

    drained : IsDrained reply workers old new
    drained = record {
      events = between ++ d.last.events;
      all = still.all ∙ ap (λ (es : List Event). es ++ last) (sym begins.1) ∙ append_assoc old.front between last ∙ ap (λ (es : List Event). old.front ++ es) parts;
      seen = seen_old;
      work = subst AllWork parts work_all;
      turns = λ one. subst (λ es. AreWorked None es None) parts (turns one);
    }

  pub tells : DrainTells reply workers after old new
  tells = record { numbered = after_numbered; count = count; behind = behind_more after d.met.front new.front d.last.goes.begins behind_met; tells = drained }

pub drains_end : DrainsEndTheirClaims
drains_end = tells
