-- A budget has granted a claim for each commit and each open claim.
use Rattle.std.proofs.Common.{◌≡◌, ◌≢◌, ℕ, zero, suc, ◌+◌, ◌-◌, ◌<◌, ◌≤◌, Bool, true, false, cond, nat_lt, Some, None, List, [], ◌∷◌, ◌++◌, inl, inr, refl, sym, ap, subst, ◌∙◌, add-one, arith}
use Rattle.std.specs.FinMap.{get, insert, remove}
use Rattle.std.proofs.lemmas.Bool.{ltb-true, ltb-false}
use Rattle.std.proofs.lemmas.Bool.Decides.{eqb_tells, leb_tells}
use Rattle.dk_types.specs.declared.number.RunNo.{RunNo}
use Rattle.dk_types.specs.declared.event.Event.{Event}
use Rattle.dk_types.specs.declared.event.Event.TheVariants as event
use Rattle.dk_types.specs.declared.event.ConnectReply.TheVariants as connected
use Rattle.dk_types.specs.declared.event.PostReply.TheVariants as posted
use Rattle.dk_types.specs.declared.event.ClaimReply.TheVariants as claimed
use Rattle.dk_model.specs.Worlds.{World, Claim, Budget}
use Rattle.dk_model.specs.Events.{Meaning, Happens, has_left, granted_of, lowered, raised}
use Rattle.dk_model.specs.Histories.{Leads}
use Rattle.dk_model.specs.Legal.{Opened, opening_of, world_after, commits_of}
use Rattle.dk_model.specs.Openings.{opening, budget_of}
use Rattle.dk_model.specs.Picks.{runnable}
use Rattle.dk_laws.proofs.Between.{commits_of-append}
use Rattle.dk_laws.proofs.NumberedMaps.{equal, unequal, one_run, run-insert, run-remove}
use Rattle.dk_laws.proofs.Numbers.{AreBelow, claimed_below, happens_below, next_ends, opening_below, opening_claims}
use Rattle.dk_laws.proofs.SoundOpenings.{opening_sound}
use Rattle.dk_types.specs.declared.limits.TheConstants.{NUMBERS_END}
use Rattle.dk_laws.proofs.OneWorld.{events_lead, parted}
use Rattle.dk_laws.proofs.OpenClaims.{TheClaims, one_if, open_below, open_inserted, open_none}
use Rattle.dk_play_laws.specs.BudgetLaw.{SpentBudgetsAreCommitted, TellsExhausted, NumbersEndAtOne}

-- a claim whose number is not below does not count
removed_above : (claims : TheClaims) (run : RunNo) (n : ℕ) → n ≤ run.0 → open_below (remove claims run) n ≡ open_below claims n
removed_above claims run zero le = refl
removed_above claims run (suc n) le =
    let rest = removed_above claims run n (omega (arith, le)) in
    let same : one_if (get (remove claims run) (record { 0 = n })) ≡ one_if (get claims (record { 0 = n })) =
    ap one_if (run-remove claims run (record { 0 = n }) ∙ ap (λ (b : Bool). cond b None (get claims (record { 0 = n }))) (unequal n run.0 (λ e. omega (arith, e, le)))) in
    omega (arith, rest, same)

-- one whose number is below counts one
removed_below : (claims : TheClaims) (run : RunNo) (claim : Claim) (n : ℕ) → get claims run ≡ Some claim → run.0 < n → open_below (remove claims run) n + 1 ≡ open_below claims n
removed_below claims run claim zero there lt = absurd (omega arith)
removed_below claims run claim (suc n) there lt = elim (eqb_tells n run.0) [
  | inl t ↦
      let here : one_if (get (remove claims run) (record { 0 = n })) ≡ 0 =
      ap one_if (run-remove claims run (record { 0 = n }) ∙ ap (λ (b : Bool). cond b None (get claims (record { 0 = n }))) t.0) in
      let was : one_if (get claims (record { 0 = n })) ≡ 1 = ap one_if (ap (get claims) (one_run (record { 0 = n }) run t.1) ∙ there) in
      let rest = removed_above claims run n (omega (arith, t.1)) in
      omega (arith, here, was, rest)
  | inr t ↦
      let same : one_if (get (remove claims run) (record { 0 = n })) ≡ one_if (get claims (record { 0 = n })) =
      ap one_if (run-remove claims run (record { 0 = n }) ∙ ap (λ (b : Bool). cond b None (get claims (record { 0 = n }))) t.0) in
      let apart : n ≢ run.0 = t.1 in
      let rest = removed_below claims run claim n there (omega (arith, lt, apart)) in
      omega (arith, same, rest)
]

-- of a budget of so many claims those that are granted were committed, so many of them, or are open
record IsCounted (most : ℕ) (w : World) (commits : ℕ) : Type 0 where
  budget : Budget
  is : w.budget ≡ Some budget
  sum : budget.granted + budget.left ≡ most
  granted : budget.granted ≡ commits + open_below w.claims w.next
  below : AreBelow w

-- what changes neither the budget nor the claims nor the next number
counted_still : (most : ℕ) (w after : World) (commits : ℕ) → after.budget ≡ w.budget → after.claims ≡ w.claims → after.next ≡ w.next → AreBelow after → IsCounted most w commits → IsCounted most after (commits + 0)
counted_still most w after commits b c n below h = record {
  budget = h.budget;
  is = b ∙ h.is;
  sum = h.sum;
  granted =
      let now_open : open_below after.claims after.next ≡ open_below w.claims w.next = ap (λ (m : TheClaims). open_below m after.next) c ∙ ap (open_below w.claims) n in
      omega (arith, h.granted, now_open);
  below = below;
}

has_one : (w : World) (b : Budget) → w.budget ≡ Some b → has_left w.budget ≡ true → 0 < b.left
has_one w b is left = ltb-true 0 b.left (sym (ap has_left is) ∙ left)

-- one claim fewer
let_go : (w : World) (run : RunNo) (claim : Claim) → AreBelow w → get w.claims run ≡ Some claim → open_below (remove w.claims run) w.next + 1 ≡ open_below w.claims w.next
let_go w run claim below there = removed_below w.claims run claim w.next there (claimed_below w run claim below there)

-- how many commits an event is
abbrev ones : Event → ℕ
ones e = commits_of (e ∷ [])

counted_by : (rules : Meaning) (most : ℕ) (w : World) (e : Event) (after : World) (n : ℕ) → IsCounted most w n → AreBelow after → Happens rules w e after → IsCounted most after (n + ones e)
counted_by rules most w (event.Connect pass name (connected.Number conn)) after n c below h =
    let claims : after.claims ≡ w.claims = ap (λ (x : World). x.claims) h.2 in
    let next : after.next ≡ suc w.next = ap (λ (x : World). x.next) h.2 ∙ add-one w.next in
    let none : one_if (get w.claims (record { 0 = w.next })) ≡ 0 = ap one_if (c.below.claims (record { 0 = w.next }) (omega arith)) in
    let now_open : open_below after.claims after.next ≡ open_below w.claims w.next = ap (λ (m : TheClaims). open_below m after.next) claims ∙ ap (open_below w.claims) next ∙ omega (arith, none) in
    record { budget = c.budget; is = ap (λ (x : World). x.budget) h.2 ∙ c.is; sum = c.sum; granted = omega (arith, c.granted, now_open); below = below }
counted_by rules most w (event.Connect pass name (connected.Exhausted next)) after n c below h =
    counted_still most w after n (ap (λ (x : World). x.budget) h.2) (ap (λ (x : World). x.claims) h.2) (ap (λ (x : World). x.next) h.2) below c
counted_by rules most w (event.Post pass conn input posted.Taken) after n c below h =
    counted_still most w after n (ap (λ (x : World). x.budget) h.2) (ap (λ (x : World). x.claims) h.2) (ap (λ (x : World). x.next) h.2) below c
counted_by rules most w (event.Post pass conn input posted.Closed) after n c below h =
    counted_still most w after n (ap (λ (x : World). x.budget) h.1) (ap (λ (x : World). x.claims) h.1) (ap (λ (x : World). x.next) h.1) below c
counted_by rules most w (event.Post pass conn input (posted.QueueFull waiting)) after n c below h =
    counted_still most w after n (ap (λ (x : World). x.budget) h.3) (ap (λ (x : World). x.claims) h.3) (ap (λ (x : World). x.next) h.3) below c
counted_by rules most w (event.Claim pass (claimed.Granted run at job)) after n c below h =
    let one : Claim = record { pass = pass; job = job; at = w.moment } in
    let claims : after.claims ≡ insert w.claims (record { 0 = w.next }) one = ap (λ (x : World). x.claims) h.5 in
    let next : after.next ≡ suc w.next = ap (λ (x : World). x.next) h.5 ∙ add-one w.next in
    let here : one_if (get (insert w.claims (record { 0 = w.next }) one) (record { 0 = w.next })) ≡ 1 =
    ap one_if (run-insert w.claims (record { 0 = w.next }) one (record { 0 = w.next }) ∙ ap (λ (b : Bool). cond b (Some one) (get w.claims (record { 0 = w.next }))) (equal w.next w.next refl)) in
    let rest = open_inserted w.claims w.next one w.next (omega arith) in
    let now_open : open_below after.claims after.next ≡ open_below w.claims w.next + 1 =
    ap (λ (m : TheClaims). open_below m after.next) claims ∙ ap (open_below (insert w.claims (record { 0 = w.next }) one)) next ∙ omega (arith, here, rest) in
    let left = has_one w c.budget c.is h.1 in
    record {
      budget = record { granted = c.budget.granted + 1; left = c.budget.left - 1 };
      is = ap (λ (x : World). x.budget) h.5 ∙ ap lowered c.is;
      sum = omega (arith, c.sum, left);
      granted = omega (arith, c.granted, now_open);
      below = below;
    }
counted_by rules most w (event.Claim pass claimed.Nothing) after n c below h =
    counted_still most w after n (ap (λ (x : World). x.budget) h.1) (ap (λ (x : World). x.claims) h.1) (ap (λ (x : World). x.next) h.1) below c
counted_by rules most w (event.Claim pass (claimed.Spent granted)) after n c below h =
    counted_still most w after n (ap (λ (x : World). x.budget) h.3) (ap (λ (x : World). x.claims) h.3) (ap (λ (x : World). x.next) h.3) below c
counted_by rules most w (event.Claim pass (claimed.Exhausted next)) after n c below h =
    counted_still most w after n (ap (λ (x : World). x.budget) h.4) (ap (λ (x : World). x.claims) h.4) (ap (λ (x : World). x.next) h.4) below c
counted_by rules most w (event.Release pass run) after n c below h =
    let claims : after.claims ≡ remove w.claims run = ap (λ (x : World). x.claims) h.3 in
    let next : after.next ≡ w.next = ap (λ (x : World). x.next) h.3 in
    let now_open : open_below after.claims after.next ≡ open_below (remove w.claims run) w.next = ap (λ (m : TheClaims). open_below m after.next) claims ∙ ap (open_below (remove w.claims run)) next in
    let one = let_go w run h.0 c.below h.1 in
    record {
      budget = record { granted = c.budget.granted - 1; left = c.budget.left + 1 };
      is = ap (λ (x : World). x.budget) h.3 ∙ ap raised c.is;
      sum = omega (arith, c.sum, c.granted, one);
      granted = omega (arith, c.granted, now_open, one);
      below = below;
    }
counted_by rules most w (event.Commit pass run seq outcome) after n c below h =
    let claims : after.claims ≡ remove w.claims run = ap (λ (x : World). x.claims) h.5 in
    let next : after.next ≡ w.next = ap (λ (x : World). x.next) h.5 in
    let now_open : open_below after.claims after.next ≡ open_below (remove w.claims run) w.next = ap (λ (m : TheClaims). open_below m after.next) claims ∙ ap (open_below (remove w.claims run)) next in
    let one = let_go w run h.0 c.below h.1 in
    record { budget = c.budget; is = ap (λ (x : World). x.budget) h.5 ∙ c.is; sum = c.sum; granted = omega (arith, c.granted, now_open, one); below = below }
counted_by rules most w (event.Hand pass conn count outs end) after n c below h =
    counted_still most w after n (ap (λ (x : World). x.budget) h.2) (ap (λ (x : World). x.claims) h.2) (ap (λ (x : World). x.next) h.2) below c
counted_by rules most w (event.Tick pass moment) after n c below h =
    counted_still most w after n (ap (λ (x : World). x.budget) h) (ap (λ (x : World). x.claims) h) (ap (λ (x : World). x.next) h) below c

counted_all : (rules : Meaning) (most : ℕ) (w : World) (events : List Event) (after : World) (n : ℕ) → IsCounted most w n → Leads rules w events after → IsCounted most after (n + commits_of events)
counted_all rules most w [] after n c h = let zero_more : n ≡ n + 0 = omega arith in subst (IsCounted most after) zero_more (subst (λ (x : World). IsCounted most x n) (sym h) c)
counted_all rules most w (e ∷ events) after n c h =
    let first = counted_by rules most w e h.0 n c (happens_below rules w e h.0 c.below h.1) h.1 in
    let both : (n + ones e) + commits_of events ≡ n + commits_of (e ∷ events) = let parts = commits_of-append (e ∷ []) events in omega (arith, parts) in
    subst (IsCounted most after) both (counted_all rules most h.0 events after (n + ones e) first h.2)

opening_budget : (o : Opened) → (opening_of o).budget ≡ budget_of o.budget
unfolding opening
opening_budget o = refl

-- of what is opened nothing is granted
opening_counted : (o : Opened) (most : ℕ) → o.budget ≡ Some most → IsCounted most (opening_of o) 0
opening_counted o most is =
    let none : open_below (opening_of o).claims (opening_of o).next ≡ 0 = open_none (opening_of o).claims (opening_claims o.durable o.budget) (opening_of o).next in
    record {
      budget = record { granted = 0; left = most };
      is = opening_budget o ∙ ap budget_of is;
      sum = omega arith;
      granted = omega (arith, none);
      below = opening_below o.durable o.budget;
    }

nothing_more : (n : ℕ) → nat_lt 0 n ≡ false → n ≡ 0
nothing_more n e = elim (leb_tells n 0) [ inl t ↦ omega (arith, t.1) | inr t ↦ absurd (true_false (sym (lt_true t.1) ∙ e)) ] where
  true_false : ◌≡◌ {A = Bool} true false → ⊥
  true_false f = cc

  lt_true : 0 < n → nat_lt 0 n ≡ true
  lt_true lt = elim (nat_lt 0 n) as (λ b. nat_lt 0 n ≡ b → b ≡ true) [
    | true ↦ λ _. refl
    | false ↦ λ f. absurd (omega (arith, lt, ltb-false 0 n f))
  ] refl

pub spent_committed : SpentBudgetsAreCommitted
spent_committed o most pass granted events is legal none =
    let e = event.Claim pass (claimed.Spent granted) in
    let w = opening_of o in
    let p = parted o.rules w events (e ∷ []) legal.history.last legal.history.leads in
    let last : legal.history.last ≡ world_after o (events ++ e ∷ []) = events_lead o.rules w (events ++ e ∷ []) legal.history.last legal.history.leads in
    let claim = p.second.1 in
    -- the claim changed nothing
    let same : p.at ≡ world_after o (events ++ e ∷ []) = sym claim.3 ∙ sym p.second.2 ∙ last in
    let c = counted_all o.rules most w (events ++ e ∷ []) legal.history.last 0 (opening_counted o most is) legal.history.leads in
    let now_open : open_below legal.history.last.claims legal.history.last.next ≡ 0 =
    open_none legal.history.last.claims (λ run. ap (λ (x : World). get x.claims run) last ∙ none run) legal.history.last.next in
    let budget : p.at.budget ≡ Some c.budget = ap (λ (x : World). x.budget) (same ∙ sym last) ∙ c.is in
    let left : c.budget.left ≡ 0 = nothing_more c.budget.left (sym (ap has_left budget) ∙ claim.1) in
    let count : granted ≡ c.budget.granted = claim.2 ∙ ap granted_of budget in
    let all : most ≡ granted = omega (arith, c.sum, left, count) in
    record {
      all = is ∙ ap (λ (n : ℕ). Some n) all;
      committed = omega (arith, c.granted, now_open, count);
      unclaimed = none;
      some = λ idle. claim.0 (ap runnable same ∙ idle);
    }

-- ---- numbers

numbers_within : (rules : Meaning) (w : World) (events : List Event) (after : World) → w.next ≤ NUMBERS_END → Leads rules w events after → after.next ≤ NUMBERS_END
numbers_within rules w [] after le h = subst (λ (x : World). x.next ≤ NUMBERS_END) (sym h) le
numbers_within rules w (e ∷ events) after le h = numbers_within rules h.0 events after (next_ends rules w e h.0 le h.1) h.2

exhausted_at : (rules : Meaning) (w : World) (e : Event) (after : World) (next : ℕ) → TellsExhausted e next → Happens rules w e after → (next ≡ w.next) × (NUMBERS_END ≤ w.next)
exhausted_at rules w (event.Connect pass name (connected.Exhausted n)) after next tells h = (tells ∙ h.1, h.0)
exhausted_at rules w (event.Claim pass (claimed.Exhausted n)) after next tells h = (tells ∙ h.3, h.2)
exhausted_at rules w (event.Connect pass name (connected.Number conn)) after next tells h = absurd tells
exhausted_at rules w (event.Claim pass (claimed.Granted run at job)) after next tells h = absurd tells
exhausted_at rules w (event.Claim pass claimed.Nothing) after next tells h = absurd tells
exhausted_at rules w (event.Claim pass (claimed.Spent granted)) after next tells h = absurd tells
exhausted_at rules w (event.Post pass conn input reply) after next tells h = absurd tells
exhausted_at rules w (event.Release pass run) after next tells h = absurd tells
exhausted_at rules w (event.Commit pass run seq outcome) after next tells h = absurd tells
exhausted_at rules w (event.Hand pass conn most outs end) after next tells h = absurd tells
exhausted_at rules w (event.Tick pass moment) after next tells h = absurd tells

pub numbers_end : NumbersEndAtOne
numbers_end o events e next tells legal =
    let w = opening_of o in
    let p = parted o.rules w events (e ∷ []) legal.history.last legal.history.leads in
    let most : p.at.next ≤ NUMBERS_END = numbers_within o.rules w events p.at (opening_sound o.durable o.budget legal.valid).numbers p.first in
    let x = exhausted_at o.rules p.at e p.second.0 next tells p.second.1 in omega (arith, most, x.0, x.1)
