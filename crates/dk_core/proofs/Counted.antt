-- The claims, their numbers and the budget stay in step.
use Rattle.std.proofs.Common.{◌≡◌, ℕ, ◌+◌, ◌-◌, ◌<◌, ◌≤◌, true, false, cond, List, [], ◌∷◌, length, Option, None, Some, is_some, refl, sym, ap, subst, ◌∙◌, arith, leb-true}
use Rattle.std.specs.FinMap.{get, insert, remove, empty, len, contains_key, get-empty, len-empty, len-insert, len-remove, len-entries, entries, find, get-entries}
use Rattle.dk_types.specs.declared.number.RunNo.{RunNo}
use Rattle.dk_types.specs.declared.limits.TheConstants.{NUMBERS_END}
use Rattle.dk_types.specs.Keys.{run_cmp}
use Rattle.dk_model.specs.Worlds.{Claim}
use Rattle.dk_model.specs.Events.{has_left, lowered, raised}
use Rattle.dk_model.specs.Openings.{budget_of}
use Rattle.dk_model.proofs.Maps.{runs_total, exact_runs, get-insert_other, get-remove_cases}
use Rattle.dk_laws.proofs.OpenClaims.{TheClaims}
use Rattle.dk_core.specs.Claiming.{budget_in, IsBudgeted, IsCounted}

none_of : {A : Type 0} (o : Option A) → ((x : A) → o ≡ Some x → ⊥) → o ≡ None
none_of None h = refl
none_of (Some x) h = absurd (h x refl)

length_found : (run : RunNo) (es : List (RunNo × Claim)) → is_some (find run_cmp run es) ≡ true → 0 < length es
length_found run [] e = absurd cc
length_found run (x ∷ es) e = omega arith

-- where a claim is there, there is one at least
pub some_there : (claims : TheClaims) (run : RunNo) → contains_key claims run ≡ true → 0 < len claims
some_there claims run e = subst (λ n. 0 < n) (sym (len-entries claims)) (length_found run (entries claims) (ap is_some (sym (get-entries claims run)) ∙ e))

-- before the first claim
pub counted_none : (claims : TheClaims) (next : ℕ) (most : Option ℕ) → claims ≡ empty → next ≤ NUMBERS_END → IsCounted claims next 0 most
counted_none claims next most is few = record {
  below = λ run le. ap (λ m. get m run) is ∙ get-empty run_cmp run;
  drawn = few;
  budgeted = elim most as (λ o. IsBudgeted (len claims) 0 o) [
    | None ↦ tt
    | Some n ↦ let zero : len claims ≡ 0 = ap len is ∙ len-empty run_cmp Claim in (omega (arith, zero), omega arith)
  ];
}

pub budget_begins : (most : Option ℕ) → budget_in 0 most ≡ budget_of most
budget_begins None = refl
budget_begins (Some n) = let same : n - 0 ≡ n = omega arith in λ i. Some (record { granted = 0; left = same i })

module _ (claims : TheClaims) (next granted : ℕ) (most : Option ℕ) (counted : IsCounted claims next granted most) where
  -- one number is drawn
  pub counted_more : next < NUMBERS_END → IsCounted claims (next + 1) granted most
  counted_more few = record { below = λ run le. counted.below run (omega arith); drawn = omega arith; budgeted = counted.budgeted }

  fresh : contains_key claims (record { 0 = next }) ≡ false
  fresh = ap is_some (counted.below (record { 0 = next }) (omega arith))

  -- a claim is granted
  pub counted_granted : (claim : Claim) (more : ℕ) → next < NUMBERS_END → has_left (budget_in granted most) ≡ true → ((n : ℕ) → most ≡ Some n → more ≡ granted + 1)
      → IsCounted (insert claims (record { 0 = next }) claim) (next + 1) more most
  counted_granted claim more few left is =
      let longer : len (insert claims (record { 0 = next }) claim) ≡ len claims + 1 = len-insert runs_total claims (record { 0 = next }) claim ∙ ap (λ b. cond b (len claims) (len claims + 1)) fresh in
      record {
        below = λ run le. get-insert_other runs_total exact_runs claims (record { 0 = next }) claim run (λ same. let at : next ≡ run.0 = ap (λ (r : RunNo). r.0) same in omega (arith, at, le)) ∙ counted.below run (omega arith);
        drawn = omega arith;
        budgeted = elim most as (λ o. most ≡ o → IsBudgeted (len claims) granted o → has_left (budget_in granted o) ≡ true → IsBudgeted (len (insert claims (record { 0 = next }) claim)) more o) [
          | None ↦ λ _ b l. tt
          | Some n ↦ λ e b l. let at = is n e in let few = b.0 in let some = leb-true 1 (n - granted) l in (omega (arith, longer, at, few), omega (arith, at, some))
        ] refl counted.budgeted left;
      }

  fewer : (run : RunNo) → len (remove claims run) ≤ len claims
  fewer run = elim (contains_key claims run) as (λ b. len (remove claims run) ≡ cond b (len claims - 1) (len claims) → len (remove claims run) ≤ len claims) [
    | true ↦ λ e. omega (arith, e)
    | false ↦ λ e. omega (arith, e)
  ] (len-remove runs_total claims run)

  removed_below : (run q : RunNo) → next ≤ q.0 → get (remove claims run) q ≡ None
  removed_below run q le = none_of (get (remove claims run) q) (λ x e.
      let there = sym (counted.below q le) ∙ get-remove_cases runs_total exact_runs claims run q x e in absurd cc)

  -- a claim ends
  pub counted_ended : (run : RunNo) → IsCounted (remove claims run) next granted most
  counted_ended run = record {
    below = removed_below run;
    drawn = counted.drawn;
    budgeted = elim most as (λ o. IsBudgeted (len claims) granted o → IsBudgeted (len (remove claims run)) granted o) [
      | None ↦ λ b. tt
      | Some n ↦ λ b. let few = b.0 in let less = fewer run in (omega (arith, few, less), b.1)
    ] counted.budgeted;
  }

  module _ (run : RunNo) (held : contains_key claims run ≡ true) where
    shorter : len (remove claims run) ≡ len claims - 1
    shorter = len-remove runs_total claims run ∙ ap (λ b. cond b (len claims - 1) (len claims)) held

    -- a claim is given back
    pub counted_released : (less : ℕ) → ((n : ℕ) → most ≡ Some n → less ≡ granted - 1) → IsCounted (remove claims run) next less most
    counted_released less is = record {
      below = removed_below run;
      drawn = counted.drawn;
      budgeted = elim most as (λ o. most ≡ o → IsBudgeted (len claims) granted o → IsBudgeted (len (remove claims run)) less o) [
        | None ↦ λ _ b. tt
        | Some n ↦ λ e b. let at = is n e in let few = b.0 in let most = b.1 in let one = shorter in (omega (arith, one, at, few), omega (arith, at, most))
      ] refl counted.budgeted;
    }

-- the budget after a claim more, and after one less
pub budget_lowered : (granted more : ℕ) (most : Option ℕ) → has_left (budget_in granted most) ≡ true → ((n : ℕ) → most ≡ Some n → more ≡ granted + 1) → budget_in more most ≡ lowered (budget_in granted most)
budget_lowered granted more None left is = refl
budget_lowered granted more (Some n) left is =
    let at : more ≡ granted + 1 = is n refl in
    let rest : n - more ≡ n - granted - 1 = omega (arith, at) in λ i. Some (record { granted = at i; left = rest i })

pub budget_raised : (granted less : ℕ) (most : Option ℕ) (claims : ℕ) → IsBudgeted claims granted most → 0 < claims → ((n : ℕ) → most ≡ Some n → less ≡ granted - 1) → budget_in less most ≡ raised (budget_in granted most)
budget_raised granted less None claims b some is = refl
budget_raised granted less (Some n) claims b some is =
    let at : less ≡ granted - 1 = is n refl in
    let few = b.0 in
    let most = b.1 in
    let rest : n - less ≡ n - granted + 1 = omega (arith, at, few, most, some) in λ i. Some (record { granted = at i; left = rest i })
