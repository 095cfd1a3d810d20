-- What the claims are seen as: the claimed runs by their numbers, the next number, and the budget.
use Rattle.std.specs.Prelude.{◌≡◌, ℕ, ◌+◌, ◌-◌, ◌≤◌, refl, Option, None, Some}
use Rattle.std.specs.Coded.{Coded, code_by, coded×, coded_ℕ, coded_option}
use Rattle.std.specs.FinMap.{FinMap, code, get, insert, remove, len}
use Rattle.dk_types.specs.declared.number.RunNo.{RunNo}
use Rattle.dk_types.specs.declared.job.Job.{Job}
use Rattle.dk_types.specs.declared.limits.TheConstants.{NUMBERS_END}
use Rattle.dk_types.specs.Keys.{run_cmp}
use Rattle.dk_model.specs.Worlds.{Claim, Budget}
use Rattle.dk_model.specs.Events.{lowered, raised}

-- the claims that stand, the next number, and the budget
pub record Claiming : Type 0 where
  pub claims : FinMap run_cmp Claim
  pub next : ℕ
  pub budget : Option Budget

-- a number is stored as itself
abbrev pub run_code : Coded RunNo
run_code = code_by ℕ coded_ℕ (λ r. r.0) (λ n. record { 0 = n }) (λ _. refl)

-- a claim, a budget and what is seen as the pairs of their fields
abbrev pub claim_code : Coded Job → Coded Claim
claim_code job = code_by (ℕ × (Job × ℕ)) (coded× coded_ℕ (coded× job coded_ℕ)) (λ c. (c.pass, (c.job, c.at))) (λ p. record { pass = p.0; job = p.1.0; at = p.1.1 }) (λ _. refl)

-- a budget is stored as the pair of its fields
abbrev pub budget_code : Coded Budget
budget_code = code_by (ℕ × ℕ) (coded× coded_ℕ coded_ℕ) (λ b. (b.granted, b.left)) (λ p. record { granted = p.0; left = p.1 }) (λ _. refl)

-- and what is claimed as the pairs of its fields
abbrev pub claiming_code : Coded Job → Coded Claiming
claiming_code job =
    code_by (FinMap run_cmp Claim × (ℕ × Option Budget)) (coded× (code run_code (claim_code job)) (coded× coded_ℕ (coded_option budget_code)))
    (λ c. (c.claims, (c.next, c.budget))) (λ p. record { claims = p.0; next = p.1.0; budget = p.1.1 }) (λ _. refl)

-- the budget of so many claims, of which some are granted
abbrev pub budget_in : ℕ → Option ℕ → Option Budget
budget_in granted None = None
budget_in granted (Some most) = Some (record { granted = granted; left = most - granted })

-- the budget counts each claim, and has granted no more than it has
abbrev pub IsBudgeted : ℕ → ℕ → Option ℕ → Type 0
IsBudgeted claims granted None = Unit {0}
IsBudgeted claims granted (Some most) = (claims ≤ granted) × (granted ≤ most)

-- the number of each claim was drawn, and the budget counts it
pub record IsCounted (claims : FinMap run_cmp Claim) (next granted : ℕ) (most : Option ℕ) : Type 0 where
  pub below : (run : RunNo) → next ≤ run.0 → get claims run ≡ None
  pub drawn : next ≤ NUMBERS_END
  pub budgeted : IsBudgeted (len claims) granted most

-- one claim more
abbrev pub with_grant : Claim → Claiming → Claiming
with_grant claim c = record { claims = insert c.claims (record { 0 = c.next }) claim; next = c.next + 1; budget = lowered c.budget }

-- a claim is gone, and the budget has it back
abbrev pub without_grant : RunNo → Claiming → Claiming
without_grant run c = record c { claims = remove c.claims run; budget = raised c.budget }

-- a claim is gone
abbrev pub without_run : RunNo → Claiming → Claiming
without_run run c = record c { claims = remove c.claims run }
