-- How many open claims have a number below another.
use Rattle.std.proofs.Common.{◌≡◌, ℕ, zero, suc, ◌+◌, ◌-◌, ◌<◌, ◌≤◌, max, Option, Some, None, refl, sym, ap, subst, ◌∙◌, arith, inl, inr}
use Rattle.std.specs.FinMap.{FinMap, get, insert, remove}
use Rattle.std.proofs.lemmas.Bool.{cases_lt}
use Rattle.std.proofs.lemmas.Bool.Decides.{eqb_tells}
use Rattle.dk_types.specs.declared.number.RunNo.{RunNo}
use Rattle.dk_model.specs.Keys.{run_cmp}
use Rattle.dk_model.specs.DurableWorlds.{last_with}
use Rattle.dk_model.specs.Validity.{next_of}
use Rattle.dk_model.specs.Worlds.{Claim}
use Rattle.dk_model.proofs.Maps.{runs_total, exact_runs, get-insert_other, get-remove_here, get-remove_other}

-- the claims of a world, by run
abbrev pub TheClaims : Type 0
TheClaims = FinMap run_cmp Claim

abbrev pub one_if : Option Claim → ℕ
one_if None = 0
one_if (Some claim) = 1

-- the claims with numbers below n
abbrev pub open_below : TheClaims → ℕ → ℕ
open_below claims zero = 0
open_below claims (suc n) = one_if (get claims (record { 0 = n })) + open_below claims n

one_most : (o : Option Claim) → one_if o ≤ 1
one_most None = omega arith
one_most (Some claim) = omega arith

below_suc : (a n : ℕ) → a < suc n → (a ≡ n → ⊥) → a < n
below_suc a n lt other = elim (cases_lt a n) [
  | inl below ↦ below
  | inr above ↦ absurd (other (omega arith))
]

suc_plus : (k a : ℕ) → suc k + a ≡ suc (k + a)
suc_plus k a = omega arith

zero_plus : (a : ℕ) → zero + a ≡ a
zero_plus a = omega arith

-- no more claims than numbers
pub open_grows : (claims : TheClaims) (a k : ℕ) → open_below claims (k + a) ≤ open_below claims a + k
open_grows claims a zero = subst (λ n. open_below claims n ≤ open_below claims a + zero) (sym (zero_plus a)) (omega arith)
open_grows claims a (suc k) =
    let h = open_grows claims a k in
    let o = one_most (get claims (record { 0 = k + a })) in
    subst (λ n. open_below claims n ≤ open_below claims a + suc k) (sym (suc_plus k a)) (omega (arith, h, o))

numbers_apart : (run : RunNo) (n : ℕ) → (run.0 ≡ n → ⊥) → ◌≡◌ {A = RunNo} run (record { 0 = n }) → ⊥
numbers_apart run n apart e = apart (ap (λ (r : RunNo). r.0) e)

removed_other : (claims : TheClaims) (run : RunNo) (n : ℕ) → (run.0 ≡ n → ⊥) → one_if (get (remove claims run) (record { 0 = n })) ≡ one_if (get claims (record { 0 = n }))
removed_other claims run n apart = ap one_if (get-remove_other runs_total exact_runs claims run (record { 0 = n }) (numbers_apart run n apart))

removed_here : (claims : TheClaims) (run : RunNo) (n : ℕ) → run.0 ≡ n → one_if (get (remove claims run) (record { 0 = n })) ≡ 0
removed_here claims run n is = ap one_if (ap (λ (m : ℕ). get (remove claims run) (record { 0 = m })) (sym is) ∙ get-remove_here runs_total claims run)

-- without a claim there are no more of them
pub open_left : (claims : TheClaims) (run : RunNo) (n : ℕ) → open_below (remove claims run) n ≤ open_below claims n
open_left claims run zero = omega arith
open_left claims run (suc n) =
    let h = open_left claims run n in
    elim (eqb_tells run.0 n) [
      | inl t ↦ let e = removed_here claims run n t.1 in omega (arith, h, e)
      | inr t ↦ let e = removed_other claims run n t.1 in omega (arith, h, e)
    ]

-- and one fewer, where it was below
pub open_removed : (claims : TheClaims) (run : RunNo) (claim : Claim) (n : ℕ) → get claims run ≡ Some claim → run.0 < n → open_below (remove claims run) n + 1 ≤ open_below claims n
open_removed claims run claim zero e lt = absurd (omega arith)
open_removed claims run claim (suc n) e lt = elim (eqb_tells run.0 n) [
  | inl t ↦
      let here = removed_here claims run n t.1 in
      let was : one_if (get claims (record { 0 = n })) ≡ 1 = ap one_if (ap (λ (m : ℕ). get claims (record { 0 = m })) (sym t.1) ∙ e) in
      let rest = open_left claims run n in
      omega (arith, here, was, rest)
  | inr t ↦
      let other : run.0 ≡ n → ⊥ = t.1 in
      let h = open_removed claims run claim n e (below_suc run.0 n lt other) in
      let same = removed_other claims run n other in
      omega (arith, h, same)
]

-- a claim with a number that is not below does not count
pub open_inserted : (claims : TheClaims) (k : ℕ) (claim : Claim) (n : ℕ) → n ≤ k → open_below (insert claims (record { 0 = k }) claim) n ≡ open_below claims n
open_inserted claims k claim zero le = refl
open_inserted claims k claim (suc n) le =
    let h = open_inserted claims k claim n (omega arith) in
    let same : one_if (get (insert claims (record { 0 = k }) claim) (record { 0 = n })) ≡ one_if (get claims (record { 0 = n })) =
    ap one_if (get-insert_other runs_total exact_runs claims (record { 0 = k }) claim (record { 0 = n }) (numbers_apart (record { 0 = k }) n (λ e. omega (arith, e, le)))) in
    omega (arith, h, same)

-- without claims there are none
pub open_none : (claims : TheClaims) → ((run : RunNo) → get claims run ≡ None) → (n : ℕ) → open_below claims n ≡ 0
open_none claims h zero = refl
open_none claims h (suc n) = let rest = open_none claims h n in let one : one_if (get claims (record { 0 = n })) ≡ 0 = ap one_if (h (record { 0 = n })) in omega (arith, rest, one)

-- the number after the largest committed run, once a run is committed
pub next_of_with : (o : Option RunNo) (run : RunNo) → next_of (last_with o run) ≡ max (next_of o) (run.0 + 1)
next_of_with None run = omega arith
next_of_with (Some last) run = omega arith

-- where each number up to the largest committed one stands for at most one commit or one open claim, it does so after a commit of a claimed run
pub commit_counted : (claims : TheClaims) (run : RunNo) (claim : Claim) (o : Option RunNo) (commits : ℕ) → get claims run ≡ Some claim → commits + open_below claims (next_of o) ≤ next_of o
    → (commits + 1) + open_below (remove claims run) (next_of (last_with o run)) ≤ next_of (last_with o run)
commit_counted claims run claim o commits e h = subst (λ n. (commits + 1) + open_below (remove claims run) n ≤ n) (sym (next_of_with o run)) (elim (cases_lt run.0 (next_of o)) [
  | inl below ↦
      let is : next_of o ≡ max (next_of o) (run.0 + 1) = omega (arith, below) in
      let fewer = open_removed claims run claim (next_of o) e below in
      subst (λ n. (commits + 1) + open_below (remove claims run) n ≤ n) is (omega (arith, h, fewer))
  | inr above ↦
      let is : suc ((run.0 - next_of o) + next_of o) ≡ max (next_of o) (run.0 + 1) = omega (arith, above) in
      let grown = open_grows claims (next_of o) (run.0 - next_of o) in
      let left = open_left claims run ((run.0 - next_of o) + next_of o) in
      let here = removed_here claims run ((run.0 - next_of o) + next_of o) (omega (arith, above)) in
      subst (λ n. (commits + 1) + open_below (remove claims run) n ≤ n) is (omega (arith, h, grown, left, here, above))
])
