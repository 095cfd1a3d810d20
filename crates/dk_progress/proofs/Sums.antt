-- What several connections leave to run.
use Rattle.std.proofs.Common.{◌≡◌, ℕ, zero, suc, ◌+◌, ◌<◌, ◌≤◌, Bool, if◌then◌else◌, List, [], ◌∷◌, ◌++◌, Contains, ◌⊎◌, inl, inr, refl, sym, ap, subst, arith}
use Rattle.std.specs.FinMap.{get}
use Rattle.std.proofs.lemmas.Bool.{cases_eq}
use Rattle.std.proofs.lemmas.List.Elements.{Contains-push_cases}
use Rattle.dk_types.specs.declared.number.ConnNo.{ConnNo}
use Rattle.dk_model.specs.Deliveries.{Connections}
use Rattle.dk_laws.proofs.NumberedMaps.{one_conn}
use Rattle.dk_progress.specs.Fitness.{left_at, left_in, AreDistinct}
use Rattle.dk_progress.proofs.Kept.{AtEach}
use Rattle.dk_progress.proofs.Lefts.{LeavesNoMore}

-- what the first run counts: one, while nothing was committed
abbrev pub first_left : Bool → ℕ
first_left fresh = if fresh then 1 else 0

-- nothing is in no list
pub contains_none : (conn : ConnNo) → Contains [] conn → ⊥
contains_none conn (k, low, at) = omega (arith, low)

-- the first of a list is in it
pub contains_first : (conn : ConnNo) (conns : List ConnNo) → Contains (conn ∷ conns) conn
contains_first conn conns = (0, omega arith, refl)

-- what is in a list is in a longer one
pub contains_later : (conn other : ConnNo) (conns : List ConnNo) → Contains conns other → Contains (conn ∷ conns) other
contains_later conn other conns (k, low, at) = (suc k, omega (arith, low), at)

-- what is in a list is its first or is in the rest
pub contains_cases : (conn other : ConnNo) (conns : List ConnNo) → Contains (conn ∷ conns) other → (conn ≡ other) ⊎ Contains conns other
contains_cases conn other conns (zero, low, at) = inl at
contains_cases conn other conns (suc k, low, at) = inr (k, omega (arith, low), at)

module _ (after before : Connections) where
  -- no connection leaves more, so all together leave no more
  pub sum_no_more : AtEach LeavesNoMore after before → (conns : List ConnNo) → left_in after conns ≤ left_in before conns
  sum_no_more less [] = omega arith
  sum_no_more less (conn ∷ conns) = omega (arith, less conn, sum_no_more less conns)

  -- and less where one of them leaves less
  pub sum_less : AtEach LeavesNoMore after before → (conn : ConnNo) → left_at (get after conn) < left_at (get before conn)
      → (conns : List ConnNo) → Contains conns conn → left_in after conns < left_in before conns
  sum_less less conn fewer [] there = absurd (contains_none conn there)
  sum_less less conn fewer (first ∷ conns) there = elim (contains_cases first conn conns there) [
    | inl is ↦
        let fewer_first = subst (λ (k : ConnNo). left_at (get after k) < left_at (get before k)) (sym is) fewer in
        omega (arith, fewer_first, sum_no_more less conns)
    | inr later ↦ omega (arith, less first, sum_less less conn fewer conns later)
  ]

  -- each but one leaves no more
  abbrev pub NoMoreBut : ConnNo → Type 0
  NoMoreBut conn = (other : ConnNo) → (other.0 ≡ conn.0 → ⊥) → left_at (get after other) ≤ left_at (get before other)

  -- where the one is not among them
  pub sum_apart : (conn : ConnNo) → NoMoreBut conn → (conns : List ConnNo) → (Contains conns conn → ⊥) → left_in after conns ≤ left_in before conns
  sum_apart conn less [] apart = omega arith
  sum_apart conn less (first ∷ conns) apart =
      let here = less first (λ e. apart (subst (Contains (first ∷ conns)) (one_conn first conn e) (contains_first first conns))) in
      let rest = sum_apart conn less conns (λ there. apart (contains_later first conn conns there)) in
      omega (arith, here, rest)

  -- where the one leaves at most so many more
  pub sum_one_more : (conn : ConnNo) (n : ℕ) → NoMoreBut conn → left_at (get after conn) ≤ left_at (get before conn) + n
      → (conns : List ConnNo) → AreDistinct conns → left_in after conns ≤ left_in before conns + n
  sum_one_more conn n less grown [] distinct = omega arith
  sum_one_more conn n less grown (first ∷ conns) distinct = elim (cases_eq first.0 conn.0) [
    | inl e ↦
        let is = one_conn first conn e in
        let here = subst (λ (k : ConnNo). left_at (get after k) ≤ left_at (get before k) + n) (sym is) grown in
        let rest = sum_apart conn less conns (subst (λ (k : ConnNo). Contains conns k → ⊥) is distinct.0) in
        omega (arith, here, rest)
    | inr other ↦ omega (arith, less first other, sum_one_more conn n less grown conns distinct.1)
  ]

-- what one of them leaves, all leave
pub sum_holds : (all : Connections) (conn : ConnNo) (conns : List ConnNo) → Contains conns conn → left_at (get all conn) ≤ left_in all conns
sum_holds all conn [] there = absurd (contains_none conn there)
sum_holds all conn (first ∷ conns) there = elim (contains_cases first conn conns there) [
  | inl is ↦ let same = ap (λ (k : ConnNo). left_at (get all k)) is in omega (arith, same)
  | inr later ↦ omega (arith, sum_holds all conn conns later)
]

-- one more at the end
pub sum_push : (all : Connections) (conns : List ConnNo) (conn : ConnNo) → left_in all (conns ++ conn ∷ []) ≡ left_in all conns + left_at (get all conn)
sum_push all [] conn = omega arith
sum_push all (first ∷ conns) conn = omega (arith, sum_push all conns conn)

-- a new one at the end leaves them distinct
pub distinct_push : (conns : List ConnNo) (conn : ConnNo) → AreDistinct conns → (Contains conns conn → ⊥) → AreDistinct (conns ++ conn ∷ [])
distinct_push [] conn distinct new = (contains_none conn, tt)
distinct_push (first ∷ conns) conn distinct new = (
  λ there. elim (Contains-push_cases conns conn first there) [
    | inl old ↦ distinct.0 old
    | inr is ↦ new (subst (Contains (first ∷ conns)) (sym is) (contains_first first conns))
  ],
  distinct_push conns conn distinct.1 (λ there. new (contains_later first conn conns there)),
)
