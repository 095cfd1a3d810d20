-- Maps under the numbers of runs and connections.
use Rattle.std.proofs.Common.{◌≡◌, ℕ, true, false, cond, not, nat_eq, Option, Some, None, inl, inr, refl, sym, ap, ◌∙◌, arith}
use Rattle.std.specs.declared.cmp.Ordering.TheVariants.{Less, Equal, Greater}
use Rattle.std.specs.Ordering.{is_eq, nat_cmp}
use Rattle.std.specs.Option.{option_map}
use Rattle.std.specs.Cmp.{ranked}
use Rattle.std.specs.FinMap.{FinMap, get, insert, remove, get-insert, get-remove, get-retain_keys}
use Rattle.std.proofs.lemmas.Bool.Decides.{eqb_tells}
use Rattle.dk_types.specs.declared.number.RunNo.{RunNo}
use Rattle.dk_types.specs.declared.number.ConnNo.{ConnNo}
use Rattle.dk_model.specs.Keys.{run_cmp, conn_cmp}
use Rattle.dk_model.proofs.Maps.{runs_total, conns_total, exact_conns}
use Rattle.dk_model.specs.Worlds.{Connection}
use Rattle.dk_model.specs.Deliveries.{Connections, changed_at, change_connection, for_conn, is_done, without_done}

-- equal numbers pass the test
pub equal : (a b : ℕ) → a ≡ b → nat_eq a b ≡ true
equal a b h = elim (eqb_tells a b) [ inl w ↦ w.0 | inr w ↦ absurd (w.1 h) ]

-- others do not
pub unequal : (a b : ℕ) → (a ≡ b → ⊥) → nat_eq a b ≡ false
unequal a b h = elim (eqb_tells a b) [ inl w ↦ absurd (h w.1) | inr w ↦ w.0 ]

-- two numbers tie where they are equal
pub is_eq-nat_cmp : (a b : ℕ) → is_eq (nat_cmp a b) ≡ nat_eq a b
is_eq-nat_cmp a b =
    elim (nat_cmp a b) as (λ r. r ≡ nat_cmp a b → is_eq r ≡ nat_eq a b) [
      | Less ↦ λ p. sym (unequal a b (λ e. omega (arith, e, ranked a b Less p)))
      | Equal ↦ λ p. sym (equal a b (ranked a b Equal p))
      | Greater ↦ λ p. sym (unequal a b (λ e. omega (arith, e, ranked a b Greater p)))
    ] refl

module _ {X : Type 0} where
  pub run-insert : (m : FinMap run_cmp X) (k : RunNo) (v : X) (q : RunNo) → get (insert m k v) q ≡ cond (nat_eq q.0 k.0) (Some v) (get m q)
  run-insert m k v q = get-insert runs_total m k v q ∙ ap (λ b. cond b (Some v) (get m q)) (is_eq-nat_cmp q.0 k.0)

  pub run-remove : (m : FinMap run_cmp X) (k q : RunNo) → get (remove m k) q ≡ cond (nat_eq q.0 k.0) None (get m q)
  run-remove m k q = get-remove runs_total m k q ∙ ap (λ b. cond b None (get m q)) (is_eq-nat_cmp q.0 k.0)

  pub conn-insert : (m : FinMap conn_cmp X) (k : ConnNo) (v : X) (q : ConnNo) → get (insert m k v) q ≡ cond (nat_eq q.0 k.0) (Some v) (get m q)
  conn-insert m k v q = get-insert conns_total m k v q ∙ ap (λ b. cond b (Some v) (get m q)) (is_eq-nat_cmp q.0 k.0)

-- connections with one number are one
pub one_conn : (a b : ConnNo) → a.0 ≡ b.0 → a ≡ b
one_conn a b e = ap (λ (n : ℕ). record { 0 = n }) e

-- and so are runs
pub one_run : (a b : RunNo) → a.0 ≡ b.0 → a ≡ b
one_run a b e = ap (λ (n : ℕ). record { 0 = n }) e

changed_there : (o : Option Connection) (k : ConnNo) (f : Connection → Connection) (all : Connections) (q : ConnNo) → get all k ≡ o
    → get (changed_at o k f all) q ≡ cond (nat_eq q.0 k.0) (option_map f (get all q)) (get all q)
changed_there None k f all q e = elim (eqb_tells q.0 k.0) [
  | inl w ↦ let none : get all q ≡ None = ap (get all) (one_conn q k w.1) ∙ e in rw (none, w.0) refl
  | inr w ↦ rw w.0 refl
]
changed_there (Some c) k f all q e = conn-insert all k (f c) q ∙ elim (eqb_tells q.0 k.0) [
  | inl w ↦ let some : get all q ≡ Some c = ap (get all) (one_conn q k w.1) ∙ e in rw (w.0, some) refl
  | inr w ↦ rw w.0 refl
]

-- what stands at a connection after one was changed
pub get-change : (k : ConnNo) (f : Connection → Connection) (all : Connections) (q : ConnNo)
    → get (change_connection k f all) q ≡ cond (nat_eq q.0 k.0) (option_map f (get all q)) (get all q)
get-change k f all q = changed_there (get all k) k f all q refl

-- what stands at a connection after those that are done went
pub get-without_done : (all : Connections) (q : ConnNo) → get (without_done all) q ≡ cond (not (is_done (get all q))) (get all q) None
get-without_done all q = get-retain_keys all (λ conn. not (is_done (get all conn))) q (λ x t. ap (λ conn. not (is_done (get all conn))) (sym (exact_conns q x t)))

-- where no connection stands, none stands after a change
pub change-none : (k : ConnNo) (f : Connection → Connection) (all : Connections) (q : ConnNo) → get all q ≡ None → get (change_connection k f all) q ≡ None
change-none k f all q e = get-change k f all q ∙ rw e (elim (nat_eq q.0 k.0) as (λ b. cond {A = Option Connection} b None None ≡ None) [ true ↦ refl | false ↦ refl ])

pub for_conn-none : (o : Option ConnNo) (f : Connection → Connection) (all : Connections) (q : ConnNo) → get all q ≡ None → get (for_conn o f all) q ≡ None
for_conn-none None f all q e = e
for_conn-none (Some k) f all q e = change-none k f all q e

pub without_done-none : (all : Connections) (q : ConnNo) → get all q ≡ None → get (without_done all) q ≡ None
without_done-none all q e = get-without_done all q ∙ rw e refl
