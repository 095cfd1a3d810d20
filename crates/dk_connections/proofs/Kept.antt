-- What a call leaves that takes a connection out of both trees and puts it back, by the clauses of `take`, `add` and `settle`.
use Rattle.std.proofs.Common.{◌≡◌, ℕ, ◌+◌, refl, sym, ap, subst, ◌∙◌, Bool, true, false, cond, if◌then◌else◌, Option, None, Some, is_some, is_none, ◌==◌, List, [], ◌∷◌, length, drop, arith}
use Rattle.std.proofs.Math.Seq.{drop-nil}
use Rattle.std.proofs.lemmas.Bool.Decides.{nat_tests}
use Rattle.std.specs.Option.{option_map}
use Rattle.std.specs.Ordering.{eq_by_cmp}
use Rattle.std.specs.FinMap.{FinMap, get, insert, remove, contains_key, get-insert, get-remove}
use Rattle.dk_types.specs.declared.number.ConnNo.{ConnNo}
use Rattle.dk_map.proofs.Values.{get_values}
use Rattle.dk_model.specs.Keys.{conn_cmp}
use Rattle.dk_model.proofs.Maps.{conns_total}
use Rattle.dk_model.specs.Events.{outbox_at}
use Rattle.dk_connections.specs.MarkedConnections.{MarkedConnection, ConnectionStore, all_of, change, changed_at, is_done_at, left, less_first, linked, settled, HasNoneAt, IsAlive, IsSwept}
use Rattle.dk_connections.proofs.Changes.{connection_in, changed_again, change_none, left_alive, put_back, put_same, remove_gone, remove_none, settled_left, swept_alive}
use Rattle.dk_connections.proofs.Found.{conn_itself}

-- what is found in the world
pub found_in : (all : FinMap conn_cmp MarkedConnection) (k : ConnNo) (r : Option MarkedConnection) → r ≡ get all k → get (all_of all) k ≡ option_map connection_in r
found_in all k r e = get_values connection_in all k ∙ ap (option_map connection_in) (sym e)

is_some_in : (r : Option MarkedConnection) → is_some r ≡ is_some (option_map connection_in r)
is_some_in None = refl
is_some_in (Some l) = refl

-- a connection is there where it is in the world
pub some_in : (all : FinMap conn_cmp MarkedConnection) (k : ConnNo) → contains_key all k ≡ contains_key (all_of all) k
some_in all k = is_some_in (get all k) ∙ ap is_some (sym (get_values connection_in all k))

module _ (all m : FinMap conn_cmp MarkedConnection) (k : ConnNo) (out : m ≡ remove all k) where
  -- it is not there in between
  pub absent : get m k ≡ None
  absent = ap (λ n. get n k) out ∙ remove_gone all k

  -- where it was not there at first, nothing changed
  pub not_there : None ≡ get all k → m ≡ all
  not_there e = out ∙ remove_none all k e

  pub swept_none : None ≡ get all k → IsAlive all → IsSwept m
  swept_none e a = subst IsSwept (sym (not_there e)) (swept_alive all a)

  pub alive_none : None ≡ get all k → IsAlive all → IsAlive m
  alive_none e a = subst IsAlive (sym (not_there e)) a

  -- what is left in between is as it was
  pub alive_out : IsAlive all → IsAlive m
  alive_out a q =
      ap (λ n. is_done_at (get n q)) out ∙ ap is_done_at (get-remove conns_total all k q)
      ∙ elim (eq_by_cmp conn_cmp q k) as (λ b. is_done_at (cond b None (get all q)) ≡ false) [ true ↦ refl | false ↦ a q ]

  module _ (f : MarkedConnection → MarkedConnection) where
    pub unchanged : None ≡ get all k → m ≡ change k f all
    unchanged e = not_there e ∙ change_none all k f e

    pub left_unchanged : None ≡ get all k → IsAlive all → m ≡ left (change k f all)
    left_unchanged e a = not_there e ∙ sym (left_alive all a) ∙ ap left (change_none all k f e)

    module _ (l x : MarkedConnection) (there : Some l ≡ get all k) (is : x ≡ f l) (n : FinMap conn_cmp MarkedConnection) where
      -- changed and added
      pub changed_by : n ≡ insert m k x → n ≡ change k f all
      changed_by e = e ∙ (λ i. insert (out i) k (is i)) ∙ changed_again all k f l there

      -- changed and settled
      pub settled_by : IsAlive all → n ≡ settled k x m → n ≡ left (change k f all)
      settled_by a e = e ∙ (λ i. settled k (is i) (out i)) ∙ settled_left all a k f l there

  -- it is gone where it was settled over and with nothing left to hand
  gone_at : (x : MarkedConnection) (d : Bool) → d ≡ is_none (get (cond d m (insert m k x)) k)
  gone_at x true = ap is_none (sym absent)
  gone_at x false = ap is_none (sym (get-insert conns_total m k x k ∙ ap (λ b. cond b (Some x) (get m k)) (conn_itself k)))

  none_in : (r : Option MarkedConnection) → is_none r ≡ is_none (option_map connection_in r)
  none_in None = refl
  none_in (Some l) = refl

  pub settled_gone : (x : MarkedConnection) (n : FinMap conn_cmp MarkedConnection) → n ≡ settled k x m → is_done_at (Some x) ≡ is_none (get (all_of n) k)
  settled_gone x n e =
      gone_at x (is_done_at (Some x)) ∙ ap (λ o. is_none (get o k)) (sym e) ∙ none_in (get n k) ∙ ap is_none (sym (get_values connection_in n k))

-- what is put is there
pub put_there : (all n : FinMap conn_cmp MarkedConnection) (k : ConnNo) (x : MarkedConnection) → n ≡ insert all k x → Some x ≡ get n k
put_there all n k x e = sym (ap (λ m. get m k) e ∙ get-insert conns_total all k x k ∙ ap (λ b. cond b (Some x) (get all k)) (conn_itself k))

-- it was changed where it stands, and is not over with nothing left to hand
pub alive_altered : (all n : FinMap conn_cmp MarkedConnection) (k : ConnNo) (x : MarkedConnection) → n ≡ insert all k x → is_done_at (Some x) ≡ false → IsAlive all → IsAlive n
alive_altered all n k x e d a q =
    ap (λ m. is_done_at (get m q)) e ∙ ap is_done_at (get-insert conns_total all k x q)
    ∙ elim (eq_by_cmp conn_cmp q k) as (λ b. is_done_at (cond b (Some x) (get all q)) ≡ false) [ true ↦ d | false ↦ a q ]

is_zero : (n : ℕ) → (n == 0) ≡ true → n ≡ 0
is_zero n e = grind (arith, nat_tests)

no_length : {A : Type 0} (xs : List A) → length xs ≡ 0 → xs ≡ []
no_length [] e = refl
no_length (x ∷ xs) e = absurd (omega (arith, e))

-- the test of an outbox without a message
pub none_waits : (l : MarkedConnection) (b : Bool) → b ≡ (length l.connection.outbox == 0) → b ≡ true → HasNoneAt (Some l)
none_waits l b is t = no_length l.connection.outbox (is_zero _ (sym is ∙ t))

-- where no message waits, none is handed
pub none_handed : (r : Option MarkedConnection) → HasNoneAt r → outbox_at (option_map connection_in r) ≡ []
none_handed None h = absurd h
none_handed (Some l) h = h

pub none_there : (r : Option MarkedConnection) → HasNoneAt r → false ≡ is_none (option_map connection_in r)
none_there None h = absurd h
none_there (Some l) h = refl

module _ (all : FinMap conn_cmp MarkedConnection) (k : ConnNo) (most : ℕ) where
  handed_at : (r : Option MarkedConnection) → HasNoneAt r → r ≡ get all k → changed_at r k (linked (less_first most)) all ≡ all
  handed_at None h e = absurd h
  handed_at (Some l) h e =
      ap (insert all k) (λ i. record l { connection = record (l.connection) { outbox = (ap (drop most) h ∙ drop-nil most ∙ sym h) i } }) ∙ put_same all k l e

  -- and the connections stay as they are
  pub none_left : HasNoneAt (get all k) → IsAlive all → all ≡ left (change k (linked (less_first most)) all)
  none_left h a = sym (ap left (handed_at (get all k) h refl) ∙ left_alive all a)

-- both parts of what is seen are the same
pub same_shown : (a b : ConnectionStore) → a.connections ≡ b.connections → a.spare ≡ b.spare → a ≡ b
same_shown a b e f = λ i. record { connections = e i; spare = f i }

none_spare : (n s : ℕ) (r : Option MarkedConnection) → None ≡ r → n ≡ s + (if is_some r then 1 else 0) → n ≡ s
none_spare n s None e p = omega arith
none_spare n s (Some l) e p = cc

some_spare : (n m s : ℕ) (r : Option MarkedConnection) (l : MarkedConnection) → Some l ≡ r → m ≡ s + (if is_some r then 1 else 0) → n + 1 ≡ m → n ≡ s
some_spare n m s None l e p q = cc
some_spare n m s (Some k) l e p q = omega arith

module _ (old mid : ConnectionStore) (k : ConnNo) (out : mid.connections ≡ remove old.connections k) (spare : mid.spare ≡ old.spare + (if contains_key old.connections k then 1 else 0)) where
  -- nothing was taken out
  pub untouched : None ≡ get old.connections k → mid ≡ old
  untouched e = same_shown mid old (not_there old.connections mid.connections k out e) (none_spare _ _ (get old.connections k) e spare)

  -- it was put back as it was
  pub restored : (l x : MarkedConnection) → Some l ≡ get old.connections k → x ≡ l → (new : ConnectionStore) → new.connections ≡ insert mid.connections k x → new.spare + 1 ≡ mid.spare → new ≡ old
  restored l x there is new e f =
      same_shown new old (e ∙ (λ i. insert (out i) k (is i)) ∙ put_back old.connections k l there) (some_spare _ _ _ (get old.connections k) l there spare f)
