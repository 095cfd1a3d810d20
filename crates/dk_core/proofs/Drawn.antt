-- The numbers of a core stay within what was drawn.
use Rattle.std.proofs.Common.{◌≡◌, ℕ, ◌+◌, ◌-◌, ◌<◌, ◌≤◌, Bool, true, false, cond, Option, None, Some, is_some, Result, Ok, Err, OnOk, OnErr, refl, sym, ap, subst, ◌∙◌, arith}
use Rattle.std.specs.Option.{option_map}
use Rattle.std.specs.FinMap.{FinMap, get, insert, remove, contains_key, len, len-insert, len-remove}
use Rattle.dk_types.specs.declared.number.ConnNo.{ConnNo}
use Rattle.dk_types.specs.declared.number.RunNo.{RunNo}
use Rattle.dk_types.specs.declared.limits.TheConstants.{NUMBERS_END}
use Rattle.dk_types.specs.Keys.{conn_cmp}
use Rattle.dk_model.specs.Worlds.{Claim}
use Rattle.dk_model.proofs.Maps.{conns_total, exact_conns, runs_total, get-insert_other}
use Rattle.dk_connections.specs.MarkedConnections.{MarkedConnection, ConnectionStore, change, left, MarksBy}
use Rattle.dk_connections.proofs.Changes.{get-change}
use Rattle.dk_connections.proofs.Marks.{keeps_left}
use Rattle.dk_core.specs.Claiming.{Claiming, with_grant, without_grant, without_run}
use Rattle.dk_core.specs.Numbers.{AreDrawn, HasNumbers}
use Rattle.dk_core.proofs.Counted.{some_there}

-- what is there was there
abbrev pub WereThere : FinMap conn_cmp MarkedConnection → FinMap conn_cmp MarkedConnection → Type 0
WereThere before after = (conn : ConnNo) (l : MarkedConnection) → get after conn ≡ Some l → (k : MarkedConnection) × (get before conn ≡ Some k)

absent_of : (r q : Option MarkedConnection) → ((l : MarkedConnection) → q ≡ Some l → (k : MarkedConnection) × (r ≡ Some k)) → is_some r ≡ false → is_some q ≡ false
absent_of r None there none = refl
absent_of r (Some l) there none = let k = there l refl in let both : true ≡ false = sym (ap is_some k.1) ∙ none in absurd cc

pub drawn_there : (next : ℕ) (before after : FinMap conn_cmp MarkedConnection) → WereThere before after → AreDrawn next before → AreDrawn next after
drawn_there next before after there drawn conn le = absent_of (get before conn) (get after conn) (there conn) (drawn conn le)

-- marks that are left are left of connections that were there
pub there_by : (mark : ConnNo → Bool → Bool) (before after : FinMap conn_cmp MarkedConnection) → MarksBy mark before after → WereThere before after
there_by mark before after marks conn l e = let k = marks conn l e in (k.0, k.1)

-- other connections, of those that were there
pub numbers_there : (commits : ℕ) (claiming : Claiming) (before after : FinMap conn_cmp MarkedConnection) → WereThere before after → HasNumbers commits claiming before → HasNumbers commits claiming after
numbers_there commits claiming before after there n = (drawn_there claiming.next before after there n.0, n.1)

-- the same numbers
pub numbers_same : (commits other : ℕ) (claiming same : Claiming) (all alike : FinMap conn_cmp MarkedConnection) → other ≡ commits → same ≡ claiming → alike ≡ all → HasNumbers commits claiming all → HasNumbers other same alike
numbers_same commits other claiming same all alike a b c n = subst (λ x. x) (λ i. HasNumbers (sym a i) (sym b i) (sym c i)) n

module _ (commits : ℕ) (claiming : Claiming) (all : FinMap conn_cmp MarkedConnection) (n : HasNumbers commits claiming all) where
  -- a connection gets the next number
  pub numbers_connected : (l : MarkedConnection) → claiming.next < NUMBERS_END → HasNumbers commits (record claiming { next = claiming.next + 1 }) (insert all (record { 0 = claiming.next }) l)
  numbers_connected l few =
      let counted = n.1.0 in (
        λ conn le. ap is_some (get-insert_other conns_total exact_conns all (record { 0 = claiming.next }) l conn (λ same. let at : claiming.next ≡ conn.0 = ap (λ (c : ConnNo). c.0) same in omega (arith, at, le))) ∙ n.0 conn (omega arith),
        (omega (arith, counted), omega (arith, few)),
      )

  -- a claim is granted
  pub numbers_granted : (claim : Claim) → claiming.next < NUMBERS_END → HasNumbers commits (with_grant claim claiming) all
  numbers_granted claim few =
      let counted = n.1.0 in
      let more : len (insert claiming.claims (record { 0 = claiming.next }) claim) ≤ len claiming.claims + 1
      = elim (contains_key claiming.claims (record { 0 = claiming.next })) as (λ b. len (insert claiming.claims (record { 0 = claiming.next }) claim) ≡ cond b (len claiming.claims) (len claiming.claims + 1) → len (insert claiming.claims (record { 0 = claiming.next }) claim) ≤ len claiming.claims + 1) [
        | true ↦ λ e. omega (arith, e)
        | false ↦ λ e. omega (arith, e)
      ] (len-insert runs_total claiming.claims (record { 0 = claiming.next }) claim) in (
        λ conn le. n.0 conn (omega arith),
        (omega (arith, counted, more), omega (arith, few)),
      )

  -- a claim is given back
  pub numbers_released : (run : RunNo) → HasNumbers commits (without_grant run claiming) all
  numbers_released run =
      let counted = n.1.0 in
      let less : len (remove claiming.claims run) ≤ len claiming.claims
      = elim (contains_key claiming.claims run) as (λ b. len (remove claiming.claims run) ≡ cond b (len claiming.claims - 1) (len claiming.claims) → len (remove claiming.claims run) ≤ len claiming.claims) [
        | true ↦ λ e. omega (arith, e)
        | false ↦ λ e. omega (arith, e)
      ] (len-remove runs_total claiming.claims run) in (n.0, (omega (arith, counted, less), n.1.1))

  -- a claimed run is committed
  pub numbers_committed : (run : RunNo) → contains_key claiming.claims run ≡ true → HasNumbers (commits + 1) (without_run run claiming) all
  numbers_committed run held =
      let counted = n.1.0 in
      let some = some_there claiming.claims run held in
      let one : len (remove claiming.claims run) ≡ len claiming.claims - 1 = len-remove runs_total claiming.claims run ∙ ap (λ b. cond b (len claiming.claims - 1) (len claiming.claims)) held in
      (n.0, (omega (arith, counted, some, one), n.1.1))

there_of : (f : MarkedConnection → MarkedConnection) (b : Bool) (r : Option MarkedConnection) (l : MarkedConnection) → cond b (option_map f r) r ≡ Some l → (k : MarkedConnection) × (r ≡ Some k)
there_of f true None l e = absurd cc
there_of f true (Some k) l e = (k, refl)
there_of f false r l e = (l, e)

pub there_change : (all : FinMap conn_cmp MarkedConnection) (conn : ConnNo) (f : MarkedConnection → MarkedConnection) → WereThere all (change conn f all)
there_change all conn f q l e = there_of f _ (get all q) l (sym (get-change all conn f q) ∙ e)

pub there_left : (all : FinMap conn_cmp MarkedConnection) (conn : ConnNo) (f : MarkedConnection → MarkedConnection) → WereThere all (left (change conn f all))
there_left all conn f q l e = let k = keeps_left (change conn f all) q l e in there_change all conn f q k.0 k.1

-- one connection is changed
pub numbers_change : (commits : ℕ) (claiming : Claiming) (old new : FinMap conn_cmp MarkedConnection) (conn : ConnNo) (f : MarkedConnection → MarkedConnection) → new ≡ change conn f old → HasNumbers commits claiming old → HasNumbers commits claiming new
numbers_change commits claiming old new conn f is n = subst (HasNumbers commits claiming) (sym is) (numbers_there commits claiming old (change conn f old) (there_change old conn f) n)

-- one connection is changed, or nothing is
pub numbers_posted : {A E : Type 0} (r : Result A E) (commits : ℕ) (claiming : Claiming) (old new : ConnectionStore) (conn : ConnNo) (f : MarkedConnection → MarkedConnection) → OnOk r (new.connections ≡ change conn f old.connections) → OnErr r (new ≡ old)
    → HasNumbers commits claiming old.connections → HasNumbers commits claiming new.connections
numbers_posted (Ok x) commits claiming old new conn f is same n = numbers_change commits claiming old.connections new.connections conn f is n
numbers_posted (Err e) commits claiming old new conn f is same n = subst (λ (s : ConnectionStore). HasNumbers commits claiming s.connections) (sym same) n

-- the same, and those that are over and have nothing left to hand are gone
pub numbers_handed : {A E : Type 0} (r : Result A E) (commits : ℕ) (claiming : Claiming) (old new : ConnectionStore) (conn : ConnNo) (f : MarkedConnection → MarkedConnection) → OnOk r (new.connections ≡ left (change conn f old.connections)) → OnErr r (new ≡ old)
    → HasNumbers commits claiming old.connections → HasNumbers commits claiming new.connections
numbers_handed (Ok x) commits claiming old new conn f is same n =
    subst (HasNumbers commits claiming) (sym is) (numbers_there commits claiming old.connections (left (change conn f old.connections)) (there_left old.connections conn f) n)
numbers_handed (Err e) commits claiming old new conn f is same n = subst (λ (s : ConnectionStore). HasNumbers commits claiming s.connections) (sym same) n

-- a claim is granted, or nothing is changed
pub numbers_claimed : {A E : Type 0} (r : Result A E) (commits : ℕ) (claiming new : Claiming) (all : FinMap conn_cmp MarkedConnection) (claim : Claim) → HasNumbers commits claiming all → claiming.next < NUMBERS_END
    → OnOk r (new ≡ with_grant claim claiming) → OnErr r (new ≡ claiming) → HasNumbers commits new all
numbers_claimed (Ok x) commits claiming new all claim n few is same = subst (λ c. HasNumbers commits c all) (sym is) (numbers_granted commits claiming all n claim few)
numbers_claimed (Err e) commits claiming new all claim n few is same = subst (λ c. HasNumbers commits c all) (sym same) n
