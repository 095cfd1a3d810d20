-- What a change at one number leaves, of the connections with their marks and of those of the world.
use Rattle.std.proofs.Common.{◌≡◌, refl, sym, ap, subst, ◌∙◌, Bool, true, false, cond, not, Option, None, Some}
use Rattle.std.specs.Option.{option_map}
use Rattle.std.specs.Ordering.{eq_by_cmp}
use Rattle.std.specs.FinMap.{FinMap, empty, get, insert, remove, get-empty, get-insert, get-remove, get-retain_keys, get_tied, same_map}
use Rattle.dk_types.specs.declared.number.ConnNo.{ConnNo}
use Rattle.dk_map.proofs.Values.{get_values, values-insert}
use Rattle.dk_model.specs.Keys.{conn_cmp}
use Rattle.dk_model.proofs.Maps.{conns_total, exact_conns}
use Rattle.dk_model.specs.Worlds.{Connection}
use Rattle.dk_model.specs.Deliveries.{Connections, change_connection, for_conn, is_done, without_done}
use Rattle.dk_model.specs.Deliveries.{changed_at as connection_changed_at}
use Rattle.dk_connections.specs.MarkedConnections.{MarkedConnection, all_of, change, change_some, changed_at, is_done_at, left, settled, IsAlive, IsSwept}
use Rattle.dk_connections.proofs.Found.{conn_tied, conn_itself}

abbrev pub connection_in : MarkedConnection → Connection
connection_in l = l.connection

-- a test that is asked twice
pub twice : {A : Type 0} (b : Bool) (x y z : A) → cond b x (cond b y z) ≡ cond b x z
twice true x y z = refl
twice false x y z = refl

-- a test, and its negation
turned : {A : Type 0} (b : Bool) (x y : A) → cond (not b) x y ≡ cond b y x
turned true x y = refl
turned false x y = refl

module _ (all : FinMap conn_cmp MarkedConnection) where
  -- a number that was taken out is not there
  pub remove_gone : (k : ConnNo) → get (remove all k) k ≡ None
  remove_gone k = get-remove conns_total all k k ∙ ap (λ b. cond b None (get all k)) (conn_itself k)

  -- to take out what is not there changes nothing
  pub remove_none : (k : ConnNo) → None ≡ get all k → remove all k ≡ all
  remove_none k e =
      same_map conns_total exact_conns _ _ (λ q.
      get-remove conns_total all k q
      ∙ elim (eq_by_cmp conn_cmp q k) as (λ b. eq_by_cmp conn_cmp q k ≡ b → cond b None (get all q) ≡ get all q) [
        | true ↦ λ t. e ∙ sym (ap (get all) (conn_tied q k t))
        | false ↦ λ _. refl
      ] refl)

  -- to take out what stands at a number and then to insert there is to insert there
  insert_again : (k : ConnNo) (l : MarkedConnection) → insert (remove all k) k l ≡ insert all k l
  insert_again k l =
      same_map conns_total exact_conns _ _ (λ q.
      get-insert conns_total (remove all k) k l q ∙ ap (cond (eq_by_cmp conn_cmp q k) (Some l)) (get-remove conns_total all k q)
      ∙ twice (eq_by_cmp conn_cmp q k) (Some l) None (get all q) ∙ sym (get-insert conns_total all k l q))

  module _ (k : ConnNo) (f : MarkedConnection → MarkedConnection) where
    -- the same with what stood there changed
    pub changed_again : (l : MarkedConnection) → Some l ≡ get all k → insert (remove all k) k (f l) ≡ change k f all
    changed_again l e = insert_again k (f l) ∙ ap (λ r. changed_at r k f all) e

    -- where nothing stands there, a change leaves the connections as they are
    pub change_none : None ≡ get all k → all ≡ change k f all
    change_none e = ap (λ r. changed_at r k f all) e

  -- the same where it is put back as it was
  pub put_back : (k : ConnNo) (l : MarkedConnection) → Some l ≡ get all k → insert (remove all k) k l ≡ all
  put_back k l e =
      insert_again k l
      ∙ same_map conns_total exact_conns _ _ (λ q.
      get-insert conns_total all k l q
      ∙ elim (eq_by_cmp conn_cmp q k) as (λ b. eq_by_cmp conn_cmp q k ≡ b → cond b (Some l) (get all q) ≡ get all q) [
        | true ↦ λ t. e ∙ sym (ap (get all) (conn_tied q k t))
        | false ↦ λ _. refl
      ] refl)

  -- to put in what stands at a number changes nothing
  pub put_same : (k : ConnNo) (l : MarkedConnection) → Some l ≡ get all k → insert all k l ≡ all
  put_same k l e = sym (insert_again k l) ∙ put_back k l e

  -- what is there once those that are over with nothing left to hand are gone
  pub get-left : (q : ConnNo) → get (left all) q ≡ cond (is_done_at (get all q)) None (get all q)
  get-left q = get-retain_keys all (λ conn. not (is_done_at (get all conn))) q (λ x t. ap (λ r. not (is_done_at r)) (get_tied conns_total all q x t)) ∙ turned (is_done_at (get all q)) _ _

  -- where none is, all are left
  pub left_alive : IsAlive all → left all ≡ all
  left_alive a = same_map conns_total exact_conns _ _ (λ q. get-left q ∙ ap (λ b. cond b None (get all q)) (a q))

-- the same in the world
pub get-without_done : (all : Connections) (q : ConnNo) → get (without_done all) q ≡ cond (is_done (get all q)) None (get all q)
get-without_done all q =
    get-retain_keys all (λ conn. not (is_done (get all conn))) q (λ x t. ap (λ r. not (is_done r)) (get_tied conns_total all q x t)) ∙ turned (is_done (get all q)) _ _

done_in : (r : Option MarkedConnection) → is_done (option_map connection_in r) ≡ is_done_at r
done_in None = refl
done_in (Some l) = refl

gone_in : (b : Bool) (r : Option MarkedConnection) → option_map connection_in (cond b None r) ≡ cond b None (option_map connection_in r)
gone_in true r = refl
gone_in false r = refl

-- the world's connections that are left
pub all_of-left : (all : FinMap conn_cmp MarkedConnection) → all_of (left all) ≡ without_done (all_of all)
all_of-left all =
    same_map conns_total exact_conns _ _ (λ q.
    get_values connection_in (left all) q ∙ ap (option_map connection_in) (get-left all q) ∙ gone_in (is_done_at (get all q)) (get all q)
    ∙ ap (λ b. cond b None (option_map connection_in (get all q))) (sym (done_in (get all q)))
    ∙ sym (get-without_done (all_of all) q ∙ ap (λ r. cond (is_done r) None r) (get_values connection_in all q)))

pub swept_alive : (all : FinMap conn_cmp MarkedConnection) → IsAlive all → IsSwept all
swept_alive all a = sym (all_of-left all) ∙ ap all_of (left_alive all a)

pub swept_same : (m all : FinMap conn_cmp MarkedConnection) → m ≡ all → IsAlive all → IsSwept m
swept_same m all e a = subst IsSwept (sym e) (swept_alive all a)

-- where there are none
pub empty_swept : (all : FinMap conn_cmp MarkedConnection) → all ≡ empty → IsSwept all
empty_swept all e = swept_alive all (λ conn. ap (λ m. is_done_at (get m conn)) e ∙ ap is_done_at (get-empty conn_cmp conn))

module _ (all : FinMap conn_cmp MarkedConnection) (k : ConnNo) where
  -- to insert a connection is to insert it in the world
  pub all_of-insert : (l : MarkedConnection) → all_of (insert all k l) ≡ insert (all_of all) k l.connection
  all_of-insert l = values-insert connection_in conns_total exact_conns all k l

  module _ (f : MarkedConnection → MarkedConnection) (g : Connection → Connection) (same : (l : MarkedConnection) → (f l).connection ≡ g l.connection) where
    all_of-changed_at : (r : Option MarkedConnection) → all_of (changed_at r k f all) ≡ connection_changed_at (option_map connection_in r) k g (all_of all)
    all_of-changed_at None = refl
    all_of-changed_at (Some l) = all_of-insert (f l) ∙ ap (insert (all_of all) k) (same l)

    -- to change one is to change it in the world
    pub all_of-change : all_of (change k f all) ≡ change_connection k g (all_of all)
    all_of-change = all_of-changed_at (get all k) ∙ ap (λ r. connection_changed_at r k g (all_of all)) (sym (get_values connection_in all k))

-- a test that changes nothing
unmoved : {A : Type 0} (b : Bool) (x : A) → cond b x x ≡ x
unmoved true x = refl
unmoved false x = refl

unmapped : (r : Option Connection) → option_map (λ c. c) r ≡ r
unmapped None = refl
unmapped (Some c) = refl

module _ {X : Type 0} (m : FinMap conn_cmp X) (k : ConnNo) (g : X → X) (q : ConnNo) where
  -- where nothing stands at the number, and where something does
  changed_none : get m k ≡ None → get m q ≡ cond (eq_by_cmp conn_cmp q k) (option_map g (get m q)) (get m q)
  changed_none e =
      elim (eq_by_cmp conn_cmp q k) as (λ b. eq_by_cmp conn_cmp q k ≡ b → get m q ≡ cond b (option_map g (get m q)) (get m q)) [
        | true ↦ λ t. let none : get m q ≡ None = ap (get m) (conn_tied q k t) ∙ e in none ∙ sym (ap (option_map g) none)
        | false ↦ λ _. refl
      ] refl

  changed_some : (x : X) → get m k ≡ Some x → get (insert m k (g x)) q ≡ cond (eq_by_cmp conn_cmp q k) (option_map g (get m q)) (get m q)
  changed_some x e =
      get-insert conns_total m k (g x) q
      ∙ elim (eq_by_cmp conn_cmp q k) as (λ b. eq_by_cmp conn_cmp q k ≡ b → cond b (Some (g x)) (get m q) ≡ cond b (option_map g (get m q)) (get m q)) [
        | true ↦ λ t. ap (option_map g) (sym (ap (get m) (conn_tied q k t) ∙ e))
        | false ↦ λ _. refl
      ] refl

module _ (all : Connections) (k : ConnNo) (g : Connection → Connection) (q : ConnNo) where
  get-connection_changed_at : (r : Option Connection) → get all k ≡ r → get (connection_changed_at r k g all) q ≡ cond (eq_by_cmp conn_cmp q k) (option_map g (get all q)) (get all q)
  get-connection_changed_at None e = changed_none all k g q e
  get-connection_changed_at (Some c) e = changed_some all k g q c e

  -- what is there in the world once one was changed
  pub get-change_connection : get (change_connection k g all) q ≡ cond (eq_by_cmp conn_cmp q k) (option_map g (get all q)) (get all q)
  get-change_connection = get-connection_changed_at (get all k) refl

module _ (all : FinMap conn_cmp MarkedConnection) (k : ConnNo) (f : MarkedConnection → MarkedConnection) (q : ConnNo) where
  get-changed_at : (r : Option MarkedConnection) → get all k ≡ r → get (changed_at r k f all) q ≡ cond (eq_by_cmp conn_cmp q k) (option_map f (get all q)) (get all q)
  get-changed_at None e = changed_none all k f q e
  get-changed_at (Some l) e = changed_some all k f q l e

  -- what is there once one was changed
  pub get-change : get (change k f all) q ≡ cond (eq_by_cmp conn_cmp q k) (option_map f (get all q)) (get all q)
  get-change = get-changed_at (get all k) refl

-- where the change is of the mark alone, the world's connections stay
pub all_of-same : (all : FinMap conn_cmp MarkedConnection) (k : ConnNo) (f : MarkedConnection → MarkedConnection) → ((l : MarkedConnection) → (f l).connection ≡ l.connection) → all_of (change k f all) ≡ all_of all
all_of-same all k f same =
    all_of-change all k f (λ c. c) same
    ∙ same_map conns_total exact_conns _ _ (λ q. get-change_connection (all_of all) k (λ c. c) q ∙ ap (λ r. cond (eq_by_cmp conn_cmp q k) r (get (all_of all) q)) (unmapped (get (all_of all) q)) ∙ unmoved (eq_by_cmp conn_cmp q k) (get (all_of all) q))

pub all_of-change_some : (all : FinMap conn_cmp MarkedConnection) (conn : Option ConnNo) (f : MarkedConnection → MarkedConnection) (g : Connection → Connection) → ((l : MarkedConnection) → (f l).connection ≡ g l.connection)
    → all_of (change_some conn f all) ≡ for_conn conn g (all_of all)
all_of-change_some all None f g same = refl
all_of-change_some all (Some k) f g same = all_of-change all k f g same

module _ (all : FinMap conn_cmp MarkedConnection) (alive : IsAlive all) (k : ConnNo) (f : MarkedConnection → MarkedConnection) (l : MarkedConnection) (there : Some l ≡ get all k) where
  left_at : (q : ConnNo) (d b : Bool) → is_done_at (Some (f l)) ≡ d → cond d (cond b None (get all q)) (cond b (Some (f l)) (cond b None (get all q))) ≡ cond (is_done_at (cond b (Some (f l)) (get all q))) None (cond b (Some (f l)) (get all q))
  left_at q true true e = ap (λ b. cond b None (Some (f l))) (sym e)
  left_at q true false e = ap (λ b. cond b None (get all q)) (sym (alive q))
  left_at q false true e = ap (λ b. cond b None (Some (f l))) (sym e)
  left_at q false false e = ap (λ b. cond b None (get all q)) (sym (alive q))

  get-settled_at : (q : ConnNo) (d : Bool) → get (cond d (remove all k) (insert (remove all k) k (f l))) q ≡ cond d (cond (eq_by_cmp conn_cmp q k) None (get all q)) (cond (eq_by_cmp conn_cmp q k) (Some (f l)) (cond (eq_by_cmp conn_cmp q k) None (get all q)))
  get-settled_at q true = get-remove conns_total all k q
  get-settled_at q false = get-insert conns_total (remove all k) k (f l) q ∙ ap (cond (eq_by_cmp conn_cmp q k) (Some (f l))) (get-remove conns_total all k q)

  -- one that was taken out, changed, and put back unless it is over with nothing left to hand
  pub settled_left : settled k (f l) (remove all k) ≡ left (change k f all)
  settled_left =
      same_map conns_total exact_conns _ _ (λ q.
      get-settled_at q (is_done_at (Some (f l))) ∙ left_at q (is_done_at (Some (f l))) (eq_by_cmp conn_cmp q k) refl
      ∙ ap (λ r. cond (is_done_at r) None r) (sym (get-insert conns_total all k (f l) q))
      ∙ sym (get-left (insert all k (f l)) q)
      ∙ ap (λ r. get (left (changed_at r k f all)) q) there)
