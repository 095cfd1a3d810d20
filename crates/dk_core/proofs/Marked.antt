-- The marks that a claim sets, and that are taken off when its run has ended or is given back.
use Rattle.std.proofs.Common.{◌≡◌, ℕ, Bool, true, false, cond, ◌||◌, ◌&&◌, not, nat_eq, List, Option, Some, None, refl, sym, ap, ◌∙◌, is_eq, eqb-true, eq-eqb}
use Rattle.std.specs.Cmp.{tied_itself}
use Rattle.std.specs.Option.{option_map}
use Rattle.std.specs.Ordering.{eq_by_cmp}
use Rattle.std.specs.FinMap.{FinMap, get}
use Rattle.dk_types.specs.declared.number.ConnNo.{ConnNo}
use Rattle.dk_types.specs.declared.number.TaskKey.{TaskKey}
use Rattle.dk_types.specs.declared.job.Job.{Job}
use Rattle.dk_types.specs.declared.job.Job.TheVariants as job
use Rattle.dk_types.specs.Keys.{key_cmp, conn_cmp}
use Rattle.dk_model.specs.Deliveries.{conn_of}
use Rattle.dk_model.specs.Picks.{is_of}
use Rattle.dk_model.proofs.Maps.{keys_total, exact_keys, some_is}
use Rattle.dk_tasks.specs.Tasks.{Kept, with_claim, changed_at}
use Rattle.dk_connections.specs.MarkedConnections.{MarkedConnection, change, change_some, released, with_turn, KeepsMarksBut}
use Rattle.dk_connections.proofs.Changes.{get-change}
use Rattle.dk_connections.proofs.Found.{tied, conn_tied, conn_is}
use Rattle.dk_core.proofs.MapFacts.{get-Changed}
use Rattle.dk_core.proofs.Tracked.{InputClaimed, TaskClaimed, TaskFreed}

-- what a job's test for connections says, by the connection that the job is of
pub of_conn : (q c : ConnNo) (j : Job) → conn_of j ≡ Some c → is_of q j ≡ nat_eq c.0 q.0
of_conn q c (job.Login k name) e = ap (λ (x : ConnNo). nat_eq x.0 q.0) (some_is k c e)
of_conn q c (job.Message k name body) e = ap (λ (x : ConnNo). nat_eq x.0 q.0) (some_is k c e)
of_conn q c (job.Channel k name channel body) e = ap (λ (x : ConnNo). nat_eq x.0 q.0) (some_is k c e)
of_conn q c (job.Disconnect k name graceful) e = ap (λ (x : ConnNo). nat_eq x.0 q.0) (some_is k c e)
of_conn q c job.Initialize e = absurd cc
of_conn q c (job.Task key due period kind arg) e = absurd cc

pub of_none : (q : ConnNo) (j : Job) → conn_of j ≡ None → is_of q j ≡ false
of_none q job.Initialize e = refl
of_none q (job.Task key due period kind arg) e = refl
of_none q (job.Login k name) e = absurd cc
of_none q (job.Message k name body) e = absurd cc
of_none q (job.Channel k name channel body) e = absurd cc
of_none q (job.Disconnect k name graceful) e = absurd cc

-- a job that is of a connection has that connection
pub conn_there : (q : ConnNo) (j : Job) → is_of q j ≡ true → conn_of j ≡ Some q
conn_there q (job.Login k name) e = ap Some (λ i. record { 0 = eqb-true k.0 q.0 e i })
conn_there q (job.Message k name body) e = ap Some (λ i. record { 0 = eqb-true k.0 q.0 e i })
conn_there q (job.Channel k name channel body) e = ap Some (λ i. record { 0 = eqb-true k.0 q.0 e i })
conn_there q (job.Disconnect k name graceful) e = ap Some (λ i. record { 0 = eqb-true k.0 q.0 e i })
conn_there q job.Initialize e = absurd cc
conn_there q (job.Task key due period kind arg) e = absurd cc

conn_test : (q k : ConnNo) → eq_by_cmp conn_cmp q k ≡ nat_eq k.0 q.0
conn_test q k =
    elim (eq_by_cmp conn_cmp q k) as (λ b. eq_by_cmp conn_cmp q k ≡ b → b ≡ nat_eq k.0 q.0) [
      | true ↦ λ t. sym (eq-eqb k.0 q.0 (ap (λ (c : ConnNo). c.0) (sym (conn_tied q k t))))
      | false ↦ λ t. elim (nat_eq k.0 q.0) as (λ b. nat_eq k.0 q.0 ≡ b → false ≡ b) [
        | true ↦ λ n. let same : k.0 ≡ q.0 = eqb-true k.0 q.0 n in let both = conn_is q k (λ i. record { 0 = sym same i }) in sym t ∙ both
        | false ↦ λ _. refl
      ] refl
    ] refl

-- the mark that a change sets where the test passes
abbrev set_to : Bool → Bool → Bool → Bool
set_to v t claimed = cond t v claimed

set_of : {A : Type 0} (mark : A → Bool) (f : A → A) (v : Bool) → ((a : A) → mark (f a) ≡ v) → (t : Bool) (r : Option A) (l : A) → cond t (option_map f r) r ≡ Some l → (k : A) × (r ≡ Some k) × (mark l ≡ set_to v t (mark k))
set_of mark f v sets true None l e = absurd cc
set_of mark f v sets true (Some k) l e = (k, refl, ap mark (sym (some_is (f k) l e)) ∙ sets k)
set_of mark f v sets false r l e = (l, e, refl)

set_true : (t b : Bool) → set_to true t b ≡ (t || b)
set_true true b = refl
set_true false b = refl

set_false : (t b : Bool) → set_to false t b ≡ (b && not t)
set_false true true = refl
set_false true false = refl
set_false false true = refl
set_false false false = refl

not_it : (b : Bool) → b ≡ (b && not false)
not_it true = refl
not_it false = refl

-- what a change at the job's connection sets
changed_to : (f : MarkedConnection → MarkedConnection) (v : Bool) → ((l : MarkedConnection) → (f l).claimed ≡ v) → (c q : ConnNo) (j : Job) → conn_of j ≡ Some c → (all : FinMap conn_cmp MarkedConnection) (l : MarkedConnection) → get (change c f all) q ≡ Some l
    → (k : MarkedConnection) × (get all q ≡ Some k) × (l.claimed ≡ set_to v (is_of q j) k.claimed)
changed_to f v sets c q j is all l e =
    set_of (λ (x : MarkedConnection). x.claimed) f v sets (is_of q j) (get all q) l
    (ap (λ b. cond b (option_map f (get all q)) (get all q)) (of_conn q c j is ∙ sym (conn_test q c)) ∙ sym (get-change all c f q) ∙ e)

-- a claim of an input marks its connection
pub input_marked : (j : Job) (turn : ℕ) (all : FinMap conn_cmp MarkedConnection) → InputClaimed j all (change_some (conn_of j) (with_turn turn) all)
input_marked j turn all conn l e =
    elim (conn_of j) as (λ o. conn_of j ≡ o → get (change_some o (with_turn turn) all) conn ≡ Some l → (k : MarkedConnection) × (get all conn ≡ Some k) × (l.claimed ≡ (is_of conn j || k.claimed))) [
      | None ↦ λ is f. (l, f, ap (λ b. b || l.claimed) (sym (of_none conn j is)))
      | Some c ↦ λ is f. let k = changed_to (with_turn turn) true (λ _. refl) c conn j is all l f in (k.0, k.1, k.2 ∙ set_true (is_of conn j) k.0.claimed)
    ] refl e

-- a claim that goes takes the mark off
pub input_freed : (j : Job) (all : FinMap conn_cmp MarkedConnection) → KeepsMarksBut j all (change_some (conn_of j) released all)
input_freed j all conn l e =
    elim (conn_of j) as (λ o. conn_of j ≡ o → get (change_some o released all) conn ≡ Some l → (k : MarkedConnection) × (get all conn ≡ Some k) × (l.claimed ≡ (k.claimed && not (is_of conn j)))) [
      | None ↦ λ is f. (l, f, not_it l.claimed ∙ ap (λ b. l.claimed && not b) (sym (of_none conn j is)))
      | Some c ↦ λ is f. let k = changed_to released false (λ _. refl) c conn j is all l f in (k.0, k.1, k.2 ∙ set_false (is_of conn j) k.0.claimed)
    ] refl e

key_test : (q k : TaskKey) → eq_by_cmp key_cmp q k ≡ is_eq (key_cmp k q)
key_test q k =
    elim (eq_by_cmp key_cmp q k) as (λ b. eq_by_cmp key_cmp q k ≡ b → b ≡ is_eq (key_cmp k q)) [
      | true ↦ λ t. sym (ap (λ x. is_eq (key_cmp k x)) (exact_keys q k (tied _ t)) ∙ ap is_eq (tied_itself keys_total k))
      | false ↦ λ t. elim (is_eq (key_cmp k q)) as (λ b. is_eq (key_cmp k q) ≡ b → false ≡ b) [
        | true ↦ λ n. sym t ∙ ap (λ x. eq_by_cmp key_cmp q x) (exact_keys k q (tied _ n)) ∙ ap is_eq (tied_itself keys_total q)
        | false ↦ λ _. refl
      ] refl
    ] refl

-- what a claim of a task, or its end, sets
task_set : (v : Bool) (key q : TaskKey) (tasks : FinMap key_cmp Kept) (t : Kept) → get (changed_at (with_claim v) key tasks) q ≡ Some t
    → (k : Kept) × (get tasks q ≡ Some k) × (t.claimed ≡ set_to v (is_eq (key_cmp key q)) k.claimed)
task_set v key q tasks t e =
    set_of (λ (x : Kept). x.claimed) (with_claim v) v (λ _. refl) (is_eq (key_cmp key q)) (get tasks q) t
    (ap (λ b. cond b (option_map (with_claim v) (get tasks q)) (get tasks q)) (sym (key_test q key)) ∙ sym (get-Changed keys_total exact_keys (with_claim v) tasks key q) ∙ e)

pub task_marked : (key : TaskKey) (due period kind : ℕ) (arg : List ℕ) (tasks : FinMap key_cmp Kept) → TaskClaimed (job.Task key due period kind arg) tasks (changed_at (with_claim true) key tasks)
task_marked key due period kind arg tasks q t e = let k = task_set true key q tasks t e in (k.0, k.1, k.2 ∙ set_true (is_eq (key_cmp key q)) k.0.claimed)

pub task_freed : (key : TaskKey) (due period kind : ℕ) (arg : List ℕ) (tasks : FinMap key_cmp Kept) → TaskFreed (job.Task key due period kind arg) tasks (changed_at (with_claim false) key tasks)
task_freed key due period kind arg tasks q t e = let k = task_set false key q tasks t e in (k.0, k.1, k.2 ∙ set_false (is_eq (key_cmp key q)) k.0.claimed)
