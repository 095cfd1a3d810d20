-- The marks that are left.
use Rattle.std.proofs.Common.{◌≡◌, refl, sym, ap, ◌∙◌, Bool, true, false, cond, not, ◌&&◌, Option, None, Some, nat_eq, eqb-true, eq-eqb}
use Rattle.std.specs.Option.{option_map}
use Rattle.std.specs.Ordering.{eq_by_cmp}
use Rattle.std.specs.FinMap.{FinMap, get}
use Rattle.dk_types.specs.declared.number.ConnNo.{ConnNo}
use Rattle.dk_types.specs.declared.job.Job.{Job}
use Rattle.dk_types.specs.declared.job.Job.TheVariants as job
use Rattle.dk_model.specs.Keys.{conn_cmp}
use Rattle.dk_model.specs.Deliveries.{conn_of}
use Rattle.dk_connections.specs.MarkedConnections.{MarkedConnection, change, change_some, left, run_ended, KeepsMarks, KeepsMarksBut, MarksBy}
use Rattle.dk_connections.proofs.Changes.{get-change, get-left}
use Rattle.dk_connections.proofs.Found.{conn_tied, conn_is}

pub keeps_same : (all : FinMap conn_cmp MarkedConnection) → KeepsMarks all all
keeps_same all conn l e = (l, e, refl)

-- marks that stay afterwards
pub marks_then : (mark : ConnNo → Bool → Bool) (a b c : FinMap conn_cmp MarkedConnection) → MarksBy mark a b → KeepsMarks b c → MarksBy mark a c
marks_then mark a b c p q conn l e = let r = q conn l e in let s = p conn r.0 r.1 in (s.0, s.1, r.2 ∙ s.2)

kept_of : (b : Bool) (r : Option MarkedConnection) (l : MarkedConnection) → cond b None r ≡ Some l → r ≡ Some l
kept_of true r l e = cc
kept_of false r l e = e

pub keeps_left : (all : FinMap conn_cmp MarkedConnection) → KeepsMarks all (left all)
keeps_left all conn l e = (l, kept_of _ (get all conn) l (sym (get-left all conn) ∙ e), refl)

changed_of : (f : MarkedConnection → MarkedConnection) → ((l : MarkedConnection) → (f l).claimed ≡ l.claimed) → (b : Bool) (r : Option MarkedConnection) (l : MarkedConnection) → cond b (option_map f r) r ≡ Some l → (k : MarkedConnection) × (r ≡ Some k) × (l.claimed ≡ k.claimed)
changed_of f same true None l e = cc
changed_of f same true (Some k) l e = let is : f k ≡ l = cc in (k, refl, sym (ap (λ (x : MarkedConnection). x.claimed) is) ∙ same k)
changed_of f same false r l e = (l, e, refl)

pub keeps_change : (all : FinMap conn_cmp MarkedConnection) (k : ConnNo) (f : MarkedConnection → MarkedConnection) → ((l : MarkedConnection) → (f l).claimed ≡ l.claimed) → KeepsMarks all (change k f all)
keeps_change all k f same conn l e = changed_of f same _ (get all conn) l (sym (get-change all k f conn) ∙ e)

pub keeps_change_some : (all : FinMap conn_cmp MarkedConnection) (conn : Option ConnNo) (f : MarkedConnection → MarkedConnection) → ((l : MarkedConnection) → (f l).claimed ≡ l.claimed) → KeepsMarks all (change_some conn f all)
keeps_change_some all None f same = keeps_same all
keeps_change_some all (Some k) f same = keeps_change all k f same

-- the order's test for equal numbers is that of the numbers
same_test : (q k : ConnNo) → eq_by_cmp conn_cmp q k ≡ nat_eq k.0 q.0
same_test q k =
    elim (eq_by_cmp conn_cmp q k) as (λ b. eq_by_cmp conn_cmp q k ≡ b → b ≡ nat_eq k.0 q.0) [
      | true ↦ λ t. sym (eq-eqb k.0 q.0 (ap (λ (c : ConnNo). c.0) (sym (conn_tied q k t))))
      | false ↦ λ t. elim (nat_eq k.0 q.0) as (λ b. nat_eq k.0 q.0 ≡ b → false ≡ b) [
        | true ↦ λ n. let same : k.0 ≡ q.0 = eqb-true k.0 q.0 n in let both = conn_is q k (λ i. record { 0 = sym same i }) in sym t ∙ both
        | false ↦ λ _. refl
      ] refl
    ] refl

and_true : (b : Bool) → b ≡ (b && true)
and_true true = refl
and_true false = refl

and_false : (b : Bool) → false ≡ (b && false)
and_false true = refl
and_false false = refl

ended_of : (b : Bool) (r : Option MarkedConnection) (l : MarkedConnection) → cond b (option_map run_ended r) r ≡ Some l → (k : MarkedConnection) × (r ≡ Some k) × (l.claimed ≡ (k.claimed && not b))
ended_of true None l e = cc
ended_of true (Some k) l e = let is : run_ended k ≡ l = cc in (k, refl, sym (ap (λ (x : MarkedConnection). x.claimed) is) ∙ and_false k.claimed)
ended_of false r l e = (l, e, and_true l.claimed)

ended_at : (all : FinMap conn_cmp MarkedConnection) (c conn : ConnNo) (l : MarkedConnection) → get (change c run_ended all) conn ≡ Some l → (k : MarkedConnection) × (get all conn ≡ Some k) × (l.claimed ≡ (k.claimed && not (nat_eq c.0 conn.0)))
ended_at all c conn l e = ended_of (nat_eq c.0 conn.0) (get all conn) l (ap (λ b. cond b (option_map run_ended (get all conn)) (get all conn)) (sym (same_test conn c)) ∙ sym (get-change all c run_ended conn) ∙ e)

-- once the job's input has left the queue, its connection has no mark
pub marks_ended : (j : Job) (all : FinMap conn_cmp MarkedConnection) → KeepsMarksBut j all (change_some (conn_of j) run_ended all)
marks_ended job.Initialize all conn l e = (l, e, and_true l.claimed)
marks_ended (job.Login c name) all conn l e = ended_at all c conn l e
marks_ended (job.Message c name body) all conn l e = ended_at all c conn l e
marks_ended (job.Channel c name channel body) all conn l e = ended_at all c conn l e
marks_ended (job.Disconnect c name graceful) all conn l e = ended_at all c conn l e
marks_ended (job.Task key due period kind arg) all conn l e = (l, e, and_true l.claimed)
