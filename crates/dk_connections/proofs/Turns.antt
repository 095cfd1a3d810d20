-- The job of a first input, and the input that a world picks.
use Rattle.std.proofs.Common.{◌≡◌, ℕ, ◌<◌, refl, sym, ap, subst, ◌∙◌, Bool, true, false, cond, not, ◌||◌, ◌==◌, if◌then◌else◌, List, [], ◌∷◌, map, Option, None, Some, length, arith}
use Rattle.std.proofs.lemmas.Bool.Decides.{nat_tests}
use Rattle.std.specs.List.{AllByRecursion, filter, filter_map, cons_option}
use Rattle.std.specs.FinMap.{FinMap, entries, entries_sorted, get, get-entries}
use Rattle.dk_types.specs.declared.number.ConnNo.{ConnNo}
use Rattle.dk_map.specs.Values.{entries_with}
use Rattle.dk_map.proofs.Values.{entries_values}
use Rattle.dk_model.specs.declared.waiting.Waiting.{Waiting}
use Rattle.dk_model.specs.declared.waiting.Waiting.TheVariants.{Login}
use Rattle.dk_model.specs.Keys.{conn_cmp}
use Rattle.dk_model.specs.Worlds.{World}
use Rattle.dk_model.specs.Picks.{Turn, first_job, input_of, is_claimed, is_earlier, is_of, job_of, least, lesser, mapped, pick_input, turn_of}
use Rattle.dk_connections.specs.MarkedConnections.{MarkedConnection}
use Rattle.dk_connections.specs.Ready.{first_at, is_before, is_ready, job_at, HasConnections, HasInput, IsReadyAt}
use Rattle.dk_connections.proofs.Changes.{connection_in}
use Rattle.dk_connections.proofs.Found.{all_of_found}
use Rattle.dk_connections.proofs.Soonest.{IsSoonest}

first_of : (conn : ConnNo) (name : List ℕ) (queue : List Waiting) → 0 < length queue → first_job conn name queue ≡ None → ⊥
first_of conn name [] h e = absurd (omega arith)
first_of conn name (x ∷ queue) h e = cc

-- an input that waits has a job
pub first_there : (conn : ConnNo) (l : MarkedConnection) → HasInput (Some l) → first_at conn (Some l) ≡ None → ⊥
first_there conn l h e = first_of conn l.connection.name l.connection.queue h e

-- the first that waits, or a login where none does
abbrev head_of : List Waiting → Waiting
head_of [] = Login
head_of (x ∷ queue) = x

-- the turn of a connection whose first input can be run
abbrev turn_at : ConnNo × MarkedConnection → Turn
turn_at e = record { turn = e.1.connection.turn; job = job_of e.0 e.1.connection.name (head_of e.1.connection.queue) }

some_wait : (queue : List Waiting) (x : Waiting) → (length (x ∷ queue) == 0) ≡ false
some_wait queue x = grind (arith, nat_tests)

input_at : (conn : ConnNo) (name : List ℕ) (turn : ℕ) (queue : List Waiting) (claimed : Bool) (rest : List Turn)
    → cons_option (if claimed then None else turn_of turn (first_job conn name queue)) rest
    ≡ cond (not (claimed || (length queue == 0))) ((record { turn = turn; job = job_of conn name (head_of queue) }) ∷ rest) rest
input_at conn name turn queue true rest = refl
input_at conn name turn [] false rest = refl
input_at conn name turn (x ∷ queue) false rest = sym (ap (λ b. cond (not b) ((record { turn = turn; job = job_of conn name x }) ∷ rest) rest) (some_wait queue x))

map_cond : (b : Bool) (e : ConnNo × MarkedConnection) (es : List (ConnNo × MarkedConnection)) → cond b (turn_at e ∷ map turn_at es) (map turn_at es) ≡ map turn_at (cond b (e ∷ es) es)
map_cond true e es = refl
map_cond false e es = refl

-- the inputs of a world are the turns of the ready connections
inputs_are : (w : World) (es : List (ConnNo × MarkedConnection)) → AllByRecursion (λ e. is_claimed (is_of e.0) w ≡ e.1.claimed) es
    → filter_map (input_of w) (entries_with connection_in es) ≡ map turn_at (filter is_ready es)
inputs_are w [] a = refl
inputs_are w (e ∷ es) a =
    (λ i. cons_option (if a.0 i then None else turn_of e.1.connection.turn (first_job e.0 e.1.connection.name e.1.connection.queue)) (inputs_are w es a.1 i))
    ∙ input_at e.0 e.1.connection.name e.1.connection.turn e.1.connection.queue e.1.claimed (map turn_at (filter is_ready es))
    ∙ map_cond (is_ready e) e (filter is_ready es)

lesser_turn : (e : ConnNo × MarkedConnection) (r : Option (ConnNo × MarkedConnection)) → lesser is_earlier (turn_at e) (mapped turn_at r) ≡ mapped turn_at (lesser is_before e r)
lesser_turn e None = refl
lesser_turn e (Some f) = elim (is_before f e) as (λ b. (if b then Some (turn_at f) else Some (turn_at e)) ≡ mapped turn_at (if b then Some f else Some e)) [ true ↦ refl | false ↦ refl ]

-- the least of the turns is the turn of the least
least_turn : (es : List (ConnNo × MarkedConnection)) → least is_earlier (map turn_at es) ≡ mapped turn_at (least is_before es)
least_turn [] = refl
least_turn (e ∷ es) = ap (lesser is_earlier (turn_at e)) (least_turn es) ∙ lesser_turn e (least is_before es)

-- what a world with these connections picks
picked_is : (m : FinMap conn_cmp MarkedConnection) (w : World) → HasConnections w m → pick_input w ≡ mapped (λ t. t.job) (mapped turn_at (least is_before (filter is_ready (entries m))))
picked_is m w h =
    ap (λ ts. mapped (λ t. t.job) (least is_earlier ts))
    (ap (filter_map (input_of w)) (ap entries h.connections ∙ entries_values connection_in m)
    ∙ inputs_are w (entries m) (all_of_found (λ e. is_claimed (is_of e.0) w ≡ e.1.claimed) (entries m) (entries_sorted m) (λ k l e. h.claims k l (get-entries m k ∙ e))))
    ∙ ap (mapped (λ t. t.job)) (least_turn (filter is_ready (entries m)))

-- the job of a ready connection
job_is : (k : ConnNo) (name : List ℕ) (queue : List Waiting) (claimed : Bool) → not (claimed || (length queue == 0)) ≡ true → Some (job_of k name (head_of queue)) ≡ first_job k name queue
job_is k name queue true r = cc
job_is k name [] false r = cc
job_is k name (x ∷ queue) false r = refl

pub picked_of : (m : FinMap conn_cmp MarkedConnection) (r : Option ConnNo) → IsSoonest m r → (w : World) → HasConnections w m → pick_input w ≡ job_at m r
picked_of m None s w h = picked_is m w h ∙ ap (λ r. mapped (λ t. t.job) (mapped turn_at r)) s
picked_of m (Some k) s w h =
    picked_is m w h ∙ ap (λ r. mapped (λ t. t.job) (mapped turn_at r)) s.3
    ∙ job_is k s.0.connection.name s.0.connection.queue s.0.claimed s.2
    ∙ sym (ap (first_at k) s.1)

ready_parts : (queue : List Waiting) (claimed : Bool) → not (claimed || (length queue == 0)) ≡ true → (claimed ≡ false) × (0 < length queue)
ready_parts queue true r = cc
ready_parts [] false r = cc
ready_parts (x ∷ queue) false r = (refl, omega arith)

-- a ready connection is there, with an input that no claimed run has
pub ready_of : (m : FinMap conn_cmp MarkedConnection) (k : ConnNo) → IsSoonest m (Some k) → IsReadyAt (get m k)
ready_of m k s = subst IsReadyAt (sym s.1) (ready_parts s.0.connection.queue s.0.claimed s.2)

-- an input that can be run waits
pub has_input : (r : Option MarkedConnection) → IsReadyAt r → HasInput r
has_input None h = h
has_input (Some l) h = h.1
