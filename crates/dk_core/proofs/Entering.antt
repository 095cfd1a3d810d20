-- Connect, Post, Hand and Tick lead to the world that the definitions say.
use Rattle.std.proofs.Common.{◌≡◌, ℕ, ◌+◌, ◌<◌, max, min, take, drop, All, None, List, [], ◌∷◌, ◌++◌, Result, Ok, Err, IfOk, OnOk, OnErr, is_none, refl, sym, ap, subst, ◌∙◌}
use Rattle.std.specs.FinMap.{get, insert}
use Rattle.std.proofs.lemmas.List.Elements.{All-take}
use Rattle.dk_types.specs.declared.number.ConnNo.{ConnNo}
use Rattle.dk_types.specs.declared.job.Input.{Input}
use Rattle.dk_types.specs.declared.event.Event.{Event}
use Rattle.dk_types.specs.declared.event.Event.TheVariants as event
use Rattle.dk_types.specs.declared.event.ConnectReply.TheVariants as connected
use Rattle.dk_types.specs.declared.event.PostReply.TheVariants as posted
use Rattle.dk_types.specs.declared.fault.NoMemory.{NoMemory}
use Rattle.dk_types.specs.declared.limits.TheConstants.{NUMBERS_END, MOMENT_MOST_MS}
use Rattle.dk_types.specs.Names.{IsName}
use Rattle.dk_model.specs.declared.waiting.Waiting.TheVariants as waits
use Rattle.dk_model.specs.Worlds.{new_connection}
use Rattle.dk_model.specs.Deliveries.{change_connection, without_done}
use Rattle.dk_model.specs.Events.{Meaning, Happens, with_connection, put_last, outbox_at}
use Rattle.dk_model.specs.Lawful.{HasShortBody, IsInput, IsWithinLimits}
use Rattle.dk_model.specs.Successors.{step_by}
use Rattle.dk_laws.proofs.ShortBodies.{bodies_short}
use Rattle.dk_connections.specs.MarkedConnections.{ConnectionStore, all_of, change, left, less_first, linked, unclaimed, IsSwept, KeepsMarks}
use Rattle.dk_connections.specs.Posts.{PostAnswer}
use Rattle.dk_connections.specs.declared.answers.PostRefused.{PostRefused}
use Rattle.dk_connections.specs.declared.answers.PostRefused.TheVariants as post_refused
use Rattle.dk_connections.specs.declared.answers.Handed.{Handed}
use Rattle.dk_connections.proofs.Marks.{keeps_same, keeps_change, keeps_left, marks_then}
use Rattle.dk_core.specs.declared.world.Core.{Core}
use Rattle.dk_core.specs.Claiming.{Claiming}
use Rattle.dk_core.specs.Numbers.{HasNumbers, HasNumbers-prop}
use Rattle.dk_core.specs.Cores.{world_of, Represents, Adds, IsStanding}
use Rattle.dk_core.specs.Answers.{Posted, Hands}
use Rattle.dk_core.proofs.Standing.{entered_still}
use Rattle.dk_core.proofs.Tracked.{tracked_connect, tracked_kept}

-- an event that changes nothing
pub stays_so : (old : Core) (e : Event) → IsWithinLimits e → ((rules : Meaning) → Happens rules (world_of old) e (world_of old)) → ((rules : Meaning) → step_by rules (world_of old) e ≡ None) → Adds old old (e ∷ [])
stays_so old e within happens none rules d budget events lawful s = entered_still rules lawful d budget events old s old e within (happens rules) s.tracked (none rules) refl (λ _. refl)

-- the core with other connections
abbrev pub with_connections : (c : Core) (shown : ConnectionStore) → HasNumbers c.world.commits c.claims shown.connections → Core
with_connections c shown numbers = record c { connections = shown; numbers = numbers }

-- where they are the same, it is the same core
same_shown : (c : Core) (shown : ConnectionStore) (numbers : HasNumbers c.world.commits c.claims shown.connections) → shown ≡ c.connections → with_connections c shown numbers ≡ c
same_shown c shown numbers same =
    subst (λ (x : ConnectionStore). (n : HasNumbers c.world.commits c.claims x.connections) → with_connections c x n ≡ c) (sym same)
    (λ n. ap (with_connections c c.connections) (HasNumbers-prop c.world.commits c.claims c.connections.connections n c.numbers)) numbers

abbrev connecting : (c : Core) (shown : ConnectionStore) (claims : Claiming) → HasNumbers c.world.commits claims shown.connections → Core
connecting c shown claims numbers = record c { connections = shown; claims = claims; numbers = numbers }

pub connects : (old : Core) (name : List ℕ) (pass : ℕ) (shown : ConnectionStore) (claims : Claiming) (numbers : HasNumbers old.world.commits claims shown.connections) → IsName name → old.claims.next < NUMBERS_END
    → claims ≡ record old.claims { next = old.claims.next + 1 }
    → shown.connections ≡ insert old.connections.connections (record { 0 = old.claims.next }) (unclaimed (new_connection name old.claims.next))
    → all_of shown.connections ≡ insert (all_of old.connections.connections) (record { 0 = old.claims.next }) (new_connection name old.claims.next)
    → IsSwept shown.connections → Adds old (connecting old shown claims numbers) (event.Connect pass name (connected.Number (record { 0 = old.claims.next })) ∷ [])
connects old name pass shown claims numbers is few drawn is_linked is_world swept rules d budget events lawful s =
    subst (λ c. (n : HasNumbers old.world.commits c shown.connections) → Represents rules d budget (events ++ event.Connect pass name (connected.Number (record { 0 = old.claims.next })) ∷ []) (connecting old shown c n)) (sym drawn)
    (λ n. entered_still rules lawful d budget events old s (connecting old shown (record old.claims { next = old.claims.next + 1 }) n) (event.Connect pass name (connected.Number (record { 0 = old.claims.next }))) is
    (few, refl, λ i. record (with_connection (world_of old) name) { connections = (sym swept ∙ ap without_done is_world) i })
    (tracked_connect (world_of old) name old.connections.connections shown.connections old.world.tasks s.tracked is_linked swept (all_of shown.connections)) refl refl (λ _. refl)) numbers

pub posts : (old : Core) (conn : ConnNo) (input : Input) (shown : ConnectionStore) (numbers : HasNumbers old.world.commits old.claims shown.connections) (r : Result (Unit {0}) PostRefused) → IsInput input → PostAnswer (get (all_of old.connections.connections) conn) input r
    → OnOk r (shown.connections ≡ change conn (linked (put_last (waits.Input input))) old.connections.connections)
    → OnOk r (all_of shown.connections ≡ change_connection conn (put_last (waits.Input input)) (all_of old.connections.connections))
    → IsSwept shown.connections → OnErr r (shown ≡ old.connections) → Posted old (with_connections old shown numbers) conn input r
posts old conn input shown numbers (Ok taken) is answer is_linked is_world swept same = λ pass rules d budget events lawful s.
    entered_still rules lawful d budget events old s (with_connections old shown numbers) (event.Post pass conn input posted.Taken) is
    (answer.0, answer.1, λ i. record (world_of old) { connections = (sym swept ∙ ap without_done is_world) i })
    (tracked_kept (world_of old) old.connections.connections shown.connections old.world.tasks s.tracked
    (subst (KeepsMarks old.connections.connections) (sym is_linked) (keeps_change old.connections.connections conn (linked (put_last (waits.Input input))) (λ _. refl))) swept old.moment (all_of shown.connections)) refl refl (λ _. refl)
posts old conn input shown numbers (Err post_refused.Closed) is answer is_linked is_world swept same = λ pass.
    subst (λ x. Adds old x (event.Post pass conn input posted.Closed ∷ [])) (sym (same_shown old shown numbers same)) (stays_so old (event.Post pass conn input posted.Closed) is (λ rules. (answer, refl)) (λ rules. refl))
posts old conn input shown numbers (Err (post_refused.QueueFull waiting)) is answer is_linked is_world swept same = λ pass.
    subst (λ x. Adds old x (event.Post pass conn input (posted.QueueFull waiting) ∷ [])) (sym (same_shown old shown numbers same))
    (stays_so old (event.Post pass conn input (posted.QueueFull waiting)) is (λ rules. (answer.0, answer.1, answer.2, refl)) (λ rules. refl))
posts old conn input shown numbers (Err post_refused.NoMemory) is answer is_linked is_world swept same = (same_shown old shown numbers same, answer.2)

pub hands : (old : Core) (conn : ConnNo) (most : ℕ) (shown : ConnectionStore) (numbers : HasNumbers old.world.commits old.claims shown.connections) (r : Result Handed NoMemory)
    → IfOk r (λ handed. handed.outs ≡ take most (outbox_at (get (all_of old.connections.connections) conn)))
    → OnOk r (shown.connections ≡ left (change conn (linked (less_first most)) old.connections.connections))
    → OnOk r (all_of shown.connections ≡ without_done (change_connection conn (λ c. record c { outbox = drop most c.outbox }) (all_of old.connections.connections)))
    → IfOk r (λ handed. handed.end ≡ is_none (get (all_of shown.connections) conn)) → IsSwept shown.connections → OnErr r (shown ≡ old.connections)
    → Hands old (with_connections old shown numbers) conn most r
hands old conn most shown numbers (Ok handed) outs is_linked is_world end swept same = λ pass rules d budget events lawful s.
    let all = old.connections.connections in
    let changed = change conn (linked (less_first most)) all in
    entered_still rules lawful d budget events old s (with_connections old shown numbers) (event.Hand pass conn most handed.outs handed.end) tt
    (outs, end, λ i. record (world_of old) { connections = is_world i })
    (tracked_kept (world_of old) all shown.connections old.world.tasks s.tracked
    (subst (KeepsMarks all) (sym is_linked) (marks_then (λ q claimed. claimed) all changed (left changed) (keeps_change all conn (linked (less_first most)) (λ _. refl)) (keeps_left changed))) swept old.moment (all_of shown.connections))
    refl refl (λ _. refl)
hands old conn most shown numbers (Err refused) outs is_linked is_world end swept same = same_shown old shown numbers same

-- the first of what waits has bodies within their limit
pub hands_short : (old : Core) → IsStanding old → (conn : ConnNo) (most : ℕ) (r : Result Handed NoMemory) → IfOk r (λ handed. handed.outs ≡ take most (outbox_at (get (all_of old.connections.connections) conn)))
    → IfOk r (λ handed. All HasShortBody handed.outs)
hands_short old s conn most (Ok handed) outs =
    let waiting = (bodies_short s.rules s.opened s.budget s.events (world_of old) s.lawful s.stands.valid s.stands.within s.stands.leads conn).1 in
    subst (All HasShortBody) (sym outs) (All-take HasShortBody most _ waiting)
hands_short old s conn most (Err refused) outs = tt

pub ticks : (old : Core) (given pass moment : ℕ) (numbers : HasNumbers old.world.commits old.claims old.connections.connections) → moment ≡ max old.moment (min given MOMENT_MOST_MS)
    → Adds old (record old { moment = moment; numbers = numbers }) (event.Tick pass given ∷ [])
ticks old given pass moment numbers is rules d budget events lawful s =
    let all = old.connections.connections in
    entered_still rules lawful d budget events old s (record old { moment = moment; numbers = numbers }) (event.Tick pass given) tt
    (λ i. record (world_of old) { moment = is i; connections = sym s.tracked.swept i })
    (tracked_kept (world_of old) all all old.world.tasks s.tracked (keeps_same all) s.tracked.swept moment (all_of all)) refl refl (λ _. refl)
