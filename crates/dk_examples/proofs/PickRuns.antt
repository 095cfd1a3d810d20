-- Picks, posts and names.
use Rattle.std.proofs.Common.{◌≡◌, ◌<◌, ℕ, Bool, true, false, not, ◌&&◌, nat_le, Some, length, refl, sym, ap, ◌∙◌, inl, inr, arith}
use Rattle.std.specs.FinMap.{get}
use Rattle.std.proofs.lemmas.Bool.Decides.{leb_tells}
use Rattle.dk_types.specs.declared.number.ConnNo.{ConnNo}
use Rattle.dk_model.specs.DurableWorlds.{next_name}
use Rattle.dk_model.specs.Worlds.{World, Connection}
use Rattle.dk_model.specs.Events.{is_open, is_open_at, waiting, waiting_at}
use Rattle.dk_examples.specs.PickRows.{PicksInTurn, TiesGoByKey, ClaimedIsNotRunnable, FullQueueRefuses, QueueTakes, DisconnectIsTaken, ClosedTakesNothing, NamesInOrder}
use Rattle.dk_examples.proofs.Running.{puts}
use Rattle.dk_examples.proofs.EventSteps.{stands}

pub picks_in_turn : PicksInTurn
picks_in_turn = (simp (puts, stands), simp (puts, stands), simp (puts, stands), simp (puts, stands))

pub ties_go_by_key : TiesGoByKey
ties_go_by_key = simp (puts, stands)

pub claimed_is_not_runnable : ClaimedIsNotRunnable
claimed_is_not_runnable = simp (puts, stands)

-- a connection that stands is open where it is not closed
open_there : (w : World) (conn : ConnNo) (c : Connection) (closed : Bool) → get w.connections conn ≡ Some c → c.closed ≡ closed → is_open w conn ≡ not closed
open_there w conn c closed e k = ap is_open_at e ∙ ap not k

waits_there : (w : World) (conn : ConnNo) (c : Connection) → get w.connections conn ≡ Some c → waiting w conn ≡ length c.queue
waits_there w conn c e = ap waiting_at e

full_at : (n : ℕ) → n ≡ 1024 → nat_le 1024 n ≡ true
full_at n e = elim (leb_tells 1024 n) [ inl w ↦ w.0 | inr w ↦ absurd (omega (arith, w.1)) ]

free_at : (n : ℕ) → n < 1024 → nat_le 1024 n ≡ false
free_at n lt = elim (leb_tells 1024 n) [ inl w ↦ absurd (omega (arith, w.1)) | inr w ↦ w.0 ]

pub full_queue_refuses : FullQueueRefuses
full_queue_refuses rules w conn c body e open_now many =
    let n : waiting w conn ≡ 1024 = waits_there w conn c e ∙ many in
    (open_there w conn c false e open_now, rw (full_at (waiting w conn) n) refl, sym n, refl)

pub queue_takes : QueueTakes
queue_takes rules w conn c body e open_now few =
    let n : waiting w conn ≡ length c.queue = waits_there w conn c e in
    (open_there w conn c false e open_now, rw (free_at (waiting w conn) (omega arith)) refl, refl)

pub disconnect_is_taken : DisconnectIsTaken
disconnect_is_taken rules w conn c graceful e open_now =
    (open_there w conn c false e open_now, elim (nat_le 1024 (waiting w conn)) as (λ b. (b && false) ≡ false) [ true ↦ refl | false ↦ refl ], refl)

pub closed_takes_nothing : ClosedTakesNothing
closed_takes_nothing rules w conn c given e closed = (open_there w conn c true e closed, refl)

pub names_in_order : NamesInOrder
unfolding next_name
names_in_order = (simp puts, simp puts, simp puts, simp puts, simp puts)
