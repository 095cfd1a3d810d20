-- What a post is answered, as the event of that name says.
use Rattle.std.specs.Prelude.{◌≡◌, ◌&&◌, not, Bool, true, false, nat_le, Option, Result, Ok, Err}
use Rattle.dk_types.specs.declared.job.Input.{Input}
use Rattle.dk_types.specs.declared.limits.TheConstants.{INPUTS_MOST_COUNT}
use Rattle.dk_model.specs.declared.waiting.Waiting.TheVariants as waits
use Rattle.dk_model.specs.Worlds.{Connection}
use Rattle.dk_model.specs.Deliveries.{is_disconnect}
use Rattle.dk_model.specs.Events.{is_open_at, waiting_at}
use Rattle.dk_connections.specs.declared.answers.PostRefused.{PostRefused}
use Rattle.dk_connections.specs.declared.answers.PostRefused.TheVariants as refused

-- as many inputs wait as may wait, and a Disconnect comes on top
abbrev pub has_no_place_at : Option Connection → Input → Bool
has_no_place_at c input = nat_le INPUTS_MOST_COUNT (waiting_at c) && not (is_disconnect (waits.Input input))

-- closed, where the connection is, or is not there; else full, where the queue is; else taken, or refused for memory, which a Disconnect never is
abbrev pub PostAnswer : Option Connection → Input → Result (Unit {0}) PostRefused → Type 0
PostAnswer c input (Ok taken) = (is_open_at c ≡ true) × (has_no_place_at c input ≡ false)
PostAnswer c input (Err refused.Closed) = is_open_at c ≡ false
PostAnswer c input (Err (refused.QueueFull n)) = (is_open_at c ≡ true) × (has_no_place_at c input ≡ true) × (n ≡ waiting_at c)
PostAnswer c input (Err refused.NoMemory) = (is_open_at c ≡ true) × (has_no_place_at c input ≡ false) × (is_disconnect (waits.Input input) ≡ false)
