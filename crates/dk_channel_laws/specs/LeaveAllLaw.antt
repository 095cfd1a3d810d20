-- All members' leaving is their leaving one after another.
use Rattle.std.specs.Prelude.{◌≡◌, ℕ, ◌<◌, All, Some, List, [], ◌∷◌, Ok}
use Rattle.std.specs.FinMap.{get}
use Rattle.dk_types.specs.declared.job.Session.{Session}
use Rattle.dk_types.specs.declared.number.ObjectId.{ObjectId}
use Rattle.dk_types.specs.declared.object.Object.{Object}
use Rattle.dk_model.specs.DurableWorlds.{DurableWorld}
use Rattle.dk_model.specs.Runs.{Run, Act, give, and_then}
use Rattle.dk_model.specs.Platforms.{leave, leave_all, members}

-- these sessions leave a channel, one after another
abbrev pub leave_each : List ℕ → List Session → Act (Unit {0})
leave_each name [] = give (Ok tt)
leave_each name (session ∷ sessions) = and_then (leave name session) (λ _. leave_each name sessions)

-- each object holds bytes, as each of a valid world does
abbrev pub AreBytesAll : DurableWorld → Type 0
AreBytesAll d = (id : ObjectId) (object : Object) → get d.objects id ≡ Some object → All (λ b. b < 256) object.bytes

-- Where no leave of the channel's members is refused, one after another in joining order, `leave_all` is not refused either.
-- The run after it is the run after those leaves, its world too. Only the list of written items may differ.
abbrev pub LeaveAllIsEachLeave : Type 0
LeaveAllIsEachLeave =
    (name : List ℕ) (all : List Session) (s t : Run) → AreBytesAll s.world → members name s ≡ (Ok all, s) → leave_each name all s ≡ (Ok tt, t)
    → (u : Run) × (leave_all name s ≡ (Ok tt, u)) × (u.world ≡ t.world) × (u ≡ record t { touched = u.touched })
