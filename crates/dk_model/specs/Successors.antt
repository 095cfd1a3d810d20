-- The world that an event leads to, which `Events` says, and the world after a history.
use Rattle.std.specs.Prelude.{Option, Some, None, List, [], ◌∷◌}
use Rattle.std.specs.FinMap.{get}
use Rattle.dk_types.specs.declared.number.RunNo.{RunNo}
use Rattle.dk_types.specs.declared.event.Event.{Event}
use Rattle.dk_types.specs.declared.event.Event.TheVariants as event
use Rattle.dk_model.specs.Worlds.{World, Claim}
use Rattle.dk_model.specs.Steps.{Stepped}
use Rattle.dk_model.specs.Events.{Meaning, step_of, after_release, after_step, after_hand, after_tick}
pub use Rattle.dk_model.specs.Events.{after_connect, after_post, after_claim}

-- what a commit of this run steps, where it is claimed
abbrev pub stepped_at : Meaning → World → RunNo → Option Claim → Option Stepped
stepped_at rules w run None = None
stepped_at rules w run (Some claim) = Some (step_of rules w run claim)

-- the world after a Commit, where its claim was found
abbrev pub after_commit : Meaning → World → RunNo → Option Claim → World
after_commit rules w run None = w
after_commit rules w run (Some claim) = after_step rules w run claim

-- the one world that the event leads to, where it may happen
unfoldable pub after_event : Meaning → World → Event → World
after_event rules w (event.Connect pass name reply) = after_connect w name reply
after_event rules w (event.Post pass conn input reply) = after_post w conn input reply
after_event rules w (event.Claim pass reply) = after_claim w pass reply
after_event rules w (event.Release pass run) = after_release w run
after_event rules w (event.Commit pass run seq outcome) = after_commit rules w run (get w.claims run)
after_event rules w (event.Hand pass conn most outs end) = after_hand w conn most
after_event rules w (event.Tick pass moment) = after_tick w moment

-- the world after events, one after another
abbrev pub after_events : Meaning → World → List Event → World
after_events rules w [] = w
after_events rules w (e ∷ events) = after_events rules (after_event rules w e) events

-- what a commit steps; every other event steps nothing
abbrev pub step_by : Meaning → World → Event → Option Stepped
step_by rules w (event.Commit pass run seq outcome) = stepped_at rules w run (get w.claims run)
step_by rules w (event.Connect pass name reply) = None
step_by rules w (event.Post pass conn input reply) = None
step_by rules w (event.Claim pass reply) = None
step_by rules w (event.Release pass run) = None
step_by rules w (event.Hand pass conn most outs end) = None
step_by rules w (event.Tick pass moment) = None
