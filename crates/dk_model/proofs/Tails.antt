-- What a stop may leave of a history stays so while the history goes on.
use Rattle.std.proofs.Common.{List, [], ◌++◌, refl, sym, ◌∙◌, ap, append_assoc}
use Rattle.std.proofs.lemmas.List.{append-nil}
use Rattle.dk_types.specs.declared.event.Event.{Event}
use Rattle.dk_model.specs.DurableWorlds.{DurableWorld}
use Rattle.dk_model.specs.Legal.{Opened, world_after}
use Rattle.dk_model.specs.Tails.{IsAfterSome}

-- the world after all of the events
pub after_all : (o : Opened) (events : List Event) → IsAfterSome o events (world_after o events).durable
after_all o events = record { front = events; later = []; parts = sym (append-nil events); world = refl }

-- more events take nothing away
pub after_more : (o : Opened) (events more : List Event) (d : DurableWorld) → IsAfterSome o events d → IsAfterSome o (events ++ more) d
after_more o events more d some =
    record { front = some.front; later = some.later ++ more; parts = ap (λ (l : List Event). l ++ more) some.parts ∙ append_assoc some.front some.later more; world = some.world }
