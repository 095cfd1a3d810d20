-- What the channels mean: what each job does, said on the run in its midst.
use Rattle.std.specs.Prelude.{ℕ, true, false, None, List, ◌++◌, Ok, codes}
use Rattle.dk_types.specs.declared.job.Job.{Job}
use Rattle.dk_types.specs.declared.job.Job.TheVariants as job
use Rattle.dk_types.specs.declared.job.Session.{Session}
use Rattle.dk_model.specs.declared.records.Delivery.TheVariants.{Reliable}
use Rattle.dk_model.specs.Runs.{Act, give, and_then}
use Rattle.dk_model.specs.Platforms.{join, channel_send}
use Rattle.dk_model.specs.Steps.{of_session}
use Rattle.dk_channels.specs.Channels.{create_channel}
use Rattle.dk_demos.specs.Commands.{message}

-- the channel whose messages are sent on to its members
abbrev pub foo : List ℕ
foo = codes "Foo"

-- the channel to which the game listens
abbrev pub bar : List ℕ
bar = codes "Bar"

-- both channels are made, without members
unfoldable pub begin : Act (Unit {0})
begin = and_then (create_channel foo false Reliable) (λ _. and_then (create_channel bar true Reliable) (λ _. give (Ok tt)))

-- who logs in joins both
unfoldable pub login : Session → Act (Unit {0})
login session = and_then (join foo session) (λ _. join bar session)

-- what the members are told of a client's message
abbrev pub heard : List ℕ → List ℕ
heard body = codes "heard: " ++ body

-- what the game hears it tells to all members, with no sender
unfoldable pub hear : List ℕ → List ℕ → Act (Unit {0})
hear channel body = channel_send channel None (heard body)

-- what each job does
abbrev pub channels_rules : Job → Act (Unit {0})
channels_rules job.Initialize = begin
channels_rules (job.Login conn name) = login (of_session conn name)
channels_rules (job.Message conn name body) = message (of_session conn name) body
channels_rules (job.Channel conn name channel body) = hear channel body
channels_rules (job.Disconnect conn name graceful) = give (Ok tt)
channels_rules (job.Task key due period kind arg) = give (Ok tt)
