-- A game of two channels, one without a listener and one with.
use Rattle.std.specs.Prelude.{ℕ, true, false, None, List, ◌++◌, codes, Ok}
use Rattle.dk_types.specs.declared.job.Job.{Job}
use Rattle.dk_types.specs.declared.job.Job.TheVariants as job
use Rattle.dk_model.specs.declared.records.Delivery.TheVariants.{Reliable}
use Rattle.dk_model.specs.Runs.{Act, give, and_then}
use Rattle.dk_model.specs.Platforms.{create_channel, join, channel_send}
use Rattle.dk_model.specs.Steps.{of_session}

-- a channel's name
abbrev pub foo : List ℕ
foo = codes "Foo"

-- a channel's name
abbrev pub bar : List ℕ
bar = codes "Bar"

-- both channels are made first; who logs in joins both; what the game hears it tells to the channel; a message names a channel to join
abbrev pub channel_rules : Job → Act (Unit {0})
channel_rules job.Initialize = and_then (create_channel foo false Reliable) (λ _. create_channel bar true Reliable)
channel_rules (job.Login conn name) = and_then (join foo (of_session conn name)) (λ _. join bar (of_session conn name))
channel_rules (job.Channel conn name channel body) = channel_send channel None (codes "heard: " ++ body)
channel_rules (job.Message conn name body) = join body (of_session conn name)
channel_rules (job.Disconnect conn name graceful) = give (Ok tt)
channel_rules (job.Task key due period kind arg) = give (Ok tt)
