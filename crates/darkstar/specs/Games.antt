-- What the games mean that are shipped.
use Rattle.dk_model.specs.Events.{Meaning}
use Rattle.dk_command.specs.declared.command.GameName.{GameName}
use Rattle.dk_command.specs.declared.command.GameName.TheVariants as game
use Rattle.sword_world.specs.Rules.{sword_rules}
use Rattle.dk_demos.specs.TimerRules.{timer_rules}
use Rattle.dk_demos.specs.ChannelsRules.{channels_rules}

-- the rules of the game of this name
abbrev pub rules_of : GameName → Meaning
rules_of game.SwordWorld = sword_rules
rules_of game.Timer = timer_rules
rules_of game.Channels = channels_rules
