use Rattle.std.proofs.Common.{◌∙◌, Option, Some, ap, codes}
use Rattle.std.specs.Option.{option_map_or}
use Rattle.clap.specs.Words.{Text, found_of}
use Rattle.clap.proofs.WalkLemmas.{first_value-rows}
use Rattle.dk_command.specs.Games.{game_of_word}
use Rattle.dk_command.specs.Matches.{game_in}
use Rattle.dk_command.specs.declared.command.GameName.TheVariants as game
use Rattle.dk_command.proofs.matches.game.Goals as goal

pub returns-in-Some : goal.returns-in-Some
unfolding game_in
returns-in-Some c = c.of_word.ensures ∙ ap (λ (o : Option Text). option_map_or game_of_word o (Some game.SwordWorld))
    (c.in-Some.ensures ∙ first_value-rows (found_of c.args.matches.now) (codes "game"))

pub returns-in-None : goal.returns-in-None
unfolding game_in
returns-in-None c = ap (λ (o : Option Text). option_map_or game_of_word o (Some game.SwordWorld))
    (c.in-None.ensures ∙ first_value-rows (found_of c.args.matches.now) (codes "game"))
