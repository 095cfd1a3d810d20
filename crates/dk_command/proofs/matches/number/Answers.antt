use Rattle.std.proofs.Common.{◌∙◌}
use Rattle.std.specs.Str.Parse.{ParsesUnsigned, ExplainsUnsignedError, HasUnsignedDigitsIfOk}
use Rattle.clap.specs.Words.{found_of, one_of, one_text, rows_of}
use Rattle.clap.proofs.WalkLemmas.{one_text-rows}
use Rattle.dk_command.specs.Found.{IsBetween}
use Rattle.dk_command.specs.Matches.{number_or}
use Rattle.dk_command.proofs.GetterLemmas.{number_value}
use Rattle.dk_command.proofs.matches.number.Goals as goal

pub returns : goal.returns
unfolding number_or IsBetween
returns c =
    let f = found_of c.args.matches.now in
    let name = c.args.name.now in
    c.unwrap_or.ensures ∙ number_value _ (λ bs r. ParsesUnsigned 64 10 bs r × ExplainsUnsignedError 10 bs r × HasUnsignedDigitsIfOk bs r)
    (one_of name (rows_of f)) (one_text f name) c.requires.0 c.requires.1 c.args.other (one_text-rows f name) c.requires.2 (λ u x g. g.0) c.get_one.result c.get_one.ensures.none c.get_one.ensures.value
