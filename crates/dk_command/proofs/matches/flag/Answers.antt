use Rattle.clap.specs.Words.{found_of, one_of, one_text, rows_of}
use Rattle.clap.proofs.WalkLemmas.{one_text-rows}
use Rattle.dk_command.specs.Found.{IsFlag}
use Rattle.dk_command.specs.Matches.{is_set}
use Rattle.dk_command.proofs.GetterLemmas.{flag_value}
use Rattle.dk_command.proofs.matches.flag.Goals as goal

pub returns : goal.returns
unfolding is_set IsFlag
returns c =
    let f = found_of c.args.matches.now in
    let name = c.args.name.now in
    flag_value (one_of name (rows_of f)) (one_text f name) (one_text-rows f name) c.requires c.get_flag.result c.get_flag.ensures.none c.get_flag.ensures.value c.get_flag.ensures.other
