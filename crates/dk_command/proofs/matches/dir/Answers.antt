use Rattle.std.proofs.Common.{◌∙◌, Some, ap, codes, sym}
use Rattle.clap.specs.Words.{Text, first_of, found_of, rows_of}
use Rattle.clap.proofs.WalkLemmas.{first_value-rows}
use Rattle.dk_command.proofs.GetterLemmas.{none_not_some}
use Rattle.dk_command.proofs.matches.dir.Goals as goal

pub returns-in_ok-from_str-in-Some-clause-ok : goal.returns-in_ok-from_str-in-Some-clause-ok
returns-in_ok-from_str-in-Some-clause-ok c =
    sym (c.in-Some.ensures ∙ first_value-rows (found_of c.args.matches.now) (codes "DIR")) ∙ ap (λ (t : Text). Some t) (sym c.in_ok-from_str-in-Some.ensures.ok)

pub returns-in-None-clause-usage : goal.returns-in-None-clause-usage
returns-in-None-clause-usage c = λ bad.
    none_not_some (first_of (codes "DIR") (rows_of (found_of c.args.matches.now))) (c.in-None.ensures ∙ first_value-rows (found_of c.args.matches.now) (codes "DIR")) c.requires
