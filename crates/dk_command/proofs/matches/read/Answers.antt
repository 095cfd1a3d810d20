use Rattle.std.proofs.Common.{◌∙◌}
use Rattle.clap.specs.Words.{app_of, fault_of, is_simple_and_free}
use Rattle.clap.specs.Walk.{texts}
use Rattle.clap.proofs.WalkLemmas.{both}
use Rattle.dk_command.proofs.FoundValues.{read_as_grammar, shows_fault}
use Rattle.dk_command.proofs.matches.read.Goals as goal

pub returns-in-Ok : goal.returns-in-Ok
returns-in-Ok c =
    let simple = (both (is_simple_and_free (app_of c.args.command)) _ c.requires).0 in
    record {
      ok = read_as_grammar c.args.command c.in-Ok.matches (texts c.args.words.now) c.requires c.in-Ok.ensures.parsed c.in-Ok.ensures.matches (c.in-Ok.ensures.kinds simple);
      usage = λ bad is. cc;
    }

pub returns : goal.returns
returns c =
    let simple = (both (is_simple_and_free (app_of c.args.command)) _ c.requires).0 in
    record {
      ok = tt;
      usage = λ bad. shows_fault (fault_of (app_of c.args.command) (texts c.args.words.now)) c.in-Err.error (c.in-Err.ensures.kinds simple) (λ k. c.in_default.not-OutOfMemory (c.kind.ensures ∙ k));
    }
