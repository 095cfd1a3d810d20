use Rattle.std.proofs.Common.{◌∙◌, ap, codes, is_some, refl, sym}
use Rattle.std.specs.Prelude.{Err}
use Rattle.clap.specs.Words.{app_of}
use Rattle.clap.specs.Walk.{texts}
use Rattle.dk_command.specs.Grammar.{inspect_app}
use Rattle.dk_command.specs.declared.command.Command.TheVariants.{Inspect}
use Rattle.dk_command.proofs.AnswerLemmas.{fault_up, given_here, memory_up, no_game_here, other_up, plain_here, read_here, values_here}
use Rattle.dk_command.proofs.GrammarFacts.{inspect_has_game, inspect_is_plain, inspect_wants_dir}
use Rattle.dk_command.proofs.subcommands.inspect.Goals as goal

pub returns-in_err-texts : goal.returns-in_err-texts
returns-in_err-texts c = memory_up inspect_app c.args.words.now c.from_residual.result c.from_residual.ensures.1

pub returns-in_err-grammar : goal.returns-in_err-grammar
returns-in_err-grammar c = memory_up inspect_app c.args.words.now c.from_residual-in_err-grammar.result c.from_residual-in_err-grammar.ensures.1

pub read-requires : goal.read-requires
read-requires c = plain_here (app_of c.in_ok-grammar.grammar) inspect_app c.in_ok-grammar.ensures inspect_is_plain

pub returns-in_err-matches : goal.returns-in_err-matches
returns-in_err-matches c =
    fault_up (app_of c.in_ok-grammar.grammar) inspect_app (texts c.as_slice.result.now) c.args.words.now c.in_err-matches.field-0.0 c.in_ok-grammar.ensures
    (ap texts c.as_slice.ensures.value ∙ c.in_ok-texts.ensures) c.in_err-matches.ensures.usage c.from_residual-in_err-matches.result c.from_residual-in_err-matches.ensures.1

pub returns-in_default : goal.returns-in_default
returns-in_default c =
    let read = read_here (app_of c.in_ok-grammar.grammar) inspect_app (texts c.as_slice.result.now) c.args.words.now c.in_ok-matches.matches c.in_ok-grammar.ensures
    (ap texts c.as_slice.ensures.value ∙ c.in_ok-texts.ensures) c.in_ok-matches.ensures.ok in
    no_game_here inspect_app c.args.words.now c.in_ok-matches.matches read inspect_has_game (sym c.in_default.is ∙ c.game.ensures)

pub dir-requires : goal.dir-requires
dir-requires c = given_here (app_of c.in_ok-grammar.grammar) inspect_app (texts c.as_slice.result.now) c.in_ok-matches.matches c.in_ok-grammar.ensures c.in_ok-matches.ensures.ok (codes "DIR") inspect_wants_dir

pub returns-in_err-dir : goal.returns-in_err-dir
returns-in_err-dir c = other_up inspect_app c.args.words.now c.in_err-dir.field-0.0 (λ e. c.in_err-dir.ensures.usage (ap Err e)) c.from_residual-in_err-dir.result c.from_residual-in_err-dir.ensures.1

pub returns : goal.returns
returns c =
    let read = read_here (app_of c.in_ok-grammar.grammar) inspect_app (texts c.as_slice.result.now) c.args.words.now c.in_ok-matches.matches c.in_ok-grammar.ensures
    (ap texts c.as_slice.ensures.value ∙ c.in_ok-texts.ensures) c.in_ok-matches.ensures.ok in
    values_here inspect_app c.args.words.now c.in_ok-matches.matches (Inspect c.in_ok-dir.field-0 c.in-Some.game) read (λ has. ap is_some (sym c.game.ensures ∙ c.in-Some.is)) refl
    (c.in_ok-dir.ensures.ok, sym c.game.ensures ∙ c.in-Some.is)
