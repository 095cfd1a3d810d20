use Rattle.std.proofs.Common.{◌∙◌, ◌^◌, ap, arith, codes, is_some, refl, sym}
use Rattle.std.specs.Prelude.{Err}
use Rattle.clap.specs.Words.{app_of, found_of, rows_of}
use Rattle.clap.specs.Walk.{texts}
use Rattle.dk_command.specs.Grammar.{play_app}
use Rattle.dk_command.proofs.AnswerLemmas.{between_here, fault_up, flag_here, given_here, memory_up, no_game_here, number_fits, other_up, plain_here, read_here, values_here}
use Rattle.dk_command.proofs.GrammarFacts.{play_budget, play_checkpoint, play_has_game, play_is_plain, play_wants_dir, play_workers}
use Rattle.dk_command.proofs.subcommands.play.Goals as goal

pub returns-in_err-texts : goal.returns-in_err-texts
returns-in_err-texts c = memory_up play_app c.args.words.now c.from_residual.result c.from_residual.ensures.1

pub returns-in_err-grammar : goal.returns-in_err-grammar
returns-in_err-grammar c = memory_up play_app c.args.words.now c.from_residual-in_err-grammar.result c.from_residual-in_err-grammar.ensures.1

pub read-requires : goal.read-requires
read-requires c = plain_here (app_of c.in_ok-grammar.grammar) play_app c.in_ok-grammar.ensures play_is_plain

pub returns-in_err-matches : goal.returns-in_err-matches
returns-in_err-matches c =
    fault_up (app_of c.in_ok-grammar.grammar) play_app (texts c.as_slice.result.now) c.args.words.now c.in_err-matches.field-0.0 c.in_ok-grammar.ensures
    (ap texts c.as_slice.ensures.value ∙ c.in_ok-texts.ensures) c.in_err-matches.ensures.usage c.from_residual-in_err-matches.result c.from_residual-in_err-matches.ensures.1

pub returns-in_default : goal.returns-in_default
returns-in_default c =
    let read = read_here (app_of c.in_ok-grammar.grammar) play_app (texts c.as_slice.result.now) c.args.words.now c.in_ok-matches.matches c.in_ok-grammar.ensures
    (ap texts c.as_slice.ensures.value ∙ c.in_ok-texts.ensures) c.in_ok-matches.ensures.ok in
    no_game_here play_app c.args.words.now c.in_ok-matches.matches read play_has_game (sym c.in_default.is ∙ c.game.ensures)

pub dir-requires : goal.dir-requires
dir-requires c = given_here (app_of c.in_ok-grammar.grammar) play_app (texts c.as_slice.result.now) c.in_ok-matches.matches c.in_ok-grammar.ensures c.in_ok-matches.ensures.ok (codes "DIR") play_wants_dir

pub returns-in_err-dir : goal.returns-in_err-dir
returns-in_err-dir c = other_up play_app c.args.words.now c.in_err-dir.field-0.0 (λ e. c.in_err-dir.ensures.usage (ap Err e)) c.from_residual-in_err-dir.result c.from_residual-in_err-dir.ensures.1

pub number-requires : goal.number-requires
number-requires c = (1, 64, between_here (app_of c.in_ok-grammar.grammar) play_app (texts c.as_slice.result.now) c.in_ok-matches.matches c.in_ok-grammar.ensures c.in_ok-matches.ensures.ok (codes "workers") 1 64 play_workers)

pub number-requires-2 : goal.number-requires-2
number-requires-2 c = (1, 1000000000, between_here (app_of c.in_ok-grammar.grammar) play_app (texts c.as_slice.result.now) c.in_ok-matches.matches c.in_ok-grammar.ensures c.in_ok-matches.ensures.ok (codes "budget") 1 1000000000 play_budget)

pub flag-requires : goal.flag-requires
flag-requires c = flag_here (app_of c.in_ok-grammar.grammar) play_app (texts c.as_slice.result.now) c.in_ok-matches.matches c.in_ok-grammar.ensures c.in_ok-matches.ensures.ok (codes "checkpoint") play_checkpoint

pub overflow_cast-result : goal.overflow_cast-result
overflow_cast-result c = record {
  fits = number_fits 1 64 1 (2 ^ 8) (codes "workers") (rows_of (found_of c.in_ok-matches.matches)) c.number.result c.number.ensures
      (between_here (app_of c.in_ok-grammar.grammar) play_app (texts c.as_slice.result.now) c.in_ok-matches.matches c.in_ok-grammar.ensures c.in_ok-matches.ensures.ok (codes "workers") 1 64 play_workers)
      (omega arith) (omega arith);
}

pub returns : goal.returns
returns c =
    let read = read_here (app_of c.in_ok-grammar.grammar) play_app (texts c.as_slice.result.now) c.args.words.now c.in_ok-matches.matches c.in_ok-grammar.ensures
    (ap texts c.as_slice.ensures.value ∙ c.in_ok-texts.ensures) c.in_ok-matches.ensures.ok in
    values_here play_app c.args.words.now c.in_ok-matches.matches _ read (λ has. ap is_some (sym c.game.ensures ∙ c.in-Some.is)) refl
    (c.in_ok-dir.ensures.ok, sym c.game.ensures ∙ c.in-Some.is, c.number.ensures, c.number-2.ensures, c.flag.ensures)
