use Rattle.std.proofs.Common.{◌∙◌, ◌^◌, ap, arith, codes, is_some, refl, sym}
use Rattle.std.specs.Prelude.{Err}
use Rattle.clap.specs.Words.{app_of, found_of, rows_of}
use Rattle.clap.specs.Walk.{texts}
use Rattle.dk_command.specs.Matches.{limit_of}
use Rattle.dk_command.specs.Grammar.{serve_app}
use Rattle.dk_command.proofs.AnswerLemmas.{between_here, fault_up, few_served, few_up, given_here, memory_up, no_game_here, number_fits, other_up, plain_here, read_here, values_here}
use Rattle.dk_command.proofs.GrammarFacts.{serve_clients, serve_has_game, serve_is_plain, serve_port, serve_sessions, serve_wants_dir, serve_workers}
use Rattle.dk_command.proofs.subcommands.serve.Goals as goal

pub returns-in_err-texts : goal.returns-in_err-texts
returns-in_err-texts c = record {
  answer = memory_up serve_app c.args.words.now c.from_residual.result c.from_residual.ensures.1;
  few = few_up _ c.from_residual.result c.from_residual.ensures.1;
}

pub returns-in_err-grammar : goal.returns-in_err-grammar
returns-in_err-grammar c = record {
  answer = memory_up serve_app c.args.words.now c.from_residual-in_err-grammar.result c.from_residual-in_err-grammar.ensures.1;
  few = few_up _ c.from_residual-in_err-grammar.result c.from_residual-in_err-grammar.ensures.1;
}

pub read-requires : goal.read-requires
read-requires c = plain_here (app_of c.in_ok-grammar.grammar) serve_app c.in_ok-grammar.ensures serve_is_plain

pub returns-in_err-matches : goal.returns-in_err-matches
returns-in_err-matches c = record {
  answer = fault_up (app_of c.in_ok-grammar.grammar) serve_app (texts c.as_slice.result.now) c.args.words.now c.in_err-matches.field-0.0 c.in_ok-grammar.ensures
      (ap texts c.as_slice.ensures.value ∙ c.in_ok-texts.ensures) c.in_err-matches.ensures.usage c.from_residual-in_err-matches.result c.from_residual-in_err-matches.ensures.1;
  few = few_up _ c.from_residual-in_err-matches.result c.from_residual-in_err-matches.ensures.1;
}

pub returns-in_default : goal.returns-in_default
returns-in_default c =
    let read = read_here (app_of c.in_ok-grammar.grammar) serve_app (texts c.as_slice.result.now) c.args.words.now c.in_ok-matches.matches c.in_ok-grammar.ensures
    (ap texts c.as_slice.ensures.value ∙ c.in_ok-texts.ensures) c.in_ok-matches.ensures.ok in
    record { answer = no_game_here serve_app c.args.words.now c.in_ok-matches.matches read serve_has_game (sym c.in_default.is ∙ c.game.ensures); few = tt }

pub dir-requires : goal.dir-requires
dir-requires c = given_here (app_of c.in_ok-grammar.grammar) serve_app (texts c.as_slice.result.now) c.in_ok-matches.matches c.in_ok-grammar.ensures c.in_ok-matches.ensures.ok (codes "DIR") serve_wants_dir

pub returns-in_err-dir : goal.returns-in_err-dir
returns-in_err-dir c = record {
  answer = other_up serve_app c.args.words.now c.in_err-dir.field-0.0 (λ e. c.in_err-dir.ensures.usage (ap Err e)) c.from_residual-in_err-dir.result c.from_residual-in_err-dir.ensures.1;
  few = few_up _ c.from_residual-in_err-dir.result c.from_residual-in_err-dir.ensures.1;
}

pub number-requires : goal.number-requires
number-requires c = (1, 65535, between_here (app_of c.in_ok-grammar.grammar) serve_app (texts c.as_slice.result.now) c.in_ok-matches.matches c.in_ok-grammar.ensures c.in_ok-matches.ensures.ok (codes "port") 1 65535 serve_port)

pub number-requires-2 : goal.number-requires-2
number-requires-2 c = (1, 64, between_here (app_of c.in_ok-grammar.grammar) serve_app (texts c.as_slice.result.now) c.in_ok-matches.matches c.in_ok-grammar.ensures c.in_ok-matches.ensures.ok (codes "workers") 1 64 serve_workers)

pub number-requires-3 : goal.number-requires-3
number-requires-3 c = (1, 256, between_here (app_of c.in_ok-grammar.grammar) serve_app (texts c.as_slice.result.now) c.in_ok-matches.matches c.in_ok-grammar.ensures c.in_ok-matches.ensures.ok (codes "clients") 1 256 serve_clients)

pub number-requires-4 : goal.number-requires-4
number-requires-4 c = (0, 1000000, between_here (app_of c.in_ok-grammar.grammar) serve_app (texts c.as_slice.result.now) c.in_ok-matches.matches c.in_ok-grammar.ensures c.in_ok-matches.ensures.ok (codes "sessions") 0 1000000 serve_sessions)

pub overflow_cast-result : goal.overflow_cast-result
overflow_cast-result c = record {
  fits = number_fits 1 65535 0 (2 ^ 16) (codes "port") (rows_of (found_of c.in_ok-matches.matches)) c.number.result c.number.ensures
      (between_here (app_of c.in_ok-grammar.grammar) serve_app (texts c.as_slice.result.now) c.in_ok-matches.matches c.in_ok-grammar.ensures c.in_ok-matches.ensures.ok (codes "port") 1 65535 serve_port)
      (omega arith) (omega arith);
}

pub overflow_cast-result-2 : goal.overflow_cast-result-2
overflow_cast-result-2 c = record {
  fits = number_fits 1 64 2 (2 ^ 8) (codes "workers") (rows_of (found_of c.in_ok-matches.matches)) c.number-2.result c.number-2.ensures
      (between_here (app_of c.in_ok-grammar.grammar) serve_app (texts c.as_slice.result.now) c.in_ok-matches.matches c.in_ok-grammar.ensures c.in_ok-matches.ensures.ok (codes "workers") 1 64 serve_workers)
      (omega arith) (omega arith);
}

pub overflow_cast-result-3 : goal.overflow_cast-result-3
overflow_cast-result-3 c = record {
  fits = number_fits 1 256 16 (2 ^ 16) (codes "clients") (rows_of (found_of c.in_ok-matches.matches)) c.number-3.result c.number-3.ensures
      (between_here (app_of c.in_ok-grammar.grammar) serve_app (texts c.as_slice.result.now) c.in_ok-matches.matches c.in_ok-grammar.ensures c.in_ok-matches.ensures.ok (codes "clients") 1 256 serve_clients)
      (omega arith) (omega arith);
}

pub returns : goal.returns
returns c =
    let read = read_here (app_of c.in_ok-grammar.grammar) serve_app (texts c.as_slice.result.now) c.args.words.now c.in_ok-matches.matches c.in_ok-grammar.ensures
    (ap texts c.as_slice.ensures.value ∙ c.in_ok-texts.ensures) c.in_ok-matches.ensures.ok in
    let within = between_here (app_of c.in_ok-grammar.grammar) serve_app (texts c.as_slice.result.now) c.in_ok-matches.matches c.in_ok-grammar.ensures c.in_ok-matches.ensures.ok in
    record {
      answer = values_here serve_app c.args.words.now c.in_ok-matches.matches _ read (λ has. ap is_some (sym c.game.ensures ∙ c.in-Some.is)) refl
          (c.in_ok-dir.ensures.ok, c.number.ensures, sym c.game.ensures ∙ c.in-Some.is, c.number-2.ensures, c.number-3.ensures, c.limit.ensures ∙ ap limit_of c.number-4.ensures);
      few = few_served (rows_of (found_of c.in_ok-matches.matches)) c.number-2.result c.number-3.result c.number-2.ensures (within (codes "workers") 1 64 serve_workers)
          c.number-3.ensures (within (codes "clients") 1 256 serve_clients);
    }
