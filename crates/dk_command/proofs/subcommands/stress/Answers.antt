use Rattle.std.proofs.Common.{◌∙◌, ◌^◌, ap, arith, codes, refl}
use Rattle.clap.specs.Words.{app_of, found_of, rows_of}
use Rattle.clap.specs.Walk.{texts}
use Rattle.dk_command.specs.Grammar.{stress_app}
use Rattle.dk_command.proofs.AnswerLemmas.{between_here, few_here, few_up, fault_up, memory_up, number_fits, plain_here, read_here, values_here}
use Rattle.dk_command.proofs.GrammarFacts.{stress_has_no_game, stress_is_plain, stress_seed, stress_tasks, stress_workers}
use Rattle.dk_command.proofs.subcommands.stress.Goals as goal

pub returns-in_err-texts : goal.returns-in_err-texts
returns-in_err-texts c = record {
  answer = memory_up stress_app c.args.words.now c.from_residual.result c.from_residual.ensures.1;
  few = few_up _ c.from_residual.result c.from_residual.ensures.1;
}

pub returns-in_err-grammar : goal.returns-in_err-grammar
returns-in_err-grammar c = record {
  answer = memory_up stress_app c.args.words.now c.from_residual-in_err-grammar.result c.from_residual-in_err-grammar.ensures.1;
  few = few_up _ c.from_residual-in_err-grammar.result c.from_residual-in_err-grammar.ensures.1;
}

pub read-requires : goal.read-requires
read-requires c = plain_here (app_of c.in_ok-grammar.grammar) stress_app c.in_ok-grammar.ensures stress_is_plain

pub returns-in_err-matches : goal.returns-in_err-matches
returns-in_err-matches c = record {
  answer = fault_up (app_of c.in_ok-grammar.grammar) stress_app (texts c.as_slice.result.now) c.args.words.now c.in_err-matches.field-0.0 c.in_ok-grammar.ensures
      (ap texts c.as_slice.ensures.value ∙ c.in_ok-texts.ensures) c.in_err-matches.ensures.usage c.from_residual-in_err-matches.result c.from_residual-in_err-matches.ensures.1;
  few = few_up _ c.from_residual-in_err-matches.result c.from_residual-in_err-matches.ensures.1;
}

pub number-requires : goal.number-requires
number-requires c = (0, 65536, between_here (app_of c.in_ok-grammar.grammar) stress_app (texts c.as_slice.result.now) c.in_ok-matches.matches c.in_ok-grammar.ensures c.in_ok-matches.ensures.ok (codes "seed") 0 65536 stress_seed)

pub number-requires-2 : goal.number-requires-2
number-requires-2 c = (1, 65536, between_here (app_of c.in_ok-grammar.grammar) stress_app (texts c.as_slice.result.now) c.in_ok-matches.matches c.in_ok-grammar.ensures c.in_ok-matches.ensures.ok (codes "tasks") 1 65536 stress_tasks)

pub number-requires-3 : goal.number-requires-3
number-requires-3 c = (1, 64, between_here (app_of c.in_ok-grammar.grammar) stress_app (texts c.as_slice.result.now) c.in_ok-matches.matches c.in_ok-grammar.ensures c.in_ok-matches.ensures.ok (codes "workers") 1 64 stress_workers)

pub overflow_cast-result : goal.overflow_cast-result
overflow_cast-result c = record {
  fits = number_fits 0 65536 1 (2 ^ 32) (codes "seed") (rows_of (found_of c.in_ok-matches.matches)) c.number.result c.number.ensures
      (between_here (app_of c.in_ok-grammar.grammar) stress_app (texts c.as_slice.result.now) c.in_ok-matches.matches c.in_ok-grammar.ensures c.in_ok-matches.ensures.ok (codes "seed") 0 65536 stress_seed)
      (omega arith) (omega arith);
}

pub overflow_cast-result-2 : goal.overflow_cast-result-2
overflow_cast-result-2 c = record {
  fits = number_fits 1 65536 1000 (2 ^ 32) (codes "tasks") (rows_of (found_of c.in_ok-matches.matches)) c.number-2.result c.number-2.ensures
      (between_here (app_of c.in_ok-grammar.grammar) stress_app (texts c.as_slice.result.now) c.in_ok-matches.matches c.in_ok-grammar.ensures c.in_ok-matches.ensures.ok (codes "tasks") 1 65536 stress_tasks)
      (omega arith) (omega arith);
}

pub overflow_cast-result-3 : goal.overflow_cast-result-3
overflow_cast-result-3 c = record {
  fits = number_fits 1 64 1 (2 ^ 8) (codes "workers") (rows_of (found_of c.in_ok-matches.matches)) c.number-3.result c.number-3.ensures
      (between_here (app_of c.in_ok-grammar.grammar) stress_app (texts c.as_slice.result.now) c.in_ok-matches.matches c.in_ok-grammar.ensures c.in_ok-matches.ensures.ok (codes "workers") 1 64 stress_workers)
      (omega arith) (omega arith);
}

pub returns : goal.returns
returns c =
    let read = read_here (app_of c.in_ok-grammar.grammar) stress_app (texts c.as_slice.result.now) c.args.words.now c.in_ok-matches.matches c.in_ok-grammar.ensures
    (ap texts c.as_slice.ensures.value ∙ c.in_ok-texts.ensures) c.in_ok-matches.ensures.ok in
    record {
      answer = values_here stress_app c.args.words.now c.in_ok-matches.matches _ read (λ has. absurd (stress_has_no_game has)) refl
          (c.number.ensures, c.number-2.ensures, c.number-3.ensures);
      few = few_here (rows_of (found_of c.in_ok-matches.matches)) c.number-2.result c.number-2.ensures
          (between_here (app_of c.in_ok-grammar.grammar) stress_app (texts c.as_slice.result.now) c.in_ok-matches.matches c.in_ok-grammar.ensures c.in_ok-matches.ensures.ok (codes "tasks") 1 65536 stress_tasks);
    }
