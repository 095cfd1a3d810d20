use Rattle.std.proofs.Common.{◌∙◌, refl, sym}
use Rattle.dk_command.specs.Grammar.{check_app, inspect_app, play_app, serve_app, stress_app}
use Rattle.dk_command.proofs.LineLemmas.{answers_ok, answers_usage, known, line_app, named_check, named_inspect, named_none, named_play, named_serve, named_stress, no_line, no_words}
use Rattle.dk_command.proofs.OneRequest.{answers_few, answers_one, check_is_other, check_serves_none, inspect_is_other, inspect_serves_none, play_is_other, play_serves_none}
use Rattle.dk_command.proofs.parse.parse_command.Goals as goal

pub returns-then-count-eq0-clause-usage : goal.returns-then-count-eq0-clause-usage
returns-then-count-eq0-clause-usage c =
    let none = no_words c.args.words.now (sym c.count.ensures ∙ c.if-count-eq0.true) in
    λ memory. ((λ e. no_line c.args.words.now none), (λ no. refl))

pub returns-in-play : goal.returns-in-play
returns-in-play c =
    let words = c.args.words.now in
    let app = line_app words c.word.result.now _ c.word.ensures (named_play c.word.result.now c.in-play.is) in
    record {
      ok = answers_ok words play_app app c.play.result c.play.ensures;
      one = answers_one words c.play.result (answers_ok words play_app app c.play.result c.play.ensures);
      few = answers_few words play_app c.play.result c.play.ensures play_is_other play_serves_none;
      usage = answers_usage words play_app app c.play.result c.play.ensures;
      unknown = λ none. absurd (known words play_app app none);
    }

pub returns-in-serve : goal.returns-in-serve
returns-in-serve c =
    let words = c.args.words.now in
    let app = line_app words c.word.result.now _ c.word.ensures (named_serve c.word.result.now c.in-serve.is) in
    record {
      ok = answers_ok words serve_app app c.serve.result c.serve.ensures.answer;
      one = answers_one words c.serve.result (answers_ok words serve_app app c.serve.result c.serve.ensures.answer);
      few = c.serve.ensures.few;
      usage = answers_usage words serve_app app c.serve.result c.serve.ensures.answer;
      unknown = λ none. absurd (known words serve_app app none);
    }

pub returns-in-check : goal.returns-in-check
returns-in-check c =
    let words = c.args.words.now in
    let app = line_app words c.word.result.now _ c.word.ensures (named_check c.word.result.now c.in-check.is) in
    record {
      ok = answers_ok words check_app app c.check.result c.check.ensures;
      one = answers_one words c.check.result (answers_ok words check_app app c.check.result c.check.ensures);
      few = answers_few words check_app c.check.result c.check.ensures check_is_other check_serves_none;
      usage = answers_usage words check_app app c.check.result c.check.ensures;
      unknown = λ none. absurd (known words check_app app none);
    }

pub returns-in-inspect : goal.returns-in-inspect
returns-in-inspect c =
    let words = c.args.words.now in
    let app = line_app words c.word.result.now _ c.word.ensures (named_inspect c.word.result.now c.in-inspect.is) in
    record {
      ok = answers_ok words inspect_app app c.inspect.result c.inspect.ensures;
      one = answers_one words c.inspect.result (answers_ok words inspect_app app c.inspect.result c.inspect.ensures);
      few = answers_few words inspect_app c.inspect.result c.inspect.ensures inspect_is_other inspect_serves_none;
      usage = answers_usage words inspect_app app c.inspect.result c.inspect.ensures;
      unknown = λ none. absurd (known words inspect_app app none);
    }

pub returns-in-stress : goal.returns-in-stress
returns-in-stress c =
    let words = c.args.words.now in
    let app = line_app words c.word.result.now _ c.word.ensures (named_stress c.word.result.now c.in-stress.is) in
    record {
      ok = answers_ok words stress_app app c.stress.result c.stress.ensures.answer;
      one = answers_one words c.stress.result (answers_ok words stress_app app c.stress.result c.stress.ensures.answer);
      few = c.stress.ensures.few;
      usage = answers_usage words stress_app app c.stress.result c.stress.ensures.answer;
      unknown = λ none. absurd (known words stress_app app none);
    }

pub returns-in_default : goal.returns-in_default
returns-in_default c =
    let words = c.args.words.now in
    let none = line_app words c.word.result.now _ c.word.ensures
    (named_none c.word.result.now c.in_default.not-play c.in_default.not-serve c.in_default.not-check c.in_default.not-inspect c.in_default.not-stress) in
    record {
      ok = tt;
      one = λ request asks. tt;
      few = tt;
      usage = λ memory. ((λ e. no_line words none), (λ no. refl));
      unknown = λ is. refl;
    }
