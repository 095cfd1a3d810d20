use Rattle.std.proofs.Common.{ap₂, ◌∙◌}
use Rattle.std.proofs.lemmas.Result.{IfOk-weaker}
use Rattle.clap.specs.Words.{with_rule}
use Rattle.dk_command.specs.Grammar.{play_app}
use Rattle.dk_command.proofs.grammars.play.Goals as goal

pub returns : goal.returns
unfolding play_app
returns c = IfOk-weaker c.arg-5.result _ _ (λ cmd h. h.shape c.flag.ensures.local ∙ ap₂ with_rule (c.in_ok-arg-4.ensures.shape c.number-2.ensures.local ∙ ap₂ with_rule (c.in_ok-arg-3.ensures.shape c.number.ensures.local ∙ ap₂ with_rule (c.in_ok-arg-2.ensures.shape c.text.ensures.local ∙ ap₂ with_rule (c.in_ok-arg.ensures.shape c.dir.ensures.local ∙ ap₂ with_rule c.empty.ensures c.dir.ensures.rule) c.text.ensures.rule) c.number.ensures.rule) c.number-2.ensures.rule) c.flag.ensures.rule) c.arg-5.ensures
