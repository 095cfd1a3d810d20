use Rattle.std.proofs.Common.{ap₂, ◌∙◌}
use Rattle.std.proofs.lemmas.Result.{IfOk-weaker}
use Rattle.clap.specs.Words.{with_rule}
use Rattle.dk_command.specs.Grammar.{stress_app}
use Rattle.dk_command.proofs.grammars.stress.Goals as goal

pub returns : goal.returns
unfolding stress_app
returns c = IfOk-weaker c.arg-3.result _ _ (λ cmd h. h.shape c.number-3.ensures.local ∙ ap₂ with_rule (c.in_ok-arg-2.ensures.shape c.number-2.ensures.local ∙ ap₂ with_rule (c.in_ok-arg.ensures.shape c.number.ensures.local ∙ ap₂ with_rule c.empty.ensures c.number.ensures.rule) c.number-2.ensures.rule) c.number-3.ensures.rule) c.arg-3.ensures
