use Rattle.std.proofs.Common.{ap₂, ◌∙◌}
use Rattle.std.proofs.lemmas.Result.{IfOk-weaker}
use Rattle.clap.specs.Words.{with_rule}
use Rattle.dk_command.specs.Grammar.{check_app}
use Rattle.dk_command.proofs.grammars.check.Goals as goal

pub returns : goal.returns
unfolding check_app
returns c = IfOk-weaker c.arg-2.result _ _ (λ cmd h. h.shape c.text.ensures.local ∙ ap₂ with_rule (c.in_ok-arg.ensures.shape c.dir.ensures.local ∙ ap₂ with_rule c.empty.ensures c.dir.ensures.rule) c.text.ensures.rule) c.arg-2.ensures
