use Rattle.std.proofs.Common.{◌≡◌, ◌==◌, true, false, sym, ap, ◌∙◌, eqb-true}
use Rattle.std.specs.FinMap.{len}
use Rattle.dk_core.proofs.Choosing.{first_free, first_taken}
use Rattle.dk_core.proofs.world.Core.first_run.Goals as goal

pub returns-then-is_empty-clause-pick : goal.returns-then-is_empty-clause-pick
returns-then-is_empty-clause-pick c = first_free c.args.self.now (eqb-true (len c.args.self.now.claims.claims) 0 (sym c.is_empty.ensures ∙ c.if-is_empty.true))

pub returns-else-is_empty-clause-pick : goal.returns-else-is_empty-clause-pick
returns-else-is_empty-clause-pick c =
    first_taken c.args.self.now (λ e. let both : true ≡ false = sym (ap (λ n. n == 0) e) ∙ sym c.is_empty.ensures ∙ c.if-is_empty.false in absurd cc)
