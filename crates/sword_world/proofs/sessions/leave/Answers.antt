use Rattle.std.proofs.Common.{ap, None, Ok}
use Rattle.dk_model.specs.Runs.{give}
use Rattle.dk_txn.proofs.Kit.{then_does, then_last, give_does, halts, halts_last, does_as}
use Rattle.sword_world.specs.Rules.{leave, let_go, hold}
use Rattle.sword_world.proofs.sessions.leave.Goals as goal

pub returns-in_err-save : goal.returns-in_err-save
unfolding leave
returns-in_err-save g c = halts _ (rw (c.in_ok-left.ensures, c.id.ensures) at c.in_err-save.ensures.does) c.from_residual-in_err-save.ensures.1

pub returns-in-None : goal.returns-in-None
unfolding leave
returns-in-None g c =
    then_does _ (rw (c.in_ok-left.ensures, c.id.ensures) at c.in_ok-save.ensures.does) (does_as (give (Ok tt)) (λ s. ap (λ carried. let_go c.args.scene carried s) c.in-None.is) give_does)

pub returns-in_err-save-in-Some : goal.returns-in_err-save-in-Some
unfolding leave
returns-in_err-save-in-Some g c =
    then_does _ (rw (c.in_ok-left.ensures, c.id.ensures) at c.in_ok-save.ensures.does)
    (does_as (hold c.args.scene None) (λ s. ap (λ carried. let_go c.args.scene carried s) c.in-Some.is)
    (halts_last (rw c.carrying.ensures at c.in_err-save-in-Some.ensures.does) c.from_residual-in_err-save-in-Some.ensures.1))

pub returns-in_ok-save-in-Some : goal.returns-in_ok-save-in-Some
unfolding leave
returns-in_ok-save-in-Some g c =
    then_does _ (rw (c.in_ok-left.ensures, c.id.ensures) at c.in_ok-save.ensures.does)
    (does_as (hold c.args.scene None) (λ s. ap (λ carried. let_go c.args.scene carried s) c.in-Some.is) (then_last (rw c.carrying.ensures at c.in_ok-save-in-Some.ensures.does)))
