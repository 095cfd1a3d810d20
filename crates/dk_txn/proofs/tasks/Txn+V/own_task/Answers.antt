use Rattle.std.proofs.Common.{◌≡◌, true, false, rules, subst}
use Rattle.dk_txn.specs.Does.{KnownTask}
use Rattle.dk_txn.proofs.TaskCalls.{own_does, own_none}
use Rattle.dk_txn.proofs.tasks.Txn+V.own_task.Goals as goal

pub returns-then-not-branch-clause-does : goal.returns-then-not-branch-clause-does
returns-then-not-branch-clause-does g c =
    let gone : c.in_ok-is_pending.field-0 ≡ false = search rules in
    own_none c.args.key c.args.due c.args.period c.is_pending.ensures.keeps c.is_pending.ensures.same_changes (subst (KnownTask c.is_pending.new.self.set c.args.key) gone c.in_ok-is_pending.ensures.known)

pub returns-clause-does : goal.returns-clause-does
returns-clause-does g c =
    let there : c.in_ok-is_pending.field-0 ≡ true = search rules in
    own_does c.args.key c.args.due c.args.period c.is_pending.ensures.keeps c.is_pending.ensures.same_changes (subst (KnownTask c.is_pending.new.self.set c.args.key) there c.in_ok-is_pending.ensures.known)
    (c.in_ok-pass_own_task.ensures.ok (record { due_most = c.requires.due; period_most = c.requires.period }))
