use Rattle.std.proofs.Common.{◌≡◌, true, false, rules, subst}
use Rattle.dk_txn.specs.Does.{KnownTask}
use Rattle.dk_txn.proofs.TaskCalls.{cancel_does, cancel_refused}
use Rattle.dk_txn.proofs.tasks.Txn+V.cancel.Goals as goal

pub returns-then-not-branch-clause-does : goal.returns-then-not-branch-clause-does
returns-then-not-branch-clause-does g c =
    let gone : c.in_ok-is_pending.field-0 ≡ false = search rules in
    cancel_refused c.args.key c.is_pending.ensures.keeps c.is_pending.ensures.same_changes (subst (KnownTask c.is_pending.new.self.set c.args.key) gone c.in_ok-is_pending.ensures.known)

pub returns-clause-does : goal.returns-clause-does
returns-clause-does g c =
    let there : c.in_ok-is_pending.field-0 ≡ true = search rules in
    cancel_does c.args.key c.is_pending.ensures.keeps c.is_pending.ensures.same_changes (subst (KnownTask c.is_pending.new.self.set c.args.key) there c.in_ok-is_pending.ensures.known) c.in_ok-remove_task.ensures.ok
