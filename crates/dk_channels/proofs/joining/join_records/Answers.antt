use Rattle.std.proofs.Common.{sym, ◌∙◌}
use Rattle.dk_txn.proofs.Kit.{if_true_does, give_does}
use Rattle.dk_channels.proofs.joining.join_records.Goals as goal

pub returns-then-is_member-clause-does : goal.returns-then-is_member-clause-does
returns-then-is_member-clause-does g c = if_true_does _ (sym (rw c.as_slice.ensures at c.is_member.ensures) ∙ c.if-is_member.true) give_does
