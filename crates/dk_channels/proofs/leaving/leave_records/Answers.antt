use Rattle.std.proofs.Common.{◌≡◌, false, sym, ◌∙◌, rules}
use Rattle.dk_txn.proofs.Kit.{if_false_does, give_does}
use Rattle.dk_channels.proofs.leaving.leave_records.Goals as goal

pub returns-then-not-is_member-clause-does : goal.returns-then-not-is_member-clause-does
returns-then-not-is_member-clause-does g c =
    let off : c.is_member.result ≡ false = search rules in
    if_false_does _ (sym (rw c.as_slice.ensures at c.is_member.ensures) ∙ off) give_does
