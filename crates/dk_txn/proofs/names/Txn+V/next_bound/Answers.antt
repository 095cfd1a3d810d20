use Rattle.std.proofs.Common.{sym, subst}
use Rattle.std.specs.Option.{option_copied}
use Rattle.dk_types.specs.Names.{bytes_cmp}
use Rattle.dk_overlay.specs.Least.{Least}
use Rattle.dk_overlay.specs.Binding.{is_bound_after}
use Rattle.dk_txn.proofs.NextNames.{next_does}
use Rattle.dk_txn.proofs.names.Txn+V.next_bound.Goals as goal

pub returns-clause-does : goal.returns-clause-does
returns-clause-does g c =
    next_does (option_copied c.args.after) c.in_ok-standing.standing c.in_ok-bound.bound c.lesser.result c.next_standing.ensures.keeps c.next_standing.ensures.same_changes c.in_ok-standing.ensures.next
    (subst (Least bytes_cmp (is_bound_after c.next_standing.new.self.set.names (option_copied c.args.after))) (sym c.in_ok-bound.ensures) c.next_bound.ensures) c.lesser.ensures
