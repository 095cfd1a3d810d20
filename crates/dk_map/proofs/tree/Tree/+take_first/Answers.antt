use Rattle.std.proofs.Common.{subst}
use Rattle.dk_map.specs.Balance.{SettlesTo}
use Rattle.dk_map.proofs.Top.{has_top, left_falls, first_of_left}
use Rattle.dk_map.proofs.tree.Tree.+take_first.Goals as goal

pub returns : goal.returns
returns g t c =
    let n = c.in-Some-deref_mut.node in
    let top = has_top c.self.view_is c.self.invariant c.in-Some-root.is c.deref_mut-in-Some-root.ensures.value c.in-Some-deref_mut.is in
    let e = c.take_first.ensures in
    let s = subst (λ x. SettlesTo x c.settle-self-inside.new.cell c.settle-self-inside.result) c.deref_mut-in-Some-deref_mut.ensures.value c.settle-self-inside.ensures in
    let falls = left_falls n.left.1 n.right.1 _ _ top.balanced e.not_higher e.at_most_one_lower s.2 in
    record {
      entries = first_of_left _ _ _ _ _ _ top.entries s.1 e.entries;
      spare = e.spare;
      capacity = e.capacity;
      not_higher = rw top.height falls.0;
      at_most_one_lower = rw top.height falls.1;
    }
