use Rattle.std.proofs.Common.{sym, ap, ◌∙◌, arith}
use Rattle.dk_map.specs.Balance.{root_entries}
use Rattle.dk_map.proofs.Puts.{swapped_nowhere, swapped_left, swapped_middle, swapped_right}
use Rattle.dk_map.proofs.Top.{has_top, at_top, no_top}
use Rattle.dk_map.proofs.tree.Tree.+swap.Goals as goal
use Rattle.dk_map.proofs.tree.Tree.+swap.Goals.{in-None, in-Some+in-Some-deref_mut+in-Less, in-Some+in-Some-deref_mut+in-Equal, in-Some+in-Some-deref_mut+in-Greater}

pub swap-requires : goal.swap-requires
swap-requires g t c κs within =
    let a = at_top g.met.K.Ord.total (has_top c.self.view_is c.self.invariant c.in-Some.is c.deref_mut.ensures.value c.in-Some-deref_mut.is) c.requires in
    (omega (arith, a.shorter), (within.0, (within.1, a.left)))

pub swap-requires-in-Greater : goal.swap-requires-in-Greater
swap-requires-in-Greater g t c κs within =
    let a = at_top g.met.K.Ord.total (has_top c.self.view_is c.self.invariant c.in-Some.is c.deref_mut.ensures.value c.in-Some-deref_mut.is) c.requires in
    (omega (arith, a.shorter), (within.0, (within.1, a.right)))

pub returns-clause-swapped : goal.returns-clause-swapped
returns-clause-swapped g t c =
    let o = g.met.K.Ord.total in
    elim c.match-self.branch [
      | in-None w ↦ rw (w.result-is, w.self-inside-is, w.value-is) (swapped_nowhere g.K.Ord.cmp c.args.key.now _ _ _ (no_top c.self.view_is w.in-None.is) (ap root_entries w.in-None.is))
      | in-Some+in-Some-deref_mut+in-Less w ↦
          let a = at_top o (has_top c.self.view_is c.self.invariant w.in-Some.is w.deref_mut.ensures.value w.in-Some-deref_mut.is) c.requires in
          rw (w.result-is, w.self-inside-is, w.value-is) (swapped_left o a _ _ _ _ _ (sym w.cmp.ensures ∙ w.in-Less.is) w.swap.ensures.swapped)
      | in-Some+in-Some-deref_mut+in-Equal w ↦
          let a = at_top o (has_top c.self.view_is c.self.invariant w.in-Some.is w.deref_mut.ensures.value w.in-Some-deref_mut.is) c.requires in
          rw (w.result-is, w.self-inside-is, w.value-is) (swapped_middle o a _ _ _ _ w.swap-in-Equal.ensures.y_after w.swap-in-Equal.ensures.x_after (sym w.cmp.ensures ∙ w.in-Equal.is))
      | in-Some+in-Some-deref_mut+in-Greater w ↦
          let a = at_top o (has_top c.self.view_is c.self.invariant w.in-Some.is w.deref_mut.ensures.value w.in-Some-deref_mut.is) c.requires in
          rw (w.result-is, w.self-inside-is, w.value-is) (swapped_right o a _ _ _ _ _ (sym w.cmp.ensures ∙ w.in-Greater.is) w.swap-in-Greater.ensures.swapped)
    ]
