use Rattle.std.proofs.Common.{refl, sym, ◌∙◌, arith}
use Rattle.dk_map.proofs.Puts.{new_left, new_right, not_new, is_put_left, is_put_right, grows_left, grows_right}
use Rattle.dk_map.proofs.Top.{has_top, at_top, top_cell, settled, left_stays, right_stays}
use Rattle.dk_map.proofs.tree.Tree.+insert.Goals as goal
use Rattle.dk_map.proofs.tree.Tree.+insert.Goals.{in-Less, in-Greater}

pub insert-higher-requires : goal.insert-higher-requires
insert-higher-requires g t c κs within =
    let o = g.met.K.Ord.total in
    let top = has_top c.self.view_is c.self.invariant c.in-Some.is c.deref_mut.ensures.value c.in-Some-deref_mut.is in
    let a = at_top o top c.requires.ordered in
    let new = new_left o a _ _ c.in-Some-entry.is (sym c.cmp.ensures ∙ c.in-Less.is) c.requires.absent in
    (omega (arith, a.shorter), (within.0, (within.1, (a.left, (new, (c.requires.room, omega (arith, top.height, c.requires.fits)))))))

pub insert-higher-requires-in-Greater : goal.insert-higher-requires-in-Greater
insert-higher-requires-in-Greater g t c κs within =
    let o = g.met.K.Ord.total in
    let top = has_top c.self.view_is c.self.invariant c.in-Some.is c.deref_mut.ensures.value c.in-Some-deref_mut.is in
    let a = at_top o top c.requires.ordered in
    let new = new_right o a _ _ c.in-Some-entry.is (sym c.cmp.ensures ∙ c.in-Greater.is) c.requires.absent in
    (omega (arith, a.shorter), (within.0, (within.1, (a.right, (new, (c.requires.room, omega (arith, top.height, c.requires.fits)))))))

pub unreachable-requires-in-Equal : goal.unreachable-requires-in-Equal
unreachable-requires-in-Equal g t c =
    let o = g.met.K.Ord.total in
    let a = at_top o (has_top c.self.view_is c.self.invariant c.in-Some.is c.deref_mut.ensures.value c.in-Some-deref_mut.is) c.requires.ordered in
    not_new o a _ _ c.in-Some-entry.is (sym c.cmp.ensures ∙ c.in-Equal.is) c.requires.absent

pub invariant_of-self-then-not-higher : goal.invariant_of-self-then-not-higher
invariant_of-self-then-not-higher g t c =
    let cell = top_cell c.self.invariant c.in-Some.is c.deref_mut.ensures.value c.in-Some-deref_mut.is in
    elim c.match-cmp.branch [
      | in-Less w ↦
          let e = w.insert-higher.ensures in
          rw w.cell-is (left_stays _ _ _ cell (e.as_high (sym w.higher-is ∙ c.if-not-higher.true)) e.grows)
      | in-Greater w ↦
          let e = w.insert-higher-in-Greater.ensures in
          rw w.cell-is (right_stays _ _ _ cell (e.as_high (sym w.higher-is ∙ c.if-not-higher.true)) e.grows)
    ]

pub returns-then-not-higher-clause-put : goal.returns-then-not-higher-clause-put
returns-then-not-higher-clause-put g t c =
    let o = g.met.K.Ord.total in
    let a = at_top o (has_top c.self.view_is c.self.invariant c.in-Some.is c.deref_mut.ensures.value c.in-Some-deref_mut.is) c.requires.ordered in
    elim c.match-cmp.branch [
      | in-Less w ↦ rw w.cell-is (is_put_left o a _ _ c.in-Some-entry.is _ (sym c.cmp.ensures ∙ w.in-Less.is) w.insert-higher.ensures.put)
      | in-Greater w ↦ rw w.cell-is (is_put_right o a _ _ c.in-Some-entry.is _ (sym c.cmp.ensures ∙ w.in-Greater.is) w.insert-higher-in-Greater.ensures.put)
    ]

pub returns-then-not-higher-clause-grows : goal.returns-then-not-higher-clause-grows
returns-then-not-higher-clause-grows g t c =
    let top = has_top c.self.view_is c.self.invariant c.in-Some.is c.deref_mut.ensures.value c.in-Some-deref_mut.is in
    elim c.match-cmp.branch [
      | in-Less w ↦ rw w.cell-is (grows_left _ _ _ _ _ top.entries w.insert-higher.ensures.grows)
      | in-Greater w ↦ rw w.cell-is (grows_right _ _ _ _ _ top.entries w.insert-higher-in-Greater.ensures.grows)
    ]

pub returns-else-not-higher-clause-put : goal.returns-else-not-higher-clause-put
returns-else-not-higher-clause-put g t c =
    let o = g.met.K.Ord.total in
    let a = at_top o (has_top c.self.view_is c.self.invariant c.in-Some.is c.deref_mut.ensures.value c.in-Some-deref_mut.is) c.requires.ordered in
    elim c.match-cmp.branch [
      | in-Less w ↦
          let s = settled _ _ _ c.settle-self-inside.ensures c.deref_mut-in-Some-deref_mut.ensures.value w.cell-is refl in
          rw s.1 (is_put_left o a _ _ c.in-Some-entry.is _ (sym c.cmp.ensures ∙ w.in-Less.is) w.insert-higher.ensures.put)
      | in-Greater w ↦
          let s = settled _ _ _ c.settle-self-inside.ensures c.deref_mut-in-Some-deref_mut.ensures.value w.cell-is refl in
          rw s.1 (is_put_right o a _ _ c.in-Some-entry.is _ (sym c.cmp.ensures ∙ w.in-Greater.is) w.insert-higher-in-Greater.ensures.put)
    ]

pub returns-else-not-higher-clause-grows : goal.returns-else-not-higher-clause-grows
returns-else-not-higher-clause-grows g t c =
    let top = has_top c.self.view_is c.self.invariant c.in-Some.is c.deref_mut.ensures.value c.in-Some-deref_mut.is in
    elim c.match-cmp.branch [
      | in-Less w ↦
          let s = settled _ _ _ c.settle-self-inside.ensures c.deref_mut-in-Some-deref_mut.ensures.value w.cell-is refl in
          rw s.1 (grows_left _ _ _ _ _ top.entries w.insert-higher.ensures.grows)
      | in-Greater w ↦
          let s = settled _ _ _ c.settle-self-inside.ensures c.deref_mut-in-Some-deref_mut.ensures.value w.cell-is refl in
          rw s.1 (grows_right _ _ _ _ _ top.entries w.insert-higher-in-Greater.ensures.grows)
    ]
