use Rattle.std.specs.Fn.{FnOnceReturnsAtMut}
use Rattle.std.proofs.Common.{refl, sym, ap, ◌∙◌, arith}
use Rattle.dk_map.specs.Balance.{root_entries}
use Rattle.dk_map.proofs.Changed.{and_so, changed_nowhere, changed_left, changed_middle, changed_right}
use Rattle.dk_map.proofs.Top.{has_top, at_top, no_top}
use Rattle.dk_map.proofs.tree.Tree.+change.Goals as goal
use Rattle.dk_map.proofs.tree.Tree.+change.Goals.{in-None, in-Some+in-Some-deref_mut+in-Less, in-Some+in-Some-deref_mut+in-Equal+in-Some-replace+in-None-replace, in-Some+in-Some-deref_mut+in-Greater}

pub change-requires : goal.change-requires
change-requires g t c κs within =
    let a = at_top g.met.K.Ord.total (has_top c.self.view_is c.self.invariant c.in-Some.is c.deref_mut.ensures.value c.in-Some-deref_mut.is) c.requires.ordered in
    (omega (arith, a.shorter), (within.0, (within.1.0, (within.1.1.0, (within.1.1.1, (a.left, (c.requires.callable, c.requires.nothing)))))))

pub change-requires-in-Greater : goal.change-requires-in-Greater
change-requires-in-Greater g t c κs within =
    let a = at_top g.met.K.Ord.total (has_top c.self.view_is c.self.invariant c.in-Some.is c.deref_mut.ensures.value c.in-Some-deref_mut.is) c.requires.ordered in
    (omega (arith, a.shorter), (within.0, (within.1.0, (within.1.1.0, (within.1.1.1, (a.right, (c.requires.callable, c.requires.nothing)))))))

pub returns-clause-changed : goal.returns-clause-changed
returns-clause-changed g t c =
    let o = g.met.K.Ord.total in
    let P : g.row.F.Denot → g.row.V.Denot → g.row.V.Denot → g.row.A.Denot → Type 0 = λ f old new answer. FnOnceReturnsAtMut g.F.FnOnce f old answer new in
    elim c.match-self.branch [
      | in-None w ↦
          rw (w.answer-is, w.self-inside-is) (and_so c.args.change.now (λ f _. changed_nowhere g.K.Ord.cmp c.args.key.now (P f) _ _ _ (no_top c.self.view_is w.in-None.is) (ap root_entries w.in-None.is) c.requires.nothing) c.requires.callable)
      | in-Some+in-Some-deref_mut+in-Less w ↦
          let a = at_top o (has_top c.self.view_is c.self.invariant w.in-Some.is w.deref_mut.ensures.value w.in-Some-deref_mut.is) c.requires.ordered in
          rw (w.answer-is, w.self-inside-is) (and_so c.args.change.now (λ f. changed_left o a _ (P f) _ _ (sym w.cmp.ensures ∙ w.in-Less.is)) w.change.ensures.changed)
      | in-Some+in-Some-deref_mut+in-Equal+in-Some-replace+in-None-replace w ↦
          let a = at_top o (has_top c.self.view_is c.self.invariant w.in-Some.is w.deref_mut.ensures.value w.in-Some-deref_mut.is) c.requires.ordered in
          let there = sym w.replace.ensures.value ∙ w.in-Some-replace.is in
          rw (w.answer-is, w.self-inside-is, there)
          (changed_middle o a _ (P w.in-Some-replace.change) _ _ _ (sym w.cmp.ensures ∙ w.in-Equal.is) (record { shown = _; shows = refl; left = _; met = w.change-in-Equal.ensures; leaves = refl }) w.replace-in-Equal.ensures.after)
      | in-Some+in-Some-deref_mut+in-Greater w ↦
          let a = at_top o (has_top c.self.view_is c.self.invariant w.in-Some.is w.deref_mut.ensures.value w.in-Some-deref_mut.is) c.requires.ordered in
          rw (w.answer-is, w.self-inside-is) (and_so c.args.change.now (λ f. changed_right o a _ (P f) _ _ (sym w.cmp.ensures ∙ w.in-Greater.is)) w.change-in-Greater.ensures.changed)
    ]
