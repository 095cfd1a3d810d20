use Rattle.std.proofs.Common.{◌≡◌, ◌∷◌, ◌++◌, refl, sym, ap, ◌∙◌, arith}
use Rattle.std.specs.Option.{option_map}
use Rattle.dk_map.proofs.Around.{find_left, find_middle, find_right, without_left, without_middle, without_right, otherwise}
use Rattle.dk_map.proofs.Top.{has_top, at_top, settled, left_falls, right_falls, same_node, apart}
use Rattle.dk_map.proofs.tree.Tree.+remove.Goals as goal
use Rattle.dk_map.proofs.tree.Tree.+remove.Goals.{in-Less, in_default-order-2}

pub remove-requires : goal.remove-requires
remove-requires g t c κs within =
    let top = has_top c.self.view_is c.self.invariant c.in-Some-root.is c.deref_mut.ensures.value c.in-Some-deref_mut.is in
    let a = at_top g.met.K.Ord.total top c.requires.ordered in
    (omega (arith, a.shorter), (within.0, (within.1, (a.left, (c.requires.room, (omega (arith, top.height, c.requires.fits), c.requires.nothing))))))

pub remove-requires-in_default-order-2 : goal.remove-requires-in_default-order-2
remove-requires-in_default-order-2 g t c κs within =
    let top = has_top c.self.view_is c.self.invariant c.in-Some-root.is c.deref_mut.ensures.value c.in-Some-deref_mut.is in
    let a = at_top g.met.K.Ord.total top c.requires.ordered in
    (omega (arith, a.shorter), (within.0, (within.1, (a.right, (c.requires.room, (omega (arith, top.height, c.requires.fits), c.requires.nothing))))))

pub returns-in-Equal-clause-value : goal.returns-in-Equal-clause-value
returns-in-Equal-clause-value g t c =
    let o = g.met.K.Ord.total in
    let top = has_top c.self.view_is c.self.invariant c.in-Some.is c.deref.ensures c.in-Some-deref.is in
    let a = at_top o top c.requires.ordered in
    let p = sym c.cmp-order.ensures ∙ c.in-Equal.is in
    let s = apart c.in-Some.is c.deref.ensures c.in-Some-deref.is c.in-Some-replace.is c.replace.ensures.value c.take_top.ensures.parts in
    ap (option_map (λ e. e.1)) s.0 ∙ sym (find_middle o a _ p)

pub returns-in-Equal-clause-same_key : goal.returns-in-Equal-clause-same_key
returns-in-Equal-clause-same_key g t c =
    let o = g.met.K.Ord.total in
    let top = has_top c.self.view_is c.self.invariant c.in-Some.is c.deref.ensures c.in-Some-deref.is in
    let a = at_top o top c.requires.ordered in
    let p = sym c.cmp-order.ensures ∙ c.in-Equal.is in
    let s = apart c.in-Some.is c.deref.ensures c.in-Some-deref.is c.in-Some-replace.is c.replace.ensures.value c.take_top.ensures.parts in
    rw s.0 p

pub returns-in-Equal-clause-entries : goal.returns-in-Equal-clause-entries
returns-in-Equal-clause-entries g t c =
    let o = g.met.K.Ord.total in
    let top = has_top c.self.view_is c.self.invariant c.in-Some.is c.deref.ensures c.in-Some-deref.is in
    let a = at_top o top c.requires.ordered in
    let p = sym c.cmp-order.ensures ∙ c.in-Equal.is in
    let s = apart c.in-Some.is c.deref.ensures c.in-Some-deref.is c.in-Some-replace.is c.replace.ensures.value c.take_top.ensures.parts in
    ap (λ d. d.0) c.take_top-in-Equal.view_is ∙ s.1 ∙ sym (without_middle o a _ p)

pub returns-in-Equal-clause-spare : goal.returns-in-Equal-clause-spare
returns-in-Equal-clause-spare g t c =
    let o = g.met.K.Ord.total in
    let top = has_top c.self.view_is c.self.invariant c.in-Some.is c.deref.ensures c.in-Some-deref.is in
    let a = at_top o top c.requires.ordered in
    let p = sym c.cmp-order.ensures ∙ c.in-Equal.is in
    let s = apart c.in-Some.is c.deref.ensures c.in-Some-deref.is c.in-Some-replace.is c.replace.ensures.value c.take_top.ensures.parts in
    rw s.0 c.take_top.ensures.spare

pub returns-in-Equal-clause-not_higher : goal.returns-in-Equal-clause-not_higher
returns-in-Equal-clause-not_higher g t c =
    let o = g.met.K.Ord.total in
    let top = has_top c.self.view_is c.self.invariant c.in-Some.is c.deref.ensures c.in-Some-deref.is in
    let a = at_top o top c.requires.ordered in
    let p = sym c.cmp-order.ensures ∙ c.in-Equal.is in
    let s = apart c.in-Some.is c.deref.ensures c.in-Some-deref.is c.in-Some-replace.is c.replace.ensures.value c.take_top.ensures.parts in
    omega (arith, ap (λ d. d.1) c.take_top-in-Equal.view_is, s.3, top.height)

pub returns-in-Equal-clause-at_most_one_lower : goal.returns-in-Equal-clause-at_most_one_lower
returns-in-Equal-clause-at_most_one_lower g t c =
    let o = g.met.K.Ord.total in
    let top = has_top c.self.view_is c.self.invariant c.in-Some.is c.deref.ensures c.in-Some-deref.is in
    let a = at_top o top c.requires.ordered in
    let p = sym c.cmp-order.ensures ∙ c.in-Equal.is in
    let s = apart c.in-Some.is c.deref.ensures c.in-Some-deref.is c.in-Some-replace.is c.replace.ensures.value c.take_top.ensures.parts in
    omega (arith, ap (λ d. d.1) c.take_top-in-Equal.view_is, s.2, top.height)

pub returns : goal.returns
returns g t c =
    let o = g.met.K.Ord.total in
    let n = c.in-Some-deref_mut.node in
    let same : c.in-Some-deref.node ≡ c.in-Some-deref_mut.node = same_node c.in-Some.is c.deref.ensures c.in-Some-deref.is c.in-Some-root.is c.deref_mut.ensures.value c.in-Some-deref_mut.is in
    let top = has_top c.self.view_is c.self.invariant c.in-Some-root.is c.deref_mut.ensures.value c.in-Some-deref_mut.is in
    let a = at_top o top c.requires.ordered in
    let cmp = c.cmp-order.ensures ∙ ap (λ m. g.K.Ord.cmp c.args.key.now m.key) same in
    elim c.match-order-2.branch [
      | in-Less w ↦
          let e = w.remove.ensures in
          let p = sym cmp ∙ w.in-Less.is in
          let s = settled _ _ _ c.settle-self-inside.ensures c.deref_mut-in-Some-deref_mut.ensures.value w.cell-is refl in
          let falls = left_falls n.left.1 n.right.1 _ _ top.balanced e.not_higher e.at_most_one_lower s.2 in
          record {
            value = rw w.found-is (e.value ∙ sym (find_left o a _ p));
            same_key = rw w.found-is e.same_key;
            entries = s.1 ∙ ap (λ l. l ++ (n.key, n.value) ∷ n.right.0) e.entries ∙ sym (without_left o a _ p);
            spare = rw (w.found-is, w.spare-is) e.spare;
            capacity = rw w.spare-is e.capacity;
            not_higher = rw top.height falls.0;
            at_most_one_lower = rw top.height falls.1;
          }
      | in_default-order-2 w ↦
          let e = w.remove-in_default-order-2.ensures in
          let p = otherwise o a _ (λ q. w.in_default-order-2.not-Less (cmp ∙ q)) (λ q. c.in_default-order.not-Equal (cmp ∙ q)) in
          let s = settled _ _ _ c.settle-self-inside.ensures c.deref_mut-in-Some-deref_mut.ensures.value w.cell-is refl in
          let falls = right_falls n.left.1 n.right.1 _ _ top.balanced e.not_higher e.at_most_one_lower s.2 in
          record {
            value = rw w.found-is (e.value ∙ sym (find_right o a _ p));
            same_key = rw w.found-is e.same_key;
            entries = s.1 ∙ ap (λ r. n.left.0 ++ (n.key, n.value) ∷ r) e.entries ∙ sym (without_right o a _ p);
            spare = rw (w.found-is, w.spare-is) e.spare;
            capacity = rw w.spare-is e.capacity;
            not_higher = rw top.height falls.0;
            at_most_one_lower = rw top.height falls.1;
          }
    ]
