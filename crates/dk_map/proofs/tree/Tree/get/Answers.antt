use Rattle.std.proofs.Common.{sym, ◌∙◌}
use Rattle.dk_map.proofs.Around.{at_entry, find_left, find_middle, find_right}
use Rattle.dk_map.proofs.tree.Tree.get.Goals as goal

pub returns-in-Equal : goal.returns-in-Equal
returns-in-Equal g c =
    let o = g.met.K.Ord.total in
    let a = at_entry o c.in-Some.ensures.some c.descent.invariant.ordered in
    sym (find_middle o a _ (sym c.cmp.ensures ∙ c.in-Equal.is)) ∙ c.descent.invariant.same

pub descent-preserved-in-Less : goal.descent-preserved-in-Less
descent-preserved-in-Less g c =
    let o = g.met.K.Ord.total in
    let a = at_entry o c.in-Some.ensures.some c.descent.invariant.ordered in
    record { ordered = a.left; same = sym (find_left o a _ (sym c.cmp.ensures ∙ c.in-Less.is)) ∙ c.descent.invariant.same }

pub descent-preserved : goal.descent-preserved
descent-preserved g c =
    let o = g.met.K.Ord.total in
    let a = at_entry o c.in-Some.ensures.some c.descent.invariant.ordered in
    record { ordered = a.right; same = sym (find_right o a _ (sym c.cmp.ensures ∙ c.in-Greater.is)) ∙ c.descent.invariant.same }
