use Rattle.std.proofs.Common.{sym, ap, ◌∙◌}
use Rattle.std.specs.Option.{option_map, option_or}
use Rattle.dk_map.proofs.Around.{at_entry, above_left, above_beyond, or_nearer}
use Rattle.dk_map.proofs.tree.Tree.above.Goals as goal

pub descent-preserved-in-Less : goal.descent-preserved-in-Less
descent-preserved-in-Less g c =
    let o = g.met.K.Ord.total in
    let a = at_entry o c.in-Some.ensures.some c.descent.invariant.ordered in
    let nearest = option_map (λ e. (e.0.now, e.1.now)) c.descent.nearest in
    record {
      ordered = a.left;
      same = sym (or_nearer _ _ nearest) ∙ ap (λ t. option_or t nearest) (sym (above_left o a _ (sym c.cmp.ensures ∙ c.in-Less.is))) ∙ c.descent.invariant.same;
    }

pub descent-preserved : goal.descent-preserved
descent-preserved g c =
    let o = g.met.K.Ord.total in
    let a = at_entry o c.in-Some.ensures.some c.descent.invariant.ordered in
    let nearest = option_map (λ e. (e.0.now, e.1.now)) c.descent.nearest in
    record {
      ordered = a.right;
      same = ap (λ t. option_or t nearest) (sym (above_beyond o a _ (λ p. c.in_default-cmp.not-Less (c.cmp.ensures ∙ p)))) ∙ c.descent.invariant.same;
    }
