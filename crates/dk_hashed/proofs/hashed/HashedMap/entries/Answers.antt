use Rattle.std.proofs.Common.{ap, ◌∙◌, sym, subst, IsPermutation, rules}
use Rattle.std.specs.Map.Iter.{deref_pair}
use Rattle.std.proofs.lemmas.List.Sorted.{answers_always}
use Rattle.dk_map.specs.OrderedMap.{Ordered}
use Rattle.dk_hashed.specs.InOrder.{in_order}
use Rattle.dk_hashed.proofs.InOrder.{ordered-in_order}
use Rattle.dk_hashed.proofs.Listed.{permuted, sorted}
use Rattle.dk_hashed.proofs.hashed.HashedMap.entries.Goals as goal

pub returns : goal.returns
returns g c =
    let es = c.self.inside.map.entries in
    let all = subst (λ vs. IsPermutation vs (in_order g.K.Ord.cmp es)) (sym c.in_ok-list.ensures) (permuted g.met.K.Ord.total _ g.met.K.Ord.matches_eq es c.self.invariant.1) in
    sorted g.met.K.Ord.total (in_order g.K.Ord.cmp es) (ordered-in_order g.K.Ord.cmp es) c.self.invariant.0 deref_pair c.in_ok-list.list.items c.sort_by_key.new.self.items all
    c.in_ok-sort_by_key.ensures.permutation (c.in_ok-sort_by_key.ensures.sorted (λ p. p.0) (answers_always _ _ _ (λ f a r f' k. search rules)))
    ∙ ap (λ (m : Ordered _ _). m.entries) c.self.view_is
