use Rattle.std.proofs.Common.{ap, sym, subst, IsPermutation}
use Rattle.std.proofs.lemmas.Result.{IfOk-weaker}
use Rattle.dk_map.specs.OrderedMap.{Ordered}
use Rattle.dk_hashed.specs.InOrder.{in_order}
use Rattle.dk_hashed.proofs.Listed.{permuted}
use Rattle.dk_hashed.proofs.hashed.HashedMap.unordered.Goals as goal

pub returns : goal.returns
returns g c =
    let es = c.self.inside.map.entries in
    let all = permuted g.met.K.Ord.total _ g.met.K.Ord.matches_eq es c.self.invariant.1 in
    IfOk-weaker c.shown.result _ _ (λ list is. subst (IsPermutation _) (ap (λ (m : Ordered _ _). m.entries) c.self.view_is) (subst (λ vs. IsPermutation vs (in_order g.K.Ord.cmp es)) (sym is) all)) c.shown.ensures
