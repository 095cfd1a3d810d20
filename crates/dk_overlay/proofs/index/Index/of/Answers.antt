use Rattle.std.proofs.Common.{◌≡◌, Some, suc, ◌+◌, ◌++◌, ◌∷◌, [], take, length, ap, sym, subst, refl, arith, ◌∙◌}
use Rattle.std.specs.List.{slice_get}
use Rattle.std.proofs.lemmas.Option.{slice_get_read}
use Rattle.dk_overlay.specs.Asked.{place_in, IsIndexed}
use Rattle.dk_overlay.proofs.Asking.{front_length, front_more, fresh_next, indexed_push}
use Rattle.dk_overlay.proofs.index.Index.of.Goals as goal

pub loop-at-preserved : goal.loop-at-preserved
loop-at-preserved c =
    let reads = c.args.list.now in
    let n = c.loop-at.at in
    let e = c.index-list-at.result in
    let here : slice_get reads n ≡ Some e = slice_get_read reads (length reads) n e refl c.loop-at-test.true c.index-list-at.is in
    let adds = c.in_ok-add.ensures.ok in
    let len : length (take n reads) ≡ n = front_length reads n e here in
    let next : n + 1 ≡ suc n = omega arith in
    let more : take (n + 1) reads ≡ take n reads ++ (e.0, e.1) ∷ [] = ap (λ m. take m reads) next ∙ front_more reads n e here in
    subst (λ l. IsIndexed l (place_in c.add.new.self)) (sym more)
    (indexed_push (take n reads) (place_in c.loop-at.index) (place_in c.add.new.self) e.0 e.1 c.loop-at.invariant (fresh_next reads n e c.requires here) (adds.0 ∙ ap Some (sym len)) adds.1)
