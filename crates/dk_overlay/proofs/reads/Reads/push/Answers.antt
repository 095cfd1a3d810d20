use Rattle.std.proofs.Common.{◌≡◌, ◌++◌, ◌∷◌, [], sym, ap, subst, ◌∙◌}
use Rattle.dk_overlay.specs.Asked.{IsOnce, IsIndexedLong, WasNotRead}
use Rattle.dk_overlay.proofs.Asking.{once_push}
use Rattle.dk_overlay.proofs.reads.Reads.push.Goals as goal

pub invariant_of-self-2 : goal.invariant_of-self-2
invariant_of-self-2 c =
    let reads = c.self.inside.list.items in
    let fresh = subst (λ l. WasNotRead l c.args.item) (sym c.self.view_is) c.requires in
    let all : c.push_reserved.new.self.items ≡ reads ++ (c.args.item, c.args.read) ∷ [] = c.push_reserved.ensures.items ∙ ap (λ l. l ++ (c.args.item, c.args.read) ∷ []) c.reserve.ensures.items in
    let seen : c.as_slice.result.now ≡ reads = c.as_slice.ensures.value ∙ c.reserve.ensures.items in (
      subst IsOnce (sym all) (once_push reads c.args.item c.args.read c.self.invariant.0 fresh),
      subst (λ l. IsIndexedLong l c.add_place.new.index) (sym all)
          (subst (λ l. IsIndexedLong (l ++ (c.args.item, c.args.read) ∷ []) c.add_place.new.index) seen
          (c.in_ok-add_place.ensures.ok c.args.read (subst (λ l. WasNotRead l c.args.item) (sym seen) fresh))),
    )
