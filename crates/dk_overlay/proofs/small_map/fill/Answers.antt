use Rattle.std.proofs.Common.{◌≡◌, ◌∷◌, is_some, subst, sym}
use Rattle.std.specs.Vec.Iter.{into_iter_items}
use Rattle.dk_map.specs.Entries.{IsOrdered}
use Rattle.dk_overlay.proofs.Places.{filling, room_left}
use Rattle.dk_overlay.proofs.small_map.fill.Goals as goal

pub loop-key-preserved : goal.loop-key-preserved
loop-key-preserved g c =
    let left : into_iter_items c.loop-key.key-iterator ≡ (c.in-Some.key, c.in-Some.value) ∷ into_iter_items c.next.new.self = c.in-Some.ensures.steps.0 in
    let gives : into_iter_items c.into_iter-key-iterator.result ≡ c.args.list.items = c.into_iter-key-iterator.ensures.into_iter_gives.0 in
    let ordered = subst (IsOrdered g.K.Ord.cmp) (sym gives) c.requires.ordered in
    record {
      all = filling g.met.K.Ord.total _ _ (into_iter_items c.next.new.self) _ _ c.in-Some.key c.in-Some.value left ordered c.loop-key.invariant.all c.insert.ensures.entries;
      room = room_left _ (into_iter_items c.next.new.self) (c.in-Some.key, c.in-Some.value) (is_some c.insert.result) _ _ _ _ left c.loop-key.invariant.room c.insert.ensures.spare;
    }

pub loop-key-preserved-in-Some : goal.loop-key-preserved-in-Some
loop-key-preserved-in-Some g c =
    let left : into_iter_items c.loop-key.key-iterator ≡ (c.in-Some.key, c.in-Some.value) ∷ into_iter_items c.next.new.self = c.in-Some.ensures.steps.0 in
    let gives : into_iter_items c.into_iter-key-iterator.result ≡ c.args.list.items = c.into_iter-key-iterator.ensures.into_iter_gives.0 in
    let ordered = subst (IsOrdered g.K.Ord.cmp) (sym gives) c.requires.ordered in
    record {
      all = filling g.met.K.Ord.total _ _ (into_iter_items c.next.new.self) _ _ c.in-Some.key c.in-Some.value left ordered c.loop-key.invariant.all c.insert.ensures.entries;
      room = room_left _ (into_iter_items c.next.new.self) (c.in-Some.key, c.in-Some.value) (is_some c.insert.result) _ _ _ _ left c.loop-key.invariant.room c.insert.ensures.spare;
    }
