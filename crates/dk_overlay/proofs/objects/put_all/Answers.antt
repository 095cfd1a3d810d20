use Rattle.std.proofs.Common.{◌≡◌, ◌∷◌, ◌∙◌, is_some}
use Rattle.std.specs.Vec.Iter.{into_iter_items}
use Rattle.dk_overlay.proofs.PutAll.{one_put, still_room}
use Rattle.dk_overlay.proofs.objects.put_all.Goals as goal

pub loop-id-preserved : goal.loop-id-preserved
loop-id-preserved c =
    let steps : into_iter_items c.loop-id.id-iterator ≡ (c.in-Some.id, c.in-Some.change) ∷ into_iter_items c.next.new.self = c.in-Some.ensures.steps.0 in
    record {
      put = one_put (into_iter_items c.loop-id.id-iterator) (into_iter_items c.next.new.self) c.in-Some.id c.in-Some.change _ _ steps c.loop-id.invariant.ordered c.insert.ensures.entries ∙ c.loop-id.invariant.put;
      room = still_room (into_iter_items c.loop-id.id-iterator) (into_iter_items c.next.new.self) (c.in-Some.id, c.in-Some.change) (is_some c.insert.result) _ _ steps c.loop-id.invariant.room c.insert.ensures.spare;
      ordered = c.insert.ensures.ordered;
    }

pub loop-id-preserved-in-Some : goal.loop-id-preserved-in-Some
loop-id-preserved-in-Some c =
    let steps : into_iter_items c.loop-id.id-iterator ≡ (c.in-Some.id, c.in-Some.change) ∷ into_iter_items c.next.new.self = c.in-Some.ensures.steps.0 in
    record {
      put = one_put (into_iter_items c.loop-id.id-iterator) (into_iter_items c.next.new.self) c.in-Some.id c.in-Some.change _ _ steps c.loop-id.invariant.ordered c.insert.ensures.entries ∙ c.loop-id.invariant.put;
      room = still_room (into_iter_items c.loop-id.id-iterator) (into_iter_items c.next.new.self) (c.in-Some.id, c.in-Some.change) (is_some c.insert.result) _ _ steps c.loop-id.invariant.room c.insert.ensures.spare;
      ordered = c.insert.ensures.ordered;
    }

pub loop-id-preserved-in-Some-2 : goal.loop-id-preserved-in-Some-2
loop-id-preserved-in-Some-2 c =
    let steps : into_iter_items c.loop-id.id-iterator ≡ (c.in-Some.id, c.in-Some.change) ∷ into_iter_items c.next.new.self = c.in-Some.ensures.steps.0 in
    record {
      put = one_put (into_iter_items c.loop-id.id-iterator) (into_iter_items c.next.new.self) c.in-Some.id c.in-Some.change _ _ steps c.loop-id.invariant.ordered c.insert.ensures.entries ∙ c.loop-id.invariant.put;
      room = still_room (into_iter_items c.loop-id.id-iterator) (into_iter_items c.next.new.self) (c.in-Some.id, c.in-Some.change) (is_some c.insert.result) _ _ steps c.loop-id.invariant.room c.insert.ensures.spare;
      ordered = c.insert.ensures.ordered;
    }
