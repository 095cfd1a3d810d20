use Rattle.std.proofs.Common.{◌≡◌, List, IsPermutation, sym, ap, subst, ◌∙◌}
use Rattle.std.specs.FinMap.{FinMap, entries, entries_sorted}
use Rattle.dk_types.specs.declared.number.ObjectId.{ObjectId}
use Rattle.dk_types.specs.declared.object.Object.{Object}
use Rattle.dk_hashed.specs.InOrder.{in_order}
use Rattle.dk_hashed.proofs.Listed.{in_order-permuted}
use Rattle.dk_model.specs.Keys.{id_cmp}
use Rattle.dk_objects.specs.StampedObjects.{objects_of}
use Rattle.dk_objects.proofs.Ids.{id_total, id_same}
use Rattle.dk_core.specs.StampedWorlds.{Stamped, durable_of}
use Rattle.dk_core.specs.Listings.{listed}
use Rattle.dk_core.proofs.durable.world.StampedWorld.copy.Goals as goal

-- the objects as they are copied, put in order
put_in_order : (m : FinMap id_cmp Object) (items : List (ObjectId × Object)) → IsPermutation items (entries m) → in_order id_cmp items ≡ entries m
put_in_order m items all = in_order-permuted id_total (entries m) (entries_sorted m) id_same items all

pub invariant_of-result : goal.invariant_of-result
invariant_of-result c = subst (IsPermutation c.in_ok-list_objects.field-0.items) (sym (put_in_order _ _ c.in_ok-list_objects.ensures)) c.in_ok-list_objects.ensures

pub returns : goal.returns
returns c =
    let objects = put_in_order (objects_of c.self.inside.objects.objects) c.in_ok-list_objects.field-0.items c.in_ok-list_objects.ensures in
    (λ i. record { commits = c.self.inside.commits; last = c.self.inside.last; objects = objects i; names = c.in_ok-list_names.ensures i; tasks = c.in_ok-list_tasks.ensures i })
    ∙ ap (λ (w : Stamped). listed (durable_of w)) c.self.view_is
