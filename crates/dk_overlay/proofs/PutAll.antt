-- Changes that are put one after another.
use Rattle.std.proofs.Common.{◌≡◌, ℕ, ◌+◌, ◌≤◌, arith, Bool, true, false, cond, List, [], ◌∷◌, ◌++◌, length, map as each, refl, sym, ap, ◌∙◌}
use Rattle.dk_types.specs.declared.number.ObjectId.{ObjectId}
use Rattle.dk_types.specs.declared.object.Object.{Object}
use Rattle.dk_types.specs.declared.item.Item.TheVariants as ask
use Rattle.dk_types.specs.Keys.{id_cmp}
use Rattle.dk_map.specs.Entries.{IsOrdered, put}
use Rattle.dk_map.specs.AsMap.{map_of}
use Rattle.dk_map.proofs.Seen.{put_seen}
use Rattle.std.proofs.lemmas.List.{append-nil, append_assoc}
use Rattle.dk_overlay.specs.declared.change.Change.{Change}
use Rattle.dk_overlay.specs.Changes.{put_each}
use Rattle.dk_overlay.specs.ReadsAndWrites.{ReadsAndWrites, changing_object, changing_objects}
use Rattle.dk_overlay.proofs.Keys.{ids_total}

-- one more is put
pub one_put : (left rest : List (ObjectId × Change Object)) (id : ObjectId) (change : Change Object) (es fs : List (ObjectId × Change Object)) → left ≡ (id, change) ∷ rest → IsOrdered id_cmp es → fs ≡ put id_cmp id change es
    → put_each rest (map_of id_cmp fs) ≡ put_each left (map_of id_cmp es)
one_put left rest id change es fs is ordered done = ap (put_each rest) (put_seen ids_total es refl ordered id change fs done) ∙ sym (ap (λ l. put_each l (map_of id_cmp es)) is)

-- and there is room for what is left
pub still_room : {A : Type 0} (left rest : List A) (x : A) (b : Bool) (spare now : ℕ) → left ≡ x ∷ rest → length left ≤ spare → now + cond b 0 1 ≡ spare → length rest ≤ now
still_room left rest x true spare now is room took = omega (arith, room, took, ap length is)
still_room left rest x false spare now is room took = omega (arith, room, took, ap length is)

-- objects changed one after another are all put and all listed
pub all_changed : (t : ReadsAndWrites) (changes : List (ObjectId × Change Object)) → changing_objects t changes ≡ record t { objects = put_each changes t.objects; touched = t.touched ++ each (λ c. ask.Object c.0) changes }
all_changed t [] = ap (λ items. record t { touched = items }) (sym (append-nil t.touched))
all_changed t (c ∷ changes) = all_changed (changing_object t c.0 c.1) changes ∙ ap (λ items. record t { objects = put_each (c ∷ changes) t.objects; touched = items }) (append_assoc t.touched (ask.Object c.0 ∷ []) (each (λ c. ask.Object c.0) changes))
