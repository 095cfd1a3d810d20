-- Objects, ids, bound names and names in ascending lists are read exactly.
use Rattle.std.proofs.Common.{ℕ, ◌<◌, ◌^◌, ◌==◌, true, false, cond, List, Option, refl, arith}
use Rattle.dk_types.specs.Names.{bytes_cmp}
use Rattle.dk_types.specs.declared.number.ObjectId.{ObjectId}
use Rattle.dk_types.specs.declared.object.Object.{Object}
use Rattle.dk_types.specs.Fields.{name_spelling, id_spelling}
use Rattle.dk_types.specs.Exact.{IsExact}
use Rattle.dk_types.proofs.Composing.{then_exact, last_exact, checked_exact}
use Rattle.dk_types.proofs.NextLaws.{next_u16_exact, next_name_exact, next_blob_exact, next_id_exact}
use Rattle.dk_model.specs.Keys.{id_cmp}
use Rattle.dk_model.specs.Entries.{blob_most, is_above_last, IsObjectItem, object_spelling, object_at, IsIdItem, id_item_at, IsBinding, binding_spelling, binding_at, IsNameItem, name_item_at}

-- a blob's length has 32 bits
pub blob_small : (format : ℕ) → blob_most format < 2 ^ 32
blob_small format = elim (format == 1) as (λ b. cond b 65535 1048576 < 2 ^ 32) [ true ↦ omega arith | false ↦ omega arith ]

-- reading an object takes back what its bytes say, and nothing else
pub object_exact : (format : ℕ) (before : Option (ObjectId × Object)) → IsExact (IsObjectItem format before) object_spelling (object_at format before)
unfolding object_at
object_exact format before =
    then_exact (λ (item : ObjectId × Object). item.0) _ (checked_exact (is_above_last id_cmp (λ (e : ObjectId × Object). e.0) before) next_id_exact) (λ item is. (is.id, is.above)) (λ id fits.
    then_exact (λ (item : ObjectId × Object). item.1.kind) _ next_u16_exact (λ item is. is.0.kind) (λ kind small.
    last_exact (λ (item : ObjectId × Object). item.1.bytes) (λ bytes. (id, record { kind = kind; bytes = bytes })) (next_blob_exact (blob_most format) (blob_small format)) (λ item is. is.0.0.bytes)
    (λ bytes fit. ((record { id = fits.0; above = fits.1; kind = small; bytes = fit }, refl), refl)) (λ bytes. refl) (λ item is i. (is.0.1 i, record { kind = is.1 i; bytes = item.1.bytes }))))

-- the same of an id
pub id_item_exact : (before : Option ObjectId) → IsExact (IsIdItem before) id_spelling (id_item_at before)
unfolding id_item_at
id_item_exact before = checked_exact (is_above_last id_cmp (λ (e : ObjectId). e) before) next_id_exact

-- the same of a binding
pub binding_exact : (before : Option (List ℕ × ObjectId)) → IsExact (IsBinding before) binding_spelling (binding_at before)
unfolding binding_at
binding_exact before =
    then_exact (λ (item : List ℕ × ObjectId). item.0) _ (checked_exact (is_above_last bytes_cmp (λ (e : List ℕ × ObjectId). e.0) before) next_name_exact) (λ item is. (is.name, is.above)) (λ name fits.
    last_exact (λ (item : List ℕ × ObjectId). item.1) (λ id. (name, id)) next_id_exact (λ item is. is.0.id)
    (λ id is. (record { name = fits.0; above = fits.1; id = is }, refl)) (λ id. refl) (λ item is i. (is.1 i, item.1)))

-- the same of a name
pub name_item_exact : (before : Option (List ℕ)) → IsExact (IsNameItem before) name_spelling (name_item_at before)
unfolding name_item_at
name_item_exact before = checked_exact (is_above_last bytes_cmp (λ (e : List ℕ). e) before) next_name_exact
