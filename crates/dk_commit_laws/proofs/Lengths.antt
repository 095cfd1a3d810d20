-- How long an entry's spelling is.
use Rattle.std.proofs.Common.{◌≡◌, ℕ, ◌+◌, List, [], ◌∷◌, ◌++◌, length, refl, ap, ◌∙◌, arith, length-append}
use Rattle.std.specs.List.{sum_by}
use Rattle.std.proofs.lemmas.List.Sums.{sum_by-append}
use Rattle.dk_types.specs.declared.number.ObjectId.{ObjectId}
use Rattle.dk_types.specs.declared.number.TaskKey.{TaskKey}
use Rattle.dk_types.specs.declared.object.Object.{Object}
use Rattle.dk_types.specs.declared.durable.Pending.{Pending}
use Rattle.dk_types.specs.declared.durable.Effects.{Effects}
use Rattle.dk_types.specs.declared.durable.Entry.{Entry}
use Rattle.dk_types.specs.Fields.{u16_spelling, u64_spelling, name_spelling, blob_spelling, id_spelling, key_spelling}
use Rattle.dk_types.specs.Lists.{list_spelling}
use Rattle.dk_wire.proofs.LengthLaws.{length-u16, length-u64, length-name, length-blob, length-id, length-key, length-list}
use Rattle.dk_model.specs.Effects.{effects_length, list_length, object_length, binding_length, name_length, pending_length}
use Rattle.dk_model.specs.Entries.{object_spelling, binding_spelling, pending_spelling, moved_spelling, effects_spelling, entry_spelling, entries_spelling}

sum_same : {A : Type 0} (f g : A → ℕ) → ((x : A) → f x ≡ g x) → (xs : List A) → sum_by f xs ≡ sum_by g xs
sum_same f g same [] = refl
sum_same f g same (x ∷ xs) =
    let rest = sum_same f g same xs in
    let first = same x in
    let one : sum_by f (x ∷ []) ≡ 0 + f x = refl in
    let other : sum_by g (x ∷ []) ≡ 0 + g x = refl in
    omega (arith, rest, first, one, other, sum_by-append f (x ∷ []) xs, sum_by-append g (x ∷ []) xs)

listed : {A : Type 0} (spelling : A → List ℕ) (size : A → ℕ) → ((x : A) → length (spelling x) ≡ size x) → (xs : List A) → length (list_spelling spelling xs) ≡ list_length size xs
listed spelling size is xs = length-list spelling xs ∙ ap (λ n. 4 + n) (sum_same (λ x. length (spelling x)) size is xs)

object_is : (o : ObjectId × Object) → length (object_spelling o) ≡ object_length o
object_is o = omega (arith, length-append (id_spelling o.0) (u16_spelling o.1.kind ++ blob_spelling o.1.bytes), length-append (u16_spelling o.1.kind) (blob_spelling o.1.bytes), length-id o.0, length-u16 o.1.kind, length-blob o.1.bytes)

binding_is : (b : List ℕ × ObjectId) → length (binding_spelling b) ≡ binding_length b
binding_is b = omega (arith, length-append (name_spelling b.0) (id_spelling b.1), length-name b.0, length-id b.1)

pending_is : (p : Pending) → length (pending_spelling p) ≡ pending_length p
pending_is p =
    let kind = u16_spelling p.kind ++ blob_spelling p.arg in
    let period = u64_spelling p.period ++ kind in
    let due = u64_spelling p.due ++ period in
    omega (arith, length-append (key_spelling p.key) due, length-append (u64_spelling p.due) period, length-append (u64_spelling p.period) kind, length-append (u16_spelling p.kind) (blob_spelling p.arg), length-key p.key, length-u64 p.due, length-u64 p.period, length-u16 p.kind, length-blob p.arg)

moved_is : (m : TaskKey × ℕ) → length (moved_spelling m) ≡ 20
moved_is m = omega (arith, length-append (key_spelling m.0) (u64_spelling m.1), length-key m.0, length-u64 m.1)

effects_is : (e : Effects) → length (effects_spelling e) ≡ effects_length e
effects_is e =
    let f = list_spelling key_spelling e.dropped ++ list_spelling moved_spelling e.requeued in
    let t = list_spelling pending_spelling e.added ++ f in
    let u = list_spelling name_spelling e.unbound ++ t in
    let n = list_spelling binding_spelling e.bound ++ u in
    let r = list_spelling id_spelling e.removed ++ n in
    omega (
      arith,
      length-append (list_spelling object_spelling e.written) r,
      length-append (list_spelling id_spelling e.removed) n,
      length-append (list_spelling binding_spelling e.bound) u,
      length-append (list_spelling name_spelling e.unbound) t,
      length-append (list_spelling pending_spelling e.added) f,
      length-append (list_spelling key_spelling e.dropped) (list_spelling moved_spelling e.requeued),
      listed object_spelling object_length object_is e.written,
      listed id_spelling (λ id. 12) length-id e.removed,
      listed binding_spelling binding_length binding_is e.bound,
      listed name_spelling name_length length-name e.unbound,
      listed pending_spelling pending_length pending_is e.added,
      listed key_spelling (λ key. 12) length-key e.dropped,
      listed moved_spelling (λ m. 20) moved_is e.requeued,
    )

-- the payload of one entry
pub payload_is : (entry : Entry) → length (entries_spelling (entry ∷ [])) ≡ 20 + effects_length entry.effects
payload_is entry =
    let behind = u64_spelling entry.run.0 ++ effects_spelling entry.effects in
    omega (arith, length-list entry_spelling (entry ∷ []), length-append (u64_spelling entry.seq) behind, length-append (u64_spelling entry.run.0) (effects_spelling entry.effects), length-u64 entry.seq, length-u64 entry.run.0, effects_is entry.effects)
