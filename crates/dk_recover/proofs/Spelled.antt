-- A payload's bytes are bytes, and so are those of what it spells. It spells one value, and in the second format too.
use Rattle.std.proofs.Common.{◌≡◌, ⊎_elim, ℕ, ◌<◌, List, [], ◌∷◌, ◌++◌, length, refl, sym, ap, subst, ◌∙◌}
use Rattle.std.proofs.lemmas.List.{take_at, drop_at}
use Rattle.std.proofs.lemmas.List.Elements.{All-take, All-drop}
use Rattle.std.specs.List.{AllByRecursion, flat_map}
use Rattle.dk_types.specs.declared.number.ObjectId.{ObjectId}
use Rattle.dk_types.specs.declared.object.Object.{Object}
use Rattle.dk_types.specs.declared.durable.Pending.{Pending}
use Rattle.dk_types.specs.declared.durable.Effects.{Effects}
use Rattle.dk_types.specs.declared.durable.Entry.{Entry}
use Rattle.dk_types.specs.declared.durable.Durable.{Durable}
use Rattle.dk_types.specs.Fields.{u16_spelling, u32_spelling, u64_spelling, blob_spelling, id_spelling, key_spelling, name_spelling}
use Rattle.dk_types.specs.Lists.{list_spelling}
use Rattle.dk_types.proofs.ExactLaws.{prefix_free}
use Rattle.dk_model.specs.Validity.{next_of}
use Rattle.dk_model.specs.Entries.{IsFormat, IsEntry, AreEntries, SpellsEntries, object_spelling, binding_spelling, pending_spelling, moved_spelling, effects_spelling, entry_spelling, entries_spelling, entries_at}
use Rattle.dk_model.specs.Images.{IsImageValue, image_spelling, image_at}
use Rattle.dk_entry.specs.EntryLaws.{entries_exact}
use Rattle.dk_entry.proofs.Limits.{entries_more}
use Rattle.dk_image.specs.ImageLaws.{image_exact}
use Rattle.dk_image.proofs.Limits.{image_more}
use Rattle.dk_recover.specs.Bytes.{AreBytes, HaveObjectBytes, HaveTaskBytes, HaveBytes, EachHasBytes}
use Rattle.dk_recover.proofs.Items.{list_each}

left : (xs ys : List ℕ) → AreBytes (xs ++ ys) → AreBytes xs
left xs ys h = subst AreBytes (take_at xs ys (length xs) refl) (All-take (λ b. b < 256) (length xs) (xs ++ ys) h)

right : (xs ys : List ℕ) → AreBytes (xs ++ ys) → AreBytes ys
right xs ys h = subst AreBytes (drop_at xs ys (length xs) refl) (All-drop (λ b. b < 256) (length xs) (xs ++ ys) h)

each_spelled : {A : Type 0} (sp : A → List ℕ) (P : A → Type 0) → ((x : A) → AreBytes (sp x) → P x) → (xs : List A) → AreBytes (flat_map sp xs) → AllByRecursion P xs
each_spelled sp P to [] h = tt
each_spelled sp P to (x ∷ xs) h = (to x (left (sp x) (flat_map sp xs) h), each_spelled sp P to xs (right (sp x) (flat_map sp xs) h))

list_spelled : {A : Type 0} (sp : A → List ℕ) (P : A → Type 0) → ((x : A) → AreBytes (sp x) → P x) → (xs : List A) → AreBytes (list_spelling sp xs) → AllByRecursion P xs
unfolding list_spelling
list_spelled sp P to xs h = each_spelled sp P to xs (right (u32_spelling (length xs)) (flat_map sp xs) h)

blob_bytes : (blob : List ℕ) → AreBytes (blob_spelling blob) → AreBytes blob
unfolding blob_spelling
blob_bytes blob h = right (u32_spelling (length blob)) blob h

object_bytes : (o : ObjectId × Object) → AreBytes (object_spelling o) → AreBytes o.1.bytes
object_bytes o h = blob_bytes o.1.bytes (right (u16_spelling o.1.kind) (blob_spelling o.1.bytes) (right (id_spelling o.0) (u16_spelling o.1.kind ++ blob_spelling o.1.bytes) h))

task_bytes : (p : Pending) → AreBytes (pending_spelling p) → AreBytes p.arg
task_bytes p h =
    blob_bytes p.arg (right (u16_spelling p.kind) (blob_spelling p.arg) (right (u64_spelling p.period) (u16_spelling p.kind ++ blob_spelling p.arg) (right (u64_spelling p.due) (u64_spelling p.period ++ (u16_spelling p.kind ++ blob_spelling p.arg))
    (right (key_spelling p.key) (u64_spelling p.due ++ (u64_spelling p.period ++ (u16_spelling p.kind ++ blob_spelling p.arg))) h))))

effects_bytes : (e : Effects) → AreBytes (effects_spelling e) → HaveBytes e
effects_bytes e h =
    let tasks = list_spelling pending_spelling e.added ++ (list_spelling key_spelling e.dropped ++ list_spelling moved_spelling e.requeued) in
    let names = list_spelling binding_spelling e.bound ++ (list_spelling name_spelling e.unbound ++ tasks) in
    let behind = list_spelling id_spelling e.removed ++ names in (
      list_spelled object_spelling (λ (o : ObjectId × Object). AreBytes o.1.bytes) object_bytes e.written (left (list_spelling object_spelling e.written) behind h),
      list_spelled pending_spelling (λ (p : Pending). AreBytes p.arg) task_bytes e.added (left (list_spelling pending_spelling e.added) (list_spelling key_spelling e.dropped ++ list_spelling moved_spelling e.requeued)
          (right (list_spelling name_spelling e.unbound) tasks (right (list_spelling binding_spelling e.bound) (list_spelling name_spelling e.unbound ++ tasks) (right (list_spelling id_spelling e.removed) names (right (list_spelling object_spelling e.written) behind h))))),
    )

pub entries_bytes : (es : List Entry) → AreBytes (entries_spelling es) → EachHasBytes es
entries_bytes es h = list_spelled entry_spelling (λ (e : Entry). HaveBytes e.effects)
    (λ e f. effects_bytes e.effects (right (u64_spelling e.run.0) (effects_spelling e.effects) (right (u64_spelling e.seq) (u64_spelling e.run.0 ++ effects_spelling e.effects) f))) es h

pub image_bytes : (d : Durable) → AreBytes (image_spelling d) → HaveObjectBytes d.objects × HaveTaskBytes d.tasks
image_bytes d h =
    let tasks = list_spelling pending_spelling d.tasks in
    let names = list_spelling binding_spelling d.names ++ tasks in
    let objects = list_spelling object_spelling d.objects ++ names in
    let lists : AreBytes objects = right (u64_spelling (next_of d.last)) objects (right (u64_spelling d.commits) (u64_spelling (next_of d.last) ++ objects) h) in (
      list_spelled object_spelling (λ (o : ObjectId × Object). AreBytes o.1.bytes) object_bytes d.objects (left (list_spelling object_spelling d.objects) names lists),
      list_spelled pending_spelling (λ (p : Pending). AreBytes p.arg) task_bytes d.tasks (right (list_spelling binding_spelling d.names) tasks (right (list_spelling object_spelling d.objects) names lists)),
    )

-- a payload spells one list of entries
pub entries_one : (format : ℕ) (es fs : List Entry) (payload : List ℕ) → AreEntries format es → payload ≡ entries_spelling es → SpellsEntries format fs payload → fs ≡ es
entries_one format es fs payload are bytes spelled =
    (prefix_free (AreEntries format) entries_spelling (entries_at format) (entries_exact format) fs es [] [] spelled.are are (ap (λ (l : List ℕ). l ++ []) (sym spelled.bytes ∙ bytes))).0

-- and one image
pub image_one : (format : ℕ) (d e : Durable) (payload : List ℕ) → IsImageValue format d → payload ≡ image_spelling d → IsImageValue format e → payload ≡ image_spelling e → e ≡ d
image_one format d e payload is_d bytes_d is_e bytes_e =
    (prefix_free (IsImageValue format) image_spelling (image_at format) (image_exact format) e d [] [] is_e is_d (ap (λ (l : List ℕ). l ++ []) (sym bytes_e ∙ bytes_d))).0

pub second_entries : (format : ℕ) → IsFormat format → (es : List Entry) → AreEntries format es → AllByRecursion (IsEntry 2) es
second_entries format is es are =
    let second : AreEntries 2 es = ⊎_elim (λ one. entries_more es (subst (λ (n : ℕ). AreEntries n es) one are)) (λ two. subst (λ (n : ℕ). AreEntries n es) two are) is in
    list_each (IsEntry 2) (λ before. IsEntry 2) (λ before e fits. fits) es second.0

pub second_image : (format : ℕ) → IsFormat format → (d : Durable) → IsImageValue format d → IsImageValue 2 d
second_image format is d value = ⊎_elim (λ one. image_more d (subst (λ (n : ℕ). IsImageValue n d) one value)) (λ two. subst (λ (n : ℕ). IsImageValue n d) two value) is
