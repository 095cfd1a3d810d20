-- A valid world has an image in the format that is written, where 32 bits hold the image's length.
use Rattle.std.proofs.Common.{◌≡◌, ◌↔◌, ℕ, ◌+◌, ◌<◌, ◌≤◌, ◌^◌, true, Option, Some, None, List, [], ◌∷◌, ◌++◌, map, length, refl, sym, subst, arith, length-append}
use Rattle.std.proofs.lemmas.Bool.{le-leb, ne_eqb}
use Rattle.std.proofs.lemmas.List.{map-id}
use Rattle.std.specs.List.{flat_map}
use Rattle.std.specs.FinMap.{entries}
use Rattle.dk_types.specs.declared.number.RunNo.{RunNo}
use Rattle.dk_types.specs.declared.number.ObjectId.{ObjectId}
use Rattle.dk_types.specs.declared.number.TaskKey.{TaskKey}
use Rattle.dk_types.specs.declared.object.Object.{Object}
use Rattle.dk_types.specs.declared.durable.Pending.{Pending}
use Rattle.dk_types.specs.declared.limits.TheConstants.{NUMBERS_END, MOMENT_MOST_MS, DELAY_MOST_MS, PERIOD_MOST_MS}
use Rattle.dk_types.specs.Fields.{u16_spelling, u32_spelling, u64_spelling, blob_spelling, name_spelling, id_spelling, key_spelling}
use Rattle.dk_types.specs.Lists.{IsList, list_spelling}
use Rattle.dk_types.specs.Names.{IsName, bytes_cmp}
use Rattle.dk_wire.proofs.LengthLaws.{length-u64, length-id, length-key, length-u32}
use Rattle.dk_model.specs.Keys.{id_cmp, key_cmp}
use Rattle.dk_model.specs.DurableWorlds.{DurableWorld, Task}
use Rattle.dk_model.specs.Validity.{IsValid, IsNumbered, IsCommitted, IsObject, IsTask, next_of}
use Rattle.dk_model.specs.Effects.{pending_of}
use Rattle.dk_model.specs.Entries.{IsObjectItem, IsBinding, IsPendingItem, object_spelling, binding_spelling, pending_spelling, is_above_last}
use Rattle.dk_model.specs.Images.{IsImageValue, agrees_with, image_spelling, world_lists, SpellsImage}
use Rattle.dk_model.proofs.Maps.{ids_total, exact_ids, keys_total, exact_keys, names_total, exact_names}
use Rattle.dk_entry.proofs.MapLists.{listed}

-- items that have a byte are no more than their bytes
few : {A : Type 0} (sp : A → List ℕ) → ((x : A) → 1 ≤ length (sp x)) → (xs : List A) → length xs ≤ length (flat_map sp xs)
few sp some [] = omega arith
few sp some (x ∷ xs) = omega (arith, length-append (sp x) (flat_map sp xs), some x, few sp some xs)

few_listed : {A : Type 0} (sp : A → List ℕ) → ((x : A) → 1 ≤ length (sp x)) → (xs : List A) → length xs ≤ length (list_spelling sp xs)
unfolding list_spelling
few_listed sp some xs = omega (arith, length-append (u32_spelling (length xs)) (flat_map sp xs), few sp some xs)

object_some : (item : ObjectId × Object) → 1 ≤ length (object_spelling item)
object_some item = omega (arith, length-append (id_spelling item.0) (u16_spelling item.1.kind ++ blob_spelling item.1.bytes), length-id item.0)

binding_some : (item : List ℕ × ObjectId) → 1 ≤ length (binding_spelling item)
binding_some item = omega (arith, length-append (name_spelling item.0) (id_spelling item.1), length-id item.1)

pending_some : (task : Pending) → 1 ≤ length (pending_spelling task)
pending_some task = omega (arith, length-append (key_spelling task.key) (u64_spelling task.due ++ (u64_spelling task.period ++ (u16_spelling task.kind ++ blob_spelling task.arg))), length-key task.key)

agreed : (commits : ℕ) (last : Option RunNo) → next_of last ≤ NUMBERS_END → commits ≤ next_of last → ((commits ≡ 0) ↔ (last ≡ None)) → agrees_with commits (next_of last) ≡ true
agreed commits None small fits begun = let none : commits ≡ 0 = begun.1 refl in rw none refl
agreed commits (Some run) small fits begun =
    rw (le-leb (run.0 + 1) NUMBERS_END small, le-leb commits (run.0 + 1) fits, ne_eqb commits 0 (λ e. let no : Some run ≡ None = begun.0 e in absurd cc), ne_eqb (run.0 + 1) 0 (λ e. omega (arith, e))) refl

module _ (d : DurableWorld) (valid : IsValid d) (short : length (image_spelling (world_lists d)) < 2 ^ 32) where
  abbrev objects_spelled : List ℕ
  objects_spelled = list_spelling object_spelling (entries d.objects)

  abbrev names_spelled : List ℕ
  names_spelled = list_spelling binding_spelling (entries d.names)

  abbrev tasks_spelled : List ℕ
  tasks_spelled = list_spelling pending_spelling (map pending_of (entries d.tasks))

  long : length objects_spelled + length names_spelled + length tasks_spelled < 2 ^ 32
  long = omega (
    arith,
    short,
    length-append (u64_spelling d.commits) (u64_spelling (next_of d.last) ++ (objects_spelled ++ (names_spelled ++ tasks_spelled))),
    length-append (u64_spelling (next_of d.last)) (objects_spelled ++ (names_spelled ++ tasks_spelled)),
    length-append objects_spelled (names_spelled ++ tasks_spelled),
    length-append names_spelled tasks_spelled,
  )

  objects : IsList (IsObjectItem 2) (entries d.objects)
  objects = subst (IsList (IsObjectItem 2)) (map-id (entries d.objects))
      (listed id_cmp ids_total exact_ids (λ (e : ObjectId × Object). e.0) (λ (e : ObjectId × Object). e) (λ e. refl) (IsObjectItem 2) (λ id object. IsNumbered id.run id.k × IsCommitted d.last id.run × IsObject object)
      (λ before e above is. record { id = record { run = is.0.number; k = is.0.place }; above = above; kind = is.2.kind; bytes = omega (arith, is.2.body.short) })
      d.objects valid.objects (subst (λ (l : List (ObjectId × Object)). length l < 2 ^ 32) (sym (map-id (entries d.objects))) (omega (arith, long, few_listed object_spelling object_some (entries d.objects)))))

  names : IsList IsBinding (entries d.names)
  names = subst (IsList IsBinding) (map-id (entries d.names))
      (listed bytes_cmp names_total exact_names (λ (e : List ℕ × ObjectId). e.0) (λ (e : List ℕ × ObjectId). e) (λ e. refl) IsBinding (λ name id. IsName name × IsNumbered id.run id.k)
      (λ before e above is. record { name = is.0; above = above; id = record { run = is.1.number; k = is.1.place } })
      d.names valid.names (subst (λ (l : List (List ℕ × ObjectId)). length l < 2 ^ 32) (sym (map-id (entries d.names))) (omega (arith, long, few_listed binding_spelling binding_some (entries d.names)))))

  tasks : IsList (IsPendingItem 2) (map pending_of (entries d.tasks))
  tasks =
      listed key_cmp keys_total exact_keys (λ (p : Pending). p.key) pending_of (λ e. refl) (IsPendingItem 2) (λ key task. IsNumbered key.run key.k × IsCommitted d.last key.run × IsTask task)
      (λ before e above is. record {
        key = record { run = is.0.number; k = is.0.place };
        above = above;
        due = le-leb e.1.due (MOMENT_MOST_MS + DELAY_MOST_MS) is.2.due;
        period = le-leb e.1.period PERIOD_MOST_MS is.2.period;
        kind = is.2.kind;
        arg = omega (arith, is.2.arg.short);
      })
      d.tasks valid.tasks (omega (arith, long, few_listed pending_spelling pending_some (map pending_of (entries d.tasks))))

  valid_lists : IsImageValue 2 (world_lists d)
  valid_lists = record {
    commits = omega (arith, valid.commits, valid.last);
    next = agreed d.commits d.last valid.last valid.commits valid.begun;
    objects = objects;
    names = names;
    tasks = tasks;
  }

  pub valid_spells : SpellsImage 2 d (image_spelling (world_lists d))
  valid_spells = record { value = valid_lists; bytes = refl }
