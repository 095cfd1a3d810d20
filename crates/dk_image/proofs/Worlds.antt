-- The payloads of a store have one world, which is valid; one more is its entries, and fewer have a world too.
use Rattle.std.proofs.Common.{◌≡◌, ⊎_elim, inl, inr, ℕ, ◌<◌, append_assoc, Some, None, List, [], ◌∷◌, ◌++◌, map, refl, sym, ◌∙◌, ap, subst, arith}
use Rattle.std.specs.FinMap.{entries, same_entries_map, get-empty}
use Rattle.dk_types.specs.declared.durable.Durable.{Durable}
use Rattle.dk_types.specs.declared.durable.Entry.{Entry}
use Rattle.dk_types.specs.declared.number.TaskKey.{TaskKey}
use Rattle.dk_types.proofs.ExactLaws.{prefix_free}
use Rattle.dk_types.specs.Names.{bytes_cmp}
use Rattle.dk_model.specs.Keys.{id_cmp, key_cmp}
use Rattle.dk_model.specs.DurableWorlds.{DurableWorld, Task, empty_world}
use Rattle.dk_model.specs.Effects.{after, pending_of, task_of}
use Rattle.dk_model.specs.Entries.{AreEntries, entries_spelling, entries_at}
use Rattle.dk_model.specs.Images.{IsImageValue, image_spelling, image_at, world_lists, SpellsImage}
use Rattle.dk_model.specs.Stores.{StoreHeader}
use Rattle.dk_model.specs.Validity.{IsValid}
use Rattle.dk_model.specs.Recovered.{Follow, Takes, TakeAll, BeginsWithImage, HasWorld}
use Rattle.dk_entry.specs.EntryLaws.{entries_exact}
use Rattle.dk_image.specs.ImageLaws.{image_exact}

tasks_back : (es : List (TaskKey × Task)) → map task_of (map pending_of es) ≡ es
tasks_back [] = refl
tasks_back (e ∷ es) = ap (λ (l : List (TaskKey × Task)). e ∷ l) (tasks_back es)

-- a world is told by its lists
lists_tell : (d e : DurableWorld) → world_lists d ≡ world_lists e → d ≡ e
lists_tell d e same i =
    record {
      objects = same_entries_map d.objects e.objects (ap (λ (l : Durable). l.objects) same) i;
      names = same_entries_map d.names e.names (ap (λ (l : Durable). l.names) same) i;
      tasks = same_entries_map d.tasks e.tasks (sym (tasks_back (entries d.tasks)) ∙ ap (λ (l : Durable). map task_of l.tasks) same ∙ tasks_back (entries e.tasks)) i;
      commits = (same i).commits;
      last = (same i).last;
    }

follow_one : (d e f : DurableWorld) (es : List Entry) → Follow d es e → Follow d es f → e ≡ f
follow_one d e f [] a b = sym a ∙ b
follow_one d e f (x ∷ xs) a b = follow_one (after x d) e f xs a.1 b.1

takes_one : (format : ℕ) (d e f : DurableWorld) (payload : List ℕ) → Takes format d payload e → Takes format d payload f → e ≡ f
takes_one format d e f payload a b =
    let same = prefix_free (AreEntries format) entries_spelling (entries_at format) (entries_exact format) a.entries b.entries [] [] a.spelled.are b.spelled.are
    (ap (λ (l : List ℕ). l ++ []) (sym a.spelled.bytes ∙ b.spelled.bytes)) in
    follow_one d e f b.entries (subst (λ (es : List Entry). Follow d es e) same.0 a.follow) b.follow

take_all_one : (format : ℕ) (d e f : DurableWorld) (payloads : List (List ℕ)) → TakeAll format d payloads e → TakeAll format d payloads f → e ≡ f
take_all_one format d e f [] a b = sym a ∙ b
take_all_one format d e f (p ∷ ps) a b =
    let same : a.0 ≡ b.0 = takes_one format d a.0 b.0 p a.1 b.1 in
    take_all_one format b.0 e f ps (subst (λ (m : DurableWorld). TakeAll format m ps e) same a.2) b.2

begins_one : (format : ℕ) (d e : DurableWorld) (payloads : List (List ℕ)) → BeginsWithImage format payloads d → BeginsWithImage format payloads e → d ≡ e
begins_one format d e payloads a b =
    let parts : a.image ∷ a.others ≡ b.image ∷ b.others = sym a.parts ∙ b.parts in
    let image : a.image ≡ b.image = cc in
    let others : a.others ≡ b.others = cc in
    let same = prefix_free (IsImageValue format) image_spelling (image_at format) (image_exact format) (world_lists a.first) (world_lists b.first) [] [] a.spelled.value b.spelled.value
    (ap (λ (l : List ℕ). l ++ []) (sym a.spelled.bytes ∙ image ∙ b.spelled.bytes)) in
    let first : a.first ≡ b.first = lists_tell a.first b.first same.0 in
    take_all_one format b.first d e b.others (subst (λ (ps : List (List ℕ)). TakeAll format b.first ps d) others (subst (λ (m : DurableWorld). TakeAll format m a.others d) first a.rest)) b.rest

pub one_world : (header : StoreHeader) (payloads : List (List ℕ)) (d e : DurableWorld) → HasWorld header payloads d → HasWorld header payloads e → d ≡ e
one_world header payloads d e a b = ⊎_elim
    (λ zero_a. ⊎_elim (λ zero_b. take_all_one header.format empty_world d e payloads zero_a.1 zero_b.1) (λ more_b. absurd (omega (arith, zero_a.0, more_b.0))) b)
    (λ more_a. ⊎_elim (λ zero_b. absurd (omega (arith, more_a.0, zero_b.0))) (λ more_b. begins_one header.format d e payloads more_a.1 more_b.1) b)
    a

push : (format : ℕ) (d e f : DurableWorld) (payloads : List (List ℕ)) (payload : List ℕ) → TakeAll format d payloads e → Takes format e payload f → TakeAll format d (payloads ++ payload ∷ []) f
push format d e f [] payload all next = (f, subst (λ (m : DurableWorld). Takes format m payload f) (sym all) next, refl)
push format d e f (p ∷ ps) payload all next = (all.0, all.1, push format all.0 e f ps payload all.2 next)

-- one more record
pub next_world : (header : StoreHeader) (payloads : List (List ℕ)) (payload : List ℕ) (d e : DurableWorld) → HasWorld header payloads d → Takes header.format d payload e → HasWorld header (payloads ++ payload ∷ []) e
next_world header payloads payload d e world next = ⊎_elim
    (λ zero_epoch. inl (zero_epoch.0, push header.format empty_world d e payloads payload zero_epoch.1 next))
    (λ more.
    let b = more.1 in
    inr (
      more.0,
      record {
        image = b.image;
        others = b.others ++ payload ∷ [];
        parts = ap (λ (ps : List (List ℕ)). ps ++ payload ∷ []) b.parts;
        first = b.first;
        spelled = b.spelled;
        valid = b.valid;
        rest = push header.format b.first d e b.others payload b.rest next;
      },
    ))
    world

take_all_split : (format : ℕ) (d e : DurableWorld) (ps qs : List (List ℕ)) → TakeAll format d (ps ++ qs) e → (mid : DurableWorld) × TakeAll format d ps mid × TakeAll format mid qs e
take_all_split format d e [] qs all = (d, refl, all)
take_all_split format d e (p ∷ ps) qs all = let rest = take_all_split format all.0 e ps qs all.2 in (rest.0, (all.0, all.1, rest.1), rest.2)

-- the last payload takes the world before it to the one after it
pub last_world : (header : StoreHeader) (payloads : List (List ℕ)) (payload : List ℕ) (d e : DurableWorld) → HasWorld header payloads d → HasWorld header (payloads ++ payload ∷ []) e → Takes header.format d payload e
last_world header payloads payload d e before world = ⊎_elim
    (λ first.
    let parts = take_all_split header.format empty_world e payloads (payload ∷ []) first.1 in
    let same : parts.0 ≡ d = one_world header payloads parts.0 d (inl (first.0, parts.1)) before in
    subst (λ (m : DurableWorld). Takes header.format m payload e) same (subst (λ (m : DurableWorld). Takes header.format parts.0 payload m) parts.2.2 parts.2.1))
    (λ more. ⊎_elim
    (λ none. absurd (omega (arith, none.0, more.0)))
    (λ (had : (0 < header.epoch) × BeginsWithImage header.format payloads d).
    let a = more.1 in
    let b = had.1 in
    let lists : b.image ∷ (b.others ++ payload ∷ []) ≡ a.image ∷ a.others = ap (λ (ps : List (List ℕ)). ps ++ payload ∷ []) (sym b.parts) ∙ a.parts in
    let others : a.others ≡ b.others ++ payload ∷ [] = cc in
    let image : b.image ≡ a.image = cc in
    let parts = take_all_split header.format a.first e b.others (payload ∷ []) (subst (λ (ps : List (List ℕ)). TakeAll header.format a.first ps e) others a.rest) in
    let begins : BeginsWithImage header.format payloads parts.0 =
    record { image = a.image; others = b.others; parts = b.parts ∙ ap (λ (i : List ℕ). i ∷ b.others) image; first = a.first; spelled = a.spelled; valid = a.valid; rest = parts.1 } in
    let same : parts.0 ≡ d = one_world header payloads parts.0 d (inr (more.0, begins)) before in
    subst (λ (m : DurableWorld). Takes header.format m payload e) same (subst (λ (m : DurableWorld). Takes header.format parts.0 payload m) parts.2.2 parts.2.1))
    before)
    world

-- the payloads at the front have a world, where there is one of them at least
pub front_world : (header : StoreHeader) (ps : List (List ℕ)) (p : List ℕ) (qs : List (List ℕ)) (e : DurableWorld) → HasWorld header (ps ++ p ∷ qs) e → (d : DurableWorld) × HasWorld header (ps ++ p ∷ []) d
front_world header ps p qs e world = ⊎_elim
    (λ first.
    let parts = take_all_split header.format empty_world e (ps ++ p ∷ []) qs (subst (λ (l : List (List ℕ)). TakeAll header.format empty_world l e) (sym (append_assoc ps (p ∷ []) qs)) first.1) in
    (parts.0, inl (first.0, parts.1)))
    (λ more. let front = front_begins header.format ps more.1 in (front.0, inr (more.0, front.1)))
    world
  where
    front_begins : (format : ℕ) (ps : List (List ℕ)) → BeginsWithImage format (ps ++ p ∷ qs) e → (d : DurableWorld) × BeginsWithImage format (ps ++ p ∷ []) d
    front_begins format [] b =
        let parts : p ∷ qs ≡ b.image ∷ b.others = b.parts in
        let image : p ≡ b.image = cc in
        (b.first, record { image = b.image; others = []; parts = ap (λ (i : List ℕ). i ∷ []) image; first = b.first; spelled = b.spelled; valid = b.valid; rest = refl })
    front_begins format (x ∷ xs) b =
        let parts : x ∷ (xs ++ p ∷ qs) ≡ b.image ∷ b.others = b.parts in
        let image : x ≡ b.image = cc in
        let others : b.others ≡ xs ++ p ∷ qs = cc in
        let split = take_all_split format b.first e (xs ++ p ∷ []) qs (subst (λ (l : List (List ℕ)). TakeAll format b.first l e) (others ∙ sym (append_assoc xs (p ∷ []) qs)) b.rest) in
        (split.0, record { image = b.image; others = xs ++ p ∷ []; parts = ap (λ (i : List ℕ). i ∷ (xs ++ p ∷ [])) image; first = b.first; spelled = b.spelled; valid = b.valid; rest = split.1 })

-- the first payload of a greater epoch is the image of a valid world
pub image_first : (header : StoreHeader) (p : List ℕ) (e : DurableWorld) → 0 < header.epoch → HasWorld header (p ∷ []) e → (first : DurableWorld) × SpellsImage header.format first p × IsValid first
image_first header p e epoch world = ⊎_elim
    (λ none. absurd (omega (arith, none.0, epoch)))
    (λ (more : (0 < header.epoch) × BeginsWithImage header.format (p ∷ []) e).
    let b = more.1 in
    let parts : p ∷ [] ≡ b.image ∷ b.others = b.parts in
    let image : b.image ≡ p = cc in
    (b.first, subst (SpellsImage header.format b.first) image b.spelled, b.valid))
    world

-- a greater epoch has an image
pub some_image : (header : StoreHeader) (e : DurableWorld) → 0 < header.epoch → HasWorld header [] e → ⊥
some_image header e epoch world = ⊎_elim
    (λ none. absurd (omega (arith, none.0, epoch)))
    (λ (more : (0 < header.epoch) × BeginsWithImage header.format [] e). let b = more.1 in let parts : [] ≡ b.image ∷ b.others = b.parts in absurd cc)
    world

pub empty_valid : IsValid empty_world
empty_valid = record {
  objects = λ id object found. let no : None ≡ Some object = sym (get-empty id_cmp id) ∙ found in absurd cc;
  names = λ name id found. let no : None ≡ Some id = sym (get-empty bytes_cmp name) ∙ found in absurd cc;
  tasks = λ key task found. let no : None ≡ Some task = sym (get-empty key_cmp key) ∙ found in absurd cc;
  last = omega arith;
  commits = omega arith;
  begun = (λ _. refl, λ _. refl);
}

follow_valid : (d e : DurableWorld) (entries : List Entry) → IsValid d → Follow d entries e → IsValid e
follow_valid d e [] valid follow = subst IsValid follow valid
follow_valid d e (x ∷ xs) valid follow = follow_valid (after x d) e xs follow.0.valid follow.1

pub takes_valid : (format : ℕ) (d e : DurableWorld) (payload : List ℕ) → IsValid d → Takes format d payload e → IsValid e
takes_valid format d e payload valid takes = follow_valid d e takes.entries valid takes.follow

take_all_valid : (format : ℕ) (d e : DurableWorld) (payloads : List (List ℕ)) → IsValid d → TakeAll format d payloads e → IsValid e
take_all_valid format d e [] valid all = subst IsValid all valid
take_all_valid format d e (p ∷ ps) valid all = take_all_valid format all.0 e ps (follow_valid d all.0 all.1.entries valid all.1.follow) all.2

-- the world of payloads is valid
pub world_valid : (header : StoreHeader) (payloads : List (List ℕ)) (d : DurableWorld) → HasWorld header payloads d → IsValid d
world_valid header payloads d world = ⊎_elim
    (λ first. take_all_valid header.format empty_world d payloads empty_valid first.1)
    (λ more. take_all_valid header.format more.1.first d more.1.others more.1.valid more.1.rest)
    world
