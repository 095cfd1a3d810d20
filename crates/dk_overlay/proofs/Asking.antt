-- Lists of reads, and the places of their items.
use Rattle.std.proofs.Common.{◌≡◌, ℕ, zero, suc, ◌+◌, ◌<◌, ◌⊎◌, inl, inr, Option, Some, None, List, [], ◌∷◌, ◌++◌, length, take, true, false, IfNone, Result, Ok, Err, OnOk, refl, sym, ap, subst, ◌∙◌, arith}
use Rattle.std.specs.List.{AllByRecursion, slice_get}
use Rattle.std.proofs.lemmas.Bool.Decides.{eqb_tells}
use Rattle.dk_types.specs.declared.number.ObjectId.{ObjectId}
use Rattle.dk_types.specs.declared.number.TaskKey.{TaskKey}
use Rattle.dk_types.specs.declared.item.Item.{Item}
use Rattle.dk_types.specs.declared.item.Item.TheVariants as ask
use Rattle.dk_types.specs.declared.item.Read.{Read}
use Rattle.dk_types.specs.Names.{bytes_cmp}
use Rattle.dk_map.specs.Entries.{put, IsOrdered}
use Rattle.dk_types.specs.Keys.{id_cmp, key_cmp}
use Rattle.dk_overlay.specs.Asked.{WasRead, WasNotRead, IsOnce, IsIndexed, Places, place_in, AddsPlace, IsIndexedLong}
use Rattle.dk_overlay.proofs.Keys.{ids_total, ids_same, keys_total, keys_same, names_total, names_same}
use Rattle.dk_overlay.proofs.Finding.{found_here, found_others}
use Rattle.dk_overlay.specs.Items.{equal_items}
use Rattle.dk_overlay.proofs.SameItems.{item_itself}
use Rattle.dk_overlay.proofs.Tests.{Some_injective}

-- what holds of each item of a list holds of the one at a place
pub all_at : {X : Type 0} (P : X → Type 0) (xs : List X) (i : ℕ) (x : X) → slice_get xs i ≡ Some x → AllByRecursion P xs → P x
all_at P [] i x e h = cc
all_at P (y ∷ xs) zero x e h = subst P (Some_injective _ _ e) h.0
all_at P (y ∷ xs) (suc i) x e h = all_at P xs i x e h.1

get_front : {X : Type 0} (xs : List X) (y : X) (i : ℕ) (x : X) → slice_get xs i ≡ Some x → slice_get (xs ++ y ∷ []) i ≡ Some x
get_front [] y i x e = cc
get_front (z ∷ xs) y zero x e = e
get_front (z ∷ xs) y (suc i) x e = get_front xs y i x e

get_last : {X : Type 0} (xs : List X) (y : X) → slice_get (xs ++ y ∷ []) (length xs) ≡ Some y
get_last [] y = refl
get_last (z ∷ xs) y = get_last xs y

get_pushed : {X : Type 0} (xs : List X) (y : X) (i : ℕ) (x : X) → slice_get (xs ++ y ∷ []) i ≡ Some x → (slice_get xs i ≡ Some x) ⊎ ((i ≡ length xs) × (x ≡ y))
get_pushed [] y zero x e = inr (refl, sym (Some_injective _ _ e))
get_pushed [] y (suc i) x e = cc
get_pushed (z ∷ xs) y zero x e = inl e
get_pushed (z ∷ xs) y (suc i) x e = elim (get_pushed xs y i x e) [ inl h ↦ inl h | inr h ↦ inr (ap suc h.0, h.1) ]

pub WasRead-last : (reads : List (Item × Read)) (item : Item) (read : Read) → WasRead (reads ++ (item, read) ∷ []) item read
WasRead-last reads item read = (length reads, get_last reads (item, read))

-- the places of a list with one read more
module _ (reads : List (Item × Read)) (place next : Item → Option ℕ) (item : Item) (read : Read) where
  pub indexed_push : IsIndexed reads place → WasNotRead reads item → next item ≡ Some (length reads)
      → ((q : Item) → (q ≡ item) ⊎ (next q ≡ place q)) → IsIndexed (reads ++ (item, read) ∷ []) next
  indexed_push indexed fresh here others = record {
    right = λ q at e. elim (others q) [
      | inl same ↦
          let place_is : length reads ≡ at = Some_injective _ _ (sym here ∙ sym (ap next same) ∙ e) in
          (read, subst (λ n. slice_get (reads ++ (item, read) ∷ []) n ≡ Some (q, read)) place_is (get_last reads (item, read) ∙ ap (λ i. Some (i, read)) (sym same)))
      | inr old ↦
          let was = indexed.right q at (sym old ∙ e) in
          (was.0, get_front reads (item, read) at (q, was.0) was.1)
    ];
    whole = λ at e h. elim (get_pushed reads (item, read) at e h) [
      | inl was ↦ elim (others e.0) [
        | inl same ↦ absurd (fresh e.1 (at, was ∙ ap (λ i. Some (i, e.1)) same))
        | inr old ↦ old ∙ indexed.whole at e was
      ]
      | inr last ↦ ap (λ (x : Item × Read). next x.0) last.1 ∙ here ∙ ap Some (sym last.0)
    ];
  }

-- one read more, of an item that was not read
pub once_push : (reads : List (Item × Read)) (item : Item) (read : Read) → IsOnce reads → WasNotRead reads item → IsOnce (reads ++ (item, read) ∷ [])
once_push reads item read once fresh i j a b p q e = elim (get_pushed reads (item, read) i a p) [
  | inl was ↦ elim (get_pushed reads (item, read) j b q) [
    | inl other ↦ once i j a b was other e
    | inr last ↦ absurd (fresh a.1 (i, was ∙ ap (λ x. Some (x, a.1)) (e ∙ ap (λ (x : Item × Read). x.0) last.1)))
  ]
  | inr here ↦ elim (get_pushed reads (item, read) j b q) [
    | inl other ↦ absurd (fresh b.1 (j, other ∙ ap (λ x. Some (x, b.1)) (sym e ∙ ap (λ (x : Item × Read). x.0) here.1)))
    | inr last ↦ here.0 ∙ sym last.0
  ]
]

-- an item without a place was not read
pub indexed_none : (reads : List (Item × Read)) (place : Item → Option ℕ) → IsIndexed reads place → (item : Item) → place item ≡ None → WasNotRead reads item
indexed_none reads place indexed item none = λ read w. let there = indexed.whole w.0 (item, read) w.1 in cc

-- a place before the next one is before this one, or is this one
less_or_same : (i n : ℕ) → i < n + 1 → (i < n) ⊎ (i ≡ n)
less_or_same i n h = elim (eqb_tells i n) [ inl e ↦ inr e.1 | inr e ↦ inl (omega (arith, h, e.1)) ]

-- no item of those before is this one, nor that of the next
pub among_more : (reads : List (Item × Read)) (n : ℕ) (x : Item × Read) (item : Item) → slice_get reads n ≡ Some x → equal_items x.0 item ≡ false
    → ((i : ℕ) (read : Read) → i < n → slice_get reads i ≡ Some (item, read) → ⊥) → (i : ℕ) (read : Read) → i < n + 1 → slice_get reads i ≡ Some (item, read) → ⊥
among_more reads n x item here other before i read h e = elim (less_or_same i n h) [
  | inl less ↦ before i read less e
  | inr same ↦
      let is : x.0 ≡ item = ap (λ (y : Item × Read). y.0) (Some_injective _ _ (sym here ∙ ap (slice_get reads) (sym same) ∙ e)) in
      let told : equal_items x.0 item ≡ true = ap (λ y. equal_items y item) is ∙ item_itself item in
      absurd cc
]

-- an item that is added gets its place
module _ (p : Places) (at : ℕ) where
  pub adds_object : IsOrdered id_cmp p.objects → (id : ObjectId) → AddsPlace (place_in p) (place_in (record p { objects = put id_cmp id at p.objects })) (ask.Object id) at
  adds_object h id = (found_here ids_total ids_same p.objects h id at, others)
    where
      others : (q : Item) → (q ≡ ask.Object id) ⊎ (place_in (record p { objects = put id_cmp id at p.objects }) q ≡ place_in p q)
      others (ask.Object i) = elim (found_others ids_total ids_same p.objects h id at i) [ inl e ↦ inl (ap ask.Object e) | inr e ↦ inr e ]
      others (ask.Bound name) = inr refl
      others (ask.NextAfter None) = inr refl
      others (ask.NextAfter (Some after)) = inr refl
      others (ask.Task key) = inr refl

  pub adds_name : IsOrdered bytes_cmp p.names → (name : List ℕ) → AddsPlace (place_in p) (place_in (record p { names = put bytes_cmp name at p.names })) (ask.Bound name) at
  adds_name h name = (found_here names_total names_same p.names h name at, others)
    where
      others : (q : Item) → (q ≡ ask.Bound name) ⊎ (place_in (record p { names = put bytes_cmp name at p.names }) q ≡ place_in p q)
      others (ask.Object i) = inr refl
      others (ask.Bound n) = elim (found_others names_total names_same p.names h name at n) [ inl e ↦ inl (ap ask.Bound e) | inr e ↦ inr e ]
      others (ask.NextAfter None) = inr refl
      others (ask.NextAfter (Some after)) = inr refl
      others (ask.Task key) = inr refl

  pub adds_next : IsOrdered bytes_cmp p.nexts → (after : List ℕ) → AddsPlace (place_in p) (place_in (record p { nexts = put bytes_cmp after at p.nexts })) (ask.NextAfter (Some after)) at
  adds_next h after = (found_here names_total names_same p.nexts h after at, others)
    where
      others : (q : Item) → (q ≡ ask.NextAfter (Some after)) ⊎ (place_in (record p { nexts = put bytes_cmp after at p.nexts }) q ≡ place_in p q)
      others (ask.Object i) = inr refl
      others (ask.Bound n) = inr refl
      others (ask.NextAfter None) = inr refl
      others (ask.NextAfter (Some n)) = elim (found_others names_total names_same p.nexts h after at n) [ inl e ↦ inl (ap (λ x. ask.NextAfter (Some x)) e) | inr e ↦ inr e ]
      others (ask.Task key) = inr refl

  pub adds_task : IsOrdered key_cmp p.tasks → (key : TaskKey) → AddsPlace (place_in p) (place_in (record p { tasks = put key_cmp key at p.tasks })) (ask.Task key) at
  adds_task h key = (found_here keys_total keys_same p.tasks h key at, others)
    where
      others : (q : Item) → (q ≡ ask.Task key) ⊎ (place_in (record p { tasks = put key_cmp key at p.tasks }) q ≡ place_in p q)
      others (ask.Object i) = inr refl
      others (ask.Bound n) = inr refl
      others (ask.NextAfter None) = inr refl
      others (ask.NextAfter (Some after)) = inr refl
      others (ask.Task k) = elim (found_others keys_total keys_same p.tasks h key at k) [ inl e ↦ inl (ap ask.Task e) | inr e ↦ inr e ]

-- the same by what the code was told
pub added : (p q old new : Places) (it item : Item) (at : ℕ) → AddsPlace (place_in p) (place_in q) it at → p ≡ old → q ≡ new → it ≡ item → AddsPlace (place_in old) (place_in new) item at
added p q old new it item at adds was is same =
    subst (λ o. AddsPlace (place_in o) (place_in new) item at) was (subst (λ n. AddsPlace (place_in p) (place_in n) item at) is (subst (λ i. AddsPlace (place_in p) (place_in q) i at) same adds))

-- what stands in a front of a list stands there in the list
front_get : {X : Type 0} (xs : List X) (n i : ℕ) (x : X) → slice_get (take n xs) i ≡ Some x → (slice_get xs i ≡ Some x) × (i < n)
front_get [] zero i x e = absurd cc
front_get [] (suc n) i x e = absurd cc
front_get (y ∷ xs) zero i x e = absurd cc
front_get (y ∷ xs) (suc n) zero x e = (e, omega arith)
front_get (y ∷ xs) (suc n) (suc i) x e = let h = front_get xs n i x e in (h.0, omega (arith, h.1))

-- a front that goes on by one item
pub front_more : {X : Type 0} (xs : List X) (n : ℕ) (x : X) → slice_get xs n ≡ Some x → take (suc n) xs ≡ take n xs ++ x ∷ []
front_more [] n x e = cc
front_more (y ∷ xs) zero x e = ap (λ z. z ∷ []) (Some_injective _ _ e)
front_more (y ∷ xs) (suc n) x e = ap (λ zs. y ∷ zs) (front_more xs n x e)

-- the length of a front
pub front_length : {X : Type 0} (xs : List X) (n : ℕ) (x : X) → slice_get xs n ≡ Some x → length (take n xs) ≡ n
front_length [] n x e = cc
front_length (y ∷ xs) zero x e = refl
front_length (y ∷ xs) (suc n) x e = ap suc (front_length xs n x e)

-- the next item of a list that has none twice is not among those before it
pub fresh_next : (reads : List (Item × Read)) (n : ℕ) (e : Item × Read) → IsOnce reads → slice_get reads n ≡ Some e → WasNotRead (take n reads) e.0
fresh_next reads n e once here read was =
    let h = front_get reads n was.0 (e.0, read) was.1 in
    let same = once was.0 n (e.0, read) e h.0 here refl in
    omega (arith, h.1, same)

-- the answer of a look through a list, as one about the list that it shows
pub none_among : {L : Type 0} (now list : List (Item × Read)) (item : Item) (r : Option L) → list ≡ now → IfNone r (WasNotRead list item) → IfNone r (WasNotRead now item)
none_among now list item None same none = subst (λ l. WasNotRead l item) same none
none_among now list item (Some x) same none = tt

-- one read more, of an item that was not read and has its place
pub long_indexed : (reads : List (Item × Read)) (p q : Places) (item : Item) (read : Read) (at : ℕ) → IsIndexed reads (place_in p) → WasNotRead reads item → AddsPlace (place_in p) (place_in q) item at → at ≡ length reads
    → IsIndexedLong (reads ++ (item, read) ∷ []) q
long_indexed reads p q item read at indexed fresh adds len long = indexed_push reads (place_in p) (place_in q) item read indexed fresh (adds.0 ∙ ap Some len) adds.1

-- the same where the place may be refused
pub placed : {E : Type 0} (reads : List (Item × Read)) (p q : Places) (item : Item) (r : Result (Unit {0}) E) → IsIndexed reads (place_in p) → OnOk r (AddsPlace (place_in p) (place_in q) item (length reads))
    → OnOk r ((read : Read) → WasNotRead reads item → IsIndexedLong (reads ++ (item, read) ∷ []) q)
placed reads p q item (Ok x) indexed adds = λ read fresh. long_indexed reads p q item read (length reads) indexed fresh adds refl
placed reads p q item (Err e) indexed adds = tt
