-- The bytes of stores.
use Rattle.std.proofs.Common.{◌≡◌, ◌≢◌, ℕ, ◌+◌, ◌^◌, ◌<◌, ◌≤◌, ◌==◌, ◌||◌, Bool, true, false, not, nat_lt, nat_le, if◌then◌else◌, cond, map, take, Option, Some, None, List, [], ◌∷◌, ◌++◌, All, length, flat_map, codes, inl, inr, refl, sym, ap, subst, ◌∙◌, arith, length-append, lt-ltb, ltb-true}
use Rattle.std.proofs.lemmas.Bool.Decides.{leb_tells, eqb_tells}
use Rattle.std.proofs.lemmas.List.Sums.{AllPass-from_list_all}
use Rattle.std.proofs.lemmas.List.Elements.{All-weaker}
use Rattle.std.specs.declared.cmp.Ordering.{Ordering}
use Rattle.std.specs.declared.cmp.Ordering.TheVariants.{Less, Equal, Greater}
use Rattle.std.specs.Ordering.{is_eq}
use Rattle.std.specs.List.{list_all, AllByRecursion}
use Rattle.std.specs.FinMap.{IsAntisymmetric}
use Rattle.std.specs.FinMap.Entries.{find}
use Rattle.dk_types.specs.declared.limits.TheConstants.{NUMBERS_END}
use Rattle.dk_types.specs.declared.number.RunNo.{RunNo}
use Rattle.dk_types.specs.declared.number.ObjectId.{ObjectId}
use Rattle.dk_types.specs.declared.object.Object.{Object}
use Rattle.dk_types.specs.declared.durable.Durable.{Durable}
use Rattle.dk_types.specs.declared.durable.Entry.{Entry}
use Rattle.dk_types.specs.declared.side.Side.TheVariants.{Zero, One}
use Rattle.dk_types.specs.Names.{IsName, bytes_cmp}
use Rattle.dk_types.specs.Fields.{u16_spelling, u32_spelling, u64_spelling, name_spelling, blob_spelling, id_spelling, IsId}
use Rattle.dk_types.specs.Lists.{IsList, list_spelling}
use Rattle.dk_model.specs.Keys.{id_cmp, key_cmp}
use Rattle.dk_model.specs.DurableWorlds.{DurableWorld, empty_world}
use Rattle.dk_model.specs.Validity.{IsNumbered, IsObject, IsCommitted, IsValid}
use Rattle.dk_model.specs.Effects.{pending_of, effects, after}
use Rattle.dk_model.specs.Entries.{blob_most, is_above_last, IsObjectItem, IsBinding, SpellsEntries, entry_spelling}
use Rattle.dk_model.specs.Images.{IsImageValue, SpellsImage, image_spelling, world_lists}
use Rattle.dk_model.specs.Stores.{Blank, Faulty, header_fault, is_blank, look, look_of_header, NoStore, NoneStands, standing, standing_of}
use Rattle.dk_model.specs.Recovered.{IsNext, Takes, HasWorld}
use Rattle.dk_model.proofs.Bytes.{name_of_ascii}
use Rattle.dk_model.proofs.Maps.{ids_total, exact_ids, keys_total, names_total, exact_names, some_is}
use Rattle.dk_examples.specs.Worked.{run, id, object, Lists, listed, nothing, in_eight, in_four}
use Rattle.dk_examples.specs.StoreRows.{sword, HeadersAreSpelled, first_lists, first_world, first_entry, first_payload, FirstCommitIsSpelled, bare_entry, bare_payload, BareCommitIsSpelled, login_lists, login_entry, login_payload, end_lists, end_entry, end_payload, end_world, LaterCommitsAreSpelled, JournalsHoldTheirWorld, first_image, ImageIsSpelled, BlankFilesAreNoStore, TornHeadersAreNoStore, WrongHeadersAreToldByPlace, TheGreaterEpochStands, StoresHoldTheirWorld, TornRecordsAreNotLookedAt, ImagesStand, DamageIsToldByPlace}
use Rattle.dk_examples.proofs.MadeMaps.{entries-made, made_get}
use Rattle.dk_examples.proofs.Running.{AreSorted, effects_by, effects-listed, world-made, puts}

-- ---- spellings

pub headers_are_spelled : HeadersAreSpelled
unfolding u16_spelling u64_spelling
headers_are_spelled = (refl, refl, refl, refl)

no_items : {A : Type 0} (Fits : Option A → A → Type 0) → IsList Fits []
no_items Fits = record { count = omega arith; each = tt }

room_is_name : IsName (codes "Room")
room_is_name = name_of_ascii (codes "Room") refl refl refl

objects_fit : (format : ℕ) → 20 ≤ blob_most format → IsList (IsObjectItem format) first_lists.objects
objects_fit format le = record {
  count = omega arith;
  each = (
    record { id = record { run = omega arith; k = omega arith }; above = refl; kind = omega arith; bytes = omega (arith, le) },
    (record { id = record { run = omega arith; k = omega arith }; above = refl; kind = omega arith; bytes = omega (arith, le) }, tt),
  );
}

names_fit : IsList IsBinding first_lists.names
names_fit = record { count = omega arith; each = (record { name = room_is_name; above = refl; id = record { run = omega arith; k = omega arith } }, tt) }

first_spelled : (format : ℕ) → 20 ≤ blob_most format → SpellsEntries format (first_entry ∷ []) first_payload
unfolding list_spelling u16_spelling u32_spelling u64_spelling name_spelling blob_spelling id_spelling
first_spelled format le = record {
  are = (
    record {
      count = omega arith;
      each = (
        record {
          seq = omega arith;
          counted = refl;
          run = refl;
          effects = record {
            written = objects_fit format le;
            removed = no_items _;
            bound = names_fit;
            unbound = no_items _;
            added = no_items _;
            dropped = no_items _;
            requeued = no_items _;
          };
        },
        tt,
      );
    },
    refl,
  );
  bytes = refl;
}

pub first_commit_is_spelled : FirstCommitIsSpelled
first_commit_is_spelled = (first_spelled 1 (omega arith), first_spelled 2 (omega arith), refl)

pub bare_commit_is_spelled : BareCommitIsSpelled
unfolding list_spelling u16_spelling u32_spelling u64_spelling
bare_commit_is_spelled = (
  record {
    are = (
      record {
        count = omega arith;
        each = (
          record {
            seq = omega arith;
            counted = refl;
            run = refl;
            effects = record {
              written = no_items _;
              removed = no_items _;
              bound = no_items _;
              unbound = no_items _;
              added = no_items _;
              dropped = no_items _;
              requeued = no_items _;
            };
          },
          tt,
        );
      },
      refl,
    );
    bytes = refl;
  },
  refl,
)

an_object : (before : Option (ObjectId × Object)) (number k kind : ℕ) (bytes : List ℕ) → is_above_last id_cmp (λ (e : ObjectId × Object). e.0) before (id number k) ≡ true → number < NUMBERS_END → k < 2 ^ 32
    → kind < 2 ^ 16 → length bytes ≤ 1048576 → IsObjectItem 2 before (id number k, object kind bytes)
an_object before number k kind bytes above n p q short = record { id = record { run = n; k = p }; above = above; kind = q; bytes = short }

some_id : (number k : ℕ) → number < NUMBERS_END → k < 2 ^ 32 → IsId (id number k)
some_id number k n p = record { run = n; k = p }

record_is_name : IsName (codes "$s.alice")
record_is_name = name_of_ascii (codes "$s.alice") refl refl refl

player_is_name : IsName (codes "Player.alice")
player_is_name = name_of_ascii (codes "Player.alice") refl refl refl

login_spelled : SpellsEntries 2 (login_entry ∷ []) login_payload
unfolding list_spelling u16_spelling u32_spelling u64_spelling name_spelling blob_spelling id_spelling
login_spelled = record {
  are = (
    record {
      count = omega arith;
      each = (
        record {
          seq = omega arith;
          counted = refl;
          run = refl;
          effects = record {
            written = record {
              count = omega arith;
              each = (
                an_object None 0 1 1 _ refl (omega arith) (omega arith) (omega arith) (omega arith),
                (an_object (Some _) 2 0 65281 _ refl (omega arith) (omega arith) (omega arith) (omega arith), (an_object (Some _) 2 1 3 _ refl (omega arith) (omega arith) (omega arith) (omega arith), tt)),
              );
            };
            removed = no_items _;
            bound = record {
              count = omega arith;
              each = (
                record { name = record_is_name; above = refl; id = some_id 2 0 (omega arith) (omega arith) },
                (record { name = player_is_name; above = refl; id = some_id 2 1 (omega arith) (omega arith) }, tt),
              );
            };
            unbound = no_items _;
            added = no_items _;
            dropped = no_items _;
            requeued = no_items _;
          };
        },
        tt,
      );
    },
    refl,
  );
  bytes = refl;
}

end_spelled : SpellsEntries 2 (end_entry ∷ []) end_payload
unfolding list_spelling u16_spelling u32_spelling u64_spelling name_spelling blob_spelling id_spelling
end_spelled = record {
  are = (
    record {
      count = omega arith;
      each = (
        record {
          seq = omega arith;
          counted = refl;
          run = refl;
          effects = record {
            written = record { count = omega arith; each = (an_object None 0 1 1 _ refl (omega arith) (omega arith) (omega arith) (omega arith), tt) };
            removed = record { count = omega arith; each = ((some_id 2 0 (omega arith) (omega arith), refl), tt) };
            bound = no_items _;
            unbound = record { count = omega arith; each = ((record_is_name, refl), tt) };
            added = no_items _;
            dropped = no_items _;
            requeued = no_items _;
          };
        },
        tt,
      );
    },
    refl,
  );
  bytes = refl;
}

pub later_commits_are_spelled : LaterCommitsAreSpelled
later_commits_are_spelled = (login_spelled, refl, end_spelled, refl)

-- the world as lists
first_durable : Durable
first_durable = record { commits = 1; last = Some (run 0); objects = first_lists.objects; names = first_lists.names; tasks = [] }

as_lists : world_lists first_world ≡ first_durable
unfolding first_durable
as_lists i = record {
  commits = 1;
  last = Some (run 0);
  objects = entries-made id_cmp ids_total first_lists.objects refl i;
  names = entries-made bytes_cmp names_total first_lists.names refl i;
  tasks = map pending_of (entries-made key_cmp keys_total [] refl i);
}

image_spelled : (format : ℕ) → 20 ≤ blob_most format → SpellsImage format first_world first_image
unfolding first_durable list_spelling u16_spelling u32_spelling u64_spelling name_spelling blob_spelling id_spelling
image_spelled format le = record {
  value = subst (IsImageValue format) (sym as_lists) (record { commits = omega arith; next = refl; objects = objects_fit format le; names = names_fit; tasks = no_items _ });
  bytes = let literal : first_image ≡ image_spelling first_durable = refl in literal ∙ ap image_spelling (sym as_lists);
}

pub image_is_spelled : ImageIsSpelled
image_is_spelled = (image_spelled 1 (omega arith), image_spelled 2 (omega arith), refl)

-- ---- which of two files stands

or_true : (b : Bool) → (b || true) ≡ true
or_true true = refl
or_true false = refl

shut_blank : (gate : ℕ) (rest : List ℕ) → gate ≢ 1 → is_blank (gate ∷ rest) ≡ true
shut_blank gate rest shut =
    let tells : (gate == 1) ≡ false = elim (eqb_tells gate 1) [ inl w ↦ absurd (shut w.1) | inr w ↦ w.0 ] in
    ap (λ b. nat_le (length (gate ∷ rest)) 1 || not b) tells ∙ or_true (nat_le (length (gate ∷ rest)) 1)

look_shut : (gate : ℕ) (rest : List ℕ) → gate ≢ 1 → look (gate ∷ rest) ≡ Blank
look_shut gate rest shut =
    ap (λ b. if b then Blank else if nat_lt (length (gate ∷ rest)) 65 then Faulty 0 else look_of_header (take 64 (gate ∷ rest)) (header_fault (take 64 (gate ∷ rest)))) (shut_blank gate rest shut)

short_shut : (gate : ℕ) (rest : List ℕ) → gate ≢ 1 → length rest ≤ 64 → standing (gate ∷ rest) [] ≡ NoStore
short_shut gate rest shut le =
    let few : nat_le (length (gate ∷ rest)) 65 ≡ true = elim (leb_tells (length (gate ∷ rest)) 65) [ inl w ↦ w.0 | inr w ↦ absurd (omega (arith, w.1, le)) ] in
    ap (λ l. standing_of (length (gate ∷ rest)) l Blank) (look_shut gate rest shut) ∙ ap (λ b. if b then NoStore else NoneStands Zero 0) few

long_shut : (gate : ℕ) (rest : List ℕ) → gate ≢ 1 → 65 ≤ length rest → standing (gate ∷ rest) [] ≡ NoneStands Zero 0
long_shut gate rest shut le =
    let many : nat_le (length (gate ∷ rest)) 65 ≡ false = elim (leb_tells (length (gate ∷ rest)) 65) [ inl w ↦ absurd (omega (arith, w.1, le)) | inr w ↦ w.0 ] in
    ap (λ l. standing_of (length (gate ∷ rest)) l Blank) (look_shut gate rest shut) ∙ ap (λ b. if b then NoStore else NoneStands Zero 0) many

pub blank_files_are_no_store : BlankFilesAreNoStore
blank_files_are_no_store = (refl, refl, refl, short_shut, long_shut)

look_torn : (rest : List ℕ) → 1 ≤ length rest → length rest ≤ 63 → look (1 ∷ rest) ≡ Faulty 0
look_torn rest some few =
    let more : nat_le (length (1 ∷ rest)) 1 ≡ false = elim (leb_tells (length (1 ∷ rest)) 1) [ inl w ↦ absurd (omega (arith, w.1, some)) | inr w ↦ w.0 ] in
    let open_ : is_blank (1 ∷ rest) ≡ false = ap (λ b. b || not (1 == 1)) more in
    let whole = look_of_header (take 64 (1 ∷ rest)) (header_fault (take 64 (1 ∷ rest))) in
    ap (λ b. if b then Blank else if nat_lt (length (1 ∷ rest)) 65 then Faulty 0 else whole) open_ ∙ ap (λ b. if b then Faulty 0 else whole) (lt-ltb (length (1 ∷ rest)) 65 (omega (arith, few)))

pub torn_headers_are_no_store : TornHeadersAreNoStore
torn_headers_are_no_store rest some few = (
  λ other. ap (λ l. standing_of (length (1 ∷ rest)) l (look other)) (look_torn rest some few),
  ap (λ l. standing_of 0 Blank l) (look_torn rest some few),
)

pub wrong_headers_are_told_by_place : WrongHeadersAreToldByPlace
wrong_headers_are_told_by_place = (refl, refl, refl, refl, refl, refl, refl)

pub the_greater_epoch_stands : TheGreaterEpochStands
the_greater_epoch_stands = (refl, refl, refl, refl, refl)

-- ---- what two files hold

-- what a map of a list has at a key is of that list
find_holds : {K X : Type 0} (R : K → K → Ordering) → IsAntisymmetric R → (P : K → X → Type 0) (es : List (K × X)) → AllByRecursion (λ e. P e.0 e.1) es → (q : K) (x : X) → find R q es ≡ Some x → P q x
find_holds R exact P [] h q x e = absurd cc
find_holds R exact P (e ∷ es) h q x f =
    elim (R q e.0) as (λ o. R q e.0 ≡ o → cond (is_eq o) (Some e.1) (find R q es) ≡ Some x → P q x) [
      | Less ↦ λ _ g. find_holds R exact P es h.1 q x g
      | Equal ↦ λ t g. subst (λ k. P k x) (sym (exact q e.0 t)) (subst (P e.0) (some_is e.1 x g) h.0)
      | Greater ↦ λ _ g. find_holds R exact P es h.1 q x g
    ] refl f

bytes_below : (bytes : List ℕ) → list_all (λ b. nat_lt b 256) bytes ≡ true → All (λ b. b < 256) bytes
bytes_below bytes h = All-weaker (λ b. nat_lt b 256 ≡ true) (λ b. b < 256) (λ b t. ltb-true b 256 t) bytes (AllPass-from_list_all (λ b. nat_lt b 256) bytes h)

abbrev IsOfFirst : ObjectId → Object → Type 0
IsOfFirst k x = IsNumbered k.run k.k × IsCommitted (Some (run 0)) k.run × IsObject x

objects_first : AllByRecursion (λ e. IsOfFirst e.0 e.1) first_lists.objects
objects_first = (
  (record { number = omega arith; place = omega arith }, omega arith, record { kind = omega arith; body = record { short = omega arith; bytes = bytes_below (13 ∷ codes "a shiny sword") refl } }),
  ((record { number = omega arith; place = omega arith }, omega arith, record { kind = omega arith; body = record { short = omega arith; bytes = bytes_below (in_four 0 ++ (in_four 1 ++ (in_eight 0 ++ in_four 0))) refl } }), tt),
)

first_valid : IsValid first_world
first_valid = record {
  objects = λ k x e. find_holds id_cmp exact_ids IsOfFirst first_lists.objects objects_first k x (sym (made_get ids_total first_lists.objects k) ∙ e);
  names = λ name k e.
      find_holds bytes_cmp exact_names (λ n i. IsName n × IsNumbered i.run i.k) first_lists.names ((room_is_name, record { number = omega arith; place = omega arith }), tt) name k
      (sym (made_get names_total first_lists.names name) ∙ e);
  tasks = λ key task e. let no : None ≡ Some task = sym (made_get keys_total [] key) ∙ e in absurd cc;
  last = omega arith;
  commits = omega arith;
  begun = (λ e. absurd (omega (arith, e)), λ e. absurd cc);
}

sorted_first : AreSorted first_lists
sorted_first = record { objects = refl; names = refl; tasks = refl }

-- the entry leads from the empty world to that
leads_first : after first_entry empty_world ≡ first_world
leads_first = world-made (after first_entry empty_world) first_lists record { objects = simp puts; names = simp puts; tasks = simp puts; sorted = sorted_first }

first_is_next : IsNext empty_world first_entry
first_is_next = record {
  seq = refl;
  effects = sym (ap (effects empty_world) leads_first ∙ effects-listed nothing first_lists 0 1 None (Some (run 0)) record { objects = refl; names = refl; tasks = refl } sorted_first);
  valid = subst IsValid (sym leads_first) first_valid;
}

first_holds : (format : ℕ) → 20 ≤ blob_most format → HasWorld (sword 0 format) (first_payload ∷ []) first_world
first_holds format le = inl (refl, (first_world, record { entries = first_entry ∷ []; spelled = first_spelled format le; follow = (first_is_next, leads_first) }, refl))

-- ---- a journal of four commits

abbrev IsMadeBy : ℕ → ObjectId → Object → Type 0
IsMadeBy n k x = IsNumbered k.run k.k × (k.run.0 ≤ n) × IsObject x

-- a listed world whose largest run is n
listed_valid : (l : Lists) (c n : ℕ) → AllByRecursion (λ e. IsMadeBy n e.0 e.1) l.objects → AllByRecursion (λ e. IsName e.0 × IsNumbered e.1.run e.1.k) l.names → l.tasks ≡ []
    → n + 1 ≤ NUMBERS_END → c ≤ n + 1 → 0 < c → IsValid (listed l c (Some (run n)))
listed_valid l c n objects names tasks below few some = record {
  objects = λ k x e. find_holds id_cmp exact_ids (IsMadeBy n) l.objects objects k x (sym (made_get ids_total l.objects k) ∙ e);
  names = λ name k e. find_holds bytes_cmp exact_names (λ n i. IsName n × IsNumbered i.run i.k) l.names names name k (sym (made_get names_total l.names name) ∙ e);
  tasks = λ key task e. let no : None ≡ Some task = sym (made_get keys_total l.tasks key ∙ ap (find key_cmp key) tasks) ∙ e in absurd cc;
  last = below;
  commits = few;
  begun = (λ e. absurd (omega (arith, e, some)), λ e. absurd cc);
}

-- an entry that leads from one listed world to another
next_listed : (a b : Lists) (c : ℕ) (last next : Option RunNo) (entry : Entry) → AreSorted a → AreSorted b → after entry (listed a c last) ≡ listed b (c + 1) next → entry.effects ≡ effects_by a b → entry.seq ≡ c + 1
    → IsValid (listed b (c + 1) next) → IsNext (listed a c last) entry
next_listed a b c last next entry s t leads effects_ seq valid = record {
  seq = seq;
  effects = effects_ ∙ sym (ap (effects (listed a c last)) leads ∙ effects-listed a b c (c + 1) last next s t);
  valid = subst IsValid (sym leads) valid;
}

made_by : (n number k kind : ℕ) (bytes : List ℕ) → number < NUMBERS_END → k < 2 ^ 32 → number ≤ n → kind < 2 ^ 16 → length bytes ≤ 1048576 → list_all (λ b. nat_lt b 256) bytes ≡ true
    → IsMadeBy n (id number k) (object kind bytes)
made_by n number k kind bytes p q le r short all = (record { number = p; place = q }, le, record { kind = r; body = record { short = short; bytes = bytes_below bytes all } })

named : (name : List ℕ) (number k : ℕ) → IsName name → number < NUMBERS_END → k < 2 ^ 32 → IsName name × IsNumbered (run number) k
named name number k is p q = (is, record { number = p; place = q })

sorted_login : AreSorted login_lists
sorted_login = record { objects = refl; names = refl; tasks = refl }

sorted_end : AreSorted end_lists
sorted_end = record { objects = refl; names = refl; tasks = refl }

login_valid : (c n : ℕ) → 2 ≤ n → n + 1 ≤ NUMBERS_END → c ≤ n + 1 → 0 < c → IsValid (listed login_lists c (Some (run n)))
login_valid c n le = listed_valid login_lists c n (
  made_by n 0 0 2 _ (omega arith) (omega arith) (omega arith) (omega arith) (omega arith) refl,
  (
    made_by n 0 1 1 _ (omega arith) (omega arith) (omega arith) (omega arith) (omega arith) refl,
    (
      made_by n 2 0 65281 _ (omega arith) (omega arith) le (omega arith) (omega arith) refl,
      (made_by n 2 1 3 _ (omega arith) (omega arith) le (omega arith) (omega arith) refl, tt),
    ),
  ),
) (
  named (codes "$s.alice") 2 0 record_is_name (omega arith) (omega arith),
  (named (codes "Player.alice") 2 1 player_is_name (omega arith) (omega arith), (named (codes "Room") 0 1 room_is_name (omega arith) (omega arith), tt)),
)
    refl

end_valid : IsValid end_world
end_valid = listed_valid end_lists 4 4 (
  made_by 4 0 0 2 _ (omega arith) (omega arith) (omega arith) (omega arith) (omega arith) refl,
  (
    made_by 4 0 1 1 _ (omega arith) (omega arith) (omega arith) (omega arith) (omega arith) refl,
    (made_by 4 2 1 3 _ (omega arith) (omega arith) (omega arith) (omega arith) (omega arith) refl, tt),
  ),
)
    (named (codes "Player.alice") 2 1 player_is_name (omega arith) (omega arith), (named (codes "Room") 0 1 room_is_name (omega arith) (omega arith), tt))
    refl (omega arith) (omega arith) (omega arith)

login_world : DurableWorld
login_world = listed login_lists 2 (Some (run 2))

leads_login : after login_entry first_world ≡ login_world
unfolding login_world
leads_login = world-made (after login_entry first_world) login_lists record { objects = simp puts; names = simp puts; tasks = simp puts; sorted = sorted_login }

look_world : DurableWorld
look_world = listed login_lists 3 (Some (run 3))

leads_look : after (bare_entry 3 3) login_world ≡ look_world
unfolding login_world look_world
leads_look = refl

leads_end : after end_entry look_world ≡ end_world
unfolding look_world
leads_end = world-made (after end_entry look_world) end_lists record { objects = simp puts; names = simp puts; tasks = simp puts; sorted = sorted_end }

login_takes : Takes 2 first_world login_payload login_world
unfolding login_world
login_takes = record {
  entries = login_entry ∷ [];
  spelled = login_spelled;
  follow = (next_listed first_lists login_lists 1 (Some (run 0)) (Some (run 2)) login_entry sorted_first sorted_login leads_login refl refl (login_valid 2 2 (omega arith) (omega arith) (omega arith) (omega arith)), leads_login);
}

look_takes : Takes 2 login_world bare_payload look_world
unfolding login_world look_world
look_takes = record {
  entries = bare_entry 3 3 ∷ [];
  spelled = bare_commit_is_spelled.0;
  follow = (
    next_listed login_lists login_lists 2 (Some (run 2)) (Some (run 3)) (bare_entry 3 3) sorted_login sorted_login leads_look refl refl (login_valid 3 3 (omega arith) (omega arith) (omega arith) (omega arith)),
    leads_look,
  );
}

end_takes : Takes 2 look_world end_payload end_world
unfolding look_world
end_takes = record {
  entries = end_entry ∷ [];
  spelled = end_spelled;
  follow = (next_listed login_lists end_lists 3 (Some (run 3)) (Some (run 4)) end_entry sorted_login sorted_end leads_end refl refl end_valid, leads_end);
}

first_takes : Takes 2 empty_world first_payload first_world
first_takes = record { entries = first_entry ∷ []; spelled = first_spelled 2 (omega arith); follow = (first_is_next, leads_first) }

shut_gate : ◌≢◌ {A = ℕ} 0 1
shut_gate e = absurd cc

pub stores_hold_their_world : StoresHoldTheirWorld
unfolding blob_spelling u16_spelling u32_spelling u64_spelling
stores_hold_their_world = (
  (Zero, (sword 0 2, refl, record { payloads = []; reads = record { gate = 0; behind = []; closed = shut_gate; bytes = refl; header_length = refl; sized = tt }; world = inl (refl, refl) })),
  (
    Zero,
    (
      sword 0 1,
      refl,
      record {
        payloads = first_payload ∷ [];
        reads = record { gate = 0; behind = []; closed = shut_gate; bytes = refl; header_length = refl; sized = (omega arith, tt) };
        world = first_holds 1 (omega arith);
      },
    ),
  ),
  (
    Zero,
    (
      sword 0 2,
      refl,
      record {
        payloads = first_payload ∷ [];
        reads = record { gate = 0; behind = []; closed = shut_gate; bytes = refl; header_length = refl; sized = (omega arith, tt) };
        world = first_holds 2 (omega arith);
      },
    ),
  ),
)

pub journals_hold_their_world : JournalsHoldTheirWorld
unfolding blob_spelling u16_spelling u32_spelling u64_spelling
journals_hold_their_world = (
  (
    Zero,
    (
      sword 0 2,
      refl,
      record {
        payloads = first_payload ∷ login_payload ∷ bare_payload ∷ end_payload ∷ [];
        reads = record { gate = 0; behind = []; closed = shut_gate; bytes = refl; header_length = refl; sized = (omega arith, (omega arith, (omega arith, (omega arith, tt)))) };
        world = inl (refl, (first_world, first_takes, (login_world, login_takes, (look_world, look_takes, (end_world, end_takes, refl)))));
      },
    ),
  ),
  refl,
)

pub torn_records_are_not_looked_at : TornRecordsAreNotLookedAt
unfolding blob_spelling u16_spelling u32_spelling u64_spelling
torn_records_are_not_looked_at = (
  Zero,
  (
    sword 0 2,
    refl,
    record {
      payloads = first_payload ∷ [];
      reads = record { gate = 0; behind = _; closed = shut_gate; bytes = refl; header_length = refl; sized = (omega arith, tt) };
      world = first_holds 2 (omega arith);
    },
  ),
)

pub images_stand : ImagesStand
unfolding blob_spelling u16_spelling u32_spelling u64_spelling
images_stand = (
  (
    One,
    (
      sword 1 2,
      refl,
      record {
        payloads = first_image ∷ [];
        reads = record { gate = 0; behind = []; closed = shut_gate; bytes = refl; header_length = refl; sized = (omega arith, tt) };
        world = inr (
          omega arith,
          record {
            image = first_image;
            others = [];
            parts = refl;
            first = first_world;
            spelled = image_spelled 2 (omega arith);
            valid = first_valid;
            rest = refl;
          },
        );
      },
    ),
  ),
  refl,
)

-- a record takes its gate, four bytes, its payload, and the next gate
record_length : (tail payload rest : List ℕ) → tail ≡ 1 ∷ (blob_spelling payload ++ rest) → length tail ≡ 5 + length payload + length rest
unfolding blob_spelling u32_spelling
record_length tail payload rest e =
    let whole = ap length e in
    let behind = length-append (blob_spelling payload) rest in
    let blob = length-append (u32_spelling (length payload)) payload in
    let four : length (u32_spelling (length payload)) ≡ 4 = refl in
    omega (arith, whole, behind, blob, four)

-- bytes that are too few for a record
too_few : (tail payload rest : List ℕ) → tail ≡ 1 ∷ (blob_spelling payload ++ rest) → 1 ≤ length rest → length tail ≤ 5 → ⊥
too_few tail payload rest e some few = let n = record_length tail payload rest e in omega (arith, n, some, few)

no_bytes : (bytes : List ℕ) → length bytes ≡ 0 → bytes ≡ []
no_bytes [] e = refl
no_bytes (b ∷ bytes) e = absurd cc

-- no entries are spelled by no bytes
nothing_spelled : (format : ℕ) (entries : List Entry) → SpellsEntries format entries [] → ⊥
unfolding list_spelling u32_spelling
nothing_spelled format entries s =
    let whole = ap length s.bytes in
    let count = length-append (u32_spelling (length entries)) (flat_map entry_spelling entries) in
    let four : length (u32_spelling (length entries)) ≡ 4 = refl in
    absurd (omega (arith, whole, count, four))

no_world : (payload : List ℕ) (d : DurableWorld) → length payload ≡ 0 → HasWorld (sword 0 2) (payload ∷ []) d → ⊥
no_world payload d none (inl first) =
    let t = first.1.1 in nothing_spelled 2 t.entries (subst (SpellsEntries 2 t.entries) (no_bytes payload none) t.spelled)
no_world payload d none (inr later) = let more = later.0 in absurd (omega (arith, more))

pub damage_is_told_by_place : DamageIsToldByPlace
unfolding blob_spelling u16_spelling u32_spelling u64_spelling
damage_is_told_by_place = (
  (
    sword 0 2,
    refl,
    record {
      good = [];
      fit = inl refl;
      sized = tt;
      front = refl;
      place = refl;
      broken = inl (refl, λ payload rest d lt e some world. too_few _ payload rest e some (omega arith));
    },
  ),
  (
    sword 0 2,
    refl,
    record {
      good = first_payload ∷ [];
      fit = inr (first_world, first_holds 2 (omega arith));
      sized = (omega arith, tt);
      front = refl;
      place = refl;
      broken = inl (refl, λ payload rest d lt e some world. too_few _ payload rest e some (omega arith));
    },
  ),
  (
    sword 0 2,
    refl,
    record {
      good = [];
      fit = inl refl;
      sized = tt;
      front = refl;
      place = refl;
      broken = inl (refl, λ payload rest d lt e some world. let n = record_length _ payload rest e in no_world payload d (omega (arith, n, some)) world);
    },
  ),
  (sword 1 2, refl, record { good = []; fit = inl refl; sized = tt; front = refl; place = refl; broken = inr (shut_gate, omega arith, refl) }),
)
