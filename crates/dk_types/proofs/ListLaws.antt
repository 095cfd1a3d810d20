-- A counted list is read exactly where its items are.
use Rattle.std.proofs.Common.{◌≡◌, ℕ, zero, suc, ◌+◌, List, [], ◌∷◌, ◌++◌, length, Option, Some, None, Result, Ok, refl, sym, ap, subst, ◌∙◌, append_assoc, length-append, arith}
use Rattle.std.specs.List.{flat_map, AllByRecursion}
use Rattle.std.proofs.lemmas.List.Concat.{flat_map-cons}
use Rattle.dk_types.specs.Rest.{Rest, IsBytes, Takes}
use Rattle.dk_types.specs.Fields.{u32_spelling}
use Rattle.dk_types.specs.Reading.{◌>>=◌}
use Rattle.dk_types.specs.Exact.{IsExact}
use Rattle.dk_types.specs.Payload.{next_u32}
use Rattle.dk_types.specs.Lists.{AreChained, IsList, list_spelling, items_at, list_at}
use Rattle.dk_types.proofs.Steps.{IsBytes-taken, Takes-then, Takes-none, bind_ok, ok_is}
use Rattle.dk_types.proofs.NextLaws.{next_u32_exact}

module _ {A : Type 0} (Fits : Option A → A → Type 0) (spelling : A → List ℕ) (item : Option A → Rest → Result (A × Rest) ℕ) (exact : (before : Option A) → IsExact (Fits before) spelling (item before)) where
  -- items that were read fit, and were spelled so
  items_take : (before : Option A) (n : ℕ) (old : Rest) (xs : List A) (new : Rest) → IsBytes old.bytes → items_at item before n old ≡ Ok (xs, new) → (length xs ≡ n) × AreChained Fits before xs × Takes old (flat_map spelling xs) new
  unfolding items_at
  items_take before zero old xs new each e =
      subst (λ (p : List A × Rest). (length p.0 ≡ 0) × AreChained Fits before p.0 × Takes old (flat_map spelling p.0) p.1) (ok_is {F = ℕ} ([], old) (xs, new) e) (refl, tt, Takes-none old)
  items_take before (suc n) old xs new each e =
      let a = bind_ok (item before old) (λ x. items_at item (Some x.0) n x.1 >>= λ others. Ok (x.0 ∷ others.0, others.1)) (xs, new) e in
      let b = bind_ok (items_at item (Some a.0.0) n a.0.1) (λ others. Ok (a.0.0 ∷ others.0, others.1)) (xs, new) a.2 in
      let first = (exact before).takes old a.0.0 a.0.1 each a.1 in
      let second = items_take (Some a.0.0) n a.0.1 b.0.0 b.0.1 (IsBytes-taken old (spelling a.0.0) a.0.1 each first.1) b.1 in
      let both = Takes-then old (spelling a.0.0) a.0.1 (flat_map spelling b.0.0) b.0.1 first.1 second.2 in
      let took : Takes old (flat_map spelling (a.0.0 ∷ b.0.0)) b.0.1 = rw flat_map-cons both in
      subst (λ (p : List A × Rest). (length p.0 ≡ suc n) × AreChained Fits before p.0 × Takes old (flat_map spelling p.0) p.1) (ok_is {F = ℕ} (a.0.0 ∷ b.0.0, b.0.1) (xs, new) b.2) (ap suc second.0, (first.0, second.1), took)

  -- items that fit are read, whatever follows
  items_again : (before : Option A) (at : ℕ) (xs : List A) (behind : List ℕ) → AreChained Fits before xs → items_at item before (length xs) (record { at = at; bytes = flat_map spelling xs ++ behind }) ≡ Ok (xs, record { at = at + length (flat_map spelling xs); bytes = behind })
  unfolding items_at
  items_again before at [] behind each = ap (λ (p : ℕ). Ok ([], record { at = p; bytes = behind })) (omega arith)
  items_again before at (x ∷ xs) behind each =
      let parts : flat_map spelling (x ∷ xs) ++ behind ≡ spelling x ++ (flat_map spelling xs ++ behind) = ap (λ (text : List ℕ). text ++ behind) (flat_map-cons spelling x xs) ∙ append_assoc (spelling x) (flat_map spelling xs) behind in
      let place : (at + length (spelling x)) + length (flat_map spelling xs) ≡ at + length (flat_map spelling (x ∷ xs)) = rw flat_map-cons (omega (arith, length-append (spelling x) (flat_map spelling xs))) in
      ap (λ (bytes : List ℕ). items_at item before (suc (length xs)) (record { at = at; bytes = bytes })) parts
      ∙ rw ((exact before).again at x (flat_map spelling xs ++ behind) each.0, items_again (Some x) (at + length (spelling x)) xs behind each.1) refl
      ∙ ap (λ (p : ℕ). Ok (x ∷ xs, record { at = p; bytes = behind })) place

  -- a counted list
  counted : IsExact (IsList Fits) (list_spelling spelling) (list_at item)
  unfolding list_at list_spelling
  counted = record {
    takes = λ old xs new each e.
        let a = bind_ok (next_u32 old) (λ count. items_at item None count.0 count.1) (xs, new) e in
        let first = next_u32_exact.takes old a.0.0 a.0.1 each a.1 in
        let second = items_take None a.0.0 a.0.1 xs new (IsBytes-taken old (u32_spelling a.0.0) a.0.1 each first.1) a.2 in
        let both = Takes-then old (u32_spelling a.0.0) a.0.1 (flat_map spelling xs) new first.1 second.2 in
        (record { count = omega (arith, first.0, second.0); each = second.1 }, subst (λ (n : ℕ). Takes old (u32_spelling n ++ flat_map spelling xs) new) (sym second.0) both);
    again = λ at xs behind is.
        ap (λ (bytes : List ℕ). list_at item (record { at = at; bytes = bytes })) (append_assoc (u32_spelling (length xs)) (flat_map spelling xs) behind)
        ∙ rw (next_u32_exact.again at (length xs) (flat_map spelling xs ++ behind) is.count, items_again None (at + length (u32_spelling (length xs))) xs behind is.each) (ap (λ (p : ℕ). Ok (xs, record { at = p; bytes = behind })) (omega (arith, length-append (u32_spelling (length xs)) (flat_map spelling xs))));
  }

-- a counted list of items that are read exactly
pub list_exact : {A : Type 0} {Fits : Option A → A → Type 0} {spelling : A → List ℕ} {item : Option A → Rest → Result (A × Rest) ℕ} → ((before : Option A) → IsExact (Fits before) spelling (item before)) → IsExact (IsList Fits) (list_spelling spelling) (list_at item)
list_exact {A} {Fits} {spelling} {item} exact = counted Fits spelling item exact

-- a chain without an order is a list of items that fit
pub chained_all : {A : Type 0} (Fits : A → Type 0) (before : Option A) (xs : List A) → AllByRecursion Fits xs → AreChained (λ _. Fits) before xs
chained_all Fits before [] all = tt
chained_all Fits before (x ∷ xs) all = (all.0, chained_all Fits (Some x) xs all.1)

pub all_chained : {A : Type 0} (Fits : A → Type 0) (before : Option A) (xs : List A) → AreChained (λ _. Fits) before xs → AllByRecursion Fits xs
all_chained Fits before [] each = tt
all_chained Fits before (x ∷ xs) each = (each.0, all_chained Fits (Some x) xs each.1)
