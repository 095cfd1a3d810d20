-- The bytes of a header: their number, and what the tests of its fields show.
use Rattle.std.proofs.Common.{◌≡◌, ◌⊎◌, ℕ, ◌+◌, ◌-◌, ◌<◌, ◌≤◌, ◌==◌, ◌&&◌, ⊎_elim, inl, inr, ◌||◌, leb, ltb, All, Some, None, Bool, true, false, List, [], ◌∷◌, ◌++◌, length, get_or, take, drop, replicate, refl, sym, ◌∙◌, ap, subst, arith, length-append, append_assoc, take-append-drop}
use Rattle.std.proofs.lemmas.List.{length-take, length-drop, drop-drop, drop_more, get_or-take, get_or-drop, get_or_past, length-replicate}
use Rattle.std.proofs.lemmas.List.Elements.{All-head, All-tail}
use Rattle.std.proofs.lemmas.Bool.{cases_lt, eqb-true, le-leb, leb-true, ltb-true}
use Rattle.std.specs.List.{list_all}
use Rattle.std.proofs.lemmas.Nat.{be_bytes_2, be_bytes_8}
use Rattle.std.specs.Prelude.{nat_eq}
use Rattle.std.specs.Cmp.Lexicographic.{pointwise}
use Rattle.std.proofs.lemmas.Slice.Eq.{bytes_eq-Decides}
use Rattle.dk_types.specs.GameIds.{IsVisible, IsGameId}
use Rattle.dk_types.specs.declared.limits.TheConstants.{NUMBERS_END}
use Rattle.dk_types.specs.Fields.{u16_spelling, u64_spelling}
use Rattle.dk_wire.proofs.LengthLaws.{length-u16, length-u64}
use Rattle.dk_model.specs.Stores.{StoreHeader, letters, header_fields, header_spelling, format_in, epoch_in, game_length_in, game_in, header_in, header_fault, is_visible, IsHeader}
use Rattle.dk_model.specs.Entries.{IsFormat}
use Rattle.dk_journal.specs.Headers.{IsRead}

pub fields_length : (header : StoreHeader) → length header.game ≤ 44 → length (header_fields header) ≡ 63
fields_length header fits =
    let game = header.game in
    let zeros : List ℕ = replicate (44 - length game) 0 in
    omega (
      arith,
      length-append letters (u16_spelling header.format ++ (u64_spelling header.epoch ++ (length game ∷ (game ++ zeros)))),
      length-append (u16_spelling header.format) (u64_spelling header.epoch ++ (length game ∷ (game ++ zeros))),
      length-append (u64_spelling header.epoch) (length game ∷ (game ++ zeros)),
      length-append game zeros,
      length-u16 header.format,
      length-u64 header.epoch,
      length-replicate {A = ℕ} (44 - length game) 0,
      fits,
    )

pub header_length : (header : StoreHeader) → length header.game ≤ 44 → length (header_spelling header) ≡ 64
header_length header fits = omega (arith, fields_length header fits)

-- a test that is not passed
pub false_of : (b : Bool) → (b ≡ true → ⊥) → b ≡ false
false_of true not_true = absurd (not_true refl)
false_of false not_true = refl

both_true : (a b : Bool) → (a && b) ≡ true → (a ≡ true) × (b ≡ true)
both_true true b is = (refl, is)
both_true false b is = absurd cc

-- bytes that are all zero
pub zeros_are : (xs : List ℕ) → list_all (λ byte. byte == 0) xs ≡ true → xs ≡ replicate (length xs) 0
zeros_are [] all = refl
zeros_are (x ∷ xs) all =
    let both = both_true (x == 0) (list_all (λ byte. byte == 0) xs) all in
    ap (λ (l : List ℕ). x ∷ l) (zeros_are xs both.1) ∙ ap (λ b. b ∷ replicate (length xs) 0) (eqb-true x 0 both.0)

small_drop : (n : ℕ) (xs : List ℕ) → ((i : ℕ) → get_or xs i 0 < 256) → (i : ℕ) → get_or (drop n xs) i 0 < 256
small_drop n xs each i = omega (arith, get_or-drop n xs i 0, each (n + i))

small_take : (n : ℕ) (xs : List ℕ) → ((i : ℕ) → get_or xs i 0 < 256) → (i : ℕ) → get_or (take n xs) i 0 < 256
small_take n xs each i = ⊎_elim
    (λ lt. omega (arith, get_or-take n xs i 0 lt, each i))
    (λ le. omega (arith, get_or_past (take n xs) i 0 (omega (arith, le, length-take n xs))))
    (cases_lt i n)

-- what stands at a place, and behind it
piece : (n at to : ℕ) (xs : List ℕ) → to ≡ at + n → drop at xs ≡ take n (drop at xs) ++ drop to xs
piece n at to xs is = sym (take-append-drop n (drop at xs)) ∙ ap (λ (l : List ℕ). take n (drop at xs) ++ l) (drop-drop n at xs ∙ ap (λ k. drop k xs) (omega (arith, is)))

module _ (bytes : List ℕ) (long : length bytes ≡ 64) (each : (i : ℕ) → get_or bytes i 0 < 256) where
  at_two : u16_spelling (format_in bytes) ≡ take 2 (drop 9 bytes)
  unfolding u16_spelling
  at_two = be_bytes_2 (take 2 (drop 9 bytes)) (format_in bytes) (omega (arith, length-take 2 (drop 9 bytes), length-drop 9 bytes, long)) (small_take 2 (drop 9 bytes) (small_drop 9 bytes each)) refl

  at_eight : u64_spelling (epoch_in bytes) ≡ take 8 (drop 11 bytes)
  unfolding u64_spelling
  at_eight = be_bytes_8 (take 8 (drop 11 bytes)) (epoch_in bytes) (omega (arith, length-take 8 (drop 11 bytes), length-drop 11 bytes, long)) (small_take 8 (drop 11 bytes) (small_drop 11 bytes each)) refl

  -- bytes that passed all tests are a header's
  pub spelled : get_or bytes 0 0 ≡ 1 → take 8 (drop 1 bytes) ≡ letters → game_length_in bytes ≤ 44 → list_all (λ byte. byte == 0) (drop (20 + game_length_in bytes) bytes) ≡ true → bytes ≡ header_spelling (header_in bytes)
  spelled gate are_letters fits zeros =
      let n = game_length_in bytes in
      let game = game_in bytes in
      let game_long : length game ≡ n = omega (arith, length-take n (drop 20 bytes), length-drop 20 bytes, long, fits) in
      let tail : drop (20 + n) bytes ≡ replicate (44 - length game) 0 = zeros_are (drop (20 + n) bytes) zeros ∙ ap (λ k. replicate k 0) (omega (arith, length-drop (20 + n) bytes, long, game_long)) in
      let t5 : drop 20 bytes ≡ game ++ replicate (44 - length game) 0 = piece n 20 (20 + n) bytes refl ∙ ap (λ (l : List ℕ). game ++ l) tail in
      let t4 : drop 19 bytes ≡ length game ∷ (game ++ replicate (44 - length game) 0) = drop_more bytes 19 0 (omega (arith, long)) ∙ ap (λ k. k ∷ drop 20 bytes) (sym game_long) ∙ ap (λ (l : List ℕ). length game ∷ l) t5 in
      let t3 : drop 11 bytes ≡ u64_spelling (epoch_in bytes) ++ (length game ∷ (game ++ replicate (44 - length game) 0)) = piece 8 11 19 bytes refl ∙ ap (λ (l : List ℕ). l ++ drop 19 bytes) (sym at_eight) ∙ ap (λ (l : List ℕ). u64_spelling (epoch_in bytes) ++ l) t4 in
      let t2 : drop 9 bytes ≡ u16_spelling (format_in bytes) ++ (u64_spelling (epoch_in bytes) ++ (length game ∷ (game ++ replicate (44 - length game) 0))) = piece 2 9 11 bytes refl ∙ ap (λ (l : List ℕ). l ++ drop 11 bytes) (sym at_two) ∙ ap (λ (l : List ℕ). u16_spelling (format_in bytes) ++ l) t3 in
      let t1 : drop 1 bytes ≡ header_fields (header_in bytes) = piece 8 1 9 bytes refl ∙ ap (λ (l : List ℕ). l ++ drop 9 bytes) are_letters ∙ ap (λ (l : List ℕ). letters ++ l) t2 in
      drop_more bytes 0 0 (omega (arith, long)) ∙ ap (λ k. k ∷ drop 1 bytes) gate ∙ ap (λ (l : List ℕ). 1 ∷ l) t1

-- an id's bytes pass the test of the id, and others do not
pub visible_passes : (xs : List ℕ) → All IsVisible xs → list_all is_visible xs ≡ true
visible_passes [] all = refl
visible_passes (x ∷ xs) all =
    let here = All-head IsVisible x xs all in
    let rest = visible_passes xs (All-tail IsVisible x xs all) in
    rw (le-leb 33 x here.0, le-leb x 126 here.1, rest) refl

-- the tests that are passed before the id
pub record IsBegun (bytes : List ℕ) : Type 0 where
  pub are_letters : pointwise nat_eq (take 8 (drop 1 bytes)) letters ≡ true
  pub known : (format_in bytes == 1 || format_in bytes == 2) ≡ true
  pub epoch : epoch_in bytes < NUMBERS_END
  pub least : 1 ≤ game_length_in bytes
  pub most : game_length_in bytes ≤ 44

module _ (bytes : List ℕ) where
  epoch_passes : IsBegun bytes → leb NUMBERS_END (epoch_in bytes) ≡ false
  epoch_passes is = false_of (leb NUMBERS_END (epoch_in bytes)) (λ over. omega (arith, is.epoch, leb-true NUMBERS_END (epoch_in bytes) over))

  least_passes : IsBegun bytes → ltb (game_length_in bytes) 1 ≡ false
  least_passes is = false_of (ltb (game_length_in bytes) 1) (λ none. omega (arith, is.least, ltb-true (game_length_in bytes) 1 none))

  most_passes : IsBegun bytes → ltb 44 (game_length_in bytes) ≡ false
  most_passes is = false_of (ltb 44 (game_length_in bytes)) (λ over. omega (arith, is.most, ltb-true 44 (game_length_in bytes) over))

  pub unfilled_fault : IsBegun bytes → list_all is_visible (game_in bytes) ≡ true → list_all (λ byte. byte == 0) (drop (20 + game_length_in bytes) bytes) ≡ false → header_fault bytes ≡ Some (20 + game_length_in bytes)
  unfilled_fault is seen unfilled = rw (is.are_letters, is.known, epoch_passes is, least_passes is, most_passes is, seen, unfilled) refl

  pub no_fault : IsBegun bytes → list_all is_visible (game_in bytes) ≡ true → list_all (λ byte. byte == 0) (drop (20 + game_length_in bytes) bytes) ≡ true → header_fault bytes ≡ None
  no_fault is seen filled = rw (is.are_letters, is.known, epoch_passes is, least_passes is, most_passes is, seen, filled) refl

known_is : (format : ℕ) → (format == 1 || format == 2) ≡ true → IsFormat format
known_is format known = ⊎_elim (λ one. inl (eqb-true format 1 one)) (λ two. inr (eqb-true format 2 two)) (either (format == 1) (format == 2) known)
  where
    either : (a b : Bool) → (a || b) ≡ true → (a ≡ true) ⊎ (b ≡ true)
    either true b is = inl refl
    either false b is = inr is

-- a header that was read
pub read_as : (bytes : List ℕ) (header : StoreHeader) → length bytes ≡ 64 → ((i : ℕ) → get_or bytes i 0 < 256) → IsBegun bytes → header_in bytes ≡ header → IsGameId (game_in bytes) → list_all is_visible (game_in bytes) ≡ true → list_all (λ byte. byte == 0) (drop (20 + game_length_in bytes) bytes) ≡ true → IsRead bytes header
read_as bytes header long each is same id seen filled = record {
  fine = no_fault bytes is seen filled;
  same = same;
  fits = subst IsHeader same (record { game = id; epoch = is.epoch; format = known_is (format_in bytes) is.known });
  spelled = λ gate. spelled bytes long each gate ((bytes_eq-Decides (take 8 (drop 1 bytes)) letters).0 is.are_letters) is.most filled ∙ ap header_spelling same;
}

-- parts that were put one behind another
pub assembled : (format epoch game zeros : List ℕ) (n : ℕ) → ((((letters ++ format) ++ epoch) ++ n ∷ []) ++ game) ++ zeros ≡ letters ++ (format ++ (epoch ++ (n ∷ (game ++ zeros))))
assembled format epoch game zeros n = simp append_assoc

pub joined : (a b c d e all format epoch game zeros format_is epoch_is game_is zeros_is_ : List ℕ) (n n_is : ℕ) → a ≡ letters → b ≡ a ++ format → c ≡ b ++ epoch → d ≡ c ++ n ∷ [] → e ≡ d ++ game → all ≡ e ++ zeros
    → format ≡ format_is → epoch ≡ epoch_is → n ≡ n_is → game ≡ game_is → zeros ≡ zeros_is_ → all ≡ letters ++ (format_is ++ (epoch_is ++ (n_is ∷ (game_is ++ zeros_is_))))
joined a b c d e all format epoch game zeros format_is epoch_is game_is zeros_is_ n n_is one two three four five six f p k g z =
    let parts : ((((letters ++ format) ++ epoch) ++ n ∷ []) ++ game) ++ zeros ≡ letters ++ (format ++ (epoch ++ (n ∷ (game ++ zeros)))) = assembled format epoch game zeros n in
    six ∙ ap (λ (l : List ℕ). l ++ zeros) (five ∙ ap (λ (l : List ℕ). l ++ game) (four ∙ ap (λ (l : List ℕ). l ++ n ∷ []) (three ∙ ap (λ (l : List ℕ). l ++ epoch) (two ∙ ap (λ (l : List ℕ). l ++ format) one)))) ∙ parts
    ∙ (λ i. letters ++ (f i ++ (p i ++ (k i ∷ (g i ++ z i)))))
