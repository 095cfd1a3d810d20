-- A file that has a reading under a header is seen as live under it.
use Rattle.std.proofs.Common.{◌≡◌, ⊎_elim, ℕ, zero, suc, ◌+◌, ◌-◌, ◌≤◌, ◌==◌, ◌||◌, leb, ltb, true, false, None, List, [], ◌∷◌, ◌++◌, length, get_or, take, drop, replicate, refl, sym, ◌∙◌, ap, subst, arith, length-append}
use Rattle.std.proofs.lemmas.List.{take_at, drop_at, drop-drop, get_or-drop}
use Rattle.std.proofs.lemmas.Bool.{eq-eqb, leb-true, ltb-true}
use Rattle.std.proofs.lemmas.Nat.{from_be_bytes-to_be_bytes_2, from_be_bytes-to_be_bytes_8}
use Rattle.std.specs.List.{list_all}
use Rattle.std.specs.Int.{w16, w64, from_be_bytes}
use Rattle.dk_types.specs.Fields.{u16_spelling, u64_spelling}
use Rattle.dk_wire.proofs.LengthLaws.{length-u16, length-u64}
use Rattle.dk_model.specs.Stores.{StoreHeader, IsHeader, header_spelling, records, Reads, Live, look, look_of_header, header_fault, header_in, format_in, epoch_in, game_length_in, game_in, is_visible}
use Rattle.dk_journal.proofs.HeaderBytes.{IsBegun, no_fault, visible_passes, false_of, header_length}

zeros_pass : (n : ℕ) → list_all (λ byte. byte == 0) (replicate n 0) ≡ true
zeros_pass zero = refl
zeros_pass (suc n) = zeros_pass n

module _ (h : StoreHeader) (is : IsHeader h) where
  from_nine : drop 9 (header_spelling h) ≡ u16_spelling h.format ++ (u64_spelling h.epoch ++ (length h.game ∷ (h.game ++ replicate (44 - length h.game) 0)))
  from_nine = refl

  later : (n at to : ℕ) (xs front back : List ℕ) → to ≡ at + n → drop at xs ≡ front ++ back → length front ≡ n → drop to xs ≡ back
  later n at to xs front back place is_here long = ap (λ k. drop k xs) (omega (arith, place)) ∙ sym (drop-drop n at xs) ∙ ap (drop n) is_here ∙ drop_at front back n long

  from_eleven : drop 11 (header_spelling h) ≡ u64_spelling h.epoch ++ (length h.game ∷ (h.game ++ replicate (44 - length h.game) 0))
  from_eleven = later 2 9 11 (header_spelling h) (u16_spelling h.format) _ refl from_nine (length-u16 h.format)

  from_nineteen : drop 19 (header_spelling h) ≡ length h.game ∷ (h.game ++ replicate (44 - length h.game) 0)
  from_nineteen = later 8 11 19 (header_spelling h) (u64_spelling h.epoch) _ refl from_eleven (length-u64 h.epoch)

  from_twenty : drop 20 (header_spelling h) ≡ h.game ++ replicate (44 - length h.game) 0
  from_twenty = later 1 19 20 (header_spelling h) (length h.game ∷ []) _ refl from_nineteen refl

  format_is : format_in (header_spelling h) ≡ h.format
  unfolding u16_spelling
  format_is =
      ap (λ (l : List ℕ). from_be_bytes w16 (take 2 l)) from_nine ∙ ap (from_be_bytes w16) (take_at (u16_spelling h.format) (u64_spelling h.epoch ++ (length h.game ∷ (h.game ++ replicate (44 - length h.game) 0))) 2 (length-u16 h.format))
      ∙ from_be_bytes-to_be_bytes_2 h.format (⊎_elim (λ (one : h.format ≡ 1). omega (arith, one)) (λ (two : h.format ≡ 2). omega (arith, two)) is.format)

  epoch_is : epoch_in (header_spelling h) ≡ h.epoch
  unfolding u64_spelling
  epoch_is =
      ap (λ (l : List ℕ). from_be_bytes w64 (take 8 l)) from_eleven ∙ ap (from_be_bytes w64) (take_at (u64_spelling h.epoch) (length h.game ∷ (h.game ++ replicate (44 - length h.game) 0)) 8 (length-u64 h.epoch))
      ∙ from_be_bytes-to_be_bytes_8 h.epoch (omega (arith, is.epoch))

  long_is : game_length_in (header_spelling h) ≡ length h.game
  long_is = sym (get_or-drop 19 (header_spelling h) 0 0) ∙ ap (λ (l : List ℕ). get_or l 0 0) from_nineteen

  game_is : game_in (header_spelling h) ≡ h.game
  game_is = ap (λ n. take n (drop 20 (header_spelling h))) long_is ∙ ap (take (length h.game)) from_twenty ∙ take_at h.game _ (length h.game) refl

  pub in_is : header_in (header_spelling h) ≡ h
  in_is i = record { game = game_is i; epoch = epoch_is i; format = format_is i }

  zeros_are : drop (20 + game_length_in (header_spelling h)) (header_spelling h) ≡ replicate (44 - length h.game) 0
  zeros_are = ap (λ n. drop (20 + n) (header_spelling h)) long_is ∙ later (length h.game) 20 (20 + length h.game) (header_spelling h) h.game _ refl from_twenty refl

  known : (h.format == 1 || h.format == 2) ≡ true
  known = ⊎_elim (λ (one : h.format ≡ 1). rw (eq-eqb h.format 1 one) refl) (λ (two : h.format ≡ 2). subst (λ (n : ℕ). (n == 1 || n == 2) ≡ true) (sym two) refl) is.format

  begun : IsBegun (header_spelling h)
  begun = record {
    are_letters = refl;
    known = ap (λ n. n == 1 || n == 2) format_is ∙ known;
    epoch = omega (arith, epoch_is, is.epoch);
    least = omega (arith, long_is, is.game.some);
    most = omega (arith, long_is, is.game.most);
  }

  pub fine : header_fault (header_spelling h) ≡ None
  fine = no_fault (header_spelling h) begun (ap (list_all is_visible) game_is ∙ visible_passes h.game is.game.visible) (ap (list_all (λ byte. byte == 0)) zeros_are ∙ zeros_pass (44 - length h.game))

  -- a live file
  pub seen : (file rest : List ℕ) → file ≡ header_spelling h ++ rest → 1 ≤ length rest → look file ≡ Live h
  seen file rest parts some =
      let long : length (header_spelling h) ≡ 64 = header_length h is.game.most in
      let whole : 65 ≤ length (header_spelling h ++ rest) = omega (arith, length-append (header_spelling h) rest, long, some) in
      let not_short : leb (length (header_spelling h ++ rest)) 1 ≡ false = false_of _ (λ short. omega (arith, whole, leb-true (length (header_spelling h ++ rest)) 1 short)) in
      let enough : ltb (length (header_spelling h ++ rest)) 65 ≡ false = false_of _ (λ short. omega (arith, whole, ltb-true (length (header_spelling h ++ rest)) 65 short)) in
      let front : take 64 (header_spelling h ++ rest) ≡ header_spelling h = take_at (header_spelling h) rest 64 long in
      let looks : look (header_spelling h ++ rest) ≡ look_of_header (take 64 (header_spelling h ++ rest)) (header_fault (take 64 (header_spelling h ++ rest))) = rw (not_short, enough) refl in
      ap look parts ∙ looks ∙ ap (λ (b : List ℕ). look_of_header b (header_fault b)) front ∙ ap (look_of_header (header_spelling h)) fine ∙ ap Live in_is

pub live : (file : List ℕ) (h : StoreHeader) (payloads : List (List ℕ)) → IsHeader h → Reads file (header_spelling h) payloads → look file ≡ Live h
live file h payloads is reads = seen h is file (records payloads ++ reads.gate ∷ reads.behind) reads.bytes (omega (arith, length-append (records payloads) (reads.gate ∷ reads.behind)))
