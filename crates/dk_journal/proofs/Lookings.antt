-- What a file is, by its length, its first byte and its header.
use Rattle.std.proofs.Common.{◌≡◌, ⊎_elim, ℕ, ◌<◌, ◌≤◌, ltb, false, Some, None, List, [], ◌∷◌, length, get_or, take, drop, refl, sym, ◌∙◌, ap, arith}
use Rattle.std.proofs.lemmas.List.{append-nil, drop_more, get_or-take}
use Rattle.std.proofs.lemmas.Bool.{ltb-true}
use Rattle.dk_model.specs.Stores.{Live, Faulty, StoreHeader, IsHeader, header_spelling, header_fault, header_in, is_blank, look, look_of_header}
use Rattle.dk_journal.specs.Scanning.{IsScanned}
use Rattle.dk_journal.proofs.Blanks.{blank_is}
use Rattle.dk_journal.proofs.HeaderBytes.{false_of, header_length}

-- the byte that was read
pub byte_is : (file : List ℕ) (at byte : ℕ) → at < length file → byte ∷ [] ≡ take 1 (drop at file) → get_or file at 0 ≡ byte
byte_is file at byte lt read = let there : byte ∷ [] ≡ get_or file at 0 ∷ [] = read ∙ ap (take 1) (drop_more file at 0 lt) in cc

not_blank : (file : List ℕ) → 1 < length file → get_or file 0 0 ≡ 1 → is_blank file ≡ false
not_blank file long open_gate = false_of (is_blank file) (λ blank. ⊎_elim (λ short. omega (arith, long, short)) (λ shut. shut open_gate) (blank_is file blank))

pub look_whole : (file : List ℕ) → 1 ∷ [] ≡ take 1 (drop 0 file) → 65 ≤ length file → look file ≡ look_of_header (take 64 file) (header_fault (take 64 file))
look_whole file read long =
    let enough : ltb (length file) 65 ≡ false = false_of (ltb (length file) 65) (λ short. omega (arith, long, ltb-true (length file) 65 short)) in
    rw (not_blank file (omega (arith, long)) (byte_is file 0 1 (omega (arith, long)) read), enough) refl

-- a header without a fault
pub look_live : (file bytes : List ℕ) (header : StoreHeader) → 1 ∷ [] ≡ take 1 (drop 0 file) → 65 ≤ length file → bytes ≡ take 64 (drop 0 file) → header_fault bytes ≡ None → header_in bytes ≡ header → look file ≡ Live header
look_live file bytes header read long same fine is =
    look_whole file read long ∙ ap (λ (b : List ℕ). look_of_header b (header_fault b)) (sym same) ∙ ap (look_of_header bytes) fine ∙ ap Live is

pub look_faulty : (file bytes : List ℕ) (at : ℕ) → 1 ∷ [] ≡ take 1 (drop 0 file) → 65 ≤ length file → bytes ≡ take 64 (drop 0 file) → header_fault bytes ≡ Some at → look file ≡ Faulty at
look_faulty file bytes at read long same fault =
    look_whole file read long ∙ ap (λ (b : List ℕ). look_of_header b (header_fault b)) (sym same) ∙ ap (look_of_header bytes) fault

-- at the first gate
pub scanned_first : (file bytes : List ℕ) (header : StoreHeader) (at end : ℕ) → IsHeader header → bytes ≡ take 64 (drop 0 file) → bytes ≡ header_spelling header → at ≡ 64 → 65 ≤ length file → end ≡ length file → IsScanned file (header_spelling header) [] at end
scanned_first file bytes header at end is same spells first long whole =
    let header_long = header_length header is.game.most in
    record {
      front = ap (λ n. take n file) first ∙ sym same ∙ spells ∙ sym (append-nil (header_spelling header));
      place = omega (arith, first, header_long);
      header_length = header_long;
      sized = tt;
      within = omega (arith, first, long, whole);
      ends = whole;
    }

-- the first of the header's bytes
pub first_byte : (file bytes : List ℕ) → 1 ∷ [] ≡ take 1 (drop 0 file) → bytes ≡ take 64 (drop 0 file) → 65 ≤ length file → get_or bytes 0 0 ≡ 1
first_byte file bytes gate same long =
    ap (λ (b : List ℕ). get_or b 0 0) same ∙ get_or-take 64 file 0 0 (omega arith) ∙ byte_is file 0 1 (omega (arith, long)) gate
