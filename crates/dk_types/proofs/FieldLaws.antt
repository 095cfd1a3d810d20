-- Each kind of field is read exactly.
use Rattle.std.proofs.Common.{◌≡◌, ℕ, ◌+◌, ◌^◌, ◌<◌, ◌≤◌, false, cond, ltb, eqb, List, [], ◌∷◌, ◌++◌, length, get_or, take, drop, Result, Ok, Err, refl, sym, ap, subst, ◌∙◌, length-append, arith}
use Rattle.std.specs.Int.{Width, w16, w32, w64, byte_len, from_be_bytes, to_be_bytes}
use Rattle.std.specs.Str.Lossy.{utf8_valid_len}
use Rattle.std.proofs.Math.Nat.{le_antisymm}
use Rattle.std.proofs.lemmas.Bool.{ltb-false, ltb-true, le-ltb, lt-ltb, eqb-false, ne_eqb}
use Rattle.std.proofs.lemmas.List.{take_at, drop_at, take-append-drop, length-take, length-drop}
use Rattle.std.proofs.lemmas.Str.{utf8_valid_len_le}
use Rattle.dk_types.specs.declared.number.ObjectId.{ObjectId}
use Rattle.dk_types.specs.declared.limits.TheConstants.{NUMBERS_END}
use Rattle.dk_types.specs.Names.{IsName}
use Rattle.dk_types.specs.declared.refused.WireRefused.{WireRefused}
use Rattle.dk_types.specs.declared.refused.WireRefused.TheVariants.{Short, BadTag, TooLong}
use Rattle.dk_types.specs.Rest.{Rest, moved, IsBytes, Takes}
use Rattle.dk_types.specs.Fields.{IsU8, IsU16, IsU32, IsU64, IsBlob, IsId, u8_spelling, u16_spelling, u32_spelling, u64_spelling, name_spelling, blob_spelling, id_spelling}
use Rattle.dk_types.specs.Reading.{◌>>=◌, bytes_at, number_at, text_of, id_of, u8_at, u16_at, u32_at, u64_at, name_at, blob_at, id_at}
use Rattle.dk_types.specs.Exact.{IsExact}
use Rattle.dk_types.proofs.Steps.{IsBytes-take, IsBytes-drop, Takes-then, bind_ok, guard_ok, admit_ok, ok_is}
use Rattle.dk_types.proofs.Numbers.{IsWide, wide16, wide32, wide64}

-- the next bytes that were read were there
pub bytes_take : (n : ℕ) (old : Rest) (front : List ℕ) (new : Rest) → bytes_at n old ≡ Ok (front, new) → (length front ≡ n) × (front ≡ take n old.bytes) × Takes old front new
bytes_take n old front new e =
    let g = guard_ok (ltb (length old.bytes) n) (Short n (length old.bytes)) (Ok (take n old.bytes, moved n old)) (front, new) e in
    let long : n ≤ length old.bytes = ltb-false _ _ g.0 in
    let is = ok_is (take n old.bytes, moved n old) (front, new) g.1 in
    let len : length (take n old.bytes) ≡ n = omega (arith, length-take n old.bytes) in
    let took : Takes old (take n old.bytes) (moved n old) = record { parts = sym (take-append-drop n old.bytes); place = omega arith } in
    subst (λ (p : List ℕ × Rest). (length p.0 ≡ n) × (p.0 ≡ take n old.bytes) × Takes old p.0 p.1) is (len, refl, took)

-- bytes that are there are read
pub bytes_again : (at n : ℕ) (front behind : List ℕ) → length front ≡ n → bytes_at n (record { at = at; bytes = front ++ behind }) ≡ Ok (front, record { at = at + n; bytes = behind })
bytes_again at n front behind len =
    let long : ltb (length (front ++ behind)) n ≡ false = le-ltb _ _ (omega (arith, length-append front behind)) in
    rw (long, take_at front behind n len, drop_at front behind n len) refl

-- a number of any width
pub number_exact : (w : Width) (limit : ℕ) → IsWide w limit → IsExact (λ n. n < limit) (to_be_bytes w) (number_at w)
number_exact w limit wide = record {
  takes = λ old n new each e.
      let b = bind_ok (bytes_at (byte_len w) old) (λ front. Ok (from_be_bytes w front.0, front.1)) (n, new) e in
      let t = bytes_take (byte_len w) old b.0.0 b.0.1 b.1 in
      let fits : IsBytes b.0.0 = rw t.1 (IsBytes-take (byte_len w) old.bytes each) in
      let back : b.0.0 ≡ to_be_bytes w (from_be_bytes w b.0.0) = sym (wide.back b.0.0 t.0 fits) in
      let took : Takes old (to_be_bytes w (from_be_bytes w b.0.0)) b.0.1 = subst (λ (text : List ℕ). Takes old text b.0.1) back t.2 in
      subst (λ (p : ℕ × Rest). (p.0 < limit) × Takes old (to_be_bytes w p.0) p.1) (ok_is (from_be_bytes w b.0.0, b.0.1) (n, new) b.2) (wide.below b.0.0 fits, took);
  again = λ at n behind lt.
      rw (bytes_again at (byte_len w) (to_be_bytes w n) behind (wide.len n), wide.again n lt, wide.len n) refl;
}

pub u16_exact : IsExact IsU16 u16_spelling u16_at
unfolding u16_at u16_spelling
u16_exact = number_exact w16 (2 ^ 16) wide16

pub u32_exact : IsExact IsU32 u32_spelling u32_at
unfolding u32_at u32_spelling
u32_exact = number_exact w32 (2 ^ 32) wide32

pub u64_exact : IsExact IsU64 u64_spelling u64_at
unfolding u64_at u64_spelling
u64_exact = number_exact w64 (2 ^ 64) wide64

-- one byte is a list of itself
single : (front : List ℕ) → length front ≡ 1 → front ≡ get_or front 0 0 ∷ []
single [] len = absurd (omega (arith, len))
single (b ∷ []) len = refl
single (b ∷ c ∷ front) len = absurd (omega (arith, len))

pub u8_exact : IsExact IsU8 u8_spelling u8_at
unfolding u8_at u8_spelling
u8_exact = record {
  takes = λ old n new each e.
      let b = bind_ok (bytes_at 1 old) (λ front. Ok (get_or front.0 0 0, front.1)) (n, new) e in
      let t = bytes_take 1 old b.0.0 b.0.1 b.1 in
      let fits : IsBytes b.0.0 = rw t.1 (IsBytes-take 1 old.bytes each) in
      let took : Takes old (get_or b.0.0 0 0 ∷ []) b.0.1 = subst (λ (text : List ℕ). Takes old text b.0.1) (single b.0.0 t.0) t.2 in
      subst (λ (p : ℕ × Rest). (p.0 < 2 ^ 8) × Takes old (p.0 ∷ []) p.1) (ok_is (get_or b.0.0 0 0, b.0.1) (n, new) b.2) (fits 0, took);
  again = λ at n behind lt. rw (bytes_again at 1 (n ∷ []) behind refl) refl;
}

-- text is read as text
text_again : (name : List ℕ) (at : ℕ) (behind : Rest) → IsName name → text_of name at behind ≡ Ok (name, behind)
text_again name at behind is =
    let whole : ltb (utf8_valid_len name) (length name) ≡ false = le-ltb _ _ (omega (arith, is.text)) in
    rw whole refl

pub name_exact : IsExact IsName name_spelling name_at
unfolding name_at name_spelling u8_spelling
name_exact = record {
  takes = λ old name new each e.
      let b = bind_ok (u8_at old) (λ len. cond (eqb len.0 0) (Err (BadTag old.at 0)) (bytes_at len.0 len.1) >>= λ front. text_of front.0 len.1.at front.1) (name, new) e in
      let len = b.0 in
      let first = u8_exact.takes old len.0 len.1 each b.1 in
      let m = bind_ok (cond (eqb len.0 0) (Err (BadTag old.at 0)) (bytes_at len.0 len.1)) (λ front. text_of front.0 len.1.at front.1) (name, new) b.2 in
      let front = m.0 in
      let g = guard_ok (eqb len.0 0) (BadTag old.at 0) (bytes_at len.0 len.1) front m.1 in
      let second = bytes_take len.0 len.1 front.0 front.1 g.1 in
      let t = guard_ok (ltb (utf8_valid_len front.0) (length front.0)) (BadTag (len.1.at + utf8_valid_len front.0) (get_or front.0 (utf8_valid_len front.0) 0)) (Ok (front.0, front.1)) (name, new) m.2 in
      let ne : len.0 ≡ 0 → ⊥ = eqb-false len.0 0 g.0 in
      let some : 0 < len.0 = omega (arith, ne) in
      let text : utf8_valid_len front.0 ≡ length front.0 = le_antisymm (utf8_valid_len_le front.0) (ltb-false _ _ t.0) in
      let is : IsName front.0 = record { some = omega (arith, second.0); most = omega (arith, second.0, first.0); text = text } in
      let both = Takes-then old (len.0 ∷ []) len.1 front.0 front.1 first.1 second.2 in
      let took : Takes old (name_spelling front.0) front.1 = subst (λ (n : ℕ). Takes old (n ∷ front.0) front.1) (sym second.0) both in
      subst (λ (p : List ℕ × Rest). IsName p.0 × Takes old (name_spelling p.0) p.1) (ok_is (front.0, front.1) (name, new) t.1) (is, took);
  again = λ at name behind is.
      let some : eqb (length name) 0 ≡ false = ne_eqb (length name) 0 (λ none. omega (arith, is.some, none)) in
      rw (u8_exact.again at (length name) (name ++ behind) (omega (arith, is.most)), some, bytes_again (at + 1) (length name) name behind refl, text_again name (at + 1) (record { at = at + 1 + length name; bytes = behind }) is) (ap (λ (p : ℕ). Ok (name, record { at = p; bytes = behind })) (omega arith));
}

pub blob_exact : (most : ℕ) → most < 2 ^ 32 → IsExact (IsBlob most) blob_spelling (blob_at most)
unfolding blob_at blob_spelling u32_spelling
blob_exact most small = record {
  takes = λ old blob new each e.
      let b = bind_ok (u32_at old) (λ len. cond (ltb most len.0) (Err TooLong) (bytes_at len.0 len.1)) (blob, new) e in
      let len = b.0 in
      let first = u32_exact.takes old len.0 len.1 each b.1 in
      let g = guard_ok (ltb most len.0) TooLong (bytes_at len.0 len.1) (blob, new) b.2 in
      let within : len.0 ≤ most = ltb-false _ _ g.0 in
      let second = bytes_take len.0 len.1 blob new g.1 in
      let both = Takes-then old (u32_spelling len.0) len.1 blob new first.1 second.2 in
      (omega (arith, second.0), subst (λ (n : ℕ). Takes old (u32_spelling n ++ blob) new) (sym second.0) both);
  again = λ at blob behind within.
      let fits : ltb most (length blob) ≡ false = le-ltb _ _ within in
      rw (u32_exact.again at (length blob) (blob ++ behind) (omega (arith, within)), fits, bytes_again (at + 4) (length blob) blob behind refl) (ap (λ (p : ℕ). Ok (blob, record { at = p; bytes = behind })) (omega (arith, length-append (u32_spelling (length blob)) blob)));
}

-- twelve bytes are the spelling of the id in them
id_back : (bytes : List ℕ) → length bytes ≡ 12 → IsBytes bytes → id_spelling (id_of bytes) ≡ bytes
unfolding id_spelling u64_spelling u32_spelling
id_back bytes len each =
    let run : u64_spelling (from_be_bytes w64 (take 8 bytes)) ≡ take 8 bytes = wide64.back (take 8 bytes) (omega (arith, len, length-take 8 bytes)) (IsBytes-take 8 bytes each) in
    let k : u32_spelling (from_be_bytes w32 (drop 8 bytes)) ≡ drop 8 bytes = wide32.back (drop 8 bytes) (omega (arith, len, length-drop 8 bytes)) (IsBytes-drop 8 bytes each) in
    (λ i. run i ++ k i) ∙ take-append-drop 8 bytes

-- the id in its spelling
id_again : (id : ObjectId) → IsId id → id_of (id_spelling id) ≡ id
unfolding id_spelling u64_spelling u32_spelling
id_again id fits =
    let run : from_be_bytes w64 (u64_spelling id.run.0) ≡ id.run.0 = wide64.again id.run.0 (omega (arith, fits.run)) in
    let k : from_be_bytes w32 (u32_spelling id.k) ≡ id.k = wide32.again id.k fits.k in
    λ i. record { run = record { 0 = run i }; k = k i }

-- an id that is read and fits is taken
id_chosen : (read id : ObjectId) (new : Rest) (e : WireRefused) → read ≡ id → id.run.0 < NUMBERS_END → cond {A = Result (ObjectId × Rest) WireRefused} (ltb read.run.0 NUMBERS_END) (Ok (read, new)) (Err e) ≡ Ok (id, new)
id_chosen read id new e same below = rw same (rw (lt-ltb id.run.0 NUMBERS_END below) refl)

pub id_exact : IsExact IsId id_spelling id_at
unfolding id_at id_spelling u64_spelling u32_spelling
id_exact = record {
  takes = λ old id new each e.
      let b = bind_ok (bytes_at 12 old) (λ front. cond (ltb (id_of front.0).run.0 NUMBERS_END) (Ok (id_of front.0, front.1)) (Err (BadTag old.at (get_or front.0 0 0)))) (id, new) e in
      let front = b.0.0 in
      let t = bytes_take 12 old front b.0.1 b.1 in
      let fits : IsBytes front = rw t.1 (IsBytes-take 12 old.bytes each) in
      let g = admit_ok (ltb (id_of front).run.0 NUMBERS_END) (BadTag old.at (get_or front 0 0)) (Ok (id_of front, b.0.1)) (id, new) b.2 in
      let is : IsId (id_of front) = record { run = ltb-true _ _ g.0; k = wide32.below (drop 8 front) (IsBytes-drop 8 front fits) } in
      let took : Takes old (id_spelling (id_of front)) b.0.1 = subst (λ (text : List ℕ). Takes old text b.0.1) (sym (id_back front t.0 fits)) t.2 in
      subst (λ (p : ObjectId × Rest). IsId p.0 × Takes old (id_spelling p.0) p.1) (ok_is (id_of front, b.0.1) (id, new) g.1) (is, took);
  again = λ at id behind fits.
      rw (bytes_again at 12 (id_spelling id) behind refl) (id_chosen (id_of (id_spelling id)) id (record { at = at + 12; bytes = behind }) (BadTag at (get_or (id_spelling id) 0 0)) (id_again id fits) fits.run);
}
