-- What is spelled is bytes, and a name's bytes are.
use Rattle.std.proofs.Common.{◌≡◌, ℕ, zero, suc, ◌+◌, ◌/◌, ◌%◌, ◌^◌, ◌<◌, ◌≤◌, Bool, true, false, cond, ◌&&◌, nat_lt, All, List, [], ◌∷◌, ◌++◌, length, take, flat_map, IsUtf8, refl, subst, arith, length-append, take_all, ltb-true, ltb-false, inl, inr}
use lib.Utf8.{scalar, scalars, encode, encodes, scalar_cases}
use Rattle.std.specs.Str.{is_utf8}
use Rattle.std.specs.Str.Lossy.{valid_len_up_to, utf8_valid_len}
use Rattle.std.specs.Int.{byte_at, bytes_high_first}
use Rattle.std.specs.List.{list_all}
use Rattle.std.proofs.lemmas.List.Elements.{All-nil, All-cons, All-head, All-tail, All-append}
use Rattle.std.proofs.lemmas.List.Concat.{flat_map-cons}
use Rattle.std.proofs.lemmas.Str.{IsUtf8-from_is_utf8, IsUtf8-append, IsUtf8-from_ascii, utf8_valid_len-IsUtf8}
use Rattle.std.proofs.lemmas.Str.Ascii.{IsAscii-from_all}
use Rattle.dk_types.specs.declared.number.ObjectId.{ObjectId}
use Rattle.dk_types.specs.Names.{IsName}
use Rattle.dk_types.specs.Fields.{u32_spelling, u64_spelling, name_spelling, id_spelling}
use Rattle.dk_types.specs.Lists.{list_spelling}
use Rattle.dk_model.specs.Records.{is_name_too_long}
use Rattle.dk_model.proofs.Acts.{AreBytes}

left_of : (a b : Bool) → (a && b) ≡ true → a ≡ true
left_of true b h = refl
left_of false b h = cc

right_of : (a b : Bool) → (a && b) ≡ true → b ≡ true
right_of true b h = h
right_of false b h = cc

below : (m : ℕ) → m % 256 < 256
below m = omega arith

byte_below : (i n : ℕ) → byte_at i n < 256
byte_below zero n = below n
byte_below (suc i) n = below (n / 256 ^ suc i)

high_bytes : (k n : ℕ) → AreBytes (bytes_high_first k n)
high_bytes zero n = All-nil (λ b. b < 256)
high_bytes (suc k) n = All-cons (λ b. b < 256) _ _ (byte_below k n) (high_bytes k n)

-- bytes behind bytes
pub bytes_append : (xs ys : List ℕ) → AreBytes xs → AreBytes ys → AreBytes (xs ++ ys)
bytes_append xs ys p q = All-append (λ b. b < 256) xs ys p q

-- a byte before bytes
pub bytes_cons : (x : ℕ) (xs : List ℕ) → x < 256 → AreBytes xs → AreBytes (x ∷ xs)
bytes_cons x xs p q = All-cons (λ b. b < 256) x xs p q

-- no bytes
pub bytes_nil : AreBytes []
bytes_nil = All-nil (λ b. b < 256)

-- a number in 64 bits is bytes
pub bytes_of_u64 : (n : ℕ) → AreBytes (u64_spelling n)
unfolding u64_spelling
bytes_of_u64 n = high_bytes 8 n

-- a number in 32 bits is bytes
pub bytes_of_u32 : (n : ℕ) → AreBytes (u32_spelling n)
unfolding u32_spelling
bytes_of_u32 n = high_bytes 4 n

-- an id is bytes
pub bytes_of_id : (id : ObjectId) → AreBytes (id_spelling id)
unfolding id_spelling
bytes_of_id id = bytes_append (u64_spelling id.run.0) (u32_spelling id.k) (bytes_of_u64 id.run.0) (bytes_of_u32 id.k)

bytes_of_each : {A : Type 0} (spelling : A → List ℕ) (xs : List A) → All (λ x. AreBytes (spelling x)) xs → AreBytes (flat_map spelling xs)
bytes_of_each spelling [] h = bytes_nil
bytes_of_each spelling (x ∷ xs) h = rw flat_map-cons (bytes_append (spelling x) (flat_map spelling xs) (All-head (λ x. AreBytes (spelling x)) x xs h) (bytes_of_each spelling xs (All-tail (λ x. AreBytes (spelling x)) x xs h)))

-- a list of items that are bytes each is bytes
pub bytes_of_list : {A : Type 0} (spelling : A → List ℕ) (xs : List A) → All (λ x. AreBytes (spelling x)) xs → AreBytes (list_spelling spelling xs)
unfolding list_spelling
bytes_of_list spelling xs h = bytes_append (u32_spelling (length xs)) (flat_map spelling xs) (bytes_of_u32 (length xs)) (bytes_of_each spelling xs h)

up_to_le : (bs : List ℕ) (m : ℕ) → valid_len_up_to bs m ≤ m
up_to_le bs zero = omega arith
up_to_le bs (suc m) = let h = up_to_le bs m in elim (is_utf8 (take (suc m) bs)) as (λ b. cond b (suc m) (valid_len_up_to bs m) ≤ suc m) [
  | true ↦ omega arith
  | false ↦ omega arith
]

whole_text : (bs : List ℕ) (m : ℕ) → valid_len_up_to bs m ≡ m → IsUtf8 (take m bs)
whole_text bs zero e = ([], (refl, refl))
whole_text bs (suc m) e =
    elim (is_utf8 (take (suc m) bs)) as (λ b. is_utf8 (take (suc m) bs) ≡ b → cond b (suc m) (valid_len_up_to bs m) ≡ suc m → IsUtf8 (take (suc m) bs)) [
      | true ↦ λ t _. IsUtf8-from_is_utf8 _ t
      | false ↦ λ _ f. let h = up_to_le bs m in absurd (omega (arith, h, f))
    ] refl e

-- a name is UTF-8
pub name_text : (name : List ℕ) → IsName name → IsUtf8 name
unfolding utf8_valid_len
name_text name is = subst IsUtf8 (take_all (length name) name (omega arith)) (whole_text name (length name) is.text)

one_byte : (a : ℕ) → a < 256 → AreBytes (a ∷ [])
one_byte a p = bytes_cons a [] p bytes_nil

two_bytes : (a b : ℕ) → a < 256 → b < 256 → AreBytes (a ∷ b ∷ [])
two_bytes a b p q = bytes_cons a (b ∷ []) p (one_byte b q)

three_bytes : (a b c : ℕ) → a < 256 → b < 256 → c < 256 → AreBytes (a ∷ b ∷ c ∷ [])
three_bytes a b c p q r = bytes_cons a (b ∷ c ∷ []) p (two_bytes b c q r)

four_bytes : (a b c d : ℕ) → a < 256 → b < 256 → c < 256 → d < 256 → AreBytes (a ∷ b ∷ c ∷ d ∷ [])
four_bytes a b c d p q r t = bytes_cons a (b ∷ c ∷ d ∷ []) p (three_bytes b c d q r t)

later_below : (bits : ℕ) → 128 + bits % 64 < 256
later_below bits = omega arith

encoded : (c : ℕ) → c < 1114112 → AreBytes (encode c)
unfolding encode
encoded c h =
    elim (nat_lt c 128) as (λ b. nat_lt c 128 ≡ b → AreBytes (cond b (c ∷ []) (cond (nat_lt c 2048) ((192 + c / 64) ∷ (128 + c % 64) ∷ []) (cond (nat_lt c 65536) ((224 + c / 4096) ∷ (128 + c / 64 % 64) ∷ (128 + c % 64) ∷ []) ((240 + c / 262144) ∷ (128 + c / 4096 % 64) ∷ (128 + c / 64 % 64) ∷ (128 + c % 64) ∷ []))))) [
      | true ↦ λ low. one_byte c (omega (arith, ltb-true _ _ low))
      | false ↦ λ _.
          elim (nat_lt c 2048) as (λ b. nat_lt c 2048 ≡ b → AreBytes (cond b ((192 + c / 64) ∷ (128 + c % 64) ∷ []) (cond (nat_lt c 65536) ((224 + c / 4096) ∷ (128 + c / 64 % 64) ∷ (128 + c % 64) ∷ []) ((240 + c / 262144) ∷ (128 + c / 4096 % 64) ∷ (128 + c / 64 % 64) ∷ (128 + c % 64) ∷ [])))) [
            | true ↦ λ low. two_bytes (192 + c / 64) (128 + c % 64) (omega (arith, ltb-true _ _ low)) (later_below c)
            | false ↦ λ _.
                elim (nat_lt c 65536) as (λ b. nat_lt c 65536 ≡ b → AreBytes (cond b ((224 + c / 4096) ∷ (128 + c / 64 % 64) ∷ (128 + c % 64) ∷ []) ((240 + c / 262144) ∷ (128 + c / 4096 % 64) ∷ (128 + c / 64 % 64) ∷ (128 + c % 64) ∷ []))) [
                  | true ↦ λ low. three_bytes (224 + c / 4096) (128 + c / 64 % 64) (128 + c % 64) (omega (arith, ltb-true _ _ low)) (later_below (c / 64)) (later_below c)
                  | false ↦ λ _. four_bytes (240 + c / 262144) (128 + c / 4096 % 64) (128 + c / 64 % 64) (128 + c % 64) (omega arith) (later_below (c / 4096)) (later_below (c / 64)) (later_below c)
                ] refl
          ] refl
    ] refl

scalar_below : (c : ℕ) → scalar c ≡ true → c < 1114112
scalar_below c e = elim (scalar_cases c e) [
  | inl low ↦ omega arith
  | inr high ↦ high.1
]

encoded_all : (cs : List ℕ) → scalars cs ≡ true → AreBytes (encodes cs)
encoded_all [] h = bytes_nil
encoded_all (c ∷ cs) h = bytes_append (encode c) (encodes cs) (encoded c (scalar_below c (left_of (scalar c) (scalars cs) h))) (encoded_all cs (right_of (scalar c) (scalars cs) h))

-- a name's bytes are bytes
pub name_bytes : (name : List ℕ) → IsName name → AreBytes name
name_bytes name is = let text = name_text name is in subst AreBytes text.1.1 (encoded_all text.0 text.1.0)

-- a name is spelled in bytes
pub bytes_of_name : (name : List ℕ) → IsName name → AreBytes (name_spelling name)
unfolding name_spelling
bytes_of_name name is = let most = is.most in bytes_cons (length name) name (omega arith) (name_bytes name is)

ascii_all : (bytes : List ℕ) → list_all (λ b. nat_lt b 128) bytes ≡ true → All (λ b. b < 128) bytes
ascii_all [] h = All-nil (λ b. b < 128)
ascii_all (b ∷ bytes) h = All-cons (λ b. b < 128) b bytes (ltb-true _ _ (left_of (nat_lt b 128) (list_all (λ b. nat_lt b 128) bytes) h)) (ascii_all bytes (right_of (nat_lt b 128) (list_all (λ b. nat_lt b 128) bytes) h))

-- a text of ASCII, as a literal is: both facts are `refl` there
pub name_of_ascii : (name : List ℕ) → list_all (λ b. nat_lt b 128) name ≡ true → nat_lt 0 (length name) ≡ true → is_name_too_long name ≡ false → IsName name
name_of_ascii name h some most = record {
  some = ltb-true _ _ some;
  most = ltb-false _ _ most;
  text = utf8_valid_len-IsUtf8 name (IsUtf8-from_ascii name (IsAscii-from_all name (ascii_all name h)));
}

-- a name behind a front of ASCII, as `$s.`, is a name where it is not too long
pub name_after : (front name : List ℕ) → list_all (λ b. nat_lt b 128) front ≡ true → IsName name → is_name_too_long (front ++ name) ≡ false → IsName (front ++ name)
name_after front name h is most = let some = is.some in record {
  some = omega (arith, length-append front name);
  most = ltb-false _ _ most;
  text = utf8_valid_len-IsUtf8 (front ++ name) (IsUtf8-append front name (IsUtf8-from_ascii front (IsAscii-from_all front (ascii_all front h))) (name_text name is));
}
