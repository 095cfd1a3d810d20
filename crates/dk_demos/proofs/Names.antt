-- Which bytes pass for a name.
use Rattle.std.proofs.Common.{◌≡◌, ℕ, ◌<◌, ◌&&◌, not, Bool, true, false, List, [], length, nat_lt, nat_eq, refl, eq-eqb, arith}
use Rattle.std.proofs.lemmas.Bool.{lt-ltb, le-ltb, ne_eqb}
use Rattle.std.specs.Str.Lossy.{utf8_valid_len}
use Rattle.dk_types.specs.Names.{IsName}
use Rattle.dk_model.specs.Records.{is_name_too_long}
use Rattle.dk_demos.specs.Commands.{is_name}

all_three : (a b d : Bool) → a ≡ true → b ≡ false → d ≡ true → (a && (not b && d)) ≡ true
all_three a b d p q r = rw (p, q, r) refl

second_fails : (a b d : Bool) → b ≡ true → (a && (not b && d)) ≡ false
second_fails true b d q = rw q refl
second_fails false b d q = refl

third_fails : (a b d : Bool) → d ≡ false → (a && (not b && d)) ≡ false
third_fails true true d r = refl
third_fails true false d r = r
third_fails false b d r = refl

-- a name passes
pub is_one : (bytes : List ℕ) → IsName bytes → is_name bytes ≡ true
unfolding is_name
is_one bytes is = all_three (nat_lt 0 (length bytes)) (is_name_too_long bytes) (nat_eq (utf8_valid_len bytes) (length bytes)) (lt-ltb _ _ is.some) (le-ltb _ _ is.most) (eq-eqb _ _ is.text)

-- no bytes do not
pub none_empty : (bytes : List ℕ) → bytes ≡ [] → is_name bytes ≡ false
unfolding is_name
none_empty bytes e = rw e refl

-- nor do more than 255
pub none_long : (bytes : List ℕ) → 255 < length bytes → is_name bytes ≡ false
unfolding is_name
none_long bytes h = second_fails (nat_lt 0 (length bytes)) (is_name_too_long bytes) (nat_eq (utf8_valid_len bytes) (length bytes)) (lt-ltb _ _ h)

-- nor do bytes of which only a front is text
pub none_torn : (bytes : List ℕ) → utf8_valid_len bytes < length bytes → is_name bytes ≡ false
unfolding is_name
none_torn bytes h = third_fails (nat_lt 0 (length bytes)) (is_name_too_long bytes) (nat_eq (utf8_valid_len bytes) (length bytes)) (ne_eqb _ _ (λ e. omega (arith, e, h)))
