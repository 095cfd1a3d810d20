-- A session's record that was read is as long as its bytes, whatever these are, and no longer without a channel.
use Rattle.std.proofs.Common.{◌≡◌, ℕ, zero, suc, ◌+◌, ◌≤◌, Bool, true, false, not, if◌then◌else◌, cond, eqb, ltb, nat_eq, Option, Some, None, List, [], ◌∷◌, length, get_or, Result, Ok, Err, refl, ap, subst, length-append, arith}
use Rattle.std.specs.Int.{Width, w32, w64, byte_len, from_be_bytes}
use Rattle.std.specs.List.{sum_by}
use Rattle.std.specs.Result.{result_ok}
use Rattle.std.specs.Str.Lossy.{utf8_valid_len}
use Rattle.std.proofs.lemmas.Bool.{eqb-true, ltb-false, le-ltb}
use Rattle.std.proofs.lemmas.List.Filters.{sum_by-filter_both}
use Rattle.std.proofs.lemmas.List.Sums.{sum_by-cons}
use Rattle.dk_types.specs.declared.number.ConnNo.{ConnNo}
use Rattle.dk_types.specs.declared.refused.WireRefused.{WireRefused}
use Rattle.dk_types.specs.declared.refused.WireRefused.TheVariants.{BadTag, Extra}
use Rattle.dk_types.specs.Rest.{Rest}
use Rattle.dk_types.specs.Fields.{u64_spelling, name_spelling}
use Rattle.dk_types.specs.Reading.{◌>>=◌, bytes_at, number_at, text_of, u8_at, u32_at, u64_at, name_at, end_at}
use Rattle.dk_types.specs.Payload.{placed, next_u32, next_u64, next_name, next_end, whole}
use Rattle.dk_types.specs.Lists.{list_spelling, items_at, list_at}
use Rattle.dk_wire.proofs.LengthLaws.{length-u64, length-name, length-list}
use Rattle.dk_types.proofs.FieldLaws.{bytes_take}
use Rattle.dk_types.proofs.Steps.{bind_ok, guard_ok, admit_ok, ok_is}
use Rattle.dk_model.specs.declared.records.SessionRecord.{SessionRecord}
use Rattle.dk_model.specs.Runs.{is_too_long}
use Rattle.dk_model.specs.Records.{session_bytes, session_of, next_session}
use Rattle.dk_model.specs.Platforms.{same_name, without_channel, bytes_without}
use Rattle.dk_channels.specs.AllMembers.{length_if_long, long_without}

-- a value of this size takes as many bytes
abbrev Spends : {A F : Type 0} → (A → ℕ) → (Rest → Result (A × Rest) F) → Type 0
Spends {A} size reading = (old : Rest) (x : A) (new : Rest) → reading old ≡ Ok (x, new) → length old.bytes ≡ size x + length new.bytes

placed_ok : {X : Type 0} (at : ℕ) (r : Result X WireRefused) (x : X) → placed at r ≡ Ok x → r ≡ Ok x
placed_ok at (Ok y) x e = cc
placed_ok at (Err d) x e = cc

bytes_spent : (n : ℕ) (old : Rest) (front : List ℕ) (new : Rest) → bytes_at n old ≡ Ok (front, new) → (length front ≡ n) × (length old.bytes ≡ n + length new.bytes)
bytes_spent n old front new e =
    let t = bytes_take n old front new e in (t.0, omega (arith, ap (λ (xs : List ℕ). length xs) t.2.parts, length-append front new.bytes, t.0))

number_spends : (w : Width) → Spends (λ (n : ℕ). byte_len w) (number_at w)
number_spends w old n new e =
    let b = bind_ok (bytes_at (byte_len w) old) (λ front. Ok (from_be_bytes w front.0, front.1)) (n, new) e in
    let spent = bytes_spent (byte_len w) old b.0.0 b.0.1 b.1 in
    subst (λ (p : ℕ × Rest). length old.bytes ≡ byte_len w + length p.1.bytes) (ok_is (from_be_bytes w b.0.0, b.0.1) (n, new) b.2) spent.1

u32_spends : Spends (λ (n : ℕ). 4) next_u32
unfolding next_u32 u32_at
u32_spends old n new e = number_spends w32 old n new (placed_ok old.at (number_at w32 old) (n, new) e)

u64_spends : Spends (λ (n : ℕ). 8) next_u64
unfolding next_u64 u64_at
u64_spends old n new e = number_spends w64 old n new (placed_ok old.at (number_at w64 old) (n, new) e)

u8_spends : Spends (λ (n : ℕ). 1) u8_at
unfolding u8_at
u8_spends old n new e =
    let b = bind_ok (bytes_at 1 old) (λ front. Ok (get_or front.0 0 0, front.1)) (n, new) e in
    let spent = bytes_spent 1 old b.0.0 b.0.1 b.1 in
    subst (λ (p : ℕ × Rest). length old.bytes ≡ 1 + length p.1.bytes) (ok_is (get_or b.0.0 0 0, b.0.1) (n, new) b.2) spent.1

name_spends : Spends (λ (name : List ℕ). 1 + length name) name_at
unfolding name_at
name_spends old name new e =
    let b = bind_ok (u8_at old) (λ len. cond (eqb len.0 0) (Err (BadTag old.at 0)) (bytes_at len.0 len.1) >>= λ front. text_of front.0 len.1.at front.1) (name, new) e in
    let len = b.0 in
    let first = u8_spends old len.0 len.1 b.1 in
    let m = bind_ok (cond (eqb len.0 0) (Err (BadTag old.at 0)) (bytes_at len.0 len.1)) (λ front. text_of front.0 len.1.at front.1) (name, new) b.2 in
    let front = m.0 in
    let g = guard_ok (eqb len.0 0) (BadTag old.at 0) (bytes_at len.0 len.1) front m.1 in
    let second = bytes_spent len.0 len.1 front.0 front.1 g.1 in
    let t = guard_ok (ltb (utf8_valid_len front.0) (length front.0)) (BadTag (len.1.at + utf8_valid_len front.0) (get_or front.0 (utf8_valid_len front.0) 0)) (Ok (front.0, front.1)) (name, new) m.2 in
    let is = ok_is (front.0, front.1) (name, new) t.1 in
    omega (arith, first, second.0, second.1, ap (λ (p : List ℕ × Rest). length p.0) is, ap (λ (p : List ℕ × Rest). length p.1.bytes) is)

next_name_spends : Spends (λ (name : List ℕ). length (name_spelling name)) next_name
unfolding next_name
next_name_spends old name new e = let spent = name_spends old name new (placed_ok old.at (name_at old) (name, new) e) in omega (arith, spent, length-name name)

module _ {A : Type 0} (size : A → ℕ) (next : Rest → Result (A × Rest) ℕ) (spends : Spends size next) where
  items_spend : (before : Option A) (n : ℕ) → Spends (λ (xs : List A). sum_by size xs) (items_at (λ _. next) before n)
  unfolding items_at
  items_spend before zero old xs new e = subst (λ (p : List A × Rest). length old.bytes ≡ sum_by size p.0 + length p.1.bytes) (ok_is {F = ℕ} ([], old) (xs, new) e) (omega arith)
  items_spend before (suc n) old xs new e =
      let a = bind_ok (next old) (λ x. items_at (λ _. next) (Some x.0) n x.1 >>= λ others. Ok (x.0 ∷ others.0, others.1)) (xs, new) e in
      let b = bind_ok (items_at (λ _. next) (Some a.0.0) n a.0.1) (λ others. Ok (a.0.0 ∷ others.0, others.1)) (xs, new) a.2 in
      let first = spends old a.0.0 a.0.1 a.1 in
      let second = items_spend (Some a.0.0) n a.0.1 b.0.0 b.0.1 b.1 in
      let is = ok_is {F = ℕ} (a.0.0 ∷ b.0.0, b.0.1) (xs, new) b.2 in
      omega (arith, first, second, sum_by-cons size a.0.0 b.0.0, ap (λ (p : List A × Rest). sum_by size p.0) is, ap (λ (p : List A × Rest). length p.1.bytes) is)

  list_spends : Spends (λ (xs : List A). 4 + sum_by size xs) (list_at (λ _. next))
  unfolding list_at
  list_spends old xs new e =
      let a = bind_ok (next_u32 old) (λ n. items_at (λ _. next) None n.0 n.1) (xs, new) e in
      let first = u32_spends old a.0.0 a.0.1 a.1 in
      let second = items_spend None a.0.0 a.0.1 xs new a.2 in
      omega (arith, first, second)

-- how long a session's record is
session_length : (r : SessionRecord) → length (session_bytes r) ≡ 12 + sum_by (λ name. length (name_spelling name)) r.channels
session_length r = omega (arith, length-append (u64_spelling r.conn.0) (list_spelling name_spelling r.channels), length-u64 r.conn.0, length-list name_spelling r.channels)

session_spends : Spends (λ (r : SessionRecord). length (session_bytes r)) next_session
unfolding next_session
session_spends old r new e =
    let a = bind_ok (next_u64 old) (λ conn. list_at (λ _. next_name) conn.1 >>= λ channels. Ok (record { conn = record { 0 = conn.0 }; channels = channels.0 }, channels.1)) (r, new) e in
    let b = bind_ok (list_at (λ _. next_name) a.0.1) (λ channels. Ok (record { conn = record { 0 = a.0.0 }; channels = channels.0 }, channels.1)) (r, new) a.2 in
    let first = u64_spends old a.0.0 a.0.1 a.1 in
    let second = list_spends (λ (name : List ℕ). length (name_spelling name)) next_name next_name_spends a.0.1 b.0.0 b.0.1 b.1 in
    let is = ok_is {F = ℕ} (record { conn = record { 0 = a.0.0 }; channels = b.0.0 }, b.0.1) (r, new) b.2 in
    omega (arith, first, second, session_length r, ap (λ (p : SessionRecord × Rest). sum_by (λ name. length (name_spelling name)) p.0.channels) is, ap (λ (p : SessionRecord × Rest). length p.1.bytes) is)

none_left : (r : Rest) (u : Unit {0}) → next_end r ≡ Ok u → length r.bytes ≡ 0
unfolding next_end end_at
none_left r u e = eqb-true (length r.bytes) 0 (admit_ok (eqb (length r.bytes) 0) (Extra r.at) (Ok tt) u (placed_ok r.at (cond (eqb (length r.bytes) 0) (Ok tt) (Err (Extra r.at))) u e)).0

ok_of : {A : Type 0} (r : Result A ℕ) (x : A) → result_ok r ≡ Some x → r ≡ Ok x
ok_of (Ok y) x e = cc
ok_of (Err n) x e = cc

-- a record that was read is as long as its bytes
read_length : (bytes : List ℕ) (r : SessionRecord) → session_of bytes ≡ Some r → length bytes ≡ length (session_bytes r)
unfolding session_of
read_length bytes r e =
    let start : Rest = record { at = 0; bytes = bytes } in
    let a = bind_ok (next_session start) (λ y. next_end y.1 >>= λ end. Ok y.0) r (ok_of (whole next_session bytes) r e) in
    let b = bind_ok (next_end a.0.1) (λ end. Ok a.0.0) r a.2 in
    omega (arith, session_spends start a.0.0 a.0.1 a.1, none_left a.0.1 b.0 b.1, ap (λ (x : SessionRecord). length (session_bytes x)) (ok_is {F = ℕ} a.0.0 r b.2))

-- a record is no longer without a channel
without_shorter : (name : List ℕ) (r : SessionRecord) → length (bytes_without name r) ≤ length (session_bytes r)
without_shorter name r = omega (
  arith,
  session_length r,
  session_length (record r { channels = without_channel name r.channels }),
  sum_by-filter_both (λ c. not (same_name name c)) (λ c. not (not (same_name name c))) (λ c. refl) (λ (c : List ℕ). length (name_spelling c)) r.channels,
)

-- nothing is found of a record that is short without the channel
short_without : (name : List ℕ) (conn : ConnNo) (r : SessionRecord) → is_too_long (bytes_without name r) ≡ false → long_without name conn (Some r) ≡ None
short_without name conn r short = by (nat_eq r.conn.0 conn.0)
  where
    by : (b : Bool) → (if b then length_if_long (bytes_without name r) else None) ≡ None
    by true = rw short refl
    by false = refl

-- nor of one that was read from bytes that are short
pub short_read : (name : List ℕ) (conn : ConnNo) (bytes : List ℕ) → is_too_long bytes ≡ false → long_without name conn (session_of bytes) ≡ None
short_read name conn bytes short = by (session_of bytes) refl
  where
    by : (o : Option SessionRecord) → session_of bytes ≡ o → long_without name conn o ≡ None
    by None is = refl
    by (Some r) is = short_without name conn r (le-ltb _ _ (omega (arith, ltb-false _ _ short, read_length bytes r is, without_shorter name r)))
