-- What a reading yields from bytes: a value that fits, and bytes behind it.
use Rattle.std.proofs.Common.{◌≡◌, ℕ, zero, suc, Bool, All, Option, Some, None, List, [], ◌∷◌, length, Result, Ok, Err, if◌then◌else◌, subst, ◌∙◌, arith, inl, inr}
use Rattle.std.specs.Result.{result_ok}
use Rattle.std.proofs.lemmas.Bool.{cases_lt}
use Rattle.std.proofs.lemmas.List.{get_or_past}
use Rattle.std.proofs.lemmas.List.Elements.{All-nil, All-cons}
use Rattle.dk_types.specs.Rest.{Rest, IsBytes}
use Rattle.dk_types.specs.Reading.{◌>>=◌}
use Rattle.dk_types.specs.Exact.{IsExact}
use Rattle.dk_types.specs.Payload.{next_u32, next_end, whole, checked}
use Rattle.dk_types.proofs.Steps.{IsBytes-taken, bind_ok, admit_ok, ok_is}
use Rattle.dk_types.proofs.NextLaws.{next_u32_exact}
use Rattle.dk_types.specs.Lists.{items_at, list_at}
use Rattle.dk_model.specs.Records.{value_of}
use Rattle.dk_model.proofs.Acts.{AreBytes}

abbrev pub Yields : {A : Type 0} → (A → Type 0) → (Rest → Result (A × Rest) ℕ) → Type 0
Yields {A} Fits reading = (old : Rest) (x : A) (new : Rest) → IsBytes old.bytes → reading old ≡ Ok (x, new) → Fits x × IsBytes new.bytes

-- bytes, as a reader has them
pub bytes_before : (bytes : List ℕ) → AreBytes bytes → IsBytes bytes
bytes_before bytes h i = elim (cases_lt i (length bytes)) [
  | inl lt ↦ h i 0 lt
  | inr le ↦ rw (get_or_past bytes i 0 le) (omega arith)
]

-- what is read exactly
pub yields_exact : {A : Type 0} (Fits : A → Type 0) (spelling : A → List ℕ) (reading : Rest → Result (A × Rest) ℕ) → IsExact Fits spelling reading → Yields Fits reading
yields_exact Fits spelling reading exact old x new each e = let t = exact.takes old x new each e in (t.0, IsBytes-taken old (spelling x) new each t.1)

-- what passes a test
pub yields_checked : {A : Type 0} (Fits : A → Type 0) (test : A → Bool) (reading : Rest → Result (A × Rest) ℕ) → Yields Fits reading → Yields Fits (checked test reading)
yields_checked Fits test reading h old x new each e =
    let a = bind_ok (reading old) (λ y. if test y.0 then Ok y else Err old.at) (x, new) e in
    let b = admit_ok (test a.0.0) old.at (Ok a.0) (x, new) a.2 in
    h old x new each (a.1 ∙ b.1)

yields_items : {A : Type 0} (Fits : A → Type 0) (next : Rest → Result (A × Rest) ℕ) → Yields Fits next → (before : Option A) (n : ℕ) → Yields (All Fits) (items_at (λ _. next) before n)
unfolding items_at
yields_items {A} Fits next h before zero old xs new each e =
    subst (λ (p : List A × Rest). All Fits p.0 × IsBytes p.1.bytes) (ok_is {F = ℕ} ([], old) (xs, new) e) (All-nil Fits, each)
yields_items {A} Fits next h before (suc n) old xs new each e =
    let a = bind_ok (next old) (λ x. items_at (λ _. next) (Some x.0) n x.1 >>= λ others. Ok (x.0 ∷ others.0, others.1)) (xs, new) e in
    let b = bind_ok (items_at (λ _. next) (Some a.0.0) n a.0.1) (λ others. Ok (a.0.0 ∷ others.0, others.1)) (xs, new) a.2 in
    let first = h old a.0.0 a.0.1 each a.1 in
    let second = yields_items Fits next h (Some a.0.0) n a.0.1 b.0.0 b.0.1 first.1 b.1 in
    subst (λ (p : List A × Rest). All Fits p.0 × IsBytes p.1.bytes) (ok_is {F = ℕ} (a.0.0 ∷ b.0.0, b.0.1) (xs, new) b.2) (All-cons Fits a.0.0 b.0.0 first.0 second.0, second.1)

-- each item of a list fits
pub yields_list : {A : Type 0} (Fits : A → Type 0) (next : Rest → Result (A × Rest) ℕ) → Yields Fits next → Yields (All Fits) (list_at (λ _. next))
unfolding list_at
yields_list Fits next h old xs new each e =
    let a = bind_ok (next_u32 old) (λ n. items_at (λ _. next) None n.0 n.1) (xs, new) e in
    let first = next_u32_exact.takes old a.0.0 a.0.1 each a.1 in
    yields_items Fits next h None a.0.0 a.0.1 xs new (IsBytes-taken old _ a.0.1 each first.1) a.2

ok_of : {A : Type 0} (r : Result A ℕ) (x : A) → result_ok r ≡ Some x → r ≡ Ok x
ok_of (Ok y) x e = cc
ok_of (Err n) x e = cc

-- a value that is the whole of some bytes fits
pub value_fits : {A : Type 0} (Fits : A → Type 0) (next : Rest → Result (A × Rest) ℕ) → Yields Fits next → (bytes : List ℕ) (x : A) → AreBytes bytes → value_of next bytes ≡ Some x → Fits x
value_fits {A} Fits next h bytes x each e =
    let start : Rest = record { at = 0; bytes = bytes } in
    let a = bind_ok (next start) (λ y. next_end y.1 >>= λ end. Ok y.0) x (ok_of (whole next bytes) x e) in
    let b = bind_ok (next_end a.0.1) (λ end. Ok a.0.0) x a.2 in
    subst Fits (ok_is {F = ℕ} a.0.0 x b.2) (h start a.0.0 a.0.1 (bytes_before bytes each) a.1).0
