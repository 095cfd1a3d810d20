-- Values as bytes.
use Rattle.std.specs.Prelude.{◌≡◌, ◌↔◌, ℕ, Option, Some, List, Result, Ok, Err}
use Rattle.std.proofs.Common.{sym, ap, ◌∙◌}
use Rattle.std.specs.Result.{result_ok}
use Rattle.dk_types.specs.Rest.{Rest, IsBytes}
use Rattle.dk_types.specs.Exact.{IsExact}
use Rattle.dk_types.specs.Payload.{whole}
use Rattle.dk_wire.proofs.WholeLaws.{whole_takes, whole_again}
use Rattle.dk_model.specs.Records.{value_of}

-- the bytes are read as a value exactly where it fits and is spelled so
abbrev pub ReadsExactly : {A : Type 0} → (A → Type 0) → (A → List ℕ) → (List ℕ → Option A) → Type 0
ReadsExactly {A} Fits spelling of = (payload : List ℕ) → IsBytes payload → (value : A) → (of payload ≡ Some value) ↔ (Fits value × (spelling value ≡ payload))

ok_of : {A : Type 0} (r : Result A ℕ) (x : A) → result_ok r ≡ Some x → r ≡ Ok x
ok_of (Ok y) x e = cc
ok_of (Err n) x e = cc

-- what fits is read from its spelling
pub reads_again : {A : Type 0} (Fits : A → Type 0) (spelling : A → List ℕ) (reading : Rest → Result (A × Rest) ℕ) → IsExact Fits spelling reading → (payload : List ℕ) (value : A) → Fits value → payload ≡ spelling value
    → value_of reading payload ≡ Some value
reads_again Fits spelling reading exact payload value fits is = ap (λ bytes. value_of reading bytes) is ∙ ap result_ok (whole_again Fits spelling reading exact value fits)

-- a form that is exact reads whole payloads exactly: the law of a managed type that has a form
pub reads_exactly : {A : Type 0} (Fits : A → Type 0) (spelling : A → List ℕ) (reading : Rest → Result (A × Rest) ℕ) → IsExact Fits spelling reading → ReadsExactly Fits spelling (value_of reading)
reads_exactly Fits spelling reading exact payload each value = (
  λ e. let took = whole_takes Fits spelling reading exact payload value each (ok_of (whole reading payload) value e) in (took.0, sym took.1),
  λ is. reads_again Fits spelling reading exact payload value is.0 (sym is.1),
)
