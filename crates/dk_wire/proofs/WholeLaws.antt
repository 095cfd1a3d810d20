-- Whole payloads, where reading is exact.
use Rattle.std.proofs.Common.{◌≡◌, ℕ, ◌+◌, Bool, true, false, cond, eqb, List, [], ◌++◌, length, Result, Ok, Err, refl, sym, ap, subst, ◌∙◌}
use Rattle.std.specs.Prelude.{MatchResult}
use Rattle.std.proofs.lemmas.Bool.{eqb-true}
use Rattle.std.proofs.lemmas.List.{append-nil, nil_from_length}
use Rattle.dk_wire.specs.declared.payload.PayloadRefused.{PayloadRefused}
use Rattle.dk_wire.specs.declared.payload.PayloadRefused.TheVariants.{NotInGrammar, NoMemory}
use Rattle.dk_types.specs.declared.refused.WireRefused.{WireRefused}
use Rattle.dk_types.specs.declared.refused.WireRefused.TheVariants.{Extra}
use Rattle.dk_types.specs.Rest.{Rest, IsBytes}
use Rattle.dk_types.specs.Reading.{◌>>=◌, end_at}
use Rattle.dk_types.specs.Exact.{IsExact}
use Rattle.dk_types.specs.Payload.{placed, next_end, whole}
use Rattle.dk_wire.specs.Payload.{Misses, Decodes}
use Rattle.dk_types.proofs.Steps.{bind_ok, ok_is}

-- at the end nothing is left
nothing_left : (r : Rest) (u : Unit {0}) → next_end r ≡ Ok u → r.bytes ≡ []
unfolding next_end end_at
nothing_left r u e = by (eqb (length r.bytes) 0) refl e
  where
    by : (b : Bool) → eqb (length r.bytes) 0 ≡ b → placed r.at (cond {A = Result (Unit {0}) WireRefused} b (Ok tt) (Err (Extra r.at))) ≡ Ok u → r.bytes ≡ []
    by true is e = nil_from_length r.bytes (eqb-true _ _ is)
    by false is e = absurd cc

-- where nothing is left, it is the end
ended : (at : ℕ) → next_end (record { at = at; bytes = [] }) ≡ Ok tt
unfolding next_end end_at
ended at = refl

module _ {A : Type 0} (Fits : A → Type 0) (spelling : A → List ℕ) (reading : Rest → Result (A × Rest) ℕ) (exact : IsExact Fits spelling reading) where
  -- a payload that is read fits, and is the spelling
  pub whole_takes : (payload : List ℕ) (x : A) → IsBytes payload → whole reading payload ≡ Ok x → Fits x × (payload ≡ spelling x)
  whole_takes payload x each e =
      let start : Rest = record { at = 0; bytes = payload } in
      let s = bind_ok (reading start) (λ y. next_end y.1 >>= λ end. Ok y.0) x e in
      let t = bind_ok (next_end s.0.1) (λ end. Ok s.0.0) x s.2 in
      let took = exact.takes start s.0.0 s.0.1 each s.1 in
      let is : payload ≡ spelling s.0.0 = took.1.parts ∙ ap (λ (rest : List ℕ). spelling s.0.0 ++ rest) (nothing_left s.0.1 t.0 t.1) ∙ append-nil (spelling s.0.0) in
      subst (λ (y : A). Fits y × (payload ≡ spelling y)) (ok_is {F = ℕ} s.0.0 x t.2) (took.0, is)

  -- a spelling is read as a whole payload
  pub whole_again : (x : A) → Fits x → whole reading (spelling x) ≡ Ok x
  whole_again x fits =
      let read : reading (record { at = 0; bytes = spelling x }) ≡ Ok (x, record { at = 0 + length (spelling x); bytes = [] }) = ap (λ (bytes : List ℕ). reading (record { at = 0; bytes = bytes })) (sym (append-nil (spelling x))) ∙ exact.again 0 x [] fits in
      rw (read, ended (0 + length (spelling x))) refl

  -- what gives the value of a whole payload decodes it
  pub decodes : (payload : List ℕ) (result : Result A PayloadRefused) → IsBytes payload → MatchResult result (λ x. whole reading payload ≡ Ok x) (λ e. Misses e (whole reading payload)) → Decodes Fits spelling reading payload result
  decodes payload (Ok x) each gives = whole_takes payload x each gives
  decodes payload (Err NoMemory) each gives = tt
  decodes payload (Err (NotInGrammar at)) each gives =
      (gives, λ x fits is. let again : whole reading payload ≡ Ok x = ap (λ (bytes : List ℕ). whole reading bytes) is ∙ whole_again x fits in absurd cc)
