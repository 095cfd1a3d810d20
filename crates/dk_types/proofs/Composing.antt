-- Records of fields: a reading that is written with `do` is exact where its steps are. A record's law is one lemma for
-- each field: `then_exact` for each but the last, and `last_exact` for that.
use Rattle.std.proofs.Common.{◌≡◌, ℕ, ◌+◌, Bool, true, cond, List, [], ◌++◌, length, Result, Ok, Err, refl, sym, ap, subst, ◌∙◌, append_assoc, length-append, arith}
use Rattle.dk_types.specs.declared.refused.WireRefused.{WireRefused}
use Rattle.dk_types.specs.Rest.{Rest, Takes}
use Rattle.dk_types.specs.Reading.{◌>>=◌}
use Rattle.dk_types.specs.Exact.{IsExact}
use Rattle.dk_types.specs.Payload.{placed, checked}
use Rattle.dk_types.proofs.Steps.{IsBytes-taken, Takes-then, Takes-none, bind_ok, admit_ok, ok_is}

-- a field, and then what follows it. `part` is the field of the record `B`; what follows is read under its value.
pub then_exact : {A B F : Type 0} {Fits : A → Type 0} {spelling : A → List ℕ} {reading : Rest → Result (A × Rest) F} {All : B → Type 0} {others : B → List ℕ} (part : B → A) (following : A × Rest → Result (B × Rest) F)
    → IsExact Fits spelling reading → ((b : B) → All b → Fits (part b)) → ((a : A) → Fits a → IsExact (λ b. All b × (part b ≡ a)) others (λ r. following (a, r)))
    → IsExact All (λ b. spelling (part b) ++ others b) (λ r. reading r >>= following)
then_exact {A} {B} {F} {Fits} {spelling} {reading} {All} {others} part following exact fits after = record {
  takes = λ old b new each e.
      let s = bind_ok (reading old) following (b, new) e in
      let a = s.0.0 in
      let mid = s.0.1 in
      let first = exact.takes old a mid each s.1 in
      let second = (after a first.0).takes mid b new (IsBytes-taken old (spelling a) mid each first.1) s.2 in
      let both = Takes-then old (spelling a) mid (others b) new first.1 second.1 in
      (second.0.0, subst (λ x. Takes old (spelling x ++ others b) new) (sym second.0.1) both);
  again = λ at b behind all.
      let a = part b in
      let first = exact.again at a (others b ++ behind) (fits b all) in
      let second = (after a (fits b all)).again (at + length (spelling a)) b behind (all, refl) in
      let parts : (spelling a ++ others b) ++ behind ≡ spelling a ++ (others b ++ behind) = append_assoc (spelling a) (others b) behind in
      let place : (at + length (spelling a)) + length (others b) ≡ at + length (spelling a ++ others b) = omega (arith, length-append (spelling a) (others b)) in
      ap (λ (bytes : List ℕ). reading (record { at = at; bytes = bytes }) >>= following) parts ∙ ap (λ read. read >>= following) first ∙ second ∙ ap (λ (p : ℕ). Ok (b, record { at = p; bytes = behind })) place;
}

-- the last field; `make` makes the record of it
pub last_exact : {A B F : Type 0} {Fits : A → Type 0} {spelling : A → List ℕ} {reading : Rest → Result (A × Rest) F} {All : B → Type 0} (part : B → A) (make : A → B)
    → IsExact Fits spelling reading → ((b : B) → All b → Fits (part b)) → ((a : A) → Fits a → All (make a)) → ((a : A) → part (make a) ≡ a) → ((b : B) → All b → b ≡ make (part b))
    → IsExact All (λ b. spelling (part b)) (λ r. reading r >>= λ x. Ok (make x.0, x.1))
last_exact {A} {B} {F} {Fits} {spelling} {reading} {All} part make exact fits all made is = record {
  takes = λ old b new each e.
      let s = bind_ok (reading old) (λ x. Ok (make x.0, x.1)) (b, new) e in
      let first = exact.takes old s.0.0 s.0.1 each s.1 in
      let took : Takes old (spelling (part (make s.0.0))) s.0.1 = subst (λ x. Takes old (spelling x) s.0.1) (sym (made s.0.0)) first.1 in
      subst (λ (p : B × Rest). All p.0 × Takes old (spelling (part p.0)) p.1) (ok_is {F = F} (make s.0.0, s.0.1) (b, new) s.2) (all s.0.0 first.0, took);
  again = λ at b behind g.
      let first = exact.again at (part b) behind (fits b g) in
      ap (λ read. read >>= λ x. Ok (make x.0, x.1)) first ∙ ap (λ x. Ok (x, record { at = at + length (spelling (part b)); bytes = behind })) (sym (is b g));
}

-- no field: the value that nothing spells
pub none_exact : {B F : Type 0} {All : B → Type 0} (b : B) → All b → ((x : B) → All x → x ≡ b) → IsExact {F = F} All (λ x. []) (λ r. Ok (b, r))
none_exact {B} {F} {All} b all is = record {
  takes = λ old x new each e.
      subst (λ (p : B × Rest). All p.0 × Takes old [] p.1) (ok_is {F = F} (b, old) (x, new) e) (all, Takes-none old);
  again = λ at x behind g.
      ap (λ y. Ok (y, record { at = at; bytes = behind })) (sym (is x g)) ∙ ap (λ (p : ℕ). Ok (x, record { at = p; bytes = behind })) (omega arith);
}

-- the same under other words for what fits and for its spelling
pub alike_exact : {A F : Type 0} {Fits Other : A → Type 0} {spelling respelling : A → List ℕ} {reading : Rest → Result (A × Rest) F}
    → IsExact Fits spelling reading → ((x : A) → Fits x → Other x) → ((x : A) → Other x → Fits x) → ((x : A) → Fits x → spelling x ≡ respelling x)
    → IsExact Other respelling reading
alike_exact {A} {F} {Fits} {Other} {spelling} {respelling} {reading} exact to from same = record {
  takes = λ old x new each e.
      let t = exact.takes old x new each e in
      (to x t.0, subst (λ (text : List ℕ). Takes old text new) (same x t.0) t.1);
  again = λ at x behind other.
      subst (λ (text : List ℕ). reading (record { at = at; bytes = text ++ behind }) ≡ Ok (x, record { at = at + length text; bytes = behind })) (same x (from x other)) (exact.again at x behind (from x other));
}

-- a value that passes a test
pub checked_exact : {A : Type 0} {Fits : A → Type 0} {spelling : A → List ℕ} {reading : Rest → Result (A × Rest) ℕ} (test : A → Bool)
    → IsExact Fits spelling reading → IsExact (λ x. Fits x × (test x ≡ true)) spelling (checked test reading)
checked_exact {A} {Fits} {spelling} {reading} test exact = record {
  takes = λ old x new each e.
      let s = bind_ok (reading old) (λ y. cond (test y.0) (Ok y) (Err old.at)) (x, new) e in
      let g = admit_ok (test s.0.0) old.at (Ok s.0) (x, new) s.2 in
      let first = exact.takes old s.0.0 s.0.1 each s.1 in
      subst (λ (p : A × Rest). (Fits p.0 × (test p.0 ≡ true)) × Takes old (spelling p.0) p.1) (ok_is {F = ℕ} s.0 (x, new) g.1) ((first.0, g.0), first.1);
  again = λ at x behind fits.
      rw (exact.again at x behind fits.0, fits.1) refl;
}

-- a reading whose faults are told by their place
pub placed_exact : {A : Type 0} {Fits : A → Type 0} {spelling : A → List ℕ} {reading : Rest → Result (A × Rest) WireRefused}
    → IsExact Fits spelling reading → IsExact Fits spelling (λ r. placed r.at (reading r))
placed_exact {A} {Fits} {spelling} {reading} exact = record {
  takes = λ old x new each e. exact.takes old x new each (unplaced old.at (reading old) (x, new) e);
  again = λ at x behind fits. ap (placed at) (exact.again at x behind fits);
}
  where
    unplaced : (at : ℕ) (r : Result (A × Rest) WireRefused) (y : A × Rest) → placed at r ≡ Ok y → r ≡ Ok y
    unplaced at (Ok x) y e = ap (λ (z : A × Rest). Ok z) (ok_is {F = ℕ} x y e)
    unplaced at (Err d) y e = absurd cc
