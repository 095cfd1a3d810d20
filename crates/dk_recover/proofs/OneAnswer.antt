-- Two files have one answer.
use Rattle.std.proofs.Common.{◌≡◌, ◌⊎◌, ⊎_elim, inl, inr, ℕ, ◌≤◌, List, [], ◌∷◌, ◌++◌, length, get_or, drop, refl, sym, ap, subst, ◌∙◌, arith, append_assoc, length-append, take-append-drop}
use Rattle.std.proofs.lemmas.List.{append_cancel_left, get_or-drop}
use Rattle.dk_types.specs.Fields.{blob_spelling}
use Rattle.dk_types.specs.declared.side.Side.{Side}
use Rattle.dk_model.specs.DurableWorlds.{DurableWorld}
use Rattle.dk_model.specs.Stores.{StoreHeader, header_spelling, records, AreSized, end_of, NoStore, StandsOn, NoneStands, standing}
use Rattle.dk_model.specs.Recovered.{HasWorld, HoldsWorld, IsDamaged, OnStanding, Recovers, Recovered, NotYet, Holding, NotAStore, Damaged, file_on}
use Rattle.dk_image.proofs.Worlds.{front_world}
use Rattle.dk_journal.proofs.Readings.{blobs_apart}
use Rattle.dk_recover.proofs.Damages.{gate_of}
use Rattle.dk_recover.proofs.Undamaged.{next_sized, not_damaged}
use Rattle.dk_recover.proofs.Recoveries.{one_side, one_held}

-- these are the first of those, and there are more of them
abbrev IsLonger : List (List ℕ) → List ℕ → List (List ℕ) → List ℕ → Type 0
IsLonger ps x qs y = (r : List ℕ) × (more : List (List ℕ)) × (qs ≡ ps ++ r ∷ more) × (x ≡ records (r ∷ more) ++ y)

-- of two lists of records at the front of a file, they are alike, or one is longer
compared : (ps qs : List (List ℕ)) (x y : List ℕ) → AreSized ps → AreSized qs → records ps ++ x ≡ records qs ++ y → (ps ≡ qs) ⊎ (IsLonger ps x qs y ⊎ IsLonger qs y ps x)
compared [] [] x y sp sq same = inl refl
compared [] (q ∷ qs) x y sp sq same = inr (inl (q, qs, refl, same))
compared (p ∷ ps) [] x y sp sq same = inr (inr (p, ps, refl, sym same))
compared (p ∷ ps) (q ∷ qs) x y sp sq same =
    let tails : (blob_spelling p ++ records ps) ++ x ≡ (blob_spelling q ++ records qs) ++ y = cc in
    let both = blobs_apart p q (records ps ++ x) (records qs ++ y) sp.0 sq.0 (sym (append_assoc (blob_spelling p) (records ps) x) ∙ tails ∙ append_assoc (blob_spelling q) (records qs) y) in
    ⊎_elim
    (λ (e : ps ≡ qs). inl (cc (both.0, e)))
    (λ rest. inr (⊎_elim
    (λ (l : IsLonger ps x qs y). inl (l.0, l.1, cc (both.0, l.2), l.3))
    (λ (l : IsLonger qs y ps x). inr (l.0, l.1, cc (both.0, l.2), l.3))
    rest))
    (compared ps qs x y sp.1 sq.1 both.1)

opened_some : (rest : List ℕ) → get_or rest 0 0 ≡ 1 → 1 ≤ length rest
opened_some [] e = absurd (omega (arith, e))
opened_some (x ∷ xs) e = omega arith

module _ (file : List ℕ) (header : StoreHeader) where
  whole : (at : ℕ) (bad : IsDamaged file header at) → header_spelling header ++ (records bad.good ++ drop at file) ≡ file
  whole at bad = sym (append_assoc (header_spelling header) (records bad.good) (drop at file)) ∙ ap (λ (l : List ℕ). l ++ drop at file) (sym bad.front) ∙ take-append-drop at file

  -- behind some records damage is at an open gate
  opened : (at : ℕ) (bad : IsDamaged file header at) → (bad.good ≡ [] → ⊥) → 1 ≤ length (drop at file)
  opened at bad some = ⊎_elim
      (λ open_gate. opened_some (drop at file) (get_or-drop at file 0 0 ∙ ap (λ n. get_or file n 0) (omega arith) ∙ open_gate.0))
      (λ none. absurd (some none.2))
      bad.broken

  -- no more records fit than those before damage
  no_longer : (a b : ℕ) (bad : IsDamaged file header a) (other : IsDamaged file header b) → IsLonger bad.good (drop a file) other.good (drop b file) → ⊥
  no_longer a b bad other l =
      let from : drop a file ≡ 1 ∷ ((blob_spelling l.0 ++ records l.1) ++ drop b file) = l.3 in
      let some : other.good ≡ [] → ⊥ = λ e. let none : length (bad.good ++ l.0 ∷ l.1) ≡ 0 = ap length (sym l.2 ∙ e) in omega (arith, none, length-append bad.good (l.0 ∷ l.1)) in
      ⊎_elim
      (λ open_gate. ⊎_elim
      (λ (e : other.good ≡ []). some e)
      (λ (fit : (d : DurableWorld) × HasWorld header other.good d).
      let fits = front_world header bad.good l.0 l.1 fit.0 (subst (λ (ps : List (List ℕ)). HasWorld header ps fit.0) l.2 fit.1) in
      open_gate.1 l.0 (records l.1 ++ drop b file) fits.0 (next_sized bad.good l.0 l.1 (subst AreSized l.2 other.sized)) (from ∙ ap (λ (t : List ℕ). 1 ∷ t) (append_assoc (blob_spelling l.0) (records l.1) (drop b file)))
      (omega (arith, length-append (records l.1) (drop b file), opened b other some)) fits.1)
      other.fit)
      (λ none. none.0 (gate_of file ((blob_spelling l.0 ++ records l.1) ++ drop b file) a 1 from))
      bad.broken

  one_place : (a b : ℕ) → IsDamaged file header a → IsDamaged file header b → a ≡ b
  one_place a b bad other = ⊎_elim
      (λ (same : bad.good ≡ other.good). bad.place ∙ ap (end_of (header_spelling header)) same ∙ sym other.place)
      (λ rest. ⊎_elim (λ (l : IsLonger bad.good (drop a file) other.good (drop b file)). absurd (no_longer a b bad other l)) (λ (l : IsLonger other.good (drop b file) bad.good (drop a file)). absurd (no_longer b a other bad l)) rest)
      (compared bad.good other.good (drop a file) (drop b file) bad.sized other.sized (append_cancel_left (header_spelling header) _ _ (whole a bad ∙ sym (whole b other))))

module _ (z o : List ℕ) where
  on_one : (s t : Side) (P : List ℕ → StoreHeader → Type 0) → (a : OnStanding z o s P) → (h : StoreHeader) → standing z o ≡ StandsOn t h → (s ≡ t) × P (file_on t z o) h
  on_one s t P a h stands =
      let same = one_side z o s t a.0 h a.1 stands in
      (same.0, subst (λ (k : StoreHeader). P (file_on t z o) k) same.1 (subst (λ (side : Side). P (file_on side z o) a.0) same.0 a.2))

  pub one_answer : (a b : Recovered) → Recovers z o a → Recovers z o b → a ≡ b
  one_answer NotYet NotYet x y = refl
  one_answer NotYet (Holding e) x y = let no : NoStore ≡ StandsOn y.0 y.1.0 = sym x ∙ y.1.1 in absurd cc
  one_answer NotYet (NotAStore t q) x y = let no : NoStore ≡ NoneStands t q = sym x ∙ y in absurd cc
  one_answer NotYet (Damaged t q) x y = let no : NoStore ≡ StandsOn t y.0 = sym x ∙ y.1 in absurd cc
  one_answer (Holding d) NotYet x y = let no : NoStore ≡ StandsOn x.0 x.1.0 = sym y ∙ x.1.1 in absurd cc
  one_answer (Holding d) (Holding e) x y = ap Holding (one_held (file_on y.0 z o) y.1.0 d e (on_one x.0 y.0 (λ file h. HoldsWorld file h d) x.1 y.1.0 y.1.1).1 y.1.2)
  one_answer (Holding d) (NotAStore t q) x y = let no : NoneStands t q ≡ StandsOn x.0 x.1.0 = sym y ∙ x.1.1 in absurd cc
  one_answer (Holding d) (Damaged t q) x y = absurd (not_damaged (file_on t z o) y.0 d q (on_one x.0 t (λ file h. HoldsWorld file h d) x.1 y.0 y.1).1 y.2)
  one_answer (NotAStore s p) NotYet x y = let no : NoStore ≡ NoneStands s p = sym y ∙ x in absurd cc
  one_answer (NotAStore s p) (Holding e) x y = let no : NoneStands s p ≡ StandsOn y.0 y.1.0 = sym x ∙ y.1.1 in absurd cc
  one_answer (NotAStore s p) (NotAStore t q) x y = let same : NoneStands s p ≡ NoneStands t q = sym x ∙ y in cc
  one_answer (NotAStore s p) (Damaged t q) x y = let no : NoneStands s p ≡ StandsOn t y.0 = sym x ∙ y.1 in absurd cc
  one_answer (Damaged s p) NotYet x y = let no : NoStore ≡ StandsOn s x.0 = sym y ∙ x.1 in absurd cc
  one_answer (Damaged s p) (Holding e) x y = absurd (not_damaged (file_on s z o) x.0 e p (on_one y.0 s (λ file h. HoldsWorld file h e) y.1 x.0 x.1).1 x.2)
  one_answer (Damaged s p) (NotAStore t q) x y = let no : NoneStands t q ≡ StandsOn s x.0 = sym y ∙ x.1 in absurd cc
  one_answer (Damaged s p) (Damaged t q) x y =
      let there = on_one s t (λ file h. IsDamaged file h p) x y.0 y.1 in
      let place = one_place (file_on t z o) y.0 p q there.1 y.2 in
      cc (there.0, place)
