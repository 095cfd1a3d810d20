-- What a scan has come to, where the file is known.
use Rattle.std.proofs.Common.{◌≡◌, ◌≢◌, ℕ, ◌+◌, ◌<◌, ◌^◌, List, [], ◌∷◌, ◌++◌, length, take, drop, Result, Ok, Err, IsErrOf, refl, sym, ap, subst, ◌∙◌, arith, append_assoc, length-append, take-append-drop}
use Rattle.std.proofs.lemmas.List.{append_cancel_left}
use Rattle.dk_types.specs.Fields.{blob_spelling}
use Rattle.dk_model.specs.Stores.{Reads, records, AreSized}
use Rattle.dk_journal.specs.Scanning.{IsScanned, IsCutOff}
use Rattle.dk_journal.specs.Refusals.{IsOpenFault, IsScanFault}
use Rattle.dk_journal.specs.declared.refused.JournalRefused.{JournalRefused}
use Rattle.dk_journal.specs.declared.refused.JournalRefused.TheVariants as journal
use Rattle.dk_journal.proofs.Readings.{blobs_apart, one_reading}
use Rattle.dk_commit_log.specs.declared.refused.LogRefused.TheVariants.{Damaged}
use Rattle.dk_commit_log.specs.Refusals.{refusal_of}

-- records at the front of a file are the first of all its records
fronts : (good ps : List (List ℕ)) (g : ℕ) (x rest : List ℕ) → AreSized good → AreSized ps → g ≢ 1 → records good ++ rest ≡ records ps ++ g ∷ x → (more : List (List ℕ)) × (ps ≡ good ++ more) × (rest ≡ records more ++ g ∷ x)
fronts [] ps g x rest sg sp closed same = (ps, refl, same)
fronts (q ∷ qs) [] g x rest sg sp closed same = let e : g ≡ 1 = cc in absurd (closed e)
fronts (q ∷ qs) (p ∷ ps) g x rest sg sp closed same =
    let tails : (blob_spelling q ++ records qs) ++ rest ≡ (blob_spelling p ++ records ps) ++ g ∷ x = cc in
    let both = blobs_apart q p (records qs ++ rest) (records ps ++ g ∷ x) sg.0 sp.0 (sym (append_assoc (blob_spelling q) (records qs) rest) ∙ tails ∙ append_assoc (blob_spelling p) (records ps) (g ∷ x)) in
    let more = fronts qs ps g x rest sg.1 sp.1 closed both.1 in
    (more.0, cc (both.0, more.1), more.2)

sized_right : (good ps : List (List ℕ)) → AreSized (good ++ ps) → AreSized ps
sized_right [] ps are = are
sized_right (q ∷ good) ps are = sized_right good ps are.1

module _ (file header : List ℕ) (ps : List (List ℕ)) (reads : Reads file header ps) (done : List (List ℕ)) (at end : ℕ) (is : IsScanned file header done at end) where
  -- what was scanned is the first of all, and the rest is behind it
  pub scanned_front : (more : List (List ℕ)) × (ps ≡ done ++ more) × (drop at file ≡ records more ++ reads.gate ∷ reads.behind)
  scanned_front =
      let same : header ++ (records done ++ drop at file) ≡ header ++ (records ps ++ reads.gate ∷ reads.behind) =
      sym (append_assoc header (records done) (drop at file)) ∙ ap (λ (l : List ℕ). l ++ drop at file) (sym is.front) ∙ take-append-drop at file ∙ reads.bytes in
      fronts done ps reads.gate reads.behind (drop at file) is.sized reads.sized reads.closed (append_cancel_left header _ _ same)

  -- what is still to come
  pub scanned_rest : (more : List (List ℕ)) → ps ≡ done ++ more → drop at file ≡ records more ++ reads.gate ∷ reads.behind
  scanned_rest more parts =
      let front = scanned_front in
      let same : front.0 ≡ more = append_cancel_left done _ _ (sym front.1 ∙ parts) in
      front.2 ∙ ap (λ (l : List (List ℕ)). records l ++ reads.gate ∷ reads.behind) same

-- the next payload is the one that was scanned
pub scanned_next : (file header : List ℕ) (ps : List (List ℕ)) → Reads file header ps → (done : List (List ℕ)) (p q : List ℕ) (more : List (List ℕ)) (at end : ℕ) → IsScanned file header (done ++ p ∷ []) at end → ps ≡ done ++ q ∷ more → (p ≡ q) × (ps ≡ (done ++ p ∷ []) ++ more)
scanned_next file header ps reads done p q more at end is parts =
    let front = scanned_front file header ps reads (done ++ p ∷ []) at end is in
    let same : q ∷ more ≡ p ∷ front.0 = append_cancel_left done _ _ (sym parts ∙ front.1 ∙ append_assoc done (p ∷ []) front.0) in
    let one : q ≡ p = cc in
    let rest : more ≡ front.0 = cc in
    (sym one, front.1 ∙ ap (λ (l : List (List ℕ)). (done ++ p ∷ []) ++ l) (sym rest))

-- a file has no more than it has
pub not_ended : (file header : List ℕ) (done : List (List ℕ)) (p : List ℕ) (more : List (List ℕ)) → Reads file header done → Reads file header (done ++ p ∷ more) → ⊥
not_ended file header done p more a b =
    let same = one_reading file header done (done ++ p ∷ more) a b in
    absurd (omega (arith, ap length same, length-append done (p ∷ more)))

-- a record that is there is not cut off
pub not_cut_off : (file header : List ℕ) (done : List (List ℕ)) (p : List ℕ) (more : List (List ℕ)) (at end place : ℕ) → IsScanned file header done at end → Reads file header (done ++ p ∷ more) → (place ≡ at) × IsCutOff file place → ⊥
not_cut_off file header done p more at end place is reads bad =
    let here = ap (λ k. drop k file) bad.0 ∙ scanned_rest file header (done ++ p ∷ more) reads done at end is (p ∷ more) refl in
    let rest = records more ++ reads.gate ∷ reads.behind in
    let none = bad.1.none p rest (sized_right done (p ∷ more) reads.sized).0 (here ∙ ap (λ (l : List ℕ). 1 ∷ l) (append_assoc (blob_spelling p) (records more) (reads.gate ∷ reads.behind))) in
    absurd (omega (arith, none, length-append (records more) (reads.gate ∷ reads.behind)))

-- what is damaged to who reads a log was so to who scanned
pub damage_of : (r : JournalRefused) → IsScanFault r → (at : ℕ) → refusal_of r ≡ Damaged at → r ≡ journal.Damaged at
damage_of journal.DiskFault may at is = absurd cc
damage_of (journal.Full n) may at is = absurd may
damage_of (journal.NotAStore p) may at is = absurd may
damage_of (journal.Damaged p) may at is = let same : p ≡ at = cc in ap journal.Damaged same
damage_of journal.NoMemory may at is = absurd cc

-- and so it is with what is no store
pub fault_of : (r : JournalRefused) → IsOpenFault r → (at : ℕ) → refusal_of r ≡ Damaged at → r ≡ journal.NotAStore at
fault_of journal.DiskFault may at is = absurd cc
fault_of (journal.Full n) may at is = absurd may
fault_of (journal.NotAStore p) may at is = let same : p ≡ at = cc in ap journal.NotAStore same
fault_of (journal.Damaged p) may at is = absurd may
fault_of journal.NoMemory may at is = absurd may

-- which error an answer is
pub err_of : {A E : Type 0} {x y : E} → IsErrOf {T = A} (Err x) y → x ≡ y
err_of is = cc

-- an answer is not an error
pub not_err : {A E : Type 0} {x : A} {y : E} → IsErrOf (Ok x) y → ⊥
not_err is = absurd cc
