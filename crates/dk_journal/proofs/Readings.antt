-- A file has one reading, and what is behind its closed gate does not count.
use Rattle.std.proofs.Common.{◌≡◌, ◌≢◌, ◌⊎◌, inl, inr, ℕ, ◌+◌, ◌<◌, ◌^◌, List, [], ◌∷◌, ◌++◌, length, take, drop, refl, sym, ◌∙◌, ap, arith, append_assoc, length-append, take-append-drop, lit<}
use Rattle.std.proofs.lemmas.List.{append_cancel_left, append-nil, take_at}
use Rattle.std.proofs.lemmas.Bool.{cases_eq}
use Rattle.dk_types.specs.Fields.{IsBlob, blob_spelling}
use Rattle.dk_types.specs.Reading.{blob_at}
use Rattle.dk_types.proofs.FieldLaws.{blob_exact}
use Rattle.dk_types.proofs.ExactLaws.{prefix_free}
use Rattle.dk_model.specs.Stores.{records, AreSized, Reads, end_of}

-- payloads with their lengths are told apart, whatever follows them
pub blobs_apart : (p q rest_p rest_q : List ℕ) → length p < 2 ^ 32 → length q < 2 ^ 32 → blob_spelling p ++ rest_p ≡ blob_spelling q ++ rest_q → (p ≡ q) × (rest_p ≡ rest_q)
blobs_apart p q rest_p rest_q fits_p fits_q same =
    prefix_free (IsBlob 4294967295) blob_spelling (blob_at 4294967295) (blob_exact 4294967295 (lit< tt)) p q rest_p rest_q (omega (arith, fits_p)) (omega (arith, fits_q)) same

records_apart : (ps qs : List (List ℕ)) (g h : ℕ) (x y : List ℕ) → AreSized ps → AreSized qs → g ≢ 1 → h ≢ 1 → records ps ++ g ∷ x ≡ records qs ++ h ∷ y → ps ≡ qs
records_apart [] [] g h x y sp sq cg ch same = refl
records_apart [] (q ∷ qs) g h x y sp sq cg ch same = let e : g ≡ 1 = cc in absurd (cg e)
records_apart (p ∷ ps) [] g h x y sp sq cg ch same = let e : h ≡ 1 = cc in absurd (ch e)
records_apart (p ∷ ps) (q ∷ qs) g h x y sp sq cg ch same =
    let tails : (blob_spelling p ++ records ps) ++ g ∷ x ≡ (blob_spelling q ++ records qs) ++ h ∷ y = cc in
    let both = blobs_apart p q (records ps ++ g ∷ x) (records qs ++ h ∷ y) sp.0 sq.0 (sym (append_assoc (blob_spelling p) (records ps) (g ∷ x)) ∙ tails ∙ append_assoc (blob_spelling q) (records qs) (h ∷ y)) in
    let more = records_apart ps qs g h x y sp.1 sq.1 cg ch both.1 in
    cc (both.0, more)

-- under one header
pub one_reading : (file header : List ℕ) (ps qs : List (List ℕ)) → Reads file header ps → Reads file header qs → ps ≡ qs
one_reading file header ps qs a b =
    records_apart ps qs a.gate b.gate a.behind b.behind a.sized b.sized a.closed b.closed (append_cancel_left header _ _ (sym a.bytes ∙ b.bytes))

-- the header too
pub one_header : (file header other : List ℕ) (ps qs : List (List ℕ)) → Reads file header ps → Reads file other qs → header ≡ other
one_header file header other ps qs a b =
    sym (take_at header (records ps ++ a.gate ∷ a.behind) 64 a.header_length) ∙ ap (take 64) (sym a.bytes ∙ b.bytes) ∙ take_at other (records qs ++ b.gate ∷ b.behind) 64 b.header_length

-- the bytes up to the closed gate, with it
abbrev pub front_of : List ℕ → List (List ℕ) → ℕ → List ℕ
front_of header payloads gate = header ++ (records payloads ++ gate ∷ [])

pub front_length : (header : List ℕ) (payloads : List (List ℕ)) (gate : ℕ) → length (front_of header payloads gate) ≡ end_of header payloads + 1
front_length header payloads gate = omega (arith, length-append header (records payloads ++ gate ∷ []), length-append (records payloads) (gate ∷ []))

pub front_then : (header : List ℕ) (payloads : List (List ℕ)) (gate : ℕ) (behind : List ℕ) → front_of header payloads gate ++ behind ≡ header ++ (records payloads ++ gate ∷ behind)
front_then header payloads gate behind =
    append_assoc header (records payloads ++ gate ∷ []) behind ∙ ap (λ (l : List ℕ). header ++ l) (append_assoc (records payloads) (gate ∷ []) behind)

pub front_is : (file header : List ℕ) (payloads : List (List ℕ)) (is : Reads file header payloads) → take (end_of header payloads + 1) file ≡ front_of header payloads is.gate
front_is file header payloads is =
    ap (take (end_of header payloads + 1)) (is.bytes ∙ sym (front_then header payloads is.gate is.behind)) ∙ take_at (front_of header payloads is.gate) is.behind (end_of header payloads + 1) (front_length header payloads is.gate)

pub reads_within : (file header : List ℕ) (payloads : List (List ℕ)) → Reads file header payloads → end_of header payloads < length file
reads_within file header payloads is =
    omega (arith, ap length (is.bytes ∙ sym (front_then header payloads is.gate is.behind)), length-append (front_of header payloads is.gate) is.behind, front_length header payloads is.gate)

-- what is behind the closed gate does not count
pub front_reads : (file other header : List ℕ) (payloads : List (List ℕ)) → Reads file header payloads → take (end_of header payloads + 1) other ≡ take (end_of header payloads + 1) file → Reads other header payloads
front_reads file other header payloads is same = record {
  gate = is.gate;
  behind = drop (end_of header payloads + 1) other;
  closed = is.closed;
  bytes = sym (take-append-drop (end_of header payloads + 1) other) ∙ ap (λ (l : List ℕ). l ++ drop (end_of header payloads + 1) other) (same ∙ front_is file header payloads is) ∙ front_then header payloads is.gate (drop (end_of header payloads + 1) other);
  header_length = is.header_length;
  sized = is.sized;
}

pub records_push : (ps : List (List ℕ)) (p rest : List ℕ) → records (ps ++ p ∷ []) ++ rest ≡ records ps ++ 1 ∷ (blob_spelling p ++ rest)
records_push [] p rest = ap (λ (l : List ℕ). 1 ∷ (l ++ rest)) (append-nil (blob_spelling p))
records_push (q ∷ ps) p rest =
    ap (λ (l : List ℕ). 1 ∷ l) (append_assoc (blob_spelling q) (records (ps ++ p ∷ [])) rest ∙ ap (λ (l : List ℕ). blob_spelling q ++ l) (records_push ps p rest) ∙ sym (append_assoc (blob_spelling q) (records ps) (1 ∷ (blob_spelling p ++ rest))))

pub sized_push : (ps : List (List ℕ)) (p : List ℕ) → AreSized ps → length p < 2 ^ 32 → AreSized (ps ++ p ∷ [])
sized_push [] p are fits = (fits, tt)
sized_push (q ∷ ps) p are fits = (are.0, sized_push ps p are.1 fits)

module _ (header : List ℕ) (payloads : List (List ℕ)) (payload : List ℕ) (header_length : length header ≡ 64) (sized : AreSized payloads) (fits : length payload < 2 ^ 32) where
  -- a whole record behind an open gate, and a closed gate behind it
  pub reads_opened : (behind : List ℕ) → Reads (header ++ (records payloads ++ 1 ∷ (blob_spelling payload ++ 0 ∷ behind))) header (payloads ++ payload ∷ [])
  reads_opened behind = record {
    gate = 0;
    behind = behind;
    closed = omega arith;
    bytes = ap (λ (l : List ℕ). header ++ l) (sym (records_push payloads payload (0 ∷ behind)));
    header_length = header_length;
    sized = sized_push payloads payload sized fits;
  }

  -- behind any gate it counts or it does not
  pub reads_any : (gate : ℕ) (behind : List ℕ) → Reads (header ++ (records payloads ++ gate ∷ (blob_spelling payload ++ 0 ∷ behind))) header payloads ⊎ Reads (header ++ (records payloads ++ gate ∷ (blob_spelling payload ++ 0 ∷ behind))) header (payloads ++ payload ∷ [])
  reads_any gate behind = elim (cases_eq gate 1) [
    | inl open_gate ↦ inr (rw open_gate (reads_opened behind))
    | inr shut ↦ inl (record { gate = gate; behind = blob_spelling payload ++ 0 ∷ behind; closed = shut; bytes = refl; header_length = header_length; sized = sized })
  ]
