-- How a file is read from the front.
use Rattle.std.proofs.Common.{◌≡◌, ◌≢◌, ℕ, ◌+◌, ◌-◌, ◌<◌, ◌≤◌, ◌^◌, List, [], ◌∷◌, ◌++◌, length, take, drop, sym, ◌∙◌, ap, arith, append_assoc, length-append, length-drop, take-append-drop}
use Rattle.std.proofs.lemmas.List.{take_at, drop-drop, length-take}
use Rattle.std.specs.Int.{w32, to_be_bytes, from_be_bytes}
use Rattle.std.proofs.lemmas.Nat.{from_be_bytes-to_be_bytes_4}
use Rattle.dk_types.specs.Fields.{blob_spelling, u32_spelling}
use Rattle.dk_wire.proofs.LengthLaws.{length-blob}
use Rattle.dk_model.specs.Stores.{records, Reads, end_of}
use Rattle.dk_journal.specs.Scanning.{IsScanned, IsCutOff}
use Rattle.dk_journal.proofs.Readings.{records_push, sized_push}

module _ (file header : List ℕ) (done : List (List ℕ)) (at end : ℕ) (is : IsScanned file header done at end) where
  whole : file ≡ header ++ (records done ++ drop at file)
  whole = sym (take-append-drop at file) ∙ ap (λ (l : List ℕ). l ++ drop at file) is.front ∙ append_assoc header (records done) (drop at file)

  -- a gate that is not open ends them
  pub ended : (gate : ℕ) → gate ∷ [] ≡ take 1 (drop at file) → gate ≢ 1 → Reads file header done
  ended gate read shut = record {
    gate = gate;
    behind = drop 1 (drop at file);
    closed = shut;
    bytes = whole ∙ ap (λ (l : List ℕ). header ++ (records done ++ l)) (sym (take-append-drop 1 (drop at file)) ∙ ap (λ (l : List ℕ). l ++ drop 1 (drop at file)) (sym read));
    header_length = is.header_length;
    sized = is.sized;
  }

  behind_gate_at : 1 ∷ [] ≡ take 1 (drop at file) → drop at file ≡ 1 ∷ drop (at + 1) file
  behind_gate_at open_gate = sym (take-append-drop 1 (drop at file)) ∙ ap (λ (l : List ℕ). l ++ drop 1 (drop at file)) (sym open_gate) ∙ ap (λ (l : List ℕ). 1 ∷ l) (drop-drop 1 at file)

  pub next_one : (size : ℕ) (payload : List ℕ) → size < 2 ^ 32 → 1 ∷ [] ≡ take 1 (drop at file) → u32_spelling size ≡ take 4 (drop (at + 1) file) → payload ≡ take size (drop (at + 5) file) → at + 6 + size ≤ end → IsScanned file header (done ++ payload ∷ []) (at + (5 + size)) end
  unfolding blob_spelling
  next_one size payload small open_gate field bytes within =
      let long : length payload ≡ size = omega (arith, ap length bytes, length-take size (drop (at + 5) file), length-drop (at + 5) file, is.ends, within) in
      let rest = drop size (drop (at + 5) file) in
      let body : drop (at + 5) file ≡ payload ++ rest = sym (take-append-drop size (drop (at + 5) file)) ∙ ap (λ (l : List ℕ). l ++ rest) (sym bytes) in
      let after : drop (at + 1) file ≡ u32_spelling (length payload) ++ (payload ++ rest) =
      sym (take-append-drop 4 (drop (at + 1) file)) ∙ ap (λ (l : List ℕ). l ++ drop 4 (drop (at + 1) file)) (sym field ∙ ap u32_spelling (sym long)) ∙ ap (λ (l : List ℕ). u32_spelling (length payload) ++ l) (drop-drop 4 (at + 1) file ∙ ap (λ n. drop n file) (omega arith) ∙ body) in
      let all : file ≡ (header ++ records (done ++ payload ∷ [])) ++ rest =
      whole
      ∙ ap (λ (l : List ℕ). header ++ (records done ++ l)) (behind_gate_at open_gate ∙ ap (λ (l : List ℕ). 1 ∷ l) (after ∙ sym (append_assoc (u32_spelling (length payload)) payload rest)))
      ∙ ap (λ (l : List ℕ). header ++ l) (sym (records_push done payload rest))
      ∙ sym (append_assoc header (records (done ++ payload ∷ [])) rest) in
      let place : at + (5 + size) ≡ end_of header (done ++ payload ∷ []) =
      omega (arith, is.place, long, ap length (records_push done payload []), length-append (records (done ++ payload ∷ [])) [], length-append (records done) (1 ∷ (blob_spelling payload ++ [])), length-append (blob_spelling payload) [], length-blob payload) in
      record {
        front = ap (take (at + (5 + size))) all ∙ take_at (header ++ records (done ++ payload ∷ [])) rest (at + (5 + size)) (omega (arith, place, length-append header (records (done ++ payload ∷ []))));
        place = place;
        header_length = is.header_length;
        sized = sized_push done payload is.sized (omega (arith, long, small));
        within = omega (arith, within);
        ends = is.ends;
      }

module _ (file : List ℕ) (at end : ℕ) (ends : end ≡ length file) where
  -- no record has room for its gate, its length and the next gate
  pub too_short : 1 ∷ [] ≡ take 1 (drop at file) → end - at < 6 → IsCutOff file at
  too_short open_gate short = record {
    opened = open_gate;
    none = λ payload rest fits bytes. omega (arith, ap length bytes, length-drop at file, length-append (blob_spelling payload) rest, length-blob payload, ends, short);
  }

  -- nor for so long a payload
  pub too_long : (size : ℕ) → size < 2 ^ 32 → 1 ∷ [] ≡ take 1 (drop at file) → u32_spelling size ≡ take 4 (drop (at + 1) file) → end - at - 6 < size → 6 ≤ end - at → IsCutOff file at
  unfolding blob_spelling u32_spelling
  too_long size small open_gate field long enough = record {
    opened = open_gate;
    none = λ payload rest fits bytes.
        let behind : drop (at + 1) file ≡ blob_spelling payload ++ rest = sym (drop-drop 1 at file) ∙ ap (drop 1) bytes in
        let spelled : to_be_bytes w32 size ≡ to_be_bytes w32 (length payload) = field ∙ ap (take 4) behind in
        let same : size ≡ length payload = sym (from_be_bytes-to_be_bytes_4 size small) ∙ ap (from_be_bytes w32) spelled ∙ from_be_bytes-to_be_bytes_4 (length payload) fits in
        omega (arith, ap length bytes, length-drop at file, length-append (blob_spelling payload) rest, length-blob payload, ends, long, same, enough);
  }
