-- A file that holds a world is not damaged.
use Rattle.std.proofs.Common.{◌≡◌, ◌≢◌, ⊎_elim, ℕ, ◌<◌, ◌^◌, List, [], ◌∷◌, ◌++◌, length, drop, refl, sym, ap, subst, ◌∙◌, arith, append_assoc, length-append, take-append-drop}
use Rattle.std.proofs.lemmas.List.{append_cancel_left}
use Rattle.dk_types.specs.Fields.{blob_spelling}
use Rattle.dk_model.specs.DurableWorlds.{DurableWorld}
use Rattle.dk_model.specs.Stores.{StoreHeader, header_spelling, records, AreSized}
use Rattle.dk_model.specs.Recovered.{HasWorld, HoldsWorld, IsDamaged}
use Rattle.dk_image.proofs.Worlds.{front_world, some_image}
use Rattle.dk_journal.proofs.Readings.{blobs_apart}
use Rattle.dk_recover.proofs.Damages.{gate_of}

-- records at the front of a file are the first of all its records
fronts : (good ps : List (List ℕ)) (g : ℕ) (x rest : List ℕ) → AreSized good → AreSized ps → g ≢ 1 → records good ++ rest ≡ records ps ++ g ∷ x → (more : List (List ℕ)) × (ps ≡ good ++ more) × (rest ≡ records more ++ g ∷ x)
fronts [] ps g x rest sg sp closed same = (ps, refl, same)
fronts (q ∷ qs) [] g x rest sg sp closed same = let e : g ≡ 1 = cc in absurd (closed e)
fronts (q ∷ qs) (p ∷ ps) g x rest sg sp closed same =
    let tails : (blob_spelling q ++ records qs) ++ rest ≡ (blob_spelling p ++ records ps) ++ g ∷ x = cc in
    let both = blobs_apart q p (records qs ++ rest) (records ps ++ g ∷ x) sg.0 sp.0 (sym (append_assoc (blob_spelling q) (records qs) rest) ∙ tails ∙ append_assoc (blob_spelling p) (records ps) (g ∷ x)) in
    let more = fronts qs ps g x rest sg.1 sp.1 closed both.1 in
    (more.0, cc (both.0, more.1), more.2)

pub next_sized : (good : List (List ℕ)) (p : List ℕ) (ps : List (List ℕ)) → AreSized (good ++ p ∷ ps) → length p < 2 ^ 32
next_sized [] p ps are = are.0
next_sized (q ∷ good) p ps are = next_sized good p ps are.1

pub not_damaged : (file : List ℕ) (header : StoreHeader) (d : DurableWorld) (at : ℕ) → HoldsWorld file header d → IsDamaged file header at → ⊥
not_damaged file header d at h bad =
    let hs = header_spelling header in
    let reads = h.reads in
    let same : hs ++ (records bad.good ++ drop at file) ≡ hs ++ (records h.payloads ++ reads.gate ∷ reads.behind) =
    sym (append_assoc hs (records bad.good) (drop at file)) ∙ ap (λ (l : List ℕ). l ++ drop at file) (sym bad.front) ∙ take-append-drop at file ∙ reads.bytes in
    let split = fronts bad.good h.payloads reads.gate reads.behind (drop at file) bad.sized reads.sized reads.closed (append_cancel_left hs _ _ same) in
    by_next split.0 split.1 split.2
  where
    by_next : (more : List (List ℕ)) → h.payloads ≡ bad.good ++ more → drop at file ≡ records more ++ h.reads.gate ∷ h.reads.behind → ⊥
    by_next [] parts from = ⊎_elim
        (λ open_gate. h.reads.closed (sym (gate_of file h.reads.behind at h.reads.gate from) ∙ open_gate.0))
        (λ none. some_image header d none.1 (subst (λ (ps : List (List ℕ)). HasWorld header ps d) (parts ∙ ap (λ (g : List (List ℕ)). g ++ []) none.2) h.world))
        bad.broken
    by_next (p ∷ ps) parts from = ⊎_elim
        (λ open_gate.
        let front = front_world header bad.good p ps d (subst (λ (l : List (List ℕ)). HasWorld header l d) parts h.world) in
        let rest = records ps ++ h.reads.gate ∷ h.reads.behind in
        open_gate.1 p rest front.0 (next_sized bad.good p ps (subst AreSized parts h.reads.sized)) (from ∙ ap (λ (l : List ℕ). 1 ∷ l) (append_assoc (blob_spelling p) (records ps) (h.reads.gate ∷ h.reads.behind)))
        (omega (arith, length-append (records ps) (h.reads.gate ∷ h.reads.behind))) front.1)
        (λ none. none.0 (gate_of file ((blob_spelling p ++ records ps) ++ h.reads.gate ∷ h.reads.behind) at 1 from))
        bad.broken
