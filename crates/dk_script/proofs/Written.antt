-- Texts that are written piece by piece.
use Rattle.std.proofs.Common.{◌≡◌, ℕ, ◌+◌, ◌<◌, ◌≤◌, List, [], ◌∷◌, ◌++◌, length, get_or, drop, ap, ◌∙◌, inl, inr, arith}
use Rattle.std.proofs.lemmas.List.{append-nil, at_drop_more, at_drop_all}
use Rattle.std.proofs.lemmas.Bool.{cases_lt}
use Rattle.std.proofs.lemmas.List.Concat.{flat_map-append}
use Rattle.std.specs.List.{All}
use Rattle.std.specs.List.Sorted.{IsNonDecreasing}
use Rattle.dk_types.specs.declared.event.Event.{Event}
use Rattle.dk_model.specs.Lines.{text_of}
use Rattle.dk_model.specs.Phases.{phase_end}

-- a phase begins before the next, and ends within the events
pub phase_end-bounds : (events : List Event) (marks : List ℕ) (i : ℕ) → IsNonDecreasing marks → All (λ mark. mark ≤ length events) marks → i < length marks → (get_or marks i 0 ≤ phase_end events (drop (i + 1) marks)) × (phase_end events (drop (i + 1) marks) ≤ length events)
phase_end-bounds events marks i ordered within here = elim (cases_lt (i + 1) (length marks)) [
  | inl next ↦
      let e = at_drop_more (phase_end events) marks (i + 1) 0 next in
      rw e (ordered i (i + 1) 0 (omega arith) next, within (i + 1) 0 next)
  | inr last ↦
      let e = at_drop_all (phase_end events) marks (i + 1) last in
      rw e (within i 0 here, omega arith)
]

-- one line is written last
pub text_of-push : (lines : List (List ℕ)) (line : List ℕ) → text_of (lines ++ line ∷ []) ≡ text_of lines ++ (line ++ 10 ∷ [])
text_of-push lines line =
    flat_map-append (λ l. l ++ 10 ∷ []) lines (line ∷ []) ∙ ap (λ (t : List ℕ). text_of lines ++ t) (append-nil (line ++ 10 ∷ []))
