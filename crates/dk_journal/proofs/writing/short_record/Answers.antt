use Rattle.std.proofs.Common.{ℕ, List, [], ◌∷◌, ◌++◌, ◌∙◌, ap}
use Rattle.dk_types.specs.Fields.{blob_spelling, u32_spelling}
use Rattle.dk_journal.proofs.writing.short_record.Goals as goal

pub returns-clause-bytes : goal.returns-clause-bytes
unfolding blob_spelling u32_spelling
returns-clause-bytes c =
    c.in_ok-try_extend_from_slice-3.ensures.ok
    ∙ ap (λ (bytes : List ℕ). bytes ++ 0 ∷ []) c.in_ok-try_extend_from_slice-2.ensures.ok
    ∙ ap (λ (bytes : List ℕ). (bytes ++ c.args.payload.now) ++ 0 ∷ []) c.in_ok-try_extend_from_slice.ensures.ok
    ∙ ap (λ (bytes : List ℕ). ((bytes ++ c.length_field.result) ++ c.args.payload.now) ++ 0 ∷ []) c.new-record.ensures
    ∙ ap (λ (field : List ℕ). (field ++ c.args.payload.now) ++ 0 ∷ []) c.length_field.ensures
