use Rattle.std.proofs.Common.{◌≡◌, ℕ, List, [], ◌∷◌, ◌++◌, length, ◌∙◌, ap, arith, length-append}
use Rattle.std.proofs.lemmas.List.{append-nil}
use Rattle.std.specs.Int.{w32}
use Rattle.dk_types.specs.Fields.{blob_spelling, u32_spelling}
use Rattle.dk_wire.proofs.LengthLaws.{length-blob}
use Rattle.dk_model.specs.Stores.{header_fields}
use Rattle.dk_journal.proofs.Endian.{big_bytes-is}
use Rattle.dk_journal.specs.Headers.{store_header}
use Rattle.dk_checkpoint.specs.Given.{behind_gate}
use Rattle.dk_checkpoint.proofs.Fresh.{joined}
use Rattle.dk_checkpoint.proofs.writing.file_of.Goals as goal

pub returns : goal.returns
unfolding blob_spelling u32_spelling
returns c =
    let image = c.as_slice-image.ensures in
    let header = c.in_ok-header_fields_of.ensures in
    let field : c.write_u32.new.buf ≡ u32_spelling (length c.as_slice-image.result.now) = c.write_u32.ensures ∙ append-nil _ ∙ big_bytes-is w32 (length c.as_slice-image.result.now) in
    let all : c.from_vec.result ≡ behind_gate (store_header c.args.header.now) c.args.image.now =
    c.from_vec.ensures
    ∙ c.in_ok-push-2.ensures.items
    ∙ ap (λ (l : List ℕ). l ++ 0 ∷ []) (c.in_ok-extend_from_slice-2.ensures.items ∙ ap (λ (l : List ℕ). l ++ c.as_slice-image.result.now) (c.in_ok-extend_from_slice.ensures.items ∙ ap (λ (l : List ℕ). l ++ c.write_u32.new.buf) (c.in_ok-push.ensures.items ∙ ap (λ (l : List ℕ). l ++ 1 ∷ []) (c.in_ok-bytes.ensures ∙ header.0))))
    ∙ joined (header_fields (store_header c.args.header.now)) c.write_u32.new.buf c.as_slice-image.result.now
    ∙ ap (λ (l : List ℕ). header_fields (store_header c.args.header.now) ++ 1 ∷ ((l ++ c.as_slice-image.result.now) ++ 0 ∷ [])) field
    ∙ ap (λ (l : List ℕ). header_fields (store_header c.args.header.now) ++ 1 ∷ (blob_spelling l ++ 0 ∷ [])) image in
    (all, omega (arith, ap length all, length-append (header_fields (store_header c.args.header.now)) (1 ∷ (blob_spelling c.args.image.now ++ 0 ∷ [])), length-append (blob_spelling c.args.image.now) (0 ∷ []), length-blob c.args.image.now, ap length header.0, header.1), header.2)
