-- The new file has the image as its one record, and the image's world.
use Rattle.std.proofs.Common.{◌≡◌, inr, ℕ, ◌+◌, ◌<◌, ◌^◌, List, [], ◌∷◌, ◌++◌, length, refl, sym, ap, ◌∙◌, arith, append_assoc, length-append}
use Rattle.std.proofs.lemmas.List.{append-nil}
use Rattle.dk_types.specs.Fields.{blob_spelling}
use Rattle.dk_wire.proofs.LengthLaws.{length-blob}
use Rattle.dk_model.specs.DurableWorlds.{DurableWorld}
use Rattle.dk_model.specs.Validity.{IsValid}
use Rattle.dk_model.specs.Images.{SpellsImage}
use Rattle.dk_model.specs.Stores.{StoreHeader, IsHeader, header_fields, header_spelling, Reads, end_of}
use Rattle.dk_model.specs.Recovered.{HasWorld}
use Rattle.dk_journal.proofs.HeaderBytes.{header_length}
use Rattle.dk_checkpoint.specs.Given.{behind_gate}

module _ (header : StoreHeader) (is : IsHeader header) (image : List ℕ) (short : length image < 2 ^ 32) where
  pub fresh_reads : Reads (1 ∷ behind_gate header image) (header_spelling header) (image ∷ [])
  fresh_reads = record {
    gate = 0;
    behind = [];
    closed = omega arith;
    bytes = ap (λ (l : List ℕ). 1 ∷ (header_fields header ++ 1 ∷ (l ++ 0 ∷ []))) (sym (append-nil (blob_spelling image)));
    header_length = header_length header is.game.most;
    sized = (short, tt);
  }

  pub fresh_end : 70 + length image ≡ end_of (header_spelling header) (image ∷ []) + 1
  fresh_end = omega (arith, header_length header is.game.most, length-append (blob_spelling image) [], length-blob image)

pub fresh_world : (header : StoreHeader) (image : List ℕ) (given : DurableWorld) → 0 < header.epoch → SpellsImage header.format given image → IsValid given → HasWorld header (image ∷ []) given
fresh_world header image given epoch spelled valid =
    inr (epoch, record { image = image; others = []; parts = refl; first = given; spelled = spelled; valid = valid; rest = refl })

-- the parts of the new file, put one behind another
pub joined : (header field image : List ℕ) → (((header ++ 1 ∷ []) ++ field) ++ image) ++ 0 ∷ [] ≡ header ++ 1 ∷ ((field ++ image) ++ 0 ∷ [])
joined header field image =
    ap (λ (l : List ℕ). l ++ 0 ∷ []) (ap (λ (l : List ℕ). l ++ image) (append_assoc header (1 ∷ []) field) ∙ append_assoc header (1 ∷ field) image) ∙ append_assoc header (1 ∷ (field ++ image)) (0 ∷ [])
