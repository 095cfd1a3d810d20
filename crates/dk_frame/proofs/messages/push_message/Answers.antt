use Rattle.std.proofs.Common.{rules, ◌≡◌, [], ◌∷◌, ◌++◌, map, ap, ◌∙◌, length, List, slice_set, ℕ}
use Rattle.std.proofs.Math.Seq.{set-append_seam}
use Rattle.std.proofs.lemmas.List.{map-append}
use Rattle.dk_model.specs.Frames.{Message}
use Rattle.dk_frame.specs.declared.frame.ClientFrame.{ClientFrame}
use Rattle.dk_frame.specs.declared.frame.ClientFrame.TheVariants as client
use Rattle.dk_frame.specs.Meanings.{frame_of}
use Rattle.dk_frame.proofs.messages.push_message.Goals as goal

-- the item that was put last is set to another message
set_last : (old : List ClientFrame) (blank body : List ℕ) (at : ℕ) → at ≡ length old → map frame_of (slice_set (old ++ client.Message blank ∷ []) at (client.Message body)) ≡ map frame_of old ++ Message body ∷ []
set_last old blank body at is =
    ap (λ (k : ℕ). map frame_of (slice_set (old ++ client.Message blank ∷ []) k (client.Message body))) is
    ∙ ap (map frame_of) (set-append_seam old (client.Message blank) [] (client.Message body)) ∙ map-append frame_of old (client.Message body ∷ [])

pub returns : goal.returns
returns c = search (rules, set_last)
