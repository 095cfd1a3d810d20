-- A piece of two parts, of which the second was read where it stands.
use Rattle.std.proofs.Common.{◌≡◌, ℕ, ◌+◌, ◌-◌, List, ◌++◌, length, drop, Option, option_map, refl, sym, ap, subst, ◌∙◌, append_assoc, length-append, arith}
use Rattle.std.proofs.lemmas.List.{drop_at}
use Rattle.dk_model.specs.Frames.{Stage, Fault}
use Rattle.dk_frame.specs.declared.frames.Frames.{Frames}
use Rattle.dk_frame.specs.Meanings.{fault_of, stage_of}
use Rattle.dk_frame.specs.Fronts.{IsRead}
use Rattle.dk_frame.specs.Decoding.{Decoding, kept}
use Rattle.dk_frame.specs.Behind.{behind, gone_on, IsReadBehind}
use Rattle.dk_frame.proofs.Turns.{drop_behind}

-- where the first part is held behind what was, and then what follows the frames, the decoder goes on as behind the whole piece
pub parted : (d : Decoding) (front later held new : List ℕ) (whole : ℕ) (read : Frames) → held ≡ d.held ++ front → whole ≡ length held → IsReadBehind d.stage held later new read
    → (gone_on (record { fed = d.fed + (length front + length later); at = d.at; stage = d.stage; held = new; fault = d.fault }) whole read ≡ behind d (front ++ later) read)
    × IsRead d.stage (d.held ++ (front ++ later)) read
parted d front later held new whole read is count read_behind = (
  ap (λ (n : ℕ). record { fed = n; at = d.at + read.taken; stage = stage; held = kept stage fault (drop whole new); fault = fault }) fed
      ∙ ap (λ (b : List ℕ). record { fed = d.fed + length (front ++ later); at = d.at + read.taken; stage = stage; held = kept stage fault b; fault = fault }) cut,
  subst (λ (b : List ℕ). IsRead d.stage b read) parts read_behind.is_read,
)
  where
    stage : Stage
    stage = stage_of read.stage

    fault : Option Fault
    fault = option_map fault_of read.fault

    parts : held ++ later ≡ d.held ++ (front ++ later)
    parts = ap (λ (b : List ℕ). b ++ later) is ∙ append_assoc d.held front later

    fed : d.fed + (length front + length later) ≡ d.fed + length (front ++ later)
    fed = omega (arith, length-append front later)

    place : length held + (read.taken - length held) ≡ read.taken
    place = omega (arith, read_behind.whole)

    cut : drop whole new ≡ drop read.taken (d.held ++ (front ++ later))
    cut =
        ap (drop whole) read_behind.now ∙ drop_at held (drop (read.taken - length held) later) whole (sym count)
        ∙ sym (drop_behind held later (length held) (read.taken - length held) refl) ∙ ap (λ (n : ℕ). drop n (held ++ later)) place
        ∙ ap (drop read.taken) parts
