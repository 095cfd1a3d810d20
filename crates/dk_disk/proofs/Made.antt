-- A home in memory stays consistent over a call that was recorded.
use Rattle.std.proofs.Common.{◌≡◌, ℕ, Bool, true, false, not, if◌then◌else◌, List, length, refl, sym, ◌∙◌, ap, arith, nat_le}
use Rattle.std.proofs.lemmas.Bool.Decides.{nat_tests}
use Rattle.dk_types.specs.declared.side.Side.{Side}
use Rattle.dk_disk.specs.Disk.{Disk, after_write}
use Rattle.dk_disk.specs.DiskHistories.{now, other_side}
use Rattle.dk_disk.specs.MemoryFiles.{File, Files, file_of, AreReserved}
use Rattle.dk_disk.specs.UndoRecord.{Undos}
use Rattle.dk_disk.specs.Opening.{HomeOpening}
use Rattle.dk_types.specs.FaultPlan.{Plan, after_call, fails_next}
use Rattle.dk_disk.specs.Record.{changed}
use Rattle.dk_disk.specs.Step.{change_of, reads_after, IsWithin}
use Rattle.dk_disk.specs.declared.step.Step.{Step}
use Rattle.dk_disk.specs.declared.step.Step.TheVariants as step
use Rattle.dk_disk.specs.Memory.{memory_of, past_of, IsRecorded, IsConsistent}
use Rattle.dk_disk.proofs.Memories.{recorded_becomes, recorded_up_to}
use Rattle.dk_disk.proofs.Replays.{Fits}
use Rattle.dk_disk.proofs.Sides.{by_side}

pub fits : (s : Step) (disk : Disk) → IsWithin s disk.reads → Fits (change_of s) disk
fits (step.Write at bytes) disk within = within
fits (step.Cut to) disk within = tt
fits step.Sync disk within = tt

written : (b : Bool) (x y : Disk) → b ≡ true → (if b then x else y).reads ≡ x.reads
written true x y is = refl
written false x y is = cc

reads_changed : (s : Step) (fails : Bool) (disk : Disk) → IsWithin s disk.reads → (if fails then disk.reads else reads_after s disk.reads) ≡ (changed (change_of s) (not fails) disk).reads
reads_changed (step.Write at bytes) true disk within = refl
reads_changed (step.Write at bytes) false disk within = sym (written (nat_le at (length disk.reads)) (after_write at bytes.now disk) disk (grind (arith, nat_tests)))
reads_changed (step.Cut to) true disk within = refl
reads_changed (step.Cut to) false disk within = refl
reads_changed step.Sync true disk within = refl
reads_changed step.Sync false disk within = refl

pub consistent : (files files1 files2 : Files) (calls calls2 : Undos) (plan : Plan) (entrance : HomeOpening) (side : Side) (s : Step) (n : ℕ)
    → IsRecorded (memory_of files calls plan entrance) (memory_of files2 calls2 (after_call plan) entrance) side (change_of s) n
    → IsConsistent (memory_of files calls plan entrance) files → AreReserved files files1
    → IsWithin s (now (past_of (memory_of files calls plan entrance)) side).reads
    → (file_of files2 side).reads ≡ (if fails_next plan then (file_of files1 side).reads else reads_after s (file_of files1 side).reads)
    → file_of files2 (other_side side) ≡ file_of files1 (other_side side)
    → IsConsistent (memory_of files2 calls2 (after_call plan) entrance) files2
consistent files files1 files2 calls calls2 plan entrance side s n rec inv reserved within this other =
    let old = memory_of files calls plan entrance in
    let new = memory_of files2 calls2 (after_call plan) entrance in
    let becomes = recorded_becomes old new side (change_of s) n rec inv.numbered in
    let was : (t : Side) → (file_of files1 t).reads ≡ (now (past_of old) t).reads = λ t. (reserved t).reads ∙ inv.reads t in
    record {
      numbered = recorded_up_to old new side (change_of s) n rec inv.numbered;
      reads = by_side (λ t. (file_of files2 t).reads ≡ (now (past_of new) t).reads) side
          (this ∙ ap (λ (bytes : List ℕ). if fails_next plan then bytes else reads_after s bytes) (was side) ∙ reads_changed s (fails_next plan) (now (past_of old) side) within ∙ ap (λ (d : Disk). d.reads) (sym becomes.this))
          (ap (λ (f : File). f.reads) other ∙ was (other_side side) ∙ ap (λ (d : Disk). d.reads) (sym becomes.other));
    }
