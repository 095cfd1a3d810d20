-- The calls of an append, one after another.
use Rattle.std.proofs.Common.{◌≡◌, ⊎_elim, ℕ, ◌+◌, ◌-◌, ◌<◌, ◌≤◌, ◌^◌, List, [], ◌∷◌, ◌++◌, length, take, sym, ◌∙◌, ap, subst, arith, length-append, Result, Ok, Err, OnOk, OnErr}
use Rattle.std.proofs.lemmas.List.{length-take}
use Rattle.dk_types.specs.declared.side.Side.{Side}
use Rattle.dk_types.specs.declared.fault.Failed.{Failed}
use Rattle.dk_disk.specs.Disk.{Disk, settled, overwritten, after_write, after_failed_write, after_sync}
use Rattle.dk_disk.specs.DiskHistories.{DiskHistory, now, other_side, Elapses, Stays, Becomes, MayBecome}
use Rattle.dk_disk.proofs.Images.{overwritten_length}
use Rattle.dk_journal.specs.Moments.{Runs, IsFrontSafe, HasOrNot, NeverFalls, IsBetween}
use Rattle.dk_types.specs.Fields.{blob_spelling}
use Rattle.dk_wire.proofs.LengthLaws.{length-blob}
use Rattle.dk_journal.specs.Standing.{Stands, IsAtRest, behind_gate}
use Rattle.dk_journal.proofs.Going.{begun, goes_on, weakened}
use Rattle.dk_journal.proofs.Fronts.{safe_settled, safe_write, safe_failed_write, safe_sync, overwritten_twice}
use Rattle.dk_journal.proofs.Gates.{within, between_front, between_failed, between_made, has_next, stands_next}
use Rattle.dk_journal.proofs.Falling.{falls_between, falls_on}

-- what has P stays so, and the other file is what it was
abbrev Leaves : Side → (Disk → Type 0) → DiskHistory → DiskHistory → Type 0
Leaves side P old new = P (now new side) × (now new (other_side side) ≡ now old (other_side side))

stays : (side : Side) (P : Disk → Type 0) (old new : DiskHistory) → P (now old side) → Stays old new → Leaves side P old new
stays side P old new here same = (subst P (sym (same side)) here, same (other_side side))

becomes : (side : Side) (P : Disk → Type 0) (disk : Disk) (old new : DiskHistory) → P disk → Becomes side disk old new → Leaves side P old new
becomes side P disk old new here is = (subst P (sym is.this) here, is.other)

may_become : (side : Side) (P : Disk → Type 0) (failed made : Disk) (old new : DiskHistory) → P (now old side) → P failed → P made → MayBecome side failed made old new → Leaves side P old new
may_become side P failed made old new here if_failed if_made may =
    ⊎_elim (stays side P old new here) (λ other. ⊎_elim (becomes side P failed old new if_failed) (becomes side P made old new if_made) other) may

-- one call more, by what it leaves
pub called : (side : Side) (P : Disk → Type 0) (old mid new : DiskHistory) → Runs side P old mid → Elapses mid new → Leaves side P mid new → Runs side P old new
called side P old mid new run time leaves = goes_on side P old mid new run time leaves.0 leaves.1

-- what has P at the end of a run
pub at_end : (side : Side) (P : Disk → Type 0) (old new : DiskHistory) → Runs side P old new → P (now new side)
at_end side P old new run = run.each new.clock run.later (omega arith)

write_leaves : (side : Side) (at : ℕ) (bytes front : List ℕ) (old new : DiskHistory) (r : Result (Unit {0}) Failed) → OnOk r (Becomes side (after_write at bytes (now old side)) old new) → OnErr r (MayBecome side (after_failed_write at (length bytes) (now old side)) (after_write at bytes (now old side)) old new)
    → length front ≤ at → at ≤ length (now old side).reads → IsFrontSafe front (now old side) → Leaves side (IsFrontSafe front) old new
write_leaves side at bytes front old new (Ok x) done failed le within safe = becomes side (IsFrontSafe front) _ old new (safe_write front at bytes (now old side) le within safe) done
write_leaves side at bytes front old new (Err e) done failed le within safe =
    may_become side (IsFrontSafe front) _ _ old new safe (safe_failed_write front at (length bytes) (now old side) le safe) (safe_write front at bytes (now old side) le within safe) failed

pub write_runs : (side : Side) (at : ℕ) (bytes front : List ℕ) (old new : DiskHistory) (r : Result (Unit {0}) Failed) → OnOk r (Becomes side (after_write at bytes (now old side)) old new) → OnErr r (MayBecome side (after_failed_write at (length bytes) (now old side)) (after_write at bytes (now old side)) old new)
    → Elapses old new → length front ≤ at → at ≤ length (now old side).reads → IsFrontSafe front (now old side) → Runs side (IsFrontSafe front) old new
write_runs side at bytes front old new r done failed time le within safe =
    called side (IsFrontSafe front) old old new (begun side (IsFrontSafe front) old safe) time (write_leaves side at bytes front old new r done failed le within safe)

-- nothing is pending: the bytes before this place are safe
pub safe_at : (side : Side) (at : ℕ) (old : DiskHistory) → at ≤ length (now old side).reads → now old side ≡ settled (now old side).reads → IsFrontSafe (take at (now old side).reads) (now old side) × (length (take at (now old side).reads) ≡ at)
safe_at side at old within is =
    let long : length (take at (now old side).reads) ≡ at = omega (arith, length-take at (now old side).reads, within) in
    (subst (IsFrontSafe (take at (now old side).reads)) (sym is) (safe_settled (take at (now old side).reads) (now old side).reads (ap (λ n. take n (now old side).reads) long)), long)

pub sync_runs : (side : Side) (front : List ℕ) (old mid new : DiskHistory) → Runs side (IsFrontSafe front) old mid → Elapses mid new → Becomes side (after_sync (now mid side)) mid new → Runs side (IsFrontSafe front) old new
sync_runs side front old mid new run time is =
    called side (IsFrontSafe front) old mid new run time (becomes side (IsFrontSafe front) _ mid new (safe_sync front (now mid side) (at_end side (IsFrontSafe front) old mid run)) is)

pub stay_runs : (side : Side) (P : Disk → Type 0) (old mid new : DiskHistory) → Runs side P old mid → Elapses mid new → Stays mid new → Runs side P old new
stay_runs side P old mid new run time same = called side P old mid new run time (stays side P mid new (at_end side P old mid run) same)

-- three writes, each right behind the one before it, are one
pub three_writes : (at : ℕ) (a b c file : List ℕ) (at_b at_c : ℕ) → at_b ≡ at + length a → at_c ≡ at_b + length b → at ≤ length file → overwritten at_c c (overwritten at_b b (overwritten at a file)) ≡ overwritten at (a ++ b ++ c) file
three_writes at a b c file at_b at_c is_b is_c le =
    ap (λ n. overwritten at_c c (overwritten n b (overwritten at a file))) is_b
    ∙ ap (λ (f : List ℕ). overwritten at_c c f) (overwritten_twice at a b file le)
    ∙ ap (λ n. overwritten n c (overwritten at (a ++ b) file)) (omega (arith, is_b, is_c, length-append a b))
    ∙ overwritten_twice at (a ++ b) c file le

module _ (side : Side) (at : ℕ) (header : List ℕ) (payloads : List (List ℕ)) (payload : List ℕ) (old : DiskHistory) (stands : Stands side at old header payloads) (fits : length payload < 2 ^ 32) where
  Between : Disk → Type 0
  Between = IsBetween header payloads payload

  -- while the record is put behind the gate
  pub behind_runs : (new : DiskHistory) → Runs side (IsFrontSafe (take at (now old side).reads)) old new → Runs side (IsBetween header payloads payload) old new
  behind_runs new run = weakened side _ (IsBetween header payloads payload) old new (between_front side at header payloads payload old stands fits) run

  -- and while the gate is being opened
  pub gate_may : (mid new : DiskHistory) → Runs side (IsBetween header payloads payload) old mid → now mid side ≡ settled (overwritten at (behind_gate payload) (now old side).reads) → Elapses mid new
      → MayBecome side (after_failed_write (at - 1) 1 (now mid side)) (after_write (at - 1) (1 ∷ []) (now mid side)) mid new → Runs side (IsBetween header payloads payload) old new
  gate_may mid new run is time may =
      called side (IsBetween header payloads payload) old mid new run time (may_become side (IsBetween header payloads payload) _ _ mid new (at_end side (IsBetween header payloads payload) old mid run)
      (subst (λ (d : Disk). IsBetween header payloads payload (after_failed_write (at - 1) 1 d)) (sym is) (between_failed side at header payloads payload old stands fits))
      (subst (λ (d : Disk). IsBetween header payloads payload (after_write (at - 1) (1 ∷ []) d)) (sym is) (between_made side at header payloads payload old stands fits))
      may)

  pub has : (new : DiskHistory) → Runs side (IsBetween header payloads payload) old new → Runs side (HasOrNot header payloads payload) old new
  has new run = weakened side (IsBetween header payloads payload) (HasOrNot header payloads payload) old new (λ d between. between.each) run

  pub falls : (new : DiskHistory) → Runs side (IsBetween header payloads payload) old new → NeverFalls header side old.clock new
  falls new run = falls_between header payloads payload side old new run

  -- the gate is open, on the disk
  last : (mid gated new : DiskHistory) → now mid side ≡ settled (overwritten at (behind_gate payload) (now old side).reads) → Becomes side (after_write (at - 1) (1 ∷ []) (now mid side)) mid gated → Becomes side (after_sync (now gated side)) gated new
      → now new side ≡ settled (overwritten (at - 1) (1 ∷ []) (overwritten at (behind_gate payload) (now old side).reads))
  last mid gated new is wrote synced = synced.this ∙ ap (λ (d : Disk). settled d.reads) wrote.this ∙ ap (λ (d : Disk). settled (overwritten (at - 1) (1 ∷ []) d.reads)) is

  pub ends : (mid gated new : DiskHistory) → now mid side ≡ settled (overwritten at (behind_gate payload) (now old side).reads) → Becomes side (after_write (at - 1) (1 ∷ []) (now mid side)) mid gated → Becomes side (after_sync (now gated side)) gated new → Stands side (at + 5 + length payload) new header (payloads ++ payload ∷ [])
  ends mid gated new is wrote synced = stands_next side at header payloads payload old stands fits new (last mid gated new is wrote synced)

  pub ends_runs : (mid gated new : DiskHistory) → Runs side (IsBetween header payloads payload) old gated → Elapses gated new → now mid side ≡ settled (overwritten at (behind_gate payload) (now old side).reads) → Becomes side (after_write (at - 1) (1 ∷ []) (now mid side)) mid gated → Becomes side (after_sync (now gated side)) gated new
      → Runs side (HasOrNot header payloads payload) old new × NeverFalls header side old.clock new
  ends_runs mid gated new run time is wrote synced =
      let end = has_next side at header payloads payload old stands fits (now new side) (last mid gated new is wrote synced) in
      (called side (HasOrNot header payloads payload) old gated new (has gated run) time (end, synced.other), falls_on header payloads payload side old gated new run time end)

-- nothing is pending at the end, and the new gate lies within the file
pub rests : (side : Side) (at : ℕ) (payload : List ℕ) (old mid gated new : DiskHistory) → IsAtRest side at old → 1 ≤ at → now mid side ≡ settled (overwritten at (behind_gate payload) (now old side).reads) → Becomes side (after_write (at - 1) (1 ∷ []) (now mid side)) mid gated → Becomes side (after_sync (now gated side)) gated new
    → IsAtRest side (at + 5 + length payload) new
rests side at payload old mid gated new rest first is wrote synced =
    let end : now new side ≡ settled (overwritten (at - 1) (1 ∷ []) (overwritten at (behind_gate payload) (now old side).reads)) =
    synced.this ∙ ap (λ (d : Disk). settled d.reads) wrote.this ∙ ap (λ (d : Disk). settled (overwritten (at - 1) (1 ∷ []) d.reads)) is in
    let long = overwritten_length at (behind_gate payload) (now old side).reads rest.within in
    record {
      settled = end ∙ ap (λ (d : Disk). settled d.reads) (sym end);
      within = omega (arith, ap (λ (d : Disk). length d.reads) end, overwritten_length (at - 1) (1 ∷ []) (overwritten at (behind_gate payload) (now old side).reads) (omega (arith, long, rest.within)), long, rest.within, length-append (blob_spelling payload) (0 ∷ []), length-blob payload);
    }
