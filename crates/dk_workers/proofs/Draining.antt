-- A drain, from the calls that it makes.
use Rattle.std.proofs.Common.{◌≡◌, ℕ, Option, Some, None, List, Err, refl, subst}
use Rattle.dk_types.specs.declared.event.Event.{Event}
use Rattle.dk_types.specs.declared.event.ClaimReply.TheVariants as reply
use Rattle.dk_model.specs.Legal.{Opened}
use Rattle.dk_turn.specs.Fronts.{Known}
use Rattle.dk_workers.specs.declared.worked.Worked.{Worked}
use Rattle.dk_workers.specs.declared.worked.Worked.TheVariants as worked
use Rattle.dk_workers.specs.Workers.{Works}
use Rattle.dk_play_laws.specs.Phased.{HaveMet, HasWorkedOn}
use Rattle.dk_play_laws.specs.Seen.{ArePaired}
use Rattle.dk_workers.specs.Drains.{Drains}
use Rattle.dk_workers.specs.Faults.{early_end, main_end, IsWorkFault}
use Rattle.dk_workers.specs.declared.play.fault.PlayFault.{PlayFault}
use Rattle.dk_workers.specs.declared.play.fault.PlayFault.TheVariants as fault
use Rattle.dk_workers.proofs.WorkedRuns.{IsCaused, is_caused, ends_work}

none_some : (f : PlayFault) → ◌≡◌ {A = Option PlayFault} None (Some f) → ⊥
none_some f e = cc

one_fault : (f g : PlayFault) → Some f ≡ Some g → f ≡ g
one_fault f g e = cc

-- the cause of an early end
early_caused : (o : Opened) (count : ℕ) (end : Worked) (f : PlayFault) → early_end end ≡ Some f → IsCaused o count end → IsWorkFault f
early_caused o count worked.Idle f is cause = absurd (none_some f is)
early_caused o count (worked.Spent granted) f is cause = absurd (none_some f is)
early_caused o count (worked.Exhausted next) f is cause = subst IsWorkFault (one_fault (fault.Exhausted next) f is) cause
early_caused o count worked.DiskFault f is cause = subst IsWorkFault (one_fault fault.DiskFault f is) tt
early_caused o count (worked.Stopped faults) f is cause = subst IsWorkFault (one_fault fault.DiskFault f is) tt
early_caused o count (worked.JournalFull length) f is cause = subst IsWorkFault (one_fault (fault.JournalFull length) f is) cause
early_caused o count worked.NoMemory f is cause = subst IsWorkFault (one_fault fault.NoMemory f is) tt

faulty : (o : Opened) (count : ℕ) (f : PlayFault) (workers after : List (Known Event)) (old new : Known Event) → IsWorkFault f → Drains o count (Err f) workers after old new
faulty o count fault.NoMemory workers after old new h = h
faulty o count fault.DiskFault workers after old new h = h
faulty o count (fault.Budget granted) workers after old new h = absurd h
faulty o count (fault.JournalFull length) workers after old new h = h
faulty o count (fault.Exhausted next) workers after old new h = h

-- the workers ended it
pub drained_early : (o : Opened) (count : ℕ) (end : Worked) (f : PlayFault) (workers after : List (Known Event)) (old new : Known Event) → early_end end ≡ Some f → IsCaused o count end → Drains o count (Err f) workers after old new
drained_early o count end f workers after old new is cause = faulty o count f workers after old new (early_caused o count end f is cause)

module _ (o : Opened) (count : ℕ) (a b c d : List (Known Event)) (p q r s : Known Event) (first : HaveMet a b p q) (works : ArePaired HasWorkedOn b c) (second : HaveMet c d q r) where
  -- the main pass ended it
  pub drained_by : (end : Worked) → Works o count end r s → Drains o count (main_end end) a d p s
  drained_by worked.Idle w = record {
    drain = record { begun = b; ended = c; at_work = q; met = r; first = first; works = works; second = second; last = ends_work o count reply.Nothing worked.Idle r s (None, refl, refl) w w.ends };
    legal = w.legal;
    named = w.named;
  }
  drained_by (worked.Spent granted) w = record {
    drain = record { begun = b; ended = c; at_work = q; met = r; first = first; works = works; second = second; last = ends_work o count (reply.Spent granted) (worked.Spent granted) r s (None, refl, refl) w w.ends };
    legal = w.legal;
    named = w.named;
  }
  drained_by (worked.Exhausted next) w = is_caused o count (worked.Exhausted next) r s w
  drained_by worked.DiskFault w = tt
  drained_by (worked.Stopped faults) w = tt
  drained_by (worked.JournalFull length) w = is_caused o count (worked.JournalFull length) r s w
  drained_by worked.NoMemory w = tt
