-- How a server ends: what its members tell of that, and what it leaves.
use Rattle.std.proofs.Common.{◌≡◌, ◌⊎◌, ⊎_elim, inr, ℕ, Bool, IsTrue, List, Option, None, Result, Ok, Err, IfErr, refl, sym, subst}
use Rattle.dk_types.specs.Faults.{HasRisen}
use Rattle.dk_types.specs.declared.event.Event.{Event}
use Rattle.dk_disk.specs.DiskHistories.{DiskHistory, Elapses, Stays}
use Rattle.dk_edge.specs.Listening.{Listening}
use Rattle.dk_model.specs.DurableWorlds.{DurableWorld}
use Rattle.dk_model.specs.Legal.{Opened, IsLegal}
use Rattle.dk_core.specs.Listings.{world_of}
use Rattle.dk_host.specs.OpenedStores.{IsWorldOrDevice}
use Rattle.dk_host.specs.Stores.{CountsOn, EndsAs}
use Rattle.dk_host.specs.declared.fault.OpenFault.{OpenFault}
use Rattle.dk_host.specs.declared.standing.Stood.{Stood}
use Rattle.dk_host.specs.declared.fault.OpenFault.TheVariants as opening
use Rattle.dk_turn.specs.Fronts.{Known}
use Rattle.dk_workers.specs.Drains.{Drains}
use Rattle.dk_workers.specs.Serving.{ServesOn}
use Rattle.dk_workers.specs.Workers.{Works, WorksNext}
use Rattle.dk_workers.proofs.WorkedRuns.{is_caused}
use Rattle.dk_workers.specs.declared.play.fault.PlayFault.{PlayFault}
use Rattle.dk_workers.specs.declared.play.fault.PlayFault.TheVariants as playing
use Rattle.dk_workers.specs.declared.worked.Worked.{Worked}
use Rattle.dk_workers.specs.declared.worked.Worked.TheVariants as worked
use Rattle.dk_status.specs.declared.status.Status.{Status}
use Rattle.dk_status.specs.declared.status.Status.TheVariants as status
use Rattle.darkstar.specs.declared.serve.verdict.ServeFault.{ServeFault}
use Rattle.darkstar.specs.declared.serve.verdict.ServeFault.TheVariants as fault
use Rattle.darkstar.specs.Ends.{status_of_opening}
use Rattle.darkstar.specs.Runs.{IsOpenable, IsPlayEnd, Keeps, Passage, PlayTerms, opened_with, passage}
use Rattle.darkstar.specs.Served.{HasWorkCause, IsAllServed, IsBoundAt, IsOutcome, IsServedOn, IsSoundDrain, IsCauseOfFault, IsUnserved, links_of}
use Rattle.darkstar.specs.Serves.{HasServedAll, IsServeEnd, IsServedOrEnd, IsServedOrLimit, status_of_serving}
use Rattle.darkstar.proofs.PlayAfter.{end_before, openable_before}
use Rattle.darkstar.proofs.OpenedOn.{OpenedOn}
use Rattle.darkstar.proofs.PlayEnds.{keeps_none}
use Rattle.darkstar.proofs.RunLaws.{runs_on}

-- the answer of a worker has its cause
pub has_cause : (o : Opened) (count : ℕ) (end : Worked) (old new : Known Event) → Works o count end old new → HasWorkCause end
has_cause o count worked.Idle old new w = tt
has_cause o count (worked.Spent granted) old new w = tt
has_cause o count (worked.Exhausted next) old new w = is_caused o count (worked.Exhausted next) old new w
has_cause o count worked.DiskFault old new w = tt
has_cause o count (worked.Stopped faults) old new w = tt
has_cause o count (worked.JournalFull length) old new w = is_caused o count (worked.JournalFull length) old new w
has_cause o count worked.NoMemory old new w = tt

-- so has that of one that asks for a job alone
pub next_cause : (o : Opened) (count : ℕ) (r : Result (Unit {0}) Worked) (old new : Known Event) → WorksNext o count r old new → IfErr r HasWorkCause
next_cause o count (Ok done) old new w = tt
next_cause o count (Err end) old new w = has_cause o count end old new w

-- that of one that waits too
pub serving_cause : (o : Opened) (count : ℕ) (end : Worked) (old new : Known Event) → ServesOn o count end old new → HasWorkCause end
serving_cause o count end old new s = has_cause o count end s.before new s.last

-- and so has the end of the first jobs
pub drain_sound : (o : Opened) (count : ℕ) (r : Result (Unit {0}) PlayFault) (ws ws' : List (Known Event)) (main main' : Known Event) → Drains o count r ws ws' main main' → IsSoundDrain r
drain_sound o count (Ok done) ws ws' main main' d = tt
drain_sound o count (Err (playing.Budget granted)) ws ws' main main' d = tt
drain_sound o count (Err (playing.Exhausted next)) ws ws' main main' d = d
drain_sound o count (Err playing.DiskFault) ws ws' main main' d = tt
drain_sound o count (Err (playing.JournalFull length)) ws ws' main main' d = d
drain_sound o count (Err playing.NoMemory) ws ws' main main' d = tt

never : (f : ServeFault) → ◌≡◌ {A = Result (Unit {0}) ServeFault} (Err f) (Err fault.NoMemory) → f ≡ fault.NoMemory
never f is = cc

never_ok : (done : Unit {0}) → ◌≡◌ {A = Result (Unit {0}) ServeFault} (Ok done) (Err fault.NoMemory) → ⊥
never_ok done is = cc

full_is_none : (n : ℕ) → fault.JournalFull n ≡ fault.NoMemory → ⊥
full_is_none n is = cc

end_is_none : (n : ℕ) → fault.Exhausted n ≡ fault.NoMemory → ⊥
end_is_none n is = cc

disk_is_none : fault.DiskFault ≡ fault.NoMemory → ⊥
disk_is_none is = cc

net_is_none : fault.NetFault ≡ fault.NoMemory → ⊥
net_is_none is = cc

-- a server that was run on a store, as this home is left, and how it ended
pub record HasServed {H : Type 0} (past : H → DiskHistory) (counted : H → ℕ) (terms : PlayTerms) (tells : Bool) (old : DiskHistory) (home : H) (before net net' crews crews' port most : ℕ) (listening listening' : Listening) (served : ℕ) (outcome : Result (Unit {0}) ServeFault) : Type 0 where
  pub store : H
  pub stood : Stood
  pub on : OpenedOn terms tells old (past store) stood
  pub many : terms.workers ≡ 1 → ⊥
  pub serves : IsUnserved store home served outcome
      ⊎ IsServedOn (opened_with terms (world_of stood.durable)) tells (past store) (past home) before (counted home) net net' crews crews' port most listening listening' served outcome

-- the program ends so behind it
module _ {H : Type 0} {past : H → DiskHistory} {counted : H → ℕ} {terms : PlayTerms} {tells : Bool} {old : DiskHistory} {home : H} {before net net' crews crews' port most : ℕ} {listening listening' : Listening} {served : ℕ} where
  -- the store is kept
  pub served_keeps : (s : Status) (outcome : Result (Unit {0}) ServeFault) → HasServed past counted terms tells old home before net net' crews crews' port most listening listening' served outcome → Keeps terms (passage tells old (past home) before (counted home)) s
  served_keeps s outcome has = ⊎_elim
      (λ (u : IsUnserved has.store home served outcome). subst (λ (h : H). Keeps terms (passage tells old (past h) before (counted h)) s) (sym u.home) (keeps_none terms tells old (past has.store) has.stood has.on s before (counted has.store)))
      (λ p. inr (record {
        world = world_of has.stood.durable;
        held = has.on.held;
        on = runs_on (opened_with terms (world_of has.stood.durable)) has.on.lawful terms.workers old s (past has.store) (past home) before (counted home) p.history p.legal p.faults p.epoch p.counts (λ one some risen. absurd (has.many one)) tells has.on.keeps p.ended;
      }))
      has.serves

  openable : (outcome : Result (Unit {0}) ServeFault) → HasServed past counted terms tells old home before net net' crews crews' port most listening listening' served outcome → IsOpenable terms (passage tells old (past home) before (counted home))
  openable outcome has told = (has.on.ours told, (world_of has.stood.durable, has.on.held told))

  -- a fault other than want of memory is told of a server that was run
  reported_of : (f : ServeFault) → (f ≡ fault.NoMemory → ⊥) → HasServed past counted terms tells old home before net net' crews crews' port most listening listening' served (Err f) → IsCauseOfFault before (counted home) net net' crews crews' f
  reported_of f other has = ⊎_elim (λ (u : IsUnserved has.store home served (Err f)). absurd (other (never f u.want))) (λ p. p.cause) has.serves

  -- why the program ends so
  pub served_end : (outcome : Result (Unit {0}) ServeFault) → HasServed past counted terms tells old home before net net' crews crews' port most listening listening' served outcome → IsServeEnd terms (passage tells old (past home) before (counted home)) (status_of_serving outcome)
  served_end (Ok done) has = openable (Ok done) has
  served_end (Err fault.NoMemory) has = tt
  served_end (Err fault.DiskFault) has = tt
  served_end (Err (fault.JournalFull n)) has = (openable (Err (fault.JournalFull n)) has, reported_of (fault.JournalFull n) (full_is_none n) has)
  served_end (Err fault.NetFault) has = openable (Err fault.NetFault) has
  served_end (Err (fault.Exhausted n)) has = (openable (Err (fault.Exhausted n)) has, reported_of (fault.Exhausted n) (end_is_none n) has)

  -- where all is well, all links were served
  pub served_done : (outcome : Result (Unit {0}) ServeFault) → HasServed past counted terms tells old home before net net' crews crews' port most listening listening' served outcome → status_of_serving outcome ≡ status.Ok → (sessions : Option ℕ) → most ≡ links_of sessions → HasServedAll port sessions served listening listening'
  served_done (Ok done) has is sessions same = ⊎_elim
      (λ (u : IsUnserved has.store home served (Ok done)). absurd (never_ok done u.want))
      (λ p. (p.bound, subst (λ (n : ℕ). IsAllServed listening.given n served listening') same p.all))
      has.serves
  served_done (Err fault.NoMemory) has is sessions same = absurd cc
  served_done (Err fault.DiskFault) has is sessions same = absurd cc
  served_done (Err (fault.JournalFull n)) has is sessions same = absurd cc
  served_done (Err fault.NetFault) has is sessions same = absurd cc
  served_done (Err (fault.Exhausted n)) has is sessions same = absurd cc

  -- a fault of the disk is counted
  pub served_disk : (outcome : Result (Unit {0}) ServeFault) → HasServed past counted terms tells old home before net net' crews crews' port most listening listening' served outcome → status_of_serving outcome ≡ status.DiskFault → HasRisen before (counted home)
  served_disk (Ok done) has is = absurd cc
  served_disk (Err fault.NoMemory) has is = absurd cc
  served_disk (Err fault.DiskFault) has is = reported_of fault.DiskFault disk_is_none has
  served_disk (Err (fault.JournalFull n)) has is = absurd cc
  served_disk (Err fault.NetFault) has is = absurd cc
  served_disk (Err (fault.Exhausted n)) has is = absurd cc

  -- and one of the listener or the spawner
  pub served_net : (outcome : Result (Unit {0}) ServeFault) → HasServed past counted terms tells old home before net net' crews crews' port most listening listening' served outcome → status_of_serving outcome ≡ status.NetFault → HasRisen net net' ⊎ HasRisen crews crews'
  served_net (Ok done) has is = absurd cc
  served_net (Err fault.NoMemory) has is = absurd cc
  served_net (Err fault.DiskFault) has is = absurd cc
  served_net (Err (fault.JournalFull n)) has is = absurd cc
  served_net (Err fault.NetFault) has is = reported_of fault.NetFault net_is_none has
  served_net (Err (fault.Exhausted n)) has is = absurd cc

-- however a server ends, no more than these come
pub served_limit : (outcome : Result (Unit {0}) ServeFault) → IsServedOrLimit (status_of_serving outcome)
served_limit (Ok done) = tt
served_limit (Err fault.NoMemory) = tt
served_limit (Err fault.DiskFault) = tt
served_limit (Err (fault.JournalFull n)) = tt
served_limit (Err fault.NetFault) = tt
served_limit (Err (fault.Exhausted n)) = tt

-- a server for which no store was opened ends as a play does
pub unopened_end : (terms : PlayTerms) (home : Passage) (f : OpenFault) → IsPlayEnd terms home (status_of_opening f) → IsServeEnd terms home (status_of_opening f)
unopened_end terms home opening.NoMemory is = tt
unopened_end terms home opening.DiskFault is = tt
unopened_end terms home (opening.NotAStore side at) is = is
unopened_end terms home (opening.WrongGame found) is = is
unopened_end terms home (opening.Damaged side at) is = is
unopened_end terms home (opening.ImageTooLarge n) is = is
unopened_end terms home (opening.EpochEnd n) is = is

-- a store of the game is refused by a device alone
pub unopened_limit : (d : DurableWorld) (f : OpenFault) → IsWorldOrDevice d (Err f) → IsServedOrLimit (status_of_opening f)
unopened_limit d opening.NoMemory is = tt
unopened_limit d opening.DiskFault is = tt
unopened_limit d (opening.NotAStore side at) is = absurd is
unopened_limit d (opening.WrongGame found) is = absurd is
unopened_limit d (opening.Damaged side at) is = absurd is
unopened_limit d (opening.ImageTooLarge n) is = absurd is
unopened_limit d (opening.EpochEnd n) is = absurd is

-- a server on files that were only looked at before ends so on those
module _ (tells : Bool) (old mid new : DiskHistory) (time : IsTrue tells → Elapses old mid) (stays : IsTrue tells → Stays old mid) (begun before after : ℕ) (count : before ≡ begun) (terms : PlayTerms) where
  before_so : (s : Status) → IsPlayEnd terms (passage tells mid new before after) s → IsPlayEnd terms (passage tells old new begun after) s
  before_so = end_before tells old mid new time stays begun before after count terms

  pub serve_end_before : (s : Status) → IsServeEnd terms (passage tells mid new before after) s → IsServeEnd terms (passage tells old new begun after) s
  serve_end_before status.Ok is = openable_before tells old mid new time stays begun before after count terms is
  serve_end_before status.NoMemory is = tt
  serve_end_before status.Usage is = is
  serve_end_before status.DiskFault is = tt
  serve_end_before status.ReadFault is = is
  serve_end_before status.WriteFault is = is
  serve_end_before (status.BadScript line) is = is
  serve_end_before (status.NotAStore side at) is = before_so (status.NotAStore side at) is
  serve_end_before (status.Damaged side at) is = before_so (status.Damaged side at) is
  serve_end_before (status.WrongGame found) is = before_so (status.WrongGame found) is
  serve_end_before (status.Budget granted) is = is
  serve_end_before (status.JournalFull length) is = before_so (status.JournalFull length) is
  serve_end_before status.NetFault is = openable_before tells old mid new time stays begun before after count terms is
  serve_end_before (status.Exhausted next) is = before_so (status.Exhausted next) is
  serve_end_before (status.MigrateTooLarge length) is = before_so (status.MigrateTooLarge length) is
  serve_end_before (status.MigrateEpochEnd epoch) is = before_so (status.MigrateEpochEnd epoch) is

-- where no device failed, a server that may begin comes to its end
pub serves_on : (s : Status) → IsServedOrLimit s → (s ≡ status.DiskFault → ⊥) → (s ≡ status.NetFault → ⊥) → IsServedOrEnd s
serves_on status.Ok is disk net = tt
serves_on status.NoMemory is disk net = tt
serves_on status.Usage is disk net = is
serves_on status.DiskFault is disk net = disk refl
serves_on status.ReadFault is disk net = is
serves_on status.WriteFault is disk net = is
serves_on (status.BadScript line) is disk net = is
serves_on (status.NotAStore side at) is disk net = is
serves_on (status.Damaged side at) is disk net = is
serves_on (status.WrongGame found) is disk net = is
serves_on (status.Budget granted) is disk net = is
serves_on (status.JournalFull length) is disk net = tt
serves_on status.NetFault is disk net = net refl
serves_on (status.Exhausted next) is disk net = tt
serves_on (status.MigrateTooLarge length) is disk net = is
serves_on (status.MigrateEpochEnd epoch) is disk net = is

-- it reads and writes no stream
pub never_read : (terms : PlayTerms) (home : Passage) (s : Status) → IsServeEnd terms home s → s ≡ status.ReadFault → ⊥
never_read terms home s end is = subst (IsServeEnd terms home) is end

pub never_torn : (terms : PlayTerms) (home : Passage) (s : Status) → IsServeEnd terms home s → s ≡ status.WriteFault → ⊥
never_torn terms home s end is = subst (IsServeEnd terms home) is end

-- a server on a host that was closed behind it: without a fault all is well, and else there is a cause
pub outcome_serves : (o : Opened) (tells : Bool) (began past : DiskHistory) (before after net net' crews crews' port most : ℕ) (old new : Listening) (served : ℕ) (first : Option ServeFault)
    (history : List Event) (faults : Option ℕ) (epoch : ℕ) (outcome : Result (Unit {0}) ServeFault)
    → IsOutcome first faults before after net net' crews crews' outcome → IsLegal o history → (IsTrue tells → EndsAs o began past history faults epoch) → CountsOn before faults after
    → (first ≡ None → IsBoundAt port new) → (first ≡ None → IsAllServed old.given most served new)
    → IsServedOn o tells began past before after net net' crews crews' port most old new served outcome
outcome_serves o tells began past before after net net' crews crews' port most old new served first history faults epoch (Ok done) is legal ended counts bound all =
    record { history = history; faults = faults; epoch = epoch; legal = legal; ended = ended; counts = counts; bound = bound is.0; all = all is.0; whole = is.1; cause = tt }
outcome_serves o tells began past before after net net' crews crews' port most old new served first history faults epoch (Err told) is legal ended counts bound all =
    record { history = history; faults = faults; epoch = epoch; legal = legal; ended = ended; counts = counts; bound = tt; all = tt; whole = tt; cause = is }

-- the same outcome, by what its counts are
pub outcome_as : (faults : Option ℕ) (before : ℕ) (outcome : Result (Unit {0}) ServeFault) (first first' : Option ServeFault) (a a' n m n' m' s t s' t' : ℕ)
    → first ≡ first' → a ≡ a' → n ≡ m → n' ≡ m' → s ≡ t → s' ≡ t' → IsOutcome first faults before a n n' s s' outcome → IsOutcome first' faults before a' m m' t t' outcome
outcome_as faults before outcome first first' a a' n m n' m' s t s' t' p q r u v w is =
    subst (λ x. IsOutcome x faults before a' m m' t t' outcome) p
    (subst (λ x. IsOutcome first faults before x m m' t t' outcome) q
    (subst (λ x. IsOutcome first faults before a x m' t t' outcome) r
    (subst (λ x. IsOutcome first faults before a n x t t' outcome) u
    (subst (λ x. IsOutcome first faults before a n n' x t' outcome) v
    (subst (λ x. IsOutcome first faults before a n n' s x outcome) w is)))))
