-- What the store keeps where its file is read back.
use Rattle.std.proofs.Common.{◌≡◌, ℕ, ◌+◌, ◌≤◌, Bool, IsTrue, List, ◌++◌, Option, Some, None, Result, Err, IsErrOf, sym, ap, subst, ◌∙◌, arith}
use Rattle.std.proofs.lemmas.List.{append-nil}
use Rattle.dk_types.specs.declared.durable.Entry.{Entry}
use Rattle.dk_types.specs.declared.event.Event.{Event}
use Rattle.dk_types.specs.declared.limits.TheConstants.{NUMBERS_END}
use Rattle.dk_types.specs.declared.side.Side.{Side}
use Rattle.dk_disk.specs.Disk.{Disk, settled}
use Rattle.dk_disk.specs.DiskHistories.{DiskHistory, now, other_side}
use Rattle.dk_disk.specs.Opening.{Opening, IsOpen}
use Rattle.dk_model.specs.DurableWorlds.{DurableWorld}
use Rattle.dk_model.specs.Legal.{Opened, world_after}
use Rattle.dk_model.specs.Stores.{StoreHeader, Reads, header_spelling}
use Rattle.dk_model.specs.Tails.{IsAfterSomeOrTail}
use Rattle.dk_journal.specs.Moments.{Looks}
use Rattle.dk_journal.specs.Ranks.{IsLesser}
use Rattle.dk_journal.specs.Recoveries.{Recovering, HeldNeverFalls}
use Rattle.dk_journal.specs.Stores.{HasStore}
use Rattle.dk_journal.specs.declared.journal.Journal.{Journal}
use Rattle.dk_journal.proofs.Recoveries.{all_at, since_on, held_on}
use Rattle.dk_commit_log.specs.Logs.{IsStoreFile, IsLogOf}
use Rattle.dk_commit_log.specs.Ranges.{between}
use Rattle.dk_host.specs.Stores.{HoldsLog, IsStored}
use Rattle.dk_commit_log.specs.declared.refused.LogRefused.{LogRefused}
use Rattle.dk_commit_log.specs.declared.refused.LogRefused.TheVariants as log
use Rattle.dk_host.specs.declared.refused.TailRefused.TheVariants as tail
use Rattle.dk_host.specs.Tails.{IsLogPart, BeginsAt, refusal_of}
use Rattle.dk_host.proofs.Storing.{holds_running}

-- files that were looked at hold the store as they did
module _ (old new : DiskHistory) (looks : Looks old new) where
  now_same : (s : Side) → now new s ≡ now old s
  now_same s = looks.each new.clock s looks.later (omega arith)

  store_looked : (side : Side) (journal : Journal) (header : StoreHeader) (payloads : List (List ℕ)) (d : DurableWorld) → HasStore old side journal header payloads d → HasStore new side journal header payloads d
  store_looked side journal header payloads d store = record {
    fits = store.fits;
    here = store.here;
    epoch = store.epoch;
    format = store.format;
    stands = record {
      settled = now_same side ∙ store.stands.settled ∙ ap (λ (x : Disk). settled x.reads) (sym (now_same side));
      reads = subst (λ (x : Disk). Reads x.reads (header_spelling header) payloads) (sym (now_same side)) store.stands.reads;
      place = store.stands.place;
    };
    outranked = record {
      settled = now_same (other_side side) ∙ store.outranked.settled ∙ ap (λ (x : Disk). settled x.reads) (sym (now_same (other_side side)));
      lesser = subst (λ (x : Disk). IsLesser header x.reads) (sym (now_same (other_side side))) store.outranked.lesser;
    };
    world = store.world;
  }

  held_looked : HeldNeverFalls old.clock new
  held_looked t later n from le to held =
      all_at (λ d. n ≤ d.commits) new new later t (λ s. looks.each later s (omega (arith, from, le)) to ∙ sym (looks.each t s from (omega (arith, le, to)))) held

module _ (o : Opened) (began : DiskHistory) (tells : Bool) (old : DiskHistory) (opening : Opening) (game : List ℕ) (journal : Journal) (base : Option ℕ) (side : Side) (front : List Event) (commits places : ℕ) (s : IsStored o began tells old opening game journal base front commits places None None) (here : journal.side ≡ side) where
  module _ (h : IsTrue tells) where
    pub log_there : HoldsLog o front old game journal base
    log_there = holds_running o began tells old opening game journal base front commits places s h

    pub rests_there : now old side ≡ settled (now old side).reads
    rests_there = subst (λ (x : Side). now old x ≡ settled (now old x).reads) here log_there.stands.store.stands.settled

    pub file_there : IsStoreFile (now old side).reads log_there.stands.header log_there.stands.payloads
    file_there = record { fits = log_there.stands.store.fits; reads = subst (λ (x : Side). Reads (now old x).reads (header_spelling log_there.stands.header) log_there.stands.payloads) here log_there.stands.store.stands.reads }

    -- the log of the file, in which these entries are
    pub file_log : (file : List ℕ) (n last : ℕ) → file ≡ (now old side).reads → n ≡ log_there.first.commits → last ≤ (world_after o front).durable.commits → IsLogOf file log_there.stands.header log_there.stands.payloads (world_after o front).durable log_there.first log_there.entries n last
    file_log file n last same begins enough = record { file = subst (λ f. IsStoreFile f log_there.stands.header log_there.stands.payloads) (sym same) file_there; log = log_there.log; begins = sym begins; enough = enough }

    pub part_there : (after last : ℕ) (entries : List Entry) → entries ≡ between after last log_there.entries → IsLogPart o front after last entries
    part_there after last entries part = record { first = log_there.first; all = log_there.entries; log = record { follow = log_there.log.follow; of_commits = log_there.of_commits }; part = part }

    pub begins_there : (n base : ℕ) → base ≡ log_there.first.commits → n ≡ base + 1 → BeginsAt o front n
    begins_there n base begins is = record { first = log_there.first; all = log_there.entries; log = record { follow = log_there.log.follow; of_commits = log_there.of_commits }; number = is ∙ ap (λ k. k + 1) begins }

  -- it stays as it was, and it may be known how it begins
  pub stored_looked : (new : DiskHistory) (opening_after : Opening) → opening_after ≡ opening → (IsTrue tells → Looks old new) → (known : Option ℕ) → ((h : IsTrue tells) (n : ℕ) → known ≡ Some n → (log_there h).first.commits ≡ n) → IsStored o began tells new opening_after game journal known front commits places None None
  stored_looked new opening_after opened looked known told = record {
    lawful = s.lawful;
    legal = s.legal;
    counted = s.counted;
    is_open = subst IsOpen (sym opened) s.is_open;
    format = s.format;
    tail = s.tail;
    waits = s.waits;
    since = λ h.
        let was = s.since h in
        let looks = looked h in
        let run : Recovering (IsAfterSomeOrTail o front s.tail) old new = record { later = looks.later; kept = looks.kept; each = λ t from to. all_at (IsAfterSomeOrTail o front s.tail) old new t old.clock (λ x. looks.each t x from to) (was.recovers old.clock was.begun (omega arith)) } in record {
          begun = omega (arith, was.begun, looks.later);
          kept = λ t x le. looks.kept t x (omega (arith, le, was.begun)) ∙ was.kept t x le;
          recovers = since_on (IsAfterSomeOrTail o front s.tail) began.clock old new was.recovers run;
          held = held_on began.clock old new was.begun looks.later looks.kept was.held (held_looked old new looks);
        };
    holds = λ h running.
        let l = log_there h in
        subst (λ (es : List Event). HoldsLog o es new game journal known) (ap (λ (es : List Event). front ++ es) (sym s.waits)) (subst (λ (es : List Event). HoldsLog o es new game journal known) (sym (append-nil front)) (record {
          stands = record { header = l.stands.header; payloads = l.stands.payloads; ours = l.stands.ours; store = store_looked old new (looked h) journal.side journal l.stands.header l.stands.payloads (world_after o front).durable l.stands.store };
          first = l.first;
          entries = l.entries;
          log = l.log;
          known = told h;
          of_commits = l.of_commits;
        }));
  }

-- what was looked at rests still
pub rests_still : (old new : DiskHistory) (side : Side) → Looks old new → now old side ≡ settled (now old side).reads → now new side ≡ settled (now new side).reads
rests_still old new side looks rests = now_same old new looks side ∙ rests ∙ ap (λ (x : Disk). settled x.reads) (sym (now_same old new looks side))

-- which number is known
pub some_number : (base n first : ℕ) → base ≡ first → Some base ≡ Some n → first ≡ n
some_number base n first begins is = let same : base ≡ n = cc in sym begins ∙ same

-- of what a reading was refused for
pub damage_of : (e : LogRefused) (at : ℕ) → refusal_of e ≡ tail.Damaged at → e ≡ log.Damaged at
damage_of log.DiskFault at is = absurd cc
damage_of log.NoMemory at is = absurd cc
damage_of (log.Damaged p) at is = let same : p ≡ at = cc in ap log.Damaged same

-- which error a step's exit is
pub exit_of : {A E : Type 0} (r : Result A E) (y e : E) → r ≡ Err y → IsErrOf r e → y ≡ e
exit_of r y e is told = let both : Err y ≡ Err e = sym is ∙ told in cc

pub older_of : {A : Type 0} {m n : ℕ} → IsErrOf {T = A} (Err (tail.Older m)) (tail.Older n) → m ≡ n
older_of is = cc

pub some_most : (base n : ℕ) → base ≤ NUMBERS_END → Some base ≡ Some n → n ≤ NUMBERS_END
some_most base n most is = let same : base ≡ n = cc in omega (arith, most, same)
