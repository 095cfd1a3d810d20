-- What the store keeps over its calls.
use Rattle.std.proofs.Common.{◌≡◌, ◌⊎◌, ⊎_elim, inl, inr, ℕ, ◌+◌, ◌≤◌, Bool, IsTrue, List, [], ◌∷◌, ◌++◌, Option, Some, None, Result, Ok, Err, OnOk, OnErr, IfErr, IsErrOf, refl, sym, ap, subst, ◌∙◌, arith}
use Rattle.std.proofs.lemmas.List.{append-nil}
use Rattle.dk_types.specs.declared.durable.Entry.{Entry}
use Rattle.dk_types.specs.declared.event.Event.{Event}
use Rattle.dk_types.specs.declared.event.Event.TheVariants as event
use Rattle.dk_types.specs.declared.side.Side.{Side}
use Rattle.dk_disk.specs.Disk.{Disk, settled}
use Rattle.dk_disk.specs.DiskHistories.{DiskHistory, now, other_side}
use Rattle.dk_disk.specs.Opening.{Opening, IsOpen}
use Rattle.dk_model.specs.DurableWorlds.{DurableWorld}
use Rattle.dk_model.specs.Effects.{after, effects}
use Rattle.dk_model.specs.Entries.{AreEntries, entries_spelling}
use Rattle.dk_model.specs.Legal.{Opened, opening_of, world_after, IsLegal, commits_of}
use Rattle.dk_model.specs.Recovered.{Takes, HasWorld}
use Rattle.dk_model.specs.Stores.{header_spelling}
use Rattle.dk_model.specs.Tails.{IsAfterSome, IsAfterSomeOrTail}
use Rattle.dk_model.proofs.Tails.{after_all, after_more}
use Rattle.dk_laws.proofs.Between.{commits_of-append, commits_change}
use Rattle.dk_laws.proofs.LaterOn.{fronts_legal}
use Rattle.dk_journal.specs.declared.journal.Journal.{Journal}
use Rattle.dk_journal.specs.declared.refused.JournalRefused.{JournalRefused}
use Rattle.dk_journal.specs.declared.refused.JournalRefused.TheVariants as journal_refused
use Rattle.dk_journal.specs.Refusals.{IsAppendFault}
use Rattle.dk_journal.specs.Moments.{Runs, HasOrNot, NeverFalls}
use Rattle.dk_journal.specs.Ranks.{IsLesser, IsOutranked}
use Rattle.dk_journal.specs.Recoveries.{Recovering}
use Rattle.dk_journal.specs.Standing.{Stands as StandsAt}
use Rattle.dk_journal.proofs.Recoveries.{all_weakened, since_on, held_on}
use Rattle.dk_journal.proofs.Standings.{appended}
use Rattle.dk_image.proofs.Worlds.{next_world}
use Rattle.dk_checkpoint.proofs.Held.{append_held}
use Rattle.dk_txn.specs.declared.finished.Finished.{Finished}
use Rattle.dk_core.specs.declared.claimed.Claimed.{Claimed}
use Rattle.dk_core.specs.declared.prepared.Prepared.{Prepared}
use Rattle.dk_core.specs.Rooms.{places_of}
use Rattle.dk_host.specs.Calls.{Stands}
use Rattle.dk_host.specs.Stores.{IsNextCommit, commit_of, HasRecovered, HoldsNow, HoldsLog, IsKeptOn, IsStored, waiting_after, faults_after}
use Rattle.dk_host.specs.Logs.{IsOfCommit, AreOfCommits}
use Rattle.dk_host.proofs.Logged.{log_push, log_on, of_commits_on, of_commits_by, of_commits_push, of_commit_later}
use Rattle.dk_host.proofs.Nexts.{next_commit, durable_on, prepared_on, tells_on, takes}

-- what a list begins with, where it ends with one more
snoc_split : {A : Type 0} (front later xs : List A) (x : A) → xs ++ x ∷ [] ≡ front ++ later → ((m : List A) × (xs ≡ front ++ m)) ⊎ (front ≡ xs ++ x ∷ [])
snoc_split [] later xs x same = inl (xs, refl)
snoc_split (y ∷ front) later [] x same =
    let head : x ≡ y = cc in
    let rest : [] ≡ front ++ later = cc in
    inr (only front later y x head rest)
  where
    only : {A : Type 0} (front later : List A) (y x : A) → x ≡ y → [] ≡ front ++ later → y ∷ front ≡ x ∷ []
    only [] later y x head rest = ap (λ z. z ∷ []) (sym head)
    only (z ∷ front) later y x head rest = absurd cc
snoc_split (y ∷ front) later (z ∷ xs) x same =
    let head : z ≡ y = cc in
    let rest : xs ++ x ∷ [] ≡ front ++ later = cc in
    ⊎_elim
    (λ (h : (m : List _) × (xs ≡ front ++ m)). inl (h.0, (λ i. head i ∷ h.1 i)))
    (λ (h : front ≡ xs ++ x ∷ []). inr ((λ i. sym head i ∷ h i)))
    (snoc_split front later xs x rest)

-- after some first ones, or after all
some_or_all : (o : Opened) (events : List Event) (e : Event) (d : DurableWorld) → IsAfterSome o (events ++ e ∷ []) d → IsAfterSome o events d ⊎ (d ≡ (world_after o (events ++ e ∷ [])).durable)
some_or_all o events e d some = ⊎_elim
    (λ (h : (m : List Event) × (events ≡ some.front ++ m)). inl (record { front = some.front; later = h.0; parts = h.1; world = some.world }))
    (λ (h : some.front ≡ events ++ e ∷ []). inr (some.world ∙ ap (λ (es : List Event). (world_after o es).durable) h))
    (snoc_split some.front some.later events e some.parts)

-- the same, where a history had no tail
untailed : (o : Opened) (events : List Event) (d : DurableWorld) → IsAfterSomeOrTail o events [] d → IsAfterSome o events d
untailed o events d some = subst (λ (es : List Event). IsAfterSome o es d) (append-nil events) some

module _ (o : Opened) (began : DiskHistory) (tells : Bool) (past : DiskHistory) (opening : Opening) (game : List ℕ) (journal : Journal) (base : Option ℕ) (front more : List Event) (commits places : ℕ) (faults : Option ℕ) where
  -- the store's pass goes on, while nothing waits and no commit comes
  pub store_on : IsStored o began tells past opening game journal base front commits places None faults → commits_of (front ++ more) ≡ commits → IsLegal o (front ++ more) → (room : ℕ) → IsStored o began tells past opening game journal base (front ++ more) commits room None faults
  store_on s same legal room =
      let both = commits_of-append front more in
      let none : commits_of more ≡ 0 = omega (arith, both, same, s.counted) in
      let durable : (world_after o (front ++ s.tail)).durable ≡ (world_after o ((front ++ more) ++ [])).durable
      = ap (λ (es : List Event). (world_after o (front ++ es)).durable) s.waits ∙ ap (λ (es : List Event). (world_after o es).durable) (append-nil front)
      ∙ sym (durable_any none) ∙ ap (λ (es : List Event). (world_after o es).durable) (sym (append-nil (front ++ more))) in record {
        lawful = s.lawful;
        legal = legal;
        counted = sym same;
        is_open = s.is_open;
        format = s.format;
        tail = [];
        waits = refl;
        since = λ h.
            let was : HasRecovered o began past front [] = subst (HasRecovered o began past front) s.waits (s.since h) in record {
              begun = was.begun;
              kept = was.kept;
              recovers = λ t from to. all_weakened (IsAfterSomeOrTail o front []) (IsAfterSomeOrTail o (front ++ more) []) past t
                  (λ d some. after_more o (front ++ more) [] d (after_more o front more d (untailed o front d some))) (was.recovers t from to);
              held = was.held;
            };
        holds = λ h running.
            let l = s.holds h running in
            let ours = subst (λ (es : List Event). AreOfCommits o (front ++ es) l.entries) s.waits l.of_commits in
            log_on o (front ++ s.tail) ((front ++ more) ++ []) past game journal base l durable
            (of_commits_on o (front ++ more) [] l.entries (of_commits_on o front more l.entries (subst (λ (es : List Event). AreOfCommits o es l.entries) (append-nil front) ours)));
      }
    where
      durable_any : commits_of more ≡ 0 → (world_after o (front ++ more)).durable ≡ (world_after o front).durable
      durable_any none = (commits_change o.rules (opening_of o) front more s.lawful none).durable

  -- the commit of the record that waits is entered
  module _ (claimed : Claimed) (f : Finished) (p : Prepared) (s : IsStored o began tells past opening game journal base front commits places (Some p) faults) (next : IsNextCommit o front claimed f p)
      (same : commits_of (front ++ more) ≡ commits) (pass seq : ℕ) (by : claimed.pass ≡ pass) (number : seq ≡ (world_after o (front ++ more)).durable.commits + 1)
      (legal : IsLegal o ((front ++ more) ++ event.Commit pass claimed.run seq f.outcome ∷ [])) (stands : Stands o (front ++ more) claimed) where
    abbrev before : List Event
    before = front ++ more

    abbrev e : Event
    e = event.Commit pass claimed.run seq f.outcome

    none : commits_of more ≡ 0
    none = let both = commits_of-append front more in omega (arith, both, same, s.counted)

    unchanged : (world_after o before).durable ≡ (world_after o front).durable
    unchanged = durable_on o front more claimed f p s.lawful none

    now_next : IsNextCommit o before claimed f p
    now_next = next_commit o before claimed f p s.lawful (fronts_legal o before (e ∷ []) legal) stands (tells_on o front more claimed f p s.lawful none next.tells) (prepared_on o front more claimed f p s.lawful none next.prepared)

    event_is : commit_of claimed f p ≡ e
    event_is =
        let same_seq : p.entry.seq ≡ seq = now_next.next.seq ∙ sym number in
        λ i. event.Commit (by i) claimed.run (same_seq i) f.outcome

    entered : (world_after o (before ++ e ∷ [])).durable ≡ after p.entry (world_after o front).durable
    entered = ap (λ (x : Event). (world_after o (before ++ x ∷ [])).durable) (sym event_is) ∙ now_next.world ∙ ap (after p.entry) unchanged

    waited : (world_after o (front ++ s.tail)).durable ≡ after p.entry (world_after o front).durable
    waited = ap (λ (es : List Event). (world_after o (front ++ es)).durable) s.waits.1.1.is_tail ∙ s.waits.1.1.next.world

    pub store_published : (room : ℕ) → IsStored o began tells past opening game journal base (before ++ e ∷ []) (commits + 1) room None faults
    store_published room =
        let both = commits_of-append before (e ∷ []) in
        let durable : (world_after o (front ++ s.tail)).durable ≡ (world_after o ((before ++ e ∷ []) ++ [])).durable
        = waited ∙ sym entered ∙ ap (λ (es : List Event). (world_after o es).durable) (sym (append-nil (before ++ e ∷ []))) in record {
          lawful = s.lawful;
          legal = legal;
          counted = omega (arith, both, same);
          is_open = s.is_open;
          format = s.format;
          tail = [];
          waits = refl;
          since = λ h.
              let was : HasRecovered o began past front (commit_of s.waits.0 s.waits.1.0 p ∷ []) = subst (HasRecovered o began past front) s.waits.1.1.is_tail (s.since h) in record {
                begun = was.begun;
                kept = was.kept;
                recovers = λ t from to. all_weakened (IsAfterSomeOrTail o front (commit_of s.waits.0 s.waits.1.0 p ∷ [])) (IsAfterSomeOrTail o (before ++ e ∷ []) []) past t (λ d some. after_more o (before ++ e ∷ []) [] d (⊎_elim
                    (λ first. after_more o before (e ∷ []) d (after_more o front more d first))
                    (λ (last : d ≡ (world_after o (front ++ commit_of s.waits.0 s.waits.1.0 p ∷ [])).durable).
                    subst (IsAfterSome o (before ++ e ∷ [])) (sym (last ∙ s.waits.1.1.next.world ∙ sym entered)) (after_all o (before ++ e ∷ [])))
                    (some_or_all o front (commit_of s.waits.0 s.waits.1.0 p) d some))) (was.recovers t from to);
                held = was.held;
              };
          holds = λ h running.
              let l = s.holds h running in
              let c = commit_of s.waits.0 s.waits.1.0 p in
              let ours = subst (λ (es : List Event). AreOfCommits o (front ++ es) l.entries) s.waits.1.1.is_tail l.of_commits in
              let runs : s.waits.0.run ≡ claimed.run = ap (λ (x : Entry). x.run) (sym s.waits.1.1.next.prepared.entry ∙ next.prepared.entry) in
              let same_seq : p.entry.seq ≡ seq = now_next.next.seq ∙ sym number in
              let named : c ≡ event.Commit s.waits.0.pass claimed.run seq s.waits.1.0.outcome = λ i. event.Commit s.waits.0.pass (runs i) (same_seq i) s.waits.1.0.outcome in
              let was : (world_after o (front ++ c ∷ [])).durable ≡ (world_after o (before ++ e ∷ [])).durable = s.waits.1.1.next.world ∙ sym entered in
              log_on o (front ++ s.tail) ((before ++ e ∷ []) ++ []) past game journal base l durable
              (of_commits_on o (before ++ e ∷ []) [] l.entries
              (of_commits_by o (front ++ event.Commit s.waits.0.pass claimed.run seq s.waits.1.0.outcome ∷ []) (before ++ e ∷ []) l.entries
              (λ x. of_commit_later o front more pass s.waits.0.pass seq claimed.run f.outcome s.waits.1.0.outcome x unchanged (sym (ap (λ (y : Event). (world_after o (front ++ y ∷ [])).durable) (sym named) ∙ was)))
              (subst (λ (x : Event). AreOfCommits o (front ++ x ∷ []) l.entries) named ours)));
        }

-- where the store runs
pub runs_not : {A : Type 0} (n : ℕ) → Some n ≡ None → A
runs_not n same = absurd cc

-- while it runs and nothing waits, the files hold the world of its pass's front
pub holds_running : (o : Opened) (began : DiskHistory) (tells : Bool) (past : DiskHistory) (opening : Opening) (game : List ℕ) (journal : Journal) (base : Option ℕ) (front : List Event) (commits places : ℕ) → IsStored o began tells past opening game journal base front commits places None None → IsTrue tells
    → HoldsLog o front past game journal base
holds_running o began tells past opening game journal base front commits places s h =
    subst (λ (es : List Event). HoldsLog o es past game journal base) (append-nil front) (subst (λ (es : List Event). HoldsLog o (front ++ es) past game journal base) s.waits (s.holds h refl))

-- a record is put behind the last one
module _ (o : Opened) (began : DiskHistory) (tells : Bool) (old new : DiskHistory) (opening opening_after : Opening) (game : List ℕ) (journal after_journal : Journal) (base : Option ℕ) (front : List Event) (commits places : ℕ) (claimed : Claimed) (f : Finished) (p : Prepared) (payload : List ℕ)
    (s : IsStored o began tells old opening game journal base front commits places None None) (next : IsNextCommit o front claimed f p) (room : places ≡ places_of f.effects) (bytes : payload ≡ entries_spelling (p.entry ∷ []))
    (run : IsTrue tells → (header : List ℕ) (payloads : List (List ℕ)) → StandsAt journal.side journal.length old header payloads → Runs journal.side (HasOrNot header payloads payload) old new)
    (falls : IsTrue tells → (header : List ℕ) (payloads : List (List ℕ)) → StandsAt journal.side journal.length old header payloads → NeverFalls header journal.side old.clock new)
    (opened : opening_after ≡ opening) (side_is : after_journal.side ≡ journal.side) (epoch_is : after_journal.epoch ≡ journal.epoch) (format_is : after_journal.format ≡ journal.format) where
  abbrev last : Event
  last = commit_of claimed f p

  abbrev d : DurableWorld
  d = (world_after o front).durable

  abbrev w : DurableWorld
  w = (world_after o (front ++ last ∷ [])).durable

  held_now : IsTrue tells → HoldsLog o front old game journal base
  held_now h = holds_running o began tells old opening game journal base front commits places s h

  module _ (h : IsTrue tells) where
    abbrev held : HoldsNow old game journal d
    held = (held_now h).stands

    here : StandsAt journal.side journal.length old (header_spelling held.header) held.payloads
    here = held.store.stands

    outranked : IsOutranked held.header old (other_side journal.side)
    outranked = held.store.outranked

    next_is : HasWorld held.header (held.payloads ++ payload ∷ []) w
    next_is = next_world held.header held.payloads payload d w held.store.world (subst (λ (n : ℕ). Takes n d payload w) (sym s.format ∙ held.store.format) (takes o front claimed f p next payload bytes))

    grows : d.commits ≤ w.commits
    grows = let more : w.commits ≡ d.commits + 1 = ap (λ (x : DurableWorld). x.commits) next.world ∙ next.next.seq in omega (arith, more)

    recovering : Recovering (IsAfterSomeOrTail o front (last ∷ [])) old new
    recovering = let r = run h (header_spelling held.header) held.payloads here in record {
      later = r.later;
      kept = r.kept;
      each = λ t from to zero one left. ⊎_elim
          (λ was. (d, inl was, after_more o front (last ∷ []) d (after_all o front)))
          (λ is. (w, inl is, after_all o (front ++ last ∷ [])))
          (appended journal.side held.header held.payloads payload d w old new held.store.fits outranked held.store.world next_is r t from to zero one left);
    }

    since_appended : HasRecovered o began new front (last ∷ [])
    since_appended =
        let was : HasRecovered o began old front [] = subst (HasRecovered o began old front) s.waits (s.since h) in
        let r = run h (header_spelling held.header) held.payloads here in record {
          begun = omega (arith, was.begun, r.later);
          kept = λ t side le. r.kept t side (omega (arith, le, was.begun)) ∙ was.kept t side le;
          recovers = since_on (IsAfterSomeOrTail o front (last ∷ [])) began.clock old new
              (λ t from to. all_weakened (IsAfterSomeOrTail o front []) (IsAfterSomeOrTail o front (last ∷ [])) old t (λ x some. after_more o front (last ∷ []) x (untailed o front x some)) (was.recovers t from to)) recovering;
          held = held_on began.clock old new was.begun r.later r.kept was.held
              (append_held journal.side held.header held.payloads payload d w old new held.store.fits outranked held.store.world next_is grows r (falls h (header_spelling held.header) held.payloads here));
        }

    -- its entry is that of the commit
    entry_of_last : IsOfCommit o (front ++ last ∷ []) p.entry
    entry_of_last =
        let named : last ≡ event.Commit claimed.pass p.entry.run p.entry.seq f.outcome = λ i. event.Commit claimed.pass (ap (λ (x : Entry). x.run) (sym next.prepared.entry) i) p.entry.seq f.outcome in record {
          before = front;
          pass = claimed.pass;
          outcome = f.outcome;
          later = [];
          parts = ap (λ (x : Event). front ++ x ∷ []) named;
          changed = next.next.effects ∙ ap (effects d) (sym next.world ∙ ap (λ (x : Event). (world_after o (front ++ x ∷ [])).durable) named);
        }

    -- acknowledged, it has the world of the record
    holds_appended : StandsAt after_journal.side after_journal.length new (header_spelling held.header) (held.payloads ++ payload ∷ []) → HoldsLog o (front ++ last ∷ []) new game after_journal base
    holds_appended stands =
        let r = run h (header_spelling held.header) held.payloads here in
        let other : now new (other_side journal.side) ≡ now old (other_side journal.side) = r.other new.clock r.later (omega arith) in
        let l = held_now h in record {
          stands = record {
            header = held.header;
            payloads = held.payloads ++ payload ∷ [];
            ours = held.ours;
            store = record {
              fits = held.store.fits;
              here = refl;
              epoch = epoch_is ∙ held.store.epoch;
              format = format_is ∙ held.store.format;
              stands = stands;
              outranked = subst (λ (x : Side). IsOutranked held.header new (other_side x)) (sym side_is) (record {
                settled = other ∙ outranked.settled ∙ ap (λ (x : Disk). settled x.reads) (sym other);
                lesser = subst (λ (x : Disk). IsLesser held.header x.reads) (sym other) outranked.lesser;
              });
              world = next_is;
            };
          };
          first = l.first;
          entries = l.entries ++ p.entry ∷ [];
          log = log_push held.header held.payloads payload d w l.first l.entries p.entry l.log (record { are = subst (λ (n : ℕ). AreEntries n (p.entry ∷ [])) (sym s.format ∙ held.store.format) next.spelled; bytes = bytes }) next.next next.world;
          known = l.known;
          of_commits = of_commits_push o (front ++ last ∷ []) l.entries p.entry (of_commits_on o front (last ∷ []) l.entries l.of_commits) entry_of_last;
        }

  -- with the record waiting, or its tail where the disk failed
  pub store_appended : (faults : Option ℕ) → (IsTrue tells → faults ≡ None → (header : List ℕ) (payloads : List (List ℕ)) → StandsAt journal.side journal.length old header payloads → StandsAt after_journal.side after_journal.length new header (payloads ++ payload ∷ []))
      → IsStored o began tells new opening_after game after_journal base front commits places (Some p) faults
  store_appended faults acknowledged = record {
    lawful = s.lawful;
    legal = s.legal;
    counted = s.counted;
    is_open = subst IsOpen (sym opened) s.is_open;
    format = format_is ∙ s.format;
    tail = last ∷ [];
    waits = (claimed, (f, record { next = next; kept = room; is_tail = refl }));
    since = λ h. since_appended h;
    holds = λ h running. holds_appended h (acknowledged h running (header_spelling (held h).header) (held h).payloads (here h));
  }

  -- whatever the journal answered
  pub store_settled : (r : Result (Unit {0}) JournalRefused) (n : ℕ) → (IsTrue tells → OnOk r ((header : List ℕ) (payloads : List (List ℕ)) → StandsAt journal.side journal.length old header payloads → StandsAt after_journal.side after_journal.length new header (payloads ++ payload ∷ [])))
      → ((m : ℕ) → IsErrOf r (journal_refused.Full m) → new ≡ old) → OnErr r (after_journal ≡ journal) → IfErr r IsAppendFault → IsStored o began tells new opening_after game after_journal base front commits places (waiting_after r p) (faults_after r n)
  store_settled (Ok x) n acknowledged untouched same only = store_appended None (λ h running. acknowledged h)
  store_settled (Err journal_refused.DiskFault) n acknowledged untouched same only = store_appended (Some n) (λ h stopped. runs_not n stopped)
  store_settled (Err (journal_refused.Full m)) n acknowledged untouched same only =
      subst (λ (j : Journal). IsStored o began tells new opening_after game j base front commits places None None) (sym same)
      (subst (λ (x : DiskHistory). IsStored o began tells x opening_after game journal base front commits places None None) (sym (untouched m refl))
      (subst (λ (x : Opening). IsStored o began tells old x game journal base front commits places None None) (sym opened) s))
  store_settled (Err (journal_refused.NotAStore at)) n acknowledged untouched same only = absurd only
  store_settled (Err (journal_refused.Damaged at)) n acknowledged untouched same only = absurd only
  store_settled (Err journal_refused.NoMemory) n acknowledged untouched same only = absurd only

-- what waits is this
pub as_waiting : {o : Opened} {began : DiskHistory} {tells : Bool} {past : DiskHistory} {opening : Opening} {game : List ℕ} {journal : Journal} {base : Option ℕ} {front : List Event} {commits places : ℕ} {faults : Option ℕ} (v w : Option Prepared) → v ≡ w
    → IsStored o began tells past opening game journal base front commits places v faults → IsStored o began tells past opening game journal base front commits places w faults
as_waiting {o = o} {began = began} {tells = tells} {past = past} {opening = opening} {game = game} {journal = journal} {base = base} {front = front} {commits = commits} {places = places} {faults = faults} v w same s =
    subst (λ (x : Option Prepared). IsStored o began tells past opening game journal base front commits places x faults) same s

pub as_faults : {o : Opened} {began : DiskHistory} {tells : Bool} {past : DiskHistory} {opening : Opening} {game : List ℕ} {journal : Journal} {base : Option ℕ} {front : List Event} {commits places : ℕ} {waiting : Option Prepared} (v w : Option ℕ) → v ≡ w
    → IsStored o began tells past opening game journal base front commits places waiting v → IsStored o began tells past opening game journal base front commits places waiting w
as_faults {o = o} {began = began} {tells = tells} {past = past} {opening = opening} {game = game} {journal = journal} {base = base} {front = front} {commits = commits} {places = places} {waiting = waiting} v w same s =
    subst (λ (x : Option ℕ). IsStored o began tells past opening game journal base front commits places waiting x) same s

pub as_front : {o : Opened} {began : DiskHistory} {tells : Bool} {past : DiskHistory} {opening : Opening} {game : List ℕ} {journal : Journal} {base : Option ℕ} {commits places : ℕ} {waiting : Option Prepared} {faults : Option ℕ} (v w : List Event) → v ≡ w
    → IsStored o began tells past opening game journal base v commits places waiting faults → IsStored o began tells past opening game journal base w commits places waiting faults
as_front {o = o} {began = began} {tells = tells} {past = past} {opening = opening} {game = game} {journal = journal} {base = base} {commits = commits} {places = places} {waiting = waiting} {faults = faults} v w same s =
    subst (λ (x : List Event). IsStored o began tells past opening game journal base x commits places waiting faults) same s

-- the journal stays on its side, in its epoch
pub kept_still : (side : Side) (journal after_journal : Journal) (base : Option ℕ) (begun first : ℕ) → after_journal.side ≡ journal.side → after_journal.epoch ≡ journal.epoch → IsKeptOn side journal base begun first → IsKeptOn side after_journal base begun first
kept_still side journal after_journal base begun first side_is epoch_is kept = record { here = side_is ∙ kept.here; same = kept.same; later = omega (arith, epoch_is, kept.later); most = kept.most }
