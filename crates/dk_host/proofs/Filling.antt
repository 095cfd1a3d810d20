-- When the journal is full.
use Rattle.std.proofs.Common.{◌≡◌, ℕ, ◌+◌, min, Bool, IsTrue, List, [], ◌∷◌, length, Option, None, refl, sym, ap, subst, ◌∙◌}
use Rattle.dk_types.specs.Faults.{COUNT_END}
use Rattle.dk_types.specs.declared.durable.Entry.{Entry}
use Rattle.dk_types.specs.declared.event.Event.{Event}
use Rattle.dk_disk.specs.DiskHistories.{DiskHistory}
use Rattle.dk_disk.specs.Opening.{Opening}
use Rattle.dk_model.specs.Entries.{entries_spelling}
use Rattle.dk_model.specs.Legal.{Opened}
use Rattle.dk_journal.specs.declared.journal.Journal.{Journal}
use Rattle.dk_journal.specs.declared.refused.JournalRefused.{JournalRefused}
use Rattle.dk_journal.specs.declared.refused.JournalRefused.TheVariants as journal_refused
use Rattle.dk_journal.specs.Refusals.{IsAppendFault}
use Rattle.dk_txn.specs.declared.finished.Finished.{Finished}
use Rattle.dk_core.specs.declared.answers.PrepareRefused.{PrepareRefused}
use Rattle.dk_core.specs.declared.answers.PrepareRefused.TheVariants as prepare_refused
use Rattle.dk_core.specs.declared.claimed.Claimed.{Claimed}
use Rattle.dk_core.specs.declared.prepared.Prepared.{Prepared}
use Rattle.dk_host.specs.declared.refused.Why.{Why}
use Rattle.dk_host.specs.Commits.{IsPreparedAt}
use Rattle.dk_host.specs.Fulls.{next_entry, IsFullAt, IsFullBy}
use Rattle.dk_host.specs.Refusals.{IsWhyOfAppend, IsWhyOfLook}
use Rattle.dk_host.specs.Stores.{IsStored}
use Rattle.dk_host.proofs.Storing.{holds_running}

-- with the next record the journal would be so long
pub full_there : (o : Opened) (began : DiskHistory) (tells : Bool) (past : DiskHistory) (opening : Opening) (game : List ℕ) (journal : Journal) (base : Option ℕ) (front : List Event) (commits places : ℕ) → IsStored o began tells past opening game journal base front commits places None None → IsTrue tells
    → (claimed : Claimed) (f : Finished) (p : Prepared) → IsPreparedAt o front claimed f p → (payload : List ℕ) → payload ≡ entries_spelling (p.entry ∷ []) → (n : ℕ) → n ≡ min (journal.length + (5 + length payload)) COUNT_END → IsFullAt o front claimed f n
full_there o began tells past opening game journal base front commits places s h claimed f p prepared payload bytes n is =
    let there = holds_running o began tells past opening game journal base front commits places s h in
    let spelled : payload ≡ entries_spelling (next_entry o front claimed f ∷ []) = bytes ∙ ap (λ (e : Entry). entries_spelling (e ∷ [])) prepared.entry in
    let place = there.stands.store.stands.place in
    record {
      header = there.stands.header;
      payloads = there.stands.payloads;
      first = there.first;
      entries = there.entries;
      log = there.log;
      of_commits = there.of_commits;
      would_be = is ∙ (λ i. min (place i + (5 + length (spelled i))) COUNT_END);
    }

-- where an append is refused so
pub append_full : (o : Opened) (front : List Event) (claimed : Claimed) (f : Finished) (refused : JournalRefused) (w : Why) → IsAppendFault refused → IsWhyOfAppend refused w → ((n : ℕ) → refused ≡ journal_refused.Full n → IsFullAt o front claimed f n) → IsFullBy o front claimed f w
append_full o front claimed f journal_refused.DiskFault w may is full = subst (IsFullBy o front claimed f) (sym is) tt
append_full o front claimed f (journal_refused.Full n) w may is full = subst (IsFullBy o front claimed f) (sym is) (full n refl)
append_full o front claimed f (journal_refused.NotAStore at) w may is full = absurd may
append_full o front claimed f (journal_refused.Damaged at) w may is full = absurd may
append_full o front claimed f journal_refused.NoMemory w may is full = absurd may

-- a look is refused for no such cause
pub look_full : (o : Opened) (front : List Event) (claimed : Claimed) (f : Finished) (refused : PrepareRefused) (w : Why) → IsWhyOfLook refused w → IsFullBy o front claimed f w
look_full o front claimed f (prepare_refused.Retry c) w is = subst (IsFullBy o front claimed f) (sym is) tt
look_full o front claimed f prepare_refused.NoMemory w is = subst (IsFullBy o front claimed f) (sym is) tt
