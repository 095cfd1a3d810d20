-- What the files hold when a host ends.
use Rattle.std.proofs.Common.{◌≡◌, ℕ, Bool, IsTrue, List, [], ◌++◌, Option, Some, None, refl, sym, ap, subst, ◌∙◌, arith}
use Rattle.std.proofs.lemmas.List.{append-nil}
use Rattle.dk_types.specs.declared.event.Event.{Event}
use Rattle.dk_types.specs.declared.side.Side.{Side}
use Rattle.dk_types.specs.declared.side.Side.TheVariants.{Zero, One}
use Rattle.dk_disk.specs.DiskHistories.{DiskHistory, now, other_side}
use Rattle.dk_disk.specs.Opening.{Opening}
use Rattle.dk_model.specs.DurableWorlds.{DurableWorld}
use Rattle.dk_model.specs.Legal.{Opened, opening_of, world_after, commits_of}
use Rattle.dk_model.specs.Recovered.{file_on}
use Rattle.dk_model.specs.Stores.{StoreHeader, Reads, header_spelling}
use Rattle.dk_model.specs.Tails.{IsTail}
use Rattle.dk_laws.proofs.Between.{commits_of-append, commits_change}
use Rattle.dk_journal.specs.declared.journal.Journal.{Journal}
use Rattle.dk_journal.specs.Recoveries.{AllRecover, IsWorld}
use Rattle.dk_journal.specs.Ranks.{IsLesser}
use Rattle.dk_journal.specs.Stores.{HasStore}
use Rattle.dk_journal.proofs.Seen.{live}
use Rattle.dk_journal.proofs.Standings.{wins}
use Rattle.dk_journal.proofs.Stores.{store_recovers, store_settled}
use Rattle.dk_core.specs.declared.prepared.Prepared.{Prepared}
use Rattle.dk_turn.specs.Fronts.{Begins}
use Rattle.dk_host.specs.Stores.{Waits, IsStored, EndsAs, StandsAs}

tail_is : (o : Opened) (front : List Event) (places : ℕ) (waiting : Option Prepared) (tail : List Event) → Waits o front places waiting tail → IsTail o front tail
tail_is o front places None tail w = subst (IsTail o front) (sym w) tt
tail_is o front places (Some p) tail w = subst (IsTail o front) (sym w.1.1.is_tail) w.1.1.next.may

-- a file as it reads, by its side
read_on : (past : DiskHistory) (s : Side) → file_on s (now past Zero).reads (now past One).reads ≡ (now past s).reads
read_on past Zero = refl
read_on past One = refl

-- the store that the type keeps stands by the table
stands_as : (past : DiskHistory) (journal : Journal) (header : StoreHeader) (payloads : List (List ℕ)) (d : DurableWorld) → HasStore past journal.side journal header payloads d → StandsAs past journal.epoch
stands_as past journal header payloads d store = record {
  side = journal.side;
  header = header;
  table = wins journal.side header (now past Zero).reads (now past One).reads
      (live (file_on journal.side (now past Zero).reads (now past One).reads) header payloads store.fits (subst (λ (f : List ℕ). Reads f (header_spelling header) payloads) (sym (read_on past journal.side)) store.stands.reads))
      (subst (IsLesser header) (sym (read_on past (other_side journal.side))) store.outranked.lesser);
  counted = store.epoch;
  rests = store_settled past journal.side journal header payloads d store;
}

pub ends : (o : Opened) (began : DiskHistory) (tells : Bool) (past : DiskHistory) (opens : Opening) (game : List ℕ) (journal : Journal) (base : Option ℕ) (front : List Event) (commits places : ℕ) (waiting : Option Prepared) (faults : Option ℕ) → IsStored o began tells past opens game journal base front commits places waiting faults
    → (faults ≡ None → waiting ≡ None) → (log : List Event) → Begins front log → commits ≡ commits_of log → IsTrue tells → EndsAs o began past log faults journal.epoch
ends o began tells past opens game journal base front commits places waiting faults s free log goes same h =
    let both = commits_of-append front goes.0 in
    let long = ap commits_of goes.1 in
    let none : commits_of goes.0 ≡ 0 = omega (arith, both, long, same, s.counted) in record {
      front = front;
      later = goes.0;
      tail = s.tail;
      all = sym goes.1;
      none = none;
      is_tail = tail_is o front places waiting s.tail s.waits;
      whole = λ running. subst (λ (w : Option Prepared). Waits o front places w s.tail) (free running) s.waits;
      since = s.since h;
      now = λ running.
          let store = (s.holds h running).stands in
          let empty : s.tail ≡ [] = subst (λ (w : Option Prepared). Waits o front places w s.tail) (free running) s.waits in
          let durable : (world_after o (front ++ s.tail)).durable ≡ (world_after o log).durable
          = ap (λ (es : List Event). (world_after o (front ++ es)).durable) empty ∙ ap (λ (es : List Event). (world_after o es).durable) (append-nil front)
          ∙ sym (commits_change o.rules (opening_of o) front goes.0 s.lawful none).durable ∙ ap (λ (es : List Event). (world_after o es).durable) goes.1 in
          subst (λ (d : DurableWorld). AllRecover (IsWorld d) past past.clock) durable (store_recovers past journal.side journal store.header store.payloads (world_after o (front ++ s.tail)).durable store.store);
      stands = λ running. stands_as past journal (s.holds h running).stands.header (s.holds h running).stands.payloads (world_after o (front ++ s.tail)).durable (s.holds h running).stands.store;
    }
