-- What the store keeps where it is written anew.
use Rattle.std.proofs.Common.{◌≡◌, ⊎_elim, ℕ, ◌≤◌, Bool, IsTrue, List, [], Option, Some, None, Result, Ok, Err, IfOk, refl, sym, ap, subst, ◌∙◌, arith}
use Rattle.std.proofs.lemmas.List.{append-nil}
use Rattle.dk_types.specs.declared.durable.Durable.{Durable}
use Rattle.dk_types.specs.declared.event.Event.{Event}
use Rattle.dk_types.specs.declared.limits.TheConstants.{NUMBERS_END}
use Rattle.dk_types.specs.declared.side.Side.{Side}
use Rattle.dk_disk.specs.DiskHistories.{DiskHistory}
use Rattle.dk_disk.specs.Opening.{Opening, IsOpen}
use Rattle.dk_model.specs.DurableWorlds.{DurableWorld}
use Rattle.dk_model.specs.Images.{image_spelling, world_lists}
use Rattle.dk_model.specs.Legal.{Opened, world_after}
use Rattle.dk_model.specs.Stores.{StoreHeader}
use Rattle.dk_model.specs.Tails.{IsAfterSome, IsAfterSomeOrTail}
use Rattle.dk_model.proofs.Tails.{after_all, after_more}
use Rattle.dk_journal.specs.declared.journal.Journal.{Journal}
use Rattle.dk_journal.specs.Recoveries.{Recovering, HeldNeverFalls, IsEither}
use Rattle.dk_journal.specs.Stores.{HasStore}
use Rattle.dk_journal.proofs.Recoveries.{recovering_weakened, since_on, held_on}
use Rattle.dk_checkpoint.specs.Given.{IsGiven, next_header, only_image}
use Rattle.dk_checkpoint.specs.Refusals.{HasBegun}
use Rattle.dk_checkpoint.specs.declared.refused.CheckpointRefused.{CheckpointRefused as NotWritten}
use Rattle.dk_checkpoint.specs.declared.refused.CheckpointRefused.TheVariants as not_written
use Rattle.dk_core.specs.declared.prepared.Prepared.{Prepared}
use Rattle.dk_host.specs.Checkpoints.{faults_after, image_after}
use Rattle.dk_host.specs.Stores.{HasRecovered, HoldsNow, HoldsLog, IsStored}
use Rattle.dk_host.proofs.Logged.{log_of_image}
use Rattle.dk_host.proofs.Nexts.{sound}
use Rattle.dk_host.proofs.Storing.{holds_running}

-- what is told of what an answer gives
pub at_ok : {A E : Type 0} (P : A → Type 0) (r : Result A E) (x : A) → r ≡ Ok x → IfOk r P → P x
at_ok P r x is h = subst (λ q. IfOk q P) is h

-- a world has no more commits than there are numbers
pub world_within : (o : Opened) (began : DiskHistory) (tells : Bool) (past : DiskHistory) (opening : Opening) (game : List ℕ) (journal : Journal) (base : Option ℕ) (front : List Event) (commits places : ℕ) {waiting : Option Prepared} {faults : Option ℕ} → IsStored o began tells past opening game journal base front commits places waiting faults → (lists : Durable) → lists ≡ world_lists (world_after o front).durable
    → (n : ℕ) → Some lists.commits ≡ Some n → n ≤ NUMBERS_END
world_within o began tells past opening game journal base front commits places s lists given n is =
    let valid = (sound o front s.lawful s.legal).valid in
    let same : lists.commits ≡ n = cc in
    let there = ap (λ (x : Durable). x.commits) given in
    omega (arith, valid.commits, valid.last, same, there)

module _ (o : Opened) (began : DiskHistory) (tells : Bool) (old : DiskHistory) (opening : Opening) (game : List ℕ) (journal : Journal) (base : Option ℕ) (side : Side) (front : List Event) (commits places : ℕ) (lists : Durable)
    (s : IsStored o began tells old opening game journal base front commits places None None) (here : journal.side ≡ side) (given : lists ≡ world_lists (world_after o front).durable) where
  abbrev d : DurableWorld
  d = (world_after o front).durable

  held : IsTrue tells → HoldsNow old game journal d
  held h = (holds_running o began tells old opening game journal base front commits places s h).stands

  -- the store's own world is what is given
  is_given : (h : IsTrue tells) → IsGiven old side journal lists (held h).header (held h).payloads d d
  is_given h = subst (λ (x : Side). IsGiven old x journal lists (held h).header (held h).payloads d d) here (record {
    store = (held h).store;
    listed = sym given;
    valid = (sound o front s.lawful s.legal).valid;
  })

  module _ (new : DiskHistory) (opening_after : Opening) (opened : opening_after ≡ opening)
      (run : IsTrue tells → (header : StoreHeader) (payloads : List (List ℕ)) (before after : DurableWorld) → IsGiven old side journal lists header payloads before after → Recovering (IsEither before after) old new)
      (falls : IsTrue tells → (header : StoreHeader) (payloads : List (List ℕ)) (before after : DurableWorld) → IsGiven old side journal lists header payloads before after → before ≡ after → HeldNeverFalls old.clock new) where
    -- at each moment it recovers to the world that it had
    since_rewritten : IsTrue tells → HasRecovered o began new front []
    since_rewritten h =
        let was : HasRecovered o began old front [] = subst (HasRecovered o began old front) s.waits (s.since h) in
        let r = run h (held h).header (held h).payloads d d (is_given h) in
        let all : (x : DurableWorld) → x ≡ d → IsAfterSomeOrTail o front [] x = λ x e. after_more o front [] x (subst (IsAfterSome o front) (sym e) (after_all o front)) in record {
          begun = omega (arith, was.begun, r.later);
          kept = λ t at le. r.kept t at (omega (arith, le, was.begun)) ∙ was.kept t at le;
          recovers = since_on (IsAfterSomeOrTail o front []) began.clock old new was.recovers (recovering_weakened (IsEither d d) (IsAfterSomeOrTail o front []) old new (λ x either. ⊎_elim (λ (e : x ≡ d). all x e) (λ (e : x ≡ d). all x e) either) r);
          held = held_on began.clock old new was.begun r.later r.kept was.held (falls h (held h).header (held h).payloads d d (is_given h) refl);
        }

    -- where the disk failed
    store_stopped : (n : ℕ) → IsStored o began tells new opening_after game journal base front commits places None (Some n)
    store_stopped n = record {
      lawful = s.lawful;
      legal = s.legal;
      counted = s.counted;
      is_open = subst IsOpen (sym opened) s.is_open;
      format = s.format;
      tail = [];
      waits = refl;
      since = since_rewritten;
      holds = λ h running. let no : Some n ≡ None = running in absurd cc;
    }

    -- where the other file stands
    pub store_anew : (made : Journal) (on : Side) (made_base : Option ℕ) → ((n : ℕ) → made_base ≡ Some n → d.commits ≡ n) → made.side ≡ on → made.format ≡ 2
        → (IsTrue tells → (header : StoreHeader) (payloads : List (List ℕ)) (before after : DurableWorld) → IsGiven old side journal lists header payloads before after → HasStore new on made (next_header game header.epoch) (only_image lists) after)
        → IsStored o began tells new opening_after game made made_base front commits places None None
    store_anew made on made_base known is_on format stands = record {
      lawful = s.lawful;
      legal = s.legal;
      counted = s.counted;
      is_open = subst IsOpen (sym opened) s.is_open;
      format = format;
      tail = [];
      waits = refl;
      since = since_rewritten;
      holds = λ h running.
          let anew : HoldsNow new game made d = record {
            header = next_header game (held h).header.epoch;
            payloads = only_image lists;
            ours = refl;
            store = subst (λ (x : Side). HasStore new x made (next_header game (held h).header.epoch) (only_image lists) d) (sym is_on) (stands h (held h).header (held h).payloads d d (is_given h));
          } in
          subst (λ (es : List Event). HoldsLog o es new game made made_base) (sym (append-nil front)) (record {
            stands = anew;
            first = d;
            entries = [];
            log = log_of_image (next_header game (held h).header.epoch) (image_spelling lists) d (omega arith) anew.store.world;
            known = known;
            of_commits = tt;
          });
    }

    -- where nothing was written
    as_it_was : new ≡ old → IsStored o began tells new opening_after game journal base front commits places None None
    as_it_was same = subst (λ (x : DiskHistory). IsStored o began tells x opening_after game journal base front commits places None None) (sym same) (subst (λ (x : Opening). IsStored o began tells old x game journal base front commits places None None) (sym opened) s)

    -- whatever it was refused for
    pub store_refused : (e : NotWritten) (n : ℕ) → ((HasBegun {A = Journal × Side} (Err e) → ⊥) → new ≡ old) → IsStored o began tells new opening_after game journal base front commits places None (faults_after (Err e) n)
    store_refused not_written.DiskFault n untouched = store_stopped n
    store_refused (not_written.TooLarge m) n untouched = as_it_was (untouched (λ no. no))
    store_refused (not_written.EpochEnd m) n untouched = as_it_was (untouched (λ no. no))
    store_refused not_written.NoMemory n untouched = as_it_was (untouched (λ no. no))

-- what who asked is answered
module _ (o : Opened) (front : List Event) (epoch : ℕ) (lists : Durable) (given : lists ≡ world_lists (world_after o front).durable) where
  image_is : image_spelling lists ≡ image_after o front
  image_is = ap image_spelling given
