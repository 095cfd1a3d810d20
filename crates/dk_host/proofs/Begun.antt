-- A store as it is opened.
use Rattle.std.proofs.Common.{◌≡◌, ℕ, Bool, IsTrue, List, [], ◌++◌, Option, Some, None, refl, sym, ap, subst, ◌∙◌}
use Rattle.dk_types.specs.declared.event.Event.{Event}
use Rattle.dk_types.specs.declared.side.Side.{Side}
use Rattle.dk_disk.specs.DiskHistories.{DiskHistory}
use Rattle.dk_disk.specs.Opening.{Opening, IsOpen}
use Rattle.dk_model.specs.DurableWorlds.{DurableWorld}
use Rattle.dk_model.specs.Lawful.{AreLawful}
use Rattle.dk_model.specs.Legal.{Opened, opening_of, IsLegal, commits_of}
use Rattle.dk_model.specs.Openings.{opening}
use Rattle.dk_model.specs.Tails.{IsAfterSomeOrTail}
use Rattle.dk_model.specs.Validity.{IsValid}
use Rattle.dk_journal.specs.declared.journal.Journal.{Journal}
use Rattle.dk_journal.specs.Recoveries.{IsWorld}
use Rattle.dk_journal.specs.Stores.{HasStore}
use Rattle.dk_journal.proofs.Recoveries.{all_weakened}
use Rattle.dk_journal.proofs.Stores.{store_recovers}
use Rattle.dk_checkpoint.proofs.Held.{now_held}
use Rattle.dk_host.specs.OpenedStores.{HoldsStore}
use Rattle.dk_host.specs.Stores.{HasRecovered, HoldsNow, HoldsLog, IsStored}
use Rattle.dk_host.proofs.Logged.{log_begins}
use Rattle.dk_host.proofs.Settling.{none_done}

-- it stands on the opened world, and its pass has seen nothing
pub store_begins : (o : Opened) (began : DiskHistory) (tells : Bool) (past : DiskHistory) (opens : Opening) (game : List ℕ) (journal : Journal) (base : Option ℕ) (front : List Event) (commits places : ℕ) → AreLawful o.rules → IsValid o.durable → front ≡ [] → commits ≡ 0 → ((n : ℕ) → base ≡ Some n → (n ≡ 0) × (journal.epoch ≡ 0)) → IsOpen opens → journal.format ≡ 2
    → (IsTrue tells → HoldsNow past game journal o.durable) → (IsTrue tells → HasRecovered o began past [] []) → IsStored o began tells past opens game journal base front commits places None None
unfolding opening
store_begins o began tells past opens game journal base front commits places lawful valid none zero_commits known is_open format holds since = record {
  lawful = lawful;
  legal = subst (IsLegal o) (sym none) (record { valid = valid; within = tt; history = record { last = opening_of o; leads = refl } });
  counted = zero_commits ∙ sym (ap commits_of none);
  is_open = is_open;
  format = format;
  tail = [];
  waits = refl;
  since = λ h. subst (λ (es : List Event). HasRecovered o began past es []) (sym none) (since h);
  holds = λ h running. subst (λ (es : List Event). HoldsLog o (es ++ []) past game journal base) (sym none) (log_begins o past game journal base [] (holds h) refl known);
}

-- the files as the host is opened on them: they hold its world, and nothing has come since
module _ (o : Opened) (past : DiskHistory) (journal : Journal) (side : Side) (game : List ℕ) (d : DurableWorld) (h : HoldsStore past journal side game d) (same : d ≡ o.durable) where
  pub holds_now : HoldsNow past game journal o.durable
  holds_now = subst (HoldsNow past game journal) same (record { header = h.header; payloads = h.payloads; ours = h.ours; store = subst (λ (s : Side). HasStore past s journal h.header h.payloads d) (sym h.store.here) h.store })

  opens_to : (x : DurableWorld) → IsWorld d x → IsAfterSomeOrTail o [] [] x
  unfolding opening
  opens_to x is = record { front = []; later = []; parts = refl; world = is ∙ same }

  pub recovered_now : HasRecovered o past past [] []
  recovered_now =
      let run = none_done (IsAfterSomeOrTail o [] []) past (all_weakened (IsWorld d) (IsAfterSomeOrTail o [] []) past past.clock opens_to (store_recovers past side journal h.header h.payloads d h.store)) in record {
        begun = run.later;
        kept = run.kept;
        recovers = run.each;
        held = now_held past;
      }
