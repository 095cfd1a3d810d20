-- A store that was opened for a command, and what is known of it before anything is done there.
use Rattle.std.proofs.Common.{◌≡◌, Bool, IsTrue, List, ℕ, Ok, subst}
use Rattle.dk_types.specs.declared.side.Side.TheVariants.{Zero, One}
use Rattle.dk_disk.specs.DiskHistories.{DiskHistory}
use Rattle.dk_model.specs.Events.{Meaning}
use Rattle.dk_model.specs.Lawful.{AreLawful}
use Rattle.dk_model.specs.Stores.{standing}
use Rattle.dk_model.specs.Validity.{IsValid}
use Rattle.dk_recover.specs.Recovery.{IsOurs}
use Rattle.dk_core.specs.Listings.{world_of}
use Rattle.dk_host.specs.OpenedStores.{IsLeft, IsOpenAnswer, KeepsWorld}
use Rattle.dk_host.specs.declared.standing.Stood.{Stood}
use Rattle.darkstar.specs.Reports.{Holds, bytes_of}
use Rattle.darkstar.specs.Runs.{PlayTerms}

-- it was opened by these terms on files that held its world, and that world is kept
pub record OpenedOn (terms : PlayTerms) (tells : Bool) (old mid : DiskHistory) (stood : Stood) : Type 0 where
  pub lawful : AreLawful terms.rules
  pub valid : IsValid (world_of stood.durable)
  pub held : IsTrue tells → Holds old (world_of stood.durable)
  pub ours : IsTrue tells → IsOurs (bytes_of old Zero) (bytes_of old One) terms.game
  pub left : IsTrue tells → IsLeft (standing (bytes_of old Zero) (bytes_of old One)) stood
  pub keeps : IsTrue tells → KeepsWorld (world_of stood.durable) old mid

-- by what the call that opened it promises
pub opened_on : {terms : PlayTerms} {tells : Bool} {old mid : DiskHistory} {stood : Stood} {rules : Meaning} {id : List ℕ} → AreLawful rules → rules ≡ terms.rules → id ≡ terms.game → IsValid (world_of stood.durable)
    → (IsTrue tells → IsOpenAnswer (bytes_of old Zero) (bytes_of old One) id (Ok stood)) → (IsTrue tells → KeepsWorld (world_of stood.durable) old mid) → OpenedOn terms tells old mid stood
opened_on {terms} {tells} {old} lawful by_rules by_id valid answer keeps = record {
  lawful = subst AreLawful by_rules lawful;
  valid = valid;
  held = λ told. (answer told).1;
  ours = λ told. subst (IsOurs (bytes_of old Zero) (bytes_of old One)) by_id (answer told).0;
  left = λ told. (answer told).2;
  keeps = keeps;
}
