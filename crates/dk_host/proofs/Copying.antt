-- What a copy of the durable world tells.
use Rattle.std.proofs.Common.{◌≡◌, ℕ, Bool, List, [], ◌∷◌, ◌++◌, Option, None, Result, IfOk, refl, sym, ap, subst, ◌∙◌}
use Rattle.std.proofs.lemmas.List.{append-nil}
use Rattle.std.proofs.lemmas.Result.{IfOk-weaker}
use Rattle.dk_types.specs.declared.event.Event.{Event}
use Rattle.dk_types.specs.declared.durable.Durable.{Durable}
use Rattle.dk_types.specs.declared.fault.NoMemory.{NoMemory}
use Rattle.dk_disk.specs.DiskHistories.{DiskHistory}
use Rattle.dk_disk.specs.Opening.{Opening}
use Rattle.dk_model.specs.Images.{world_lists}
use Rattle.dk_model.specs.Legal.{Opened, world_after, IsLegal, commits_of, pass_of}
use Rattle.dk_model.specs.Worlds.{World}
use Rattle.dk_journal.specs.declared.journal.Journal.{Journal}
use Rattle.dk_core.specs.declared.world.Core.{Core}
use Rattle.dk_core.specs.Cores.{world_of}
use Rattle.dk_turn.specs.Fronts.{Known, Begins, Called}
use Rattle.dk_host.specs.Books.{IsKept}
use Rattle.dk_host.specs.Calls.{Entered, IsCopyAt}
use Rattle.dk_host.specs.Steps.{Adds, Copies, SeesLast, IsWhole}
use Rattle.dk_host.specs.Stores.{IsStored}
use Rattle.dk_host.proofs.Calling.{entered_by}
use Rattle.dk_host.proofs.Stepping.{adds, none_at, world_is}
use Rattle.dk_host.proofs.Storing.{store_on}

-- a step that leaves the core as it is adds nothing
module _ (o : Opened) (before : List Event) (c : Core) (total places : ℕ) (k : IsKept o before c total places) where
  pub adds_none : Adds o [] before []
  adds_none = adds o before c c total places k [] (none_at o before c c total places k refl)

  -- and a copy of the core's durable world is one of the history's
  pub copies : (r : Result Durable NoMemory) → IfOk r (λ d. d ≡ world_lists (world_of c).durable) → Copies o before r []
  copies r is = record {
    adds = adds_none;
    copied = IfOk-weaker r _ _ (λ d same. same ∙ ap (λ (x : World). world_lists x.durable) (world_is o before c k.1) ∙ ap (λ (es : List Event). world_lists (world_after o es).durable) (sym (append-nil before))) is;
  }

-- what a turn tells of a copy
module _ (o : Opened) (pass : ℕ) (r : Result Durable NoMemory) (old new : List Event) where
  pub copy_entered : Called pass_of pass (λ before added. Copies o before r added) old new → Entered o pass [] old new
  copy_entered c = entered_by o pass [] old new c c.given.adds

  pub copy_at : Called pass_of pass (λ before added. Copies o before r added) old new → IsCopyAt o new r
  copy_at c = subst (λ es. IsCopyAt o es r) (sym c.front) c.given.copied

-- the same for the store, whose watcher comes to the same front
module _ (o : Opened) (began : DiskHistory) (tells : Bool) (past : DiskHistory) (opening : Opening) (game : List ℕ) (journal : Journal) (base : Option ℕ) (front : List Event) (commits places : ℕ) (faults : Option ℕ) (s : IsStored o began tells past opening game journal base front commits places None faults)
    (p : Known Event) (new : List Event) (lent kept : ℕ) (whole : lent ≡ commits) (commits_after room parts others : ℕ) (Gives : List Event → List Event → Type 0) (sees : (before added : List Event) → Gives before added → SeesLast o lent before added)
    (c : Called pass_of p.number (λ before added. Begins front before × ((commits_after ≡ lent) × (room ≡ kept) × IsWhole parts others × Gives before added)) p.front new) where
  abbrev by : SeesLast o lent c.before c.added
  by = sees c.before c.added c.given.1.3

  before_is : new ≡ c.before
  before_is = c.front ∙ ap (λ es. c.before ++ es) by.adds.same ∙ append-nil c.before

  goes : new ≡ front ++ c.given.0.0
  goes = before_is ∙ sym c.given.0.1

  legal : IsLegal o new
  legal = subst (IsLegal o) (sym c.front) by.adds.legal

  pub seen_stored : IsStored o began tells past opening game journal base new commits_after room None faults
  seen_stored =
      let on = store_on o began tells past opening game journal base front c.given.0.0 commits places faults s (ap commits_of c.given.0.1 ∙ by.counted ∙ whole) (subst (IsLegal o) goes legal) room in
      subst (λ n. IsStored o began tells past opening game journal base new n room None faults) (sym (c.given.1.0 ∙ whole)) (subst (λ es. IsStored o began tells past opening game journal base es commits room None faults) (sym goes) on)

  pub seen_entered : Entered o p.number [] p.front new
  seen_entered = entered_by o p.number [] p.front new c by.adds
