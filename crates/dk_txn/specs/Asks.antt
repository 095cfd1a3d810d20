-- What a run asks its view for.
use Rattle.std.specs.Prelude.{◌≡◌, ◌⊎◌, ℕ, true, is_some, Option, Some, None, List, [], ◌∷◌, ◌++◌}
use Rattle.std.specs.List.{AllByRecursion}
use Rattle.std.specs.FinMap.{get}
use Rattle.dk_types.specs.declared.item.Item.{Item}
use Rattle.dk_types.specs.declared.item.Item.TheVariants as ask
use Rattle.dk_types.specs.declared.item.Read.{Read}
use Rattle.dk_overlay.specs.Asked.{WasNotRead}
use Rattle.dk_overlay.specs.ReadsAndWrites.{ReadsAndWrites}
use Rattle.dk_txn.specs.declared.txn.Txn.{Txn}
use Rattle.dk_txn.specs.Sights.{Sights}

-- what is kept of an answer: the read, or nothing where the answer was lost for want of memory
abbrev pub kept : Item → Option Read → List (Item × Read)
kept item None = []
kept item (Some read) = (item, read) ∷ []

-- The view was asked for these items one after another, each of them not read by then; so the one became the other, and the reads grew by the answers.
abbrev pub AskedInTurn : {S : Type 0} → Sights S → S → List (Item × Read) → List (Item × Option Read) → S → List (Item × Read) → Type 0
AskedInTurn sights u reads [] v after = (v ≡ u) × (after ≡ reads)
AskedInTurn {S} sights u reads (q ∷ asks) v after = WasNotRead reads q.0 × ((w : S) × sights.asked u q.0 w × AskedInTurn sights w (reads ++ kept q.0 q.1) asks v after)

-- A call asks the view for items of a kind alone, and for each that was read already not again. What it reads more is what it asked for.
pub record AsksOf {S : Type 0} (Of : Item → Type 0) (sights : Sights S) (a b : Txn S ReadsAndWrites) : Type 0 where
  pub asks : List (Item × Option Read)
  pub each : AllByRecursion (λ q. Of q.0) asks
  pub in_turn : AskedInTurn sights a.view.now a.set.reads asks b.view.now b.set.reads

-- the same for this item alone
abbrev pub Asks : {S : Type 0} → Item → Sights S → Txn S ReadsAndWrites → Txn S ReadsAndWrites → Type 0
Asks item = AsksOf (λ q. q ≡ item)

-- the same for any items
abbrev pub AsksAny : {S : Type 0} → Sights S → Txn S ReadsAndWrites → Txn S ReadsAndWrites → Type 0
AsksAny = AsksOf (λ q. Unit {0})

-- A call asks the view for nothing: it is as it was, and so are the reads.
pub record AsksNothing {S : Type 0} (a b : Txn S ReadsAndWrites) : Type 0 where
  pub same_view : b.view.now ≡ a.view.now
  pub same_reads : b.set.reads ≡ a.set.reads

-- A view was asked for these reads' items one after another, each of them once, as the one became the other. Asked for and not read is only what was lost for want of memory.
abbrev pub IsAskedOnce : {S : Type 0} → Sights S → S → S → List (Item × Read) → Type 0
IsAskedOnce sights u v reads = (asks : List (Item × Option Read)) × AskedInTurn sights u [] asks v reads

-- one of two items
abbrev pub EitherOf : Item → Item → Item → Type 0
EitherOf one other q = (q ≡ one) ⊎ (q ≡ other)

-- the name behind this one, or behind one that the run has changed
abbrev pub IsNext : ReadsAndWrites → Option (List ℕ) → Item → Type 0
IsNext t after q = (q ≡ ask.NextAfter after) ⊎ ((name : List ℕ) × (q ≡ ask.NextAfter (Some name)) × (is_some (get t.names name) ≡ true))
