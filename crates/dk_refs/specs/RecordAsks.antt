-- What the calls that read a record under a platform name ask for.
use Rattle.std.specs.Prelude.{◌≡◌, ◌⊎◌, ℕ, Some, List}
use Rattle.dk_types.specs.declared.number.ObjectId.{ObjectId}
use Rattle.dk_types.specs.declared.item.Item.{Item}
use Rattle.dk_types.specs.declared.item.Item.TheVariants as ask
use Rattle.dk_model.specs.DurableWorlds.{DurableWorld, Agrees}
use Rattle.dk_overlay.specs.ReadsAndWrites.{ReadsAndWrites}
use Rattle.dk_txn.specs.Current.{current}
use Rattle.dk_refs.specs.Telling.{bound_to}

-- the platform name, or the object that it leads to in every agreeing world as it was before
abbrev pub IsOfRecord : ReadsAndWrites → ReadsAndWrites → List ℕ → Item → Type 0
IsOfRecord before after name q = (q ≡ ask.Bound name) ⊎ ((id : ObjectId) × (q ≡ ask.Object id) × ((d : DurableWorld) → Agrees d after.reads → bound_to name (current before d).world ≡ Some id))
