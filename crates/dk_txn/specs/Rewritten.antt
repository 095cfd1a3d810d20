-- Objects that stand, and the changes that leave them with other bytes.
use Rattle.std.specs.Prelude.{◌≡◌, ◌⊎◌, ℕ, false, Some, List, [], ◌∷◌}
use Rattle.std.specs.FinMap as map
use Rattle.dk_types.specs.declared.number.ObjectId.{ObjectId}
use Rattle.dk_types.specs.declared.object.Object.{Object}
use Rattle.dk_types.specs.declared.item.Item.{Item}
use Rattle.dk_types.specs.declared.item.Item.TheVariants as ask
use Rattle.dk_types.specs.declared.fault.AppFault.{AppFault}
use Rattle.dk_model.specs.DurableWorlds.{DurableWorld, Agrees}
use Rattle.dk_model.specs.Runs.{is_reserved_kind}
use Rattle.dk_model.specs.Finishes.{IsNew}
use Rattle.dk_overlay.specs.declared.change.Change.{Change}
use Rattle.dk_overlay.specs.Changes.{value_now}
use Rattle.dk_overlay.specs.ReadsAndWrites.{ReadsAndWrites}
use Rattle.dk_txn.specs.Layers.{layered}
use Rattle.dk_txn.specs.Knowing.{IsSound}
use Rattle.dk_txn.specs.declared.refusal.Refusal.{Refusal}
use Rattle.dk_txn.specs.Refusals.{refusal_fault}

-- the object of one of these
abbrev pub IsObjectOf : {A : Type 0} → List (ObjectId × A) → Item → Type 0
IsObjectOf [] q = ⊥
IsObjectOf (one ∷ rest) q = (q ≡ ask.Object one.0) ⊎ IsObjectOf rest q

-- the change c leaves the object of p, which stands, with the bytes of p, and knows what was there before the run, whose reads and writes were `start` before it looked
pub record IsRewritten (start now : ReadsAndWrites) (p : ObjectId × List ℕ) (c : ObjectId × Change Object) : Type 0 where
  pub same_id : c.0 ≡ p.0
  pub object : Object
  pub stood : (d : DurableWorld) → Agrees d now.reads → map.get (layered value_now now.objects d.objects) p.0 ≡ Some object
  pub free : is_reserved_kind now.mode object.kind ≡ false
  pub after : c.1.after ≡ Some (record { kind = object.kind; bytes = p.1 })
  pub before : IsSound start → (d : DurableWorld) → Agrees d now.reads → IsNew d now.run → c.1.before ≡ map.get d.objects p.0

-- each of these changes does so, in their order
abbrev pub AreRewritten : ReadsAndWrites → ReadsAndWrites → List (ObjectId × List ℕ) → List (ObjectId × Change Object) → Type 0
AreRewritten start now [] [] = Unit {0}
AreRewritten start now [] (c ∷ changes) = ⊥
AreRewritten start now (p ∷ payloads) [] = ⊥
AreRewritten start now (p ∷ payloads) (c ∷ changes) = IsRewritten start now p c × AreRewritten start now payloads changes

-- no agreeing world brings this refusal: it is want of memory, or there is no such world
abbrev pub NeverTold : ReadsAndWrites → Refusal → Type 0
NeverTold t e = (fault : AppFault) → refusal_fault e ≡ Some fault → (d : DurableWorld) → Agrees d t.reads → ⊥
