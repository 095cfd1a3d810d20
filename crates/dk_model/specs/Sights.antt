-- Stamps, and what a read sees.
use Rattle.std.specs.Prelude.{◌≡◌, ℕ, ◌&&◌, Bool, true, false, Option, Some, None, List, [], ◌∷◌, ◌++◌, nat_eq, is_some, if◌then◌else◌}
use Rattle.std.specs.List.{list_any}
use Rattle.std.specs.Cmp.Lexicographic.{pointwise}
use Rattle.std.specs.FinMap.{get}
use Rattle.dk_types.specs.declared.number.RunNo.{RunNo}
use Rattle.dk_types.specs.declared.number.TaskKey.{TaskKey}
use Rattle.dk_types.specs.declared.item.Item.{Item}
use Rattle.dk_types.specs.declared.item.Item.TheVariants as ask
use Rattle.dk_types.specs.declared.item.Seen.{Seen}
use Rattle.dk_types.specs.declared.item.Seen.TheVariants as sight
use Rattle.dk_types.specs.declared.item.Read.{Read}
use Rattle.dk_types.specs.declared.event.Event.{Event}
use Rattle.dk_types.specs.declared.event.Event.TheVariants as event
use Rattle.dk_types.specs.declared.event.ClaimReply.{ClaimReply}
use Rattle.dk_types.specs.declared.event.ClaimReply.TheVariants as claimed
use Rattle.dk_model.specs.DurableWorlds.{DurableWorld, next_name, answer}
use Rattle.dk_model.specs.Effects.{same_id}
use Rattle.dk_model.specs.Worlds.{World}
use Rattle.dk_model.specs.Steps.{Stepped}
use Rattle.dk_model.specs.Events.{Meaning}
use Rattle.dk_model.specs.Successors.{after_event, after_events, step_by}

-- whether two keys are those of one task
abbrev pub same_key : TaskKey → TaskKey → Bool
same_key a b = nat_eq a.run.0 b.run.0 && nat_eq a.k b.k

-- whether two items are the same object, bound name or task; a next name is never written
abbrev pub same_item : Item → Item → Bool
same_item (ask.Object a) (ask.Object b) = same_id a b
same_item (ask.Bound a) (ask.Bound b) = pointwise nat_eq a b
same_item (ask.Task a) (ask.Task b) = same_key a b
same_item _ _ = false

-- a step's own number where it wrote the item, and else the stamp from before
abbrev pub stamped_by : Item → ℕ → Option Stepped → ℕ
stamped_by item stamp None = stamp
stamped_by item stamp (Some s) = if list_any (same_item item) s.touched then s.world.commits else stamp

-- the number of the last commit of these events that wrote the item, or the stamp from before them
abbrev pub stamp_from : Meaning → World → ℕ → List Event → Item → ℕ
stamp_from rules w stamp [] item = stamp
stamp_from rules w stamp (e ∷ events) item = stamp_from rules (after_event rules w e) (stamped_by item stamp (step_by rules w e)) events item

-- the number of the last commit that wrote the item, or the number of commits at opening where none did
abbrev pub stamp : Meaning → World → List Event → Item → ℕ
stamp rules w events item = stamp_from rules w w.durable.commits events item

-- what is seen where something stands, with its stamp, or of nothing
abbrev pub seen_at : Bool → ℕ → Seen
seen_at true stamp = sight.At stamp
seen_at false stamp = sight.Absent

-- what a read of the item sees in a world where the item has this stamp
abbrev pub seen_in : DurableWorld → ℕ → Item → Seen
seen_in d stamp (ask.Object id) = seen_at (is_some (get d.objects id)) stamp
seen_in d stamp (ask.Bound name) = seen_at (is_some (get d.names name)) stamp
seen_in d stamp (ask.NextAfter after) = sight.Next (next_name d.names after)
seen_in d stamp (ask.Task key) = seen_at (is_some (get d.tasks key)) stamp

-- what a read of the item sees after the events
abbrev pub seen : Meaning → World → List Event → Item → Seen
seen rules w events item = seen_in (after_events rules w events).durable (stamp rules w events item) item

-- the read is what is answered and seen after the events
pub record IsReadAt (rules : Meaning) (w : World) (events : List Event) (item : Item) (read : Read) : Type 0 where
  pub answered : read.answer ≡ answer (after_events rules w events).durable item
  pub saw : read.seen ≡ seen rules w events item

-- whether a claim was granted to this run
abbrev pub is_claim_of : RunNo → ClaimReply → Bool
is_claim_of run (claimed.Granted r at job) = nat_eq r.0 run.0
is_claim_of run claimed.Nothing = false
is_claim_of run (claimed.Spent granted) = false
is_claim_of run (claimed.Exhausted next) = false

-- whether the event grants this run
abbrev pub grants : RunNo → Event → Bool
grants run (event.Claim pass reply) = is_claim_of run reply
grants run (event.Connect pass name reply) = false
grants run (event.Post pass conn input reply) = false
grants run (event.Release pass r) = false
grants run (event.Commit pass r seq outcome) = false
grants run (event.Hand pass conn most outs end) = false
grants run (event.Tick pass moment) = false

-- the read is what was answered and seen at some time since the run was granted
pub record IsHonestRead (rules : Meaning) (w : World) (events : List Event) (run : RunNo) (item : Item) (read : Read) : Type 0 where
  pub earlier : List Event
  pub later : List Event
  pub all : events ≡ earlier ++ later
  pub granted : list_any (grants run) earlier ≡ true
  pub was : IsReadAt rules w earlier item read
