-- Which of a run's reads stand after a history, and the first that does not: what a run that has to be tried again is told.
use Rattle.std.specs.Prelude.{◌≡◌, ◌≢◌, Bool, true, false, nat_eq, List, ◌∷◌, ◌++◌}
use Rattle.std.specs.List.{AllByRecursion}
use Rattle.std.specs.Cmp.Lexicographic.{pointwise}
use Rattle.dk_types.specs.declared.item.Item.{Item}
use Rattle.dk_types.specs.declared.item.Read.{Read}
use Rattle.dk_types.specs.declared.item.Seen.{Seen}
use Rattle.dk_types.specs.declared.item.Seen.TheVariants as sight
use Rattle.dk_types.specs.declared.event.Event.{Event}
use Rattle.dk_model.specs.Effects.{same_value}
use Rattle.dk_model.specs.Worlds.{World}
use Rattle.dk_model.specs.Events.{Meaning}
use Rattle.dk_model.specs.Sights.{seen}

-- whether two sights are one
abbrev pub same_seen : Seen → Seen → Bool
same_seen sight.Absent sight.Absent = true
same_seen sight.Absent (sight.At m) = false
same_seen sight.Absent (sight.Next b) = false
same_seen (sight.At n) sight.Absent = false
same_seen (sight.At n) (sight.At m) = nat_eq n m
same_seen (sight.At n) (sight.Next b) = false
same_seen (sight.Next a) sight.Absent = false
same_seen (sight.Next a) (sight.At m) = false
same_seen (sight.Next a) (sight.Next b) = same_value (pointwise nat_eq) a b

-- each read saw what is seen after the events
abbrev pub StandAt : Meaning → World → List Event → List (Item × Read) → Type 0
StandAt rules w events reads = AllByRecursion (λ r. r.1.seen ≡ seen rules w events r.0) reads

-- a read that no longer stands: its item, what the read saw, and what is seen after the events
pub record Stale : Type 0 where
  pub item : Item
  pub found : Seen
  pub now : Seen

-- THE FIRST STALE READ, in the order of the reads: those before it stand after the events, and it does not
pub record IsFirstStale (rules : Meaning) (w : World) (events : List Event) (reads : List (Item × Read)) (stale : Stale) : Type 0 where
  pub before : List (Item × Read)
  pub read : Read
  pub behind : List (Item × Read)
  pub listed : reads ≡ before ++ (stale.item, read) ∷ behind
  pub stand : StandAt rules w events before
  pub found : stale.found ≡ read.seen
  pub now : stale.now ≡ seen rules w events stale.item
  pub differ : stale.found ≢ stale.now
