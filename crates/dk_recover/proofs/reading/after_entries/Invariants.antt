use Rattle.std.specs.List.{AllByRecursion}
use Rattle.std.specs.Vec.Iter.{into_iter_items}
use Rattle.dk_model.specs.DurableWorlds.{DurableWorld}
use Rattle.dk_model.specs.Entries.{IsEntry}
use Rattle.dk_model.specs.Recovered.{Follow}
use Rattle.dk_model.specs.Validity.{IsValid}
use Rattle.dk_recover.specs.Bytes.{EachHasBytes}
use Rattle.dk_recover.proofs.reading.after_entries.Given as goal

-- what follows from here follows from the start, and the other way round
abbrev pub invariant-loop-entry : goal.invariant-loop-entry
invariant-loop-entry l = record {
  valid : IsValid l.world;
  entries : AllByRecursion (IsEntry 2) (into_iter_items l.entry-iterator);
  bytes : EachHasBytes (into_iter_items l.entry-iterator);
  goes : (last : DurableWorld) → Follow l.world (into_iter_items l.entry-iterator) last → Follow l.fn.world (into_iter_items l.initial.entry-iterator) last;
  back : (last : DurableWorld) → Follow l.fn.world (into_iter_items l.initial.entry-iterator) last → Follow l.world (into_iter_items l.entry-iterator) last;
}
