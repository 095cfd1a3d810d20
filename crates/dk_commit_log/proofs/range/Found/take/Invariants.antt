use Rattle.std.proofs.Common.{◌≡◌, ◌+◌, ◌++◌, length}
use Rattle.std.specs.Vec.Iter.{into_iter_items}
use Rattle.dk_commit_log.specs.Ranges.{AreNumbered, between}
use Rattle.dk_commit_log.proofs.range.Found.take.Given as goal

-- what is numbered from here on is so from the start, and the other way round
abbrev pub invariant-each : goal.invariant-each
invariant-each l = record {
  range : (l.self.after ≡ l.fn.self.after) × (l.self.last ≡ l.fn.self.last);
  goes : AreNumbered (l.self.seen + 1) (into_iter_items l.entry-iterator) → AreNumbered (l.fn.self.seen + 1) (into_iter_items l.initial.entry-iterator);
  back : AreNumbered (l.fn.self.seen + 1) (into_iter_items l.initial.entry-iterator) → AreNumbered (l.self.seen + 1) (into_iter_items l.entry-iterator);
  counted : l.self.seen + length (into_iter_items l.entry-iterator) ≡ l.fn.self.seen + length (into_iter_items l.initial.entry-iterator);
  kept : l.self.entries.items ++ between l.fn.self.after l.fn.self.last (into_iter_items l.entry-iterator) ≡ l.fn.self.entries.items ++ between l.fn.self.after l.fn.self.last (into_iter_items l.initial.entry-iterator);
}
