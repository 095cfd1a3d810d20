use Rattle.std.proofs.Common.{rules, ap, ℕ, List, Bor}
use Rattle.dk_edge.proofs.KnownBytes.{written_more, written_same}
use Rattle.dk_edge.proofs.std_streams.StdSinkSink.put.Goals as goal
use Rattle.dk_edge.proofs.std_streams.StdSinkSink.put.Goals.{in-Ok, in-Err}

pub loop-preserved : goal.loop-preserved
loop-preserved g c = record {
  faults = search rules;
  put =
      elim c.match-write.branch [
        | in-Ok w ↦ written_more _ _ _ _ _ _ w.in-Ok.count c.loop.invariant.put w.in-Ok.ensures.bytes w.in-Ok.ensures.bound (ap (λ (r : Bor (List ℕ)). r.now) w.rest-is)
        | in-Err w ↦ rw (ap (λ (r : Bor (List ℕ)). r.now) w.rest-is) (written_same _ _ _ _ _ c.loop.invariant.put w.in-Err.ensures.bytes)
      ];
}
