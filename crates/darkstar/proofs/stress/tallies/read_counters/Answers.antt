use Rattle.std.proofs.Common.{ℕ, ◌+◌, [], ◌∷◌, ◌++◌, List, sym, subst}
use Rattle.darkstar.specs.Tallies.{AreCountsIn, IsCountIn, ReadsCounters}
use Rattle.darkstar.proofs.Resting.{reads_then}
use Rattle.darkstar.proofs.Tallying.{counts_push}
use Rattle.darkstar.proofs.stress.tallies.read_counters.Goals as goal

pub loop-number-preserved : goal.loop-number-preserved
loop-number-preserved g c =
    let o = g.W.Hosting.opened in
    let n = g.J.Naming.name.passes in
    let old = c.args.pass.now in
    let mid = c.loop-number.pass in
    let new = c.read_counter.new.pass in
    let k = c.loop-number.number in
    let counts = c.loop-number.counts.items in
    let count = c.in_ok-count.count in
    subst (λ (items : List ℕ). ReadsCounters o n (k + 1) old new items) (sym c.in_ok-push.ensures.items)
    (reads_then o n (λ d. AreCountsIn d k counts) (λ d. IsCountIn d k count) (λ d. AreCountsIn d (k + 1) (counts ++ count ∷ [])) old mid new (λ d a b. counts_push d k count counts a b) c.loop-number.invariant c.in_ok-count.ensures)
