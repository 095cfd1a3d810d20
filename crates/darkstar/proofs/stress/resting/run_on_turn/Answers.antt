use Rattle.std.proofs.Common.{◌≡◌, ◌+◌, [], ◌∷◌, ◌++◌, List, length, drop, sym, ap, subst, ◌∙◌, arith}
use Rattle.dk_types.specs.declared.event.Event.{Event}
use Rattle.dk_model.specs.Lawful.{AreLawful}
use Rattle.dk_turn.specs.Fronts.{Known}
use Rattle.dk_demos.specs.CountersLawful.{counters_lawful}
use Rattle.dk_workers.proofs.Closed.{fresh_of, size_of, seen_by, given_back}
use Rattle.darkstar.specs.Tallies.{IsTallied}
use Rattle.darkstar.proofs.Resting.{tally_seen}
use Rattle.darkstar.proofs.Tallying.{of_ok, tally_commits, tally_counts}
use Rattle.darkstar.proofs.stress.resting.run_on_turn.Goals as goal

pub open-opened-requires-clause-lawful : goal.open-opened-requires-clause-lawful
open-opened-requires-clause-lawful g c = subst AreLawful (sym c.requires.counters.rules) (counters_lawful c.args.game.now.seed c.args.game.now.tasks)

pub drain_and_read-read-requires-clause-count : goal.drain_and_read-read-requires-clause-count
drain_and_read-read-requires-clause-count g c loans lives =
    let ws = c.as_mut_slice.result.now in
    let main = c.in-Some.main in
    size_of g.J.Naming.name.passes c.in-Ok.opened.1.items ws main (c.in-Some.ensures.items ∙ ap (λ (ps : List (Known Event)). ps ++ main ∷ []) (sym c.as_mut_slice.ensures.value)) c.in-Ok.ensures.passes

pub drain_and_read-read-requires-clause-numbered : goal.drain_and_read-read-requires-clause-numbered
drain_and_read-read-requires-clause-numbered g c loans lives =
    let ws = c.as_mut_slice.result.now in
    let main = c.in-Some.main in
    (fresh_of g.J.Naming.name.passes c.in-Ok.opened.1.items ws main (c.in-Some.ensures.items ∙ ap (λ (ps : List (Known Event)). ps ++ main ∷ []) (sym c.as_mut_slice.ensures.value)) c.in-Ok.ensures.passes).numbered

pub drain_and_read-read-requires-clause-number : goal.drain_and_read-read-requires-clause-number
drain_and_read-read-requires-clause-number g c loans lives =
    let ws = c.as_mut_slice.result.now in
    let main = c.in-Some.main in
    (fresh_of g.J.Naming.name.passes c.in-Ok.opened.1.items ws main (c.in-Some.ensures.items ∙ ap (λ (ps : List (Known Event)). ps ++ main ∷ []) (sym c.as_mut_slice.ensures.value)) c.in-Ok.ensures.passes).number

pub drain_and_read-read-requires-clause-behind : goal.drain_and_read-read-requires-clause-behind
drain_and_read-read-requires-clause-behind g c loans lives =
    let ws = c.as_mut_slice.result.now in
    let main = c.in-Some.main in
    (fresh_of g.J.Naming.name.passes c.in-Ok.opened.1.items ws main (c.in-Some.ensures.items ∙ ap (λ (ps : List (Known Event)). ps ++ main ∷ []) (sym c.as_mut_slice.ensures.value)) c.in-Ok.ensures.passes).behind

pub drain_and_read-read-requires-clause-fresh : goal.drain_and_read-read-requires-clause-fresh
drain_and_read-read-requires-clause-fresh g c loans lives =
    let ws = c.as_mut_slice.result.now in
    let main = c.in-Some.main in
    (fresh_of g.J.Naming.name.passes c.in-Ok.opened.1.items ws main (c.in-Some.ensures.items ∙ ap (λ (ps : List (Known Event)). ps ++ main ∷ []) (sym c.as_mut_slice.ensures.value)) c.in-Ok.ensures.passes).fresh

pub returns-clause-commits : goal.returns-clause-commits
returns-clause-commits g c =
    let o = g.W.Hosting.opened in
    let count = g.J.Naming.name.passes in
    let ws = c.as_mut_slice.result.now in
    let new = c.drain_and_read-read.new in
    let log = c.close-closed.result.history in
    let counts = c.in_ok-counts.counts in
    let parts = c.in-Some.ensures.items ∙ ap (λ (ps : List (Known Event)). ps ++ c.in-Some.main ∷ []) (sym c.as_mut_slice.ensures.value) in
    let all = size_of count c.in-Ok.opened.1.items ws c.in-Some.main parts c.in-Ok.ensures.passes in
    let size : count ≡ length new.workers + 1 = omega (arith, all, c.drain_and_read-read.ensures.size) in
    let len : length new.workers ≡ c.pop.new.self.len = omega (arith, c.drain_and_read-read.ensures.size, c.as_mut_slice.ensures.len) in
    let back = given_back c.pop.new.self.len new.workers (drop (length new.workers) c.pop.new.self.items) len in
    let seen = seen_by count log new.workers new.main c.push_reserved.new.self.items (c.push_reserved.ensures.items ∙ ap (λ (ps : List (Known Event)). ps ++ new.main ∷ []) back) size c.close-closed.ensures.fronts c.close-closed.ensures.named in
    let read = of_ok (λ v. IsTallied o new.workers new.main v.items) c.drain_and_read-read.result counts c.in_ok-counts.was c.drain_and_read-read.ensures.tallied in
    let tally = tally_seen o new.workers new.main counts.items log read seen in
    c.close-closed.ensures.commits ∙ tally_commits o c.args.game.now.seed c.args.game.now.tasks c.requires.counters log c.close-closed.ensures.legal counts.items tally

pub returns-clause-counts : goal.returns-clause-counts
returns-clause-counts g c =
    let o = g.W.Hosting.opened in
    let count = g.J.Naming.name.passes in
    let ws = c.as_mut_slice.result.now in
    let new = c.drain_and_read-read.new in
    let log = c.close-closed.result.history in
    let counts = c.in_ok-counts.counts in
    let parts = c.in-Some.ensures.items ∙ ap (λ (ps : List (Known Event)). ps ++ c.in-Some.main ∷ []) (sym c.as_mut_slice.ensures.value) in
    let all = size_of count c.in-Ok.opened.1.items ws c.in-Some.main parts c.in-Ok.ensures.passes in
    let size : count ≡ length new.workers + 1 = omega (arith, all, c.drain_and_read-read.ensures.size) in
    let len : length new.workers ≡ c.pop.new.self.len = omega (arith, c.drain_and_read-read.ensures.size, c.as_mut_slice.ensures.len) in
    let back = given_back c.pop.new.self.len new.workers (drop (length new.workers) c.pop.new.self.items) len in
    let seen = seen_by count log new.workers new.main c.push_reserved.new.self.items (c.push_reserved.ensures.items ∙ ap (λ (ps : List (Known Event)). ps ++ new.main ∷ []) back) size c.close-closed.ensures.fronts c.close-closed.ensures.named in
    let read = of_ok (λ v. IsTallied o new.workers new.main v.items) c.drain_and_read-read.result counts c.in_ok-counts.was c.drain_and_read-read.ensures.tallied in
    let tally = tally_seen o new.workers new.main counts.items log read seen in
    tally_counts o c.args.game.now.seed c.args.game.now.tasks c.requires.counters log c.close-closed.ensures.legal counts.items tally
