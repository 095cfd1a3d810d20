use Rattle.std.proofs.Common.{◌≡◌, inr, ℕ, ◌+◌, [], ◌∷◌, ◌++◌, List, length, drop, sym, ap, subst, ◌∙◌, arith}
use Rattle.dk_types.specs.declared.event.Event.{Event}
use Rattle.dk_model.specs.Lawful.{AreLawful}
use Rattle.dk_turn.specs.Fronts.{Known}
use Rattle.dk_host.specs.Stores.{CountsOn}
use Rattle.dk_play_laws.specs.FirstParts.{scripted_of, IsFirstPart}
use Rattle.dk_play_laws.proofs.Begun.{begun_seen}
use Rattle.dk_workers.specs.Played.{IsSettled, IsTextOf}
use Rattle.dk_workers.specs.declared.play.closing.Staged.{Staged}
use Rattle.dk_workers.proofs.Closed.{fresh_of, size_of, seen_by, given_back, settled}
use Rattle.dk_workers.proofs.play.staging.play_on_turn.Goals as goal

pub open-opened-requires-clause-lawful : goal.open-opened-requires-clause-lawful
open-opened-requires-clause-lawful g c = subst AreLawful (sym c.requires.rules) (g.G.Rules.lawful c.args.game.now)

pub stage-staged-requires-clause-numbered : goal.stage-staged-requires-clause-numbered
stage-staged-requires-clause-numbered g c loans lives =
    let ws = c.as_mut_slice.result.now in
    let main = c.in-Some.main in
    (fresh_of g.J.Naming.name.passes c.in-Ok.opened.1.items ws main (c.in-Some.ensures.items ∙ ap (λ (ps : List (Known Event)). ps ++ main ∷ []) (sym c.as_mut_slice.ensures.value)) c.in-Ok.ensures.passes).numbered

pub stage-staged-requires-clause-number : goal.stage-staged-requires-clause-number
stage-staged-requires-clause-number g c loans lives =
    let ws = c.as_mut_slice.result.now in
    let main = c.in-Some.main in
    (fresh_of g.J.Naming.name.passes c.in-Ok.opened.1.items ws main (c.in-Some.ensures.items ∙ ap (λ (ps : List (Known Event)). ps ++ main ∷ []) (sym c.as_mut_slice.ensures.value)) c.in-Ok.ensures.passes).number

pub stage-staged-requires-clause-behind : goal.stage-staged-requires-clause-behind
stage-staged-requires-clause-behind g c loans lives =
    let ws = c.as_mut_slice.result.now in
    let main = c.in-Some.main in
    (fresh_of g.J.Naming.name.passes c.in-Ok.opened.1.items ws main (c.in-Some.ensures.items ∙ ap (λ (ps : List (Known Event)). ps ++ main ∷ []) (sym c.as_mut_slice.ensures.value)) c.in-Ok.ensures.passes).behind

pub stage-staged-requires-clause-fresh : goal.stage-staged-requires-clause-fresh
stage-staged-requires-clause-fresh g c loans lives =
    let ws = c.as_mut_slice.result.now in
    let main = c.in-Some.main in
    (fresh_of g.J.Naming.name.passes c.in-Ok.opened.1.items ws main (c.in-Some.ensures.items ∙ ap (λ (ps : List (Known Event)). ps ++ main ∷ []) (sym c.as_mut_slice.ensures.value)) c.in-Ok.ensures.passes).fresh

pub reported-text-requires-clause-settled : goal.reported-text-requires-clause-settled
reported-text-requires-clause-settled g c =
    let o = g.W.Hosting.opened in
    let count = g.J.Naming.name.passes in
    let ws = c.as_mut_slice.result.now in
    let new = c.stage-staged.new in
    let log = c.close-closed.result.history in
    let parts = c.in-Some.ensures.items ∙ ap (λ (ps : List (Known Event)). ps ++ c.in-Some.main ∷ []) (sym c.as_mut_slice.ensures.value) in
    let all = size_of count c.in-Ok.opened.1.items ws c.in-Some.main parts c.in-Ok.ensures.passes in
    let size : count ≡ length new.workers + 1 = omega (arith, all, c.stage-staged.ensures.size) in
    let same : length new.workers ≡ c.args.workers = omega (arith, size, c.requires.passes) in
    let len : length new.workers ≡ c.pop.new.self.len = omega (arith, c.stage-staged.ensures.size, c.as_mut_slice.ensures.len) in
    let back = given_back c.pop.new.self.len new.workers (drop (length new.workers) c.pop.new.self.items) len in
    let seen = seen_by count log new.workers new.main c.push_reserved.new.self.items (c.push_reserved.ensures.items ∙ ap (λ (ps : List (Known Event)). ps ++ new.main ∷ []) back) size c.close-closed.ensures.fronts c.close-closed.ensures.named in
    subst (λ (n : ℕ). IsSettled c.args.asked o n ([] ∷ c.args.script.now) (λ (s : Staged). s.marks.items) (λ (s : Staged). s.saved) log c.stage-staged.result) same
    (settled c.args.asked o ([] ∷ c.args.script.now) (λ (s : Staged). s.marks.items) (λ (s : Staged). s.saved) new.workers new.main log c.stage-staged.result seen c.stage-staged.ensures.staged)

pub returns-clause-play : goal.returns-clause-play
returns-clause-play g c =
    let o = g.W.Hosting.opened in
    let count = g.J.Naming.name.passes in
    let script = c.args.script.now in
    let ws = c.as_mut_slice.result.now in
    let new = c.stage-staged.new in
    let k = c.close-closed.result in
    let e = c.close-closed.ensures in
    let parts = c.in-Some.ensures.items ∙ ap (λ (ps : List (Known Event)). ps ++ c.in-Some.main ∷ []) (sym c.as_mut_slice.ensures.value) in
    let all = size_of count c.in-Ok.opened.1.items ws c.in-Some.main parts c.in-Ok.ensures.passes in
    let size : count ≡ length new.workers + 1 = omega (arith, all, c.stage-staged.ensures.size) in
    let same : length new.workers ≡ c.args.workers = omega (arith, size, c.requires.passes) in
    let len : length new.workers ≡ c.pop.new.self.len = omega (arith, c.stage-staged.ensures.size, c.as_mut_slice.ensures.len) in
    let back = given_back c.pop.new.self.len new.workers (drop (length new.workers) c.pop.new.self.items) len in
    let seen = seen_by count k.history new.workers new.main c.push_reserved.new.self.items (c.push_reserved.ensures.items ∙ ap (λ (ps : List (Known Event)). ps ++ new.main ∷ []) back) size e.fronts e.named in
    inr record {
      history = k.history;
      faults = k.faults;
      epoch = k.epoch;
      legal = e.legal;
      ended = e.ended;
      counts = subst (λ (n : ℕ). CountsOn n k.faults (g.M.Home.counted k.home)) (sym c.requires.before) e.same_home.counts;
      begun = subst (λ (n : ℕ). IsFirstPart n ([] ∷ script) (scripted_of k.history)) same (begun_seen ([] ∷ script) new.workers new.main k.history c.stage-staged.ensures.begun seen);
      text_of = subst (λ (n : ℕ). IsTextOf o c.args.workers c.args.asked script k.history k.faults n k.epoch c.args.before (g.M.Home.counted k.home) c.reported-text.result) e.first.0 c.reported-text.ensures;
    }
