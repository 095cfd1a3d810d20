use Rattle.std.proofs.Common.{◌≡◌, ℕ, List, sym, ap, ◌∙◌}
use Rattle.std.proofs.lemmas.Result.{IfOk-weaker}
use Rattle.dk_types.specs.declared.item.Item.TheVariants as ask
use Rattle.dk_model.specs.DurableWorlds.{answer}
use Rattle.dk_model.specs.Legal.{world_after}
use Rattle.dk_overlay.specs.Answers.{object_in}
use Rattle.darkstar.specs.Tallies.{count_in, IsCountIn, ReadsCounter}
use Rattle.darkstar.proofs.Resting.{reads_one, reads_then}
use Rattle.darkstar.proofs.Tallying.{IsNamedIn, IsObjectIn, named_count}
use Rattle.darkstar.proofs.stress.tallies.read_counter.Goals as goal

pub returns : goal.returns
returns g c =
    let o = g.W.Hosting.opened in
    let n = g.J.Naming.name.passes in
    let old = c.args.pass.now in
    let mid = c.read.new.pass in
    let new = c.read-2.new.pass in
    let named = c.in_ok-bound.bound.answer in
    let found = c.in_ok-object.object.answer in
    let id = c.in-Some.id in
    let number = c.args.number in
    let first = reads_one o n (IsNamedIn number named) old mid c.in_ok-bound.ensures.number c.in_ok-bound.ensures.entered c.in_ok-bound.ensures.named
    (c.in_ok-bound.ensures.read.answered ∙ ap (λ (name : List ℕ). answer (world_after o mid.front).durable (ask.Bound name)) c.in_ok-name.ensures) in
    let second = reads_one o n (IsObjectIn id found) mid new c.in_ok-object.ensures.number c.in_ok-object.ensures.entered c.in_ok-object.ensures.named c.in_ok-object.ensures.read.answered in
    IfOk-weaker c.count_reported.result (λ count. count ≡ count_in (object_in found)) (λ count. ReadsCounter o n number old new count)
    (λ count told. reads_then o n (IsNamedIn number named) (IsObjectIn id found) (λ d. IsCountIn d number count) old mid new
    (λ d is at. named_count d number count id named found (sym c.says_named.ensures ∙ c.in-Some.is) told is at) first second)
    c.count_reported.ensures
