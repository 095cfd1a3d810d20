use Rattle.std.proofs.Common.{◌<◌, List, ap, sym, subst, ◌∙◌}
use Rattle.std.specs.List.{All}
use Rattle.std.specs.FinMap.{len}
use Rattle.std.proofs.lemmas.List.Elements.{All-weaker}
use Rattle.dk_types.specs.declared.event.Event.{Event}
use Rattle.dk_model.specs.Legal.{IsFront, IsLegal, pass_of, world_after}
use Rattle.dk_model.specs.Worlds.{World}
use Rattle.dk_turn.specs.Fronts.{Known, Begins, Continues, ContinuesAll}
use Rattle.dk_host.specs.Stores.{Stored, EndsAs}
use Rattle.dk_host.proofs.Calling.{front_of}
use Rattle.dk_host.proofs.Ended.{ends}
use Rattle.dk_host.proofs.Stepping.{legal, world_is}
use Rattle.dk_host.proofs.host.Host.close.Goals as goal

pub returns-clause-fronts : goal.returns-clause-fronts
returns-clause-fronts g c =
    let log = c.into_parts-history.result.0 in
    All-weaker (λ (p : Known Event). Continues pass_of p.number p.front log) (λ (p : Known Event). IsFront p.number p.front log) (λ (p : Known Event) goes. front_of p.number p.front log goes) c.args.passes.items
    (subst (ContinuesAll pass_of c.args.passes.items) (sym (c.into_parts-history.ensures.history ∙ c.core.view_is)) c.close_with.ensures.fronts)

pub returns-clause-named : goal.returns-clause-named
returns-clause-named g c =
    subst (λ (es : List Event). All (λ e. pass_of e < g.J.Naming.name.passes) es) (sym (c.into_parts-history.ensures.history ∙ c.core.view_is)) c.close_with.ensures.named

pub returns-clause-legal : goal.returns-clause-legal
returns-clause-legal g c = subst (IsLegal g.W.Hosting.opened) (sym c.into_parts-history.ensures.history) (legal g.W.Hosting.opened c.core.inside.history.events c.core.inside.core c.core.invariant.1)

pub returns-clause-commits : goal.returns-clause-commits
returns-clause-commits g c =
    c.commits.ensures ∙ ap (λ (x : World). x.durable.commits) (world_is g.W.Hosting.opened c.core.inside.history.events c.core.inside.core c.core.invariant.1) ∙ ap (λ (es : List Event). (world_after g.W.Hosting.opened es).durable.commits) (sym c.into_parts-history.ensures.history)

pub returns-clause-tasks : goal.returns-clause-tasks
returns-clause-tasks g c =
    c.pending_len.ensures ∙ ap (λ (x : World). len x.durable.tasks) (world_is g.W.Hosting.opened c.core.inside.history.events c.core.inside.core c.core.invariant.1) ∙ ap (λ (es : List Event). len (world_after g.W.Hosting.opened es).durable.tasks) (sym c.into_parts-history.ensures.history)

pub returns-clause-ended : goal.returns-clause-ended
returns-clause-ended g c = λ tells.
    subst (λ (es : List Event). EndsAs g.W.Hosting.opened g.W.Hosting.began (g.M.Home.past c.store.inside.home) es c.store.inside.faults c.epoch.result) (sym c.into_parts-history.ensures.history)
    (subst (EndsAs g.W.Hosting.opened g.W.Hosting.began (g.M.Home.past c.store.inside.home) c.core.inside.history.events c.store.inside.faults) (sym c.epoch.ensures)
    (ends g.W.Hosting.opened g.W.Hosting.began _ _ _ _ _ _ _ _ _ _ _ c.store.invariant.3 (λ running. ap (λ (v : Stored). v.waiting) c.store.view_is ∙ c.free.invariant.0 (ap (λ (v : Stored). v.faults) (sym c.store.view_is) ∙ running)) c.core.inside.history.events
    (subst (λ (es : List Event). Begins c.store.inside.watcher.front es) (sym c.core.view_is) c.close_with.ensures.watcher) (c.audit.ensures.commits.0 ∙ c.core.invariant.2) tells))

pub returns-clause-same_home : goal.returns-clause-same_home
returns-clause-same_home g c = c.store.invariant.4
