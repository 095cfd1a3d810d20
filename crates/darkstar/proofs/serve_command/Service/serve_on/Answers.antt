use Rattle.std.proofs.Common.{◌≡◌, ◌⊎◌, ◌∙◌, ℕ, List, Err, refl, sym, subst, arith}
use Rattle.dk_types.specs.declared.side.Side.TheVariants.{Zero, One}
use Rattle.dk_model.specs.Events.{Meaning}
use Rattle.dk_model.specs.Lawful.{AreLawful}
use Rattle.dk_recover.specs.Recovery.{IsOurs}
use Rattle.dk_host.specs.OpenedStores.{IsOpenAnswer}
use Rattle.dk_host.specs.declared.standing.Stood.{Stood}
use Rattle.darkstar.specs.Asked.{service_for}
use Rattle.darkstar.specs.Reports.{bytes_of}
use Rattle.darkstar.specs.Runs.{passage}
use Rattle.darkstar.specs.Served.{IsServedOn, IsUnserved, links_of, served_on}
use Rattle.darkstar.specs.Serves.{IsServeEnd, IsServedOrLimit}
use Rattle.darkstar.specs.declared.serve_command.Service.{Service}
use Rattle.darkstar.proofs.OpenEnds.{refused_end, refused_keeps}
use Rattle.darkstar.proofs.OpenedOn.{OpenedOn, opened_on}
use Rattle.darkstar.proofs.Serving.{HasServed, served_disk, served_done, served_end, served_keeps, served_limit, served_net, unopened_end, unopened_limit}
use Rattle.darkstar.proofs.serve_command.Service.serve_on.Given.{Over}
use Rattle.darkstar.proofs.serve_command.Service.serve_on.Goals as goal
use Rattle.darkstar.proofs.serve_command.Service.serve_on.Goals.{After-serve_store-home}

many : (s : Service) → (service_for s).workers ≡ 1 → ⊥
many s one = omega arith

pub returns-in-Err-clause-keeps : goal.returns-in-Err-clause-keeps
returns-in-Err-clause-keeps g c =
    refused_keeps (service_for c.args.self) (subst AreLawful c.requires.rules (g.A.Rules.lawful c.args.game.now)) c.unopened_status.result (g.M.Home.past c.args.home) (g.M.Home.past c.in-Err.refused.home) c.args.before (g.M.Home.counted c.in-Err.refused.home) g.M.Home.tells
    c.in-Err.refused.fault c.in-Err.ensures.reads c.in-Err.ensures.faulty

pub returns-in-Err-clause-end : goal.returns-in-Err-clause-end
returns-in-Err-clause-end g c =
    let terms = service_for c.args.self in
    let old = g.M.Home.past c.args.home in
    let f = c.in-Err.refused.fault in
    let left = passage g.M.Home.tells old (g.M.Home.past c.in-Err.refused.home) c.args.before (g.M.Home.counted c.in-Err.refused.home) in
    let end_ = refused_end terms (subst AreLawful c.requires.rules (g.A.Rules.lawful c.args.game.now)) c.unopened_status.result old (g.M.Home.past c.in-Err.refused.home) c.args.before (g.M.Home.counted c.in-Err.refused.home) g.M.Home.tells f
    (λ told. subst (λ (id : List ℕ). IsOpenAnswer (bytes_of old Zero) (bytes_of old One) id (Err f)) (c.id.ensures ∙ c.requires.id) (c.in-Err.ensures.answer told)) in
    subst (IsServeEnd terms left) (sym c.unopened_status.ensures) (unopened_end terms left f end_)

pub returns-in-Err-clause-complete : goal.returns-in-Err-clause-complete
returns-in-Err-clause-complete g c told d may =
    let old = g.M.Home.past c.args.home in
    subst IsServedOrLimit (sym c.unopened_status.ensures) (unopened_limit d c.in-Err.refused.fault (c.in-Err.ensures.accepted told d may.held (subst (IsOurs (bytes_of old Zero) (bytes_of old One)) (sym (c.id.ensures ∙ c.requires.id)) may.ours) may.anew))

-- the server on the store that was opened
the_server : (g : Over) (c : After-serve_store-home g) →
    let net = g.L.Listener.counted in
    let crews = g.P.Spawner.counted in
    let listening = g.L.Listener.listening in
    let end_ = c.serve_store-home.result in
    HasServed g.M.Home.past g.M.Home.counted (service_for c.args.self) g.M.Home.tells (g.M.Home.past c.args.home) end_.home c.args.before (net c.args.net.now) (net c.serve_store-home.new.net) (crews c.args.spawner.now) (crews c.serve_store-home.new.spawner)
    c.args.self.terms.port (links_of c.args.self.terms.sessions) (listening c.args.net.now) (listening c.serve_store-home.new.net) end_.served end_.outcome
the_server g c =
    let past = g.M.Home.past in
    let counted = g.M.Home.counted in
    let net = g.L.Listener.counted in
    let crews = g.P.Spawner.counted in
    let listening = g.L.Listener.listening in
    let store = c.in-Ok.store in
    let end_ = c.serve_store-home.result in
    let stood : Stood = record { journal = store.journal; side = store.side; durable = store.durable } in
    let on : OpenedOn (service_for c.args.self) g.M.Home.tells (past c.args.home) (past store.home) stood =
    opened_on (g.A.Rules.lawful c.args.game.now) c.requires.rules (c.id.ensures ∙ c.requires.id) c.in-Ok.ensures.valid c.in-Ok.ensures.answer c.in-Ok.ensures.keeps in
    record {
      store = store.home;
      stood = stood;
      on = on;
      many = many c.args.self;
      serves =
          subst (λ (r : Meaning). IsUnserved store.home end_.home end_.served end_.outcome ⊎ IsServedOn (served_on r store.durable) g.M.Home.tells (past store.home) (past end_.home) c.args.before (counted end_.home) (net c.args.net.now) (net c.serve_store-home.new.net) (crews c.args.spawner.now) (crews c.serve_store-home.new.spawner)
          c.args.self.terms.port (links_of c.args.self.terms.sessions) (listening c.args.net.now) (listening c.serve_store-home.new.net) end_.served end_.outcome) c.requires.rules c.serve_store-home.ensures.serves;
    }

pub returns-clause-done : goal.returns-clause-done
returns-clause-done g c ok =
    served_done c.serve_store-home.result.outcome (the_server g (goal.at.returns-clause-done g c).After-serve_store-home) (sym c.served_status.ensures ∙ ok) c.args.self.terms.sessions refl

pub returns-clause-keeps : goal.returns-clause-keeps
returns-clause-keeps g c = served_keeps c.served_status.result c.serve_store-home.result.outcome (the_server g (goal.at.returns-clause-keeps g c).After-serve_store-home)

pub returns-clause-end : goal.returns-clause-end
returns-clause-end g c =
    let end_ = c.serve_store-home.result in
    let left = passage g.M.Home.tells (g.M.Home.past c.args.home) (g.M.Home.past end_.home) c.args.before (g.M.Home.counted end_.home) in
    subst (IsServeEnd (service_for c.args.self) left) (sym c.served_status.ensures) (served_end end_.outcome (the_server g (goal.at.returns-clause-end g c).After-serve_store-home))

pub returns-clause-complete : goal.returns-clause-complete
returns-clause-complete g c told d may = subst IsServedOrLimit (sym c.served_status.ensures) (served_limit c.serve_store-home.result.outcome)

pub returns-clause-disk_cause : goal.returns-clause-disk_cause
returns-clause-disk_cause g c is = served_disk c.serve_store-home.result.outcome (the_server g (goal.at.returns-clause-disk_cause g c).After-serve_store-home) (sym c.served_status.ensures ∙ is)

pub returns-clause-net_cause : goal.returns-clause-net_cause
returns-clause-net_cause g c is = served_net c.serve_store-home.result.outcome (the_server g (goal.at.returns-clause-net_cause g c).After-serve_store-home) (sym c.served_status.ensures ∙ is)
