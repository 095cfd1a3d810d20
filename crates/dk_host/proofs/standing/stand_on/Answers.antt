use Rattle.std.proofs.Common.{◌≡◌, Option, refl, subst, sym, ◌∙◌}
use Rattle.std.specs.Prelude.{IfSome}
use Rattle.dk_types.specs.declared.side.Side.TheVariants.{Zero, One}
use Rattle.dk_disk.specs.DiskHistories.{now}
use Rattle.dk_model.specs.DurableWorlds.{DurableWorld}
use Rattle.dk_journal.specs.declared.journal.Journal.{Journal}
use Rattle.dk_journal.specs.Recoveries.{Recovering, HeldNeverFalls, IsWorld}
use Rattle.dk_journal.proofs.Stores.{store_recovers}
use Rattle.dk_checkpoint.proofs.Held.{now_held}
use Rattle.dk_recover.specs.Recovery.{IsFound}
use Rattle.dk_core.specs.Listings.{world_of}
use Rattle.dk_host.proofs.Answered.{none_world, none_answer, none_stands, none_written, store_holds, current_answer, anew_answer, anew_written}
use Rattle.dk_host.proofs.Settling.{none_done}
use Rattle.dk_host.proofs.standing.stand_on.Goals as goal

pub returns-in-None-clause-answer : goal.returns-in-None-clause-answer
returns-in-None-clause-answer g c tells =
    let past = g.M.Home.past c.args.home.now in
    let z = (now past Zero).reads in
    let o = (now past One).reads in
    let is = subst (IsFound z o c.args.game.now past c.args.found) c.in-None.is (c.requires.found tells) in
    none_answer z o c.args.game.now past c.args.found is c.make_store.result c.make_store.ensures.made c.make_store.ensures.only

pub returns-in-None-clause-keeps : goal.returns-in-None-clause-keeps
returns-in-None-clause-keeps g c tells =
    let past = g.M.Home.past c.args.home.now in
    let new = g.M.Home.past c.make_store.new.home in
    let z = (now past Zero).reads in
    let o = (now past One).reads in
    let is = subst (IsFound z o c.args.game.now past c.args.found) c.in-None.is (c.requires.found tells) in
    subst (λ (d : DurableWorld). Recovering (IsWorld d) past new × HeldNeverFalls past.clock new) (sym (none_world z o c.args.game.now past c.args.found is)) (c.make_store.ensures.keeps tells)

pub returns-in-None-clause-stands : goal.returns-in-None-clause-stands
returns-in-None-clause-stands g c tells =
    let past = g.M.Home.past c.args.home.now in
    let z = (now past Zero).reads in
    let o = (now past One).reads in
    let is = subst (IsFound z o c.args.game.now past c.args.found) c.in-None.is (c.requires.found tells) in
    none_stands z o c.args.game.now past c.args.found is (g.M.Home.past c.make_store.new.home) c.make_store.result (c.make_store.ensures.stands tells) c.make_store.ensures.made

pub returns-in-None-clause-untouched : goal.returns-in-None-clause-untouched
returns-in-None-clause-untouched g c tells =
    let past = g.M.Home.past c.args.home.now in
    let z = (now past Zero).reads in
    let o = (now past One).reads in
    let is = subst (IsFound z o c.args.game.now past c.args.found) c.in-None.is (c.requires.found tells) in
    none_written z o c.args.game.now past c.args.found is c.make_store.result c.make_store.ensures.only c.make_store.ensures.memory

pub returns-then-format-eq-FORMAT-clause-answer : goal.returns-then-format-eq-FORMAT-clause-answer
returns-then-format-eq-FORMAT-clause-answer g c tells =
    let past = g.M.Home.past c.args.home.now in
    let z = (now past Zero).reads in
    let o = (now past One).reads in
    let is = subst (IsFound z o c.args.game.now past c.args.found) c.in-Some.is (c.requires.found tells) in
    current_answer z o c.args.game.now past c.args.found c.in-Some.journal is (sym c.format.ensures ∙ c.if-format-eq-FORMAT.true)

pub returns-then-format-eq-FORMAT-clause-keeps : goal.returns-then-format-eq-FORMAT-clause-keeps
returns-then-format-eq-FORMAT-clause-keeps g c tells =
    let past = g.M.Home.past c.args.home.now in
    let z = (now past Zero).reads in
    let o = (now past One).reads in
    let is = subst (IsFound z o c.args.game.now past c.args.found) c.in-Some.is (c.requires.found tells) in
    let d = world_of c.args.found.durable in
    let h = store_holds z o c.args.game.now past c.args.found c.in-Some.journal is in
    (none_done (IsWorld d) past (store_recovers past c.args.found.side c.in-Some.journal h.header h.payloads d h.store), now_held past)

pub returns-then-format-eq-FORMAT-clause-stands : goal.returns-then-format-eq-FORMAT-clause-stands
returns-then-format-eq-FORMAT-clause-stands g c tells =
    let past = g.M.Home.past c.args.home.now in
    let z = (now past Zero).reads in
    let o = (now past One).reads in
    let is = subst (IsFound z o c.args.game.now past c.args.found) c.in-Some.is (c.requires.found tells) in
    store_holds z o c.args.game.now past c.args.found c.in-Some.journal is

pub migrate-requires-clause-stands : goal.migrate-requires-clause-stands
migrate-requires-clause-stands g c tells =
    let past = g.M.Home.past c.args.home.now in
    let z = (now past Zero).reads in
    let o = (now past One).reads in
    let is = subst (IsFound z o c.args.game.now past c.args.found) c.in-Some.is (c.requires.found tells) in
    store_holds z o c.args.game.now past c.args.found c.in-Some.journal is

pub returns-else-format-eq-FORMAT-clause-answer : goal.returns-else-format-eq-FORMAT-clause-answer
returns-else-format-eq-FORMAT-clause-answer g c tells =
    let past = g.M.Home.past c.args.home.now in
    let z = (now past Zero).reads in
    let o = (now past One).reads in
    let is = subst (IsFound z o c.args.game.now past c.args.found) c.in-Some.is (c.requires.found tells) in
    let e = c.migrate.ensures in
    anew_answer z o c.args.game.now past c.args.found c.in-Some.journal is (λ two. c.if-format-eq-FORMAT.false (c.format.ensures ∙ two)) c.migrate.result e.made e.only e.large e.spent

pub returns-else-format-eq-FORMAT-clause-untouched : goal.returns-else-format-eq-FORMAT-clause-untouched
returns-else-format-eq-FORMAT-clause-untouched g c tells =
    let past = g.M.Home.past c.args.home.now in
    let z = (now past Zero).reads in
    let o = (now past One).reads in
    let is = subst (IsFound z o c.args.game.now past c.args.found) c.in-Some.is (c.requires.found tells) in
    let e = c.migrate.ensures in
    anew_written z o c.args.game.now past c.args.found c.in-Some.journal is (λ two. c.if-format-eq-FORMAT.false (c.format.ensures ∙ two)) c.migrate.result e.untouched

pub returns-then-format-eq-FORMAT-clause-stood : goal.returns-then-format-eq-FORMAT-clause-stood
returns-then-format-eq-FORMAT-clause-stood g c = (refl, record { format = sym c.format.ensures ∙ c.if-format-eq-FORMAT.true; here = subst (λ (s : Option Journal). IfSome s (λ journal. journal.side ≡ c.args.found.side)) c.in-Some.is c.requires.side })
