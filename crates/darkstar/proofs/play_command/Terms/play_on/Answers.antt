use Rattle.std.proofs.Common.{◌∙◌, Ok, Err, List, ℕ, sym, subst}
use Rattle.std.specs.Io.KnownBytes.{Appends}
use Rattle.dk_edge.specs.Streams.{AppendsPrefix}
use Rattle.dk_model.specs.Lawful.{AreLawful}
use Rattle.dk_recover.specs.Recovery.{IsOurs}
use Rattle.dk_host.specs.OpenedStores.{IsOpenAnswer}
use Rattle.dk_host.specs.declared.standing.Stood.{Stood}
use Rattle.dk_types.specs.declared.side.Side.TheVariants.{Zero, One}
use Rattle.darkstar.specs.Asked.{terms_for}
use Rattle.darkstar.specs.Reports.{bytes_of}
use Rattle.darkstar.specs.Runs.{IsPlayEnd, passage}
use Rattle.darkstar.specs.Statuses.{IsOkOrLimit}
use Rattle.darkstar.proofs.OpenEnds.{refused_begun, refused_end, refused_keeps, refused_limit}
use Rattle.darkstar.proofs.OpenedOn.{OpenedOn, opened_on}
use Rattle.darkstar.proofs.PlayEnds.{Played, fault_begun, fault_end, fault_keeps, played_as, put_end, put_ok, put_torn, text_begun, text_keeps, text_openable, text_told}
use Rattle.darkstar.proofs.play_command.Terms.play_on.Given.{Over}
use Rattle.darkstar.proofs.play_command.Terms.play_on.Goals as goal
use Rattle.darkstar.proofs.play_command.Terms.play_on.Goals.{In-Ok-text, In-Err-text}

pub returns-in-Err-clause-keeps : goal.returns-in-Err-clause-keeps
returns-in-Err-clause-keeps g c =
    refused_keeps (terms_for c.args.self) (subst AreLawful c.requires.rules (g.A.Rules.lawful c.args.game.now)) c.unopened_status.result (g.M.Home.past c.args.home) (g.M.Home.past c.in-Err.refused.home) c.args.before (g.M.Home.counted c.in-Err.refused.home) g.M.Home.tells
    c.in-Err.refused.fault c.in-Err.ensures.reads c.in-Err.ensures.faulty

pub returns-in-Err-clause-begun : goal.returns-in-Err-clause-begun
returns-in-Err-clause-begun g c =
    refused_begun (terms_for c.args.self) (subst AreLawful c.requires.rules (g.A.Rules.lawful c.args.game.now)) c.unopened_status.result (g.M.Home.past c.args.home) (g.M.Home.past c.in-Err.refused.home) c.args.before (g.M.Home.counted c.in-Err.refused.home) g.M.Home.tells
    c.args.script.now.phases c.in-Err.refused.fault c.in-Err.ensures.reads c.in-Err.ensures.faulty

pub returns-in-Err-clause-end : goal.returns-in-Err-clause-end
returns-in-Err-clause-end g c =
    let terms = terms_for c.args.self in
    let old = g.M.Home.past c.args.home in
    let f = c.in-Err.refused.fault in
    let end_ = refused_end terms (subst AreLawful c.requires.rules (g.A.Rules.lawful c.args.game.now)) c.unopened_status.result old (g.M.Home.past c.in-Err.refused.home) c.args.before (g.M.Home.counted c.in-Err.refused.home) g.M.Home.tells f
    (λ told. subst (λ (id : List ℕ). IsOpenAnswer (bytes_of old Zero) (bytes_of old One) id (Err f)) (c.id.ensures ∙ c.requires.id) (c.in-Err.ensures.answer told)) in
    subst (IsPlayEnd terms (passage g.M.Home.tells old (g.M.Home.past c.in-Err.refused.home) c.args.before (g.M.Home.counted c.in-Err.refused.home))) (sym c.unopened_status.ensures) end_

pub returns-in-Err-clause-complete : goal.returns-in-Err-clause-complete
returns-in-Err-clause-complete g c told d may =
    let old = g.M.Home.past c.args.home in
    subst IsOkOrLimit (sym c.unopened_status.ensures) (refused_limit d c.in-Err.refused.fault (c.in-Err.ensures.accepted told d may.held (subst (IsOurs (bytes_of old Zero) (bytes_of old One)) (sym (c.id.ensures ∙ c.requires.id)) may.ours) may.anew))

-- the play on the store that was opened, which gave a text
the_text : (g : Over) (c : In-Ok-text g) → Played g.M.Home.past g.M.Home.counted (terms_for c.args.self) g.M.Home.tells (g.M.Home.past c.args.home) c.play_store-home.result.home c.args.script.now.phases c.args.before (Ok c.in-Ok-text.text)
the_text g c =
    let store = c.in-Ok.store in
    let stood : Stood = record { journal = store.journal; side = store.side; durable = store.durable } in
    let on : OpenedOn (terms_for c.args.self) g.M.Home.tells (g.M.Home.past c.args.home) (g.M.Home.past store.home) stood =
    opened_on (g.A.Rules.lawful c.args.game.now) c.requires.rules (c.id.ensures ∙ c.requires.id) c.in-Ok.ensures.valid c.in-Ok.ensures.answer c.in-Ok.ensures.keeps in
    played_as store.home stood on _ _ _ _ c.requires.rules c.from-workers.ensures (cc c.in-Ok-text.is) c.play_store-home.ensures.play

-- and the one which gave none
the_fault : (g : Over) (c : In-Err-text g) → Played g.M.Home.past g.M.Home.counted (terms_for c.args.self) g.M.Home.tells (g.M.Home.past c.args.home) c.play_store-home.result.home c.args.script.now.phases c.args.before (Err c.in-Err-text.fault)
the_fault g c =
    let store = c.in-Ok.store in
    let stood : Stood = record { journal = store.journal; side = store.side; durable = store.durable } in
    let on : OpenedOn (terms_for c.args.self) g.M.Home.tells (g.M.Home.past c.args.home) (g.M.Home.past store.home) stood =
    opened_on (g.A.Rules.lawful c.args.game.now) c.requires.rules (c.id.ensures ∙ c.requires.id) c.in-Ok.ensures.valid c.in-Ok.ensures.answer c.in-Ok.ensures.keeps in
    played_as store.home stood on _ _ _ _ c.requires.rules c.from-workers.ensures (cc c.in-Err-text.is) c.play_store-home.ensures.play

pub returns-in-Ok-text-clause-done : goal.returns-in-Ok-text-clause-done
returns-in-Ok-text-clause-done g c ok =
    let before = g.K.Sink.contents c.args.out.now in
    let after = g.K.Sink.contents c.put_all-put.new.out in
    let put = put_ok (Appends before after c.as_slice.result.now) (AppendsPrefix before after c.as_slice.result.now) c.put_all-put.result c.put_all-put.ensures.bytes (sym c.put_status.ensures ∙ ok) in
    record {
      text = c.in-Ok-text.text;
      told = text_told c.put_status.result (the_text g (goal.at.returns-in-Ok-text-clause-done g c).In-Ok-text);
      written = subst (Appends before after) c.as_slice.ensures put;
    }

pub returns-in-Ok-text-clause-torn : goal.returns-in-Ok-text-clause-torn
returns-in-Ok-text-clause-torn g c torn =
    let before = g.K.Sink.contents c.args.out.now in
    let after = g.K.Sink.contents c.put_all-put.new.out in
    let put = put_torn (Appends before after c.as_slice.result.now) (AppendsPrefix before after c.as_slice.result.now) c.put_all-put.result c.put_all-put.ensures.bytes (sym c.put_status.ensures ∙ torn) in
    record {
      text = c.in-Ok-text.text;
      told = text_told c.put_status.result (the_text g (goal.at.returns-in-Ok-text-clause-torn g c).In-Ok-text);
      written = subst (AppendsPrefix before after) c.as_slice.ensures put;
    }

pub returns-in-Ok-text-clause-keeps : goal.returns-in-Ok-text-clause-keeps
returns-in-Ok-text-clause-keeps g c = text_keeps c.put_status.result (the_text g (goal.at.returns-in-Ok-text-clause-keeps g c).In-Ok-text)

pub returns-in-Ok-text-clause-begun : goal.returns-in-Ok-text-clause-begun
returns-in-Ok-text-clause-begun g c = text_begun c.put_status.result (the_text g (goal.at.returns-in-Ok-text-clause-begun g c).In-Ok-text)

pub returns-in-Ok-text-clause-end : goal.returns-in-Ok-text-clause-end
returns-in-Ok-text-clause-end g c =
    let terms = terms_for c.args.self in
    let left = passage g.M.Home.tells (g.M.Home.past c.args.home) (g.M.Home.past c.play_store-home.result.home) c.args.before (g.M.Home.counted c.play_store-home.result.home) in
    let openable = text_openable c.put_status.result (the_text g (goal.at.returns-in-Ok-text-clause-end g c).In-Ok-text) in
    subst (IsPlayEnd terms left) (sym c.put_status.ensures) (put_end terms left c.put_all-put.result openable)

pub returns-in-Err-text-clause-keeps : goal.returns-in-Err-text-clause-keeps
returns-in-Err-text-clause-keeps g c = fault_keeps c.unplayed_status.result c.unplayed_status.ensures (the_fault g (goal.at.returns-in-Err-text-clause-keeps g c).In-Err-text)

pub returns-in-Err-text-clause-begun : goal.returns-in-Err-text-clause-begun
returns-in-Err-text-clause-begun g c = fault_begun c.unplayed_status.result c.unplayed_status.ensures (the_fault g (goal.at.returns-in-Err-text-clause-begun g c).In-Err-text)

pub returns-in-Err-text-clause-end : goal.returns-in-Err-text-clause-end
returns-in-Err-text-clause-end g c =
    let left = passage g.M.Home.tells (g.M.Home.past c.args.home) (g.M.Home.past c.play_store-home.result.home) c.args.before (g.M.Home.counted c.play_store-home.result.home) in
    subst (IsPlayEnd (terms_for c.args.self) left) (sym c.unplayed_status.ensures) (fault_end c.unplayed_status.result c.unplayed_status.ensures (the_fault g (goal.at.returns-in-Err-text-clause-end g c).In-Err-text))
