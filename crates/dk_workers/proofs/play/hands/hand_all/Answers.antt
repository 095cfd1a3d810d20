use Rattle.std.proofs.Common.{◌∷◌, [], List, take, drop, take-append-drop, get_or, sym, subst, arith, refl}
use Rattle.std.proofs.lemmas.List.{take_more, take_all}
use Rattle.dk_types.specs.declared.number.ConnNo.{ConnNo}
use Rattle.dk_types.specs.declared.event.Event.TheVariants as event
use Rattle.dk_types.specs.declared.limits.TheConstants.{OUTS_MOST_COUNT}
use Rattle.dk_workers.specs.Lines.{HandsAll}
use Rattle.dk_workers.proofs.Beginnings.{hands_begun, on_err}
use Rattle.dk_workers.proofs.Passing.{no_hands, hands_then, passes_one}
use Rattle.dk_workers.proofs.play.hands.hand_all.Goals as goal

pub loop-conn-init : goal.loop-conn-init
loop-conn-init g c = no_hands g.W.Hosting.opened g.J.Naming.name.passes c.args.pass.now

pub loop-conn-preserved : goal.loop-conn-preserved
loop-conn-preserved g c =
    let o = g.W.Hosting.opened in
    let n = g.J.Naming.name.passes in
    let conns = c.args.conns.now in
    let i = c.loop-conn.conn-index in
    let conn : ConnNo = get_or conns i (record { 0 = 0 }) in
    let mid = c.loop-conn.pass in
    let new = c.hand.new.pass in
    let handed = c.in_ok-hand.field-0 in
    let h = c.in_ok-hand.ensures in
    let e = event.Hand mid.number conn OUTS_MOST_COUNT handed.outs handed.end in
    subst (λ (cs : List ConnNo). HandsAll o n c.args.pass.now new cs) (sym (take_more conns i (record { 0 = 0 }) c.loop-conn-test.true))
    (hands_then o n c.args.pass.now mid new (take i conns) conn e c.loop-conn.invariant (passes_one o n (e ∷ []) mid new h.number h.entered h.named) (handed.outs, handed.end, refl, tt))

pub returns-clause-handed : goal.returns-clause-handed
returns-clause-handed g c =
    subst (λ cs. HandsAll g.W.Hosting.opened g.J.Naming.name.passes c.args.pass.now c.loop-conn.pass cs) (take_all c.loop-conn.conn-index c.args.conns.now (omega (arith, c.loop-conn-test.false))) c.loop-conn.invariant

pub returns-in_err-hand-clause-begun : goal.returns-in_err-hand-clause-begun
returns-in_err-hand-clause-begun g c =
    let o = g.W.Hosting.opened in
    let n = g.J.Naming.name.passes in
    let conns = c.args.conns.now in
    let i = c.loop-conn.conn-index in
    let mid = c.loop-conn.pass in
    let new = c.hand.new.pass in
    let h = c.in_err-hand.ensures in
    on_err c.from_residual.result
    (hands_begun o n c.args.pass.now mid new (take i conns) (drop i conns) conns (sym (take-append-drop i conns)) c.loop-conn.invariant (passes_one o n [] mid new h.number h.entered h.named))
