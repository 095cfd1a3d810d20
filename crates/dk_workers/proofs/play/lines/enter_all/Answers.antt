use Rattle.std.proofs.Common.{◌≡◌, ◌∷◌, ◌++◌, ◌+◌, [], take, drop, take-append-drop, sym, ap, ◌∙◌, subst, arith}
use Rattle.std.proofs.lemmas.List.{drop_more, take_more, take_all}
use Rattle.dk_model.specs.declared.script.Line.{Line}
use Rattle.dk_workers.specs.Lines.{EntersLines, BeginsLines}
use Rattle.dk_workers.specs.Logins.{said_of, MayStandAll}
use Rattle.dk_workers.proofs.Beginnings.{lines_begun, on_err}
use Rattle.dk_workers.proofs.Passing.{no_lines, lines_then}
use Rattle.dk_workers.proofs.Standing.{can_first, stand_rest}
use Rattle.dk_workers.proofs.play.lines.enter_all.Goals as goal

pub loop-line-init : goal.loop-line-init
loop-line-init g c = record { entered = no_lines g.W.Hosting.opened g.J.Naming.name.passes c.args.pass.now (said_of c.args.logins.now); ready = c.requires }

pub enter-requires : goal.enter-requires
enter-requires g c =
    let lines = c.args.lines.now in
    let i = c.loop-line.line-index in
    let l = c.line-item.result in
    let parted : drop i lines ≡ l ∷ drop (i + 1) lines = drop_more lines i l c.loop-line-test.true ∙ ap (λ (x : Line). x ∷ drop (i + 1) lines) (sym c.line-item.is) in
    can_first (said_of c.loop-line.logins) l (drop (i + 1) lines) (subst (MayStandAll (said_of c.loop-line.logins)) parted c.loop-line.invariant.ready)

pub loop-line-preserved : goal.loop-line-preserved
loop-line-preserved g c =
    let o = g.W.Hosting.opened in
    let n = g.J.Naming.name.passes in
    let lines = c.args.lines.now in
    let i = c.loop-line.line-index in
    let l = c.line-item.result in
    let old = c.args.pass.now in
    let mid = c.loop-line.pass in
    let new = c.enter.new.pass in
    let s = said_of c.args.logins.now in
    let t = said_of c.loop-line.logins in
    let u = said_of c.enter.new.logins in
    let one = c.in_ok-enter.ensures.entered in
    let parted : drop i lines ≡ l ∷ drop (i + 1) lines = drop_more lines i l c.loop-line-test.true ∙ ap (λ (x : Line). x ∷ drop (i + 1) lines) (sym c.line-item.is) in
    let more : take (i + 1) lines ≡ take i lines ++ l ∷ [] = take_more lines i l c.loop-line-test.true ∙ ap (λ (x : Line). take i lines ++ x ∷ []) (sym c.line-item.is) in
    record {
      entered = subst (λ ls. EntersLines o n old new s ls u) (sym more) (lines_then o n old mid new s t u (take i lines) l c.loop-line.invariant.entered one);
      ready = stand_rest mid.number t u l (drop (i + 1) lines) one.event (subst (MayStandAll t) parted c.loop-line.invariant.ready) one.is_event;
    }

pub returns-clause-entered : goal.returns-clause-entered
returns-clause-entered g c =
    subst (λ ls. EntersLines g.W.Hosting.opened g.J.Naming.name.passes c.args.pass.now c.loop-line.pass (said_of c.args.logins.now) ls (said_of c.loop-line.logins))
    (take_all c.loop-line.line-index c.args.lines.now (omega (arith, c.loop-line-test.false))) c.loop-line.invariant.entered

pub returns-in_err-enter-clause-begun : goal.returns-in_err-enter-clause-begun
returns-in_err-enter-clause-begun g c =
    let o = g.W.Hosting.opened in
    let n = g.J.Naming.name.passes in
    let lines = c.args.lines.now in
    let i = c.loop-line.line-index in
    let l = c.line-item.result in
    let old = c.args.pass.now in
    let new = c.enter.new.pass in
    let s = said_of c.args.logins.now in
    let t = said_of c.loop-line.logins in
    let parted : drop i lines ≡ l ∷ drop (i + 1) lines = drop_more lines i l c.loop-line-test.true ∙ ap (λ (x : Line). x ∷ drop (i + 1) lines) (sym c.line-item.is) in
    let all : take i lines ++ l ∷ drop (i + 1) lines ≡ lines = ap (λ ls. take i lines ++ ls) (sym parted) ∙ take-append-drop i lines in
    on_err c.from_residual.result
    (subst (λ ls. BeginsLines o n old new s ls) all
    (lines_begun o n old c.loop-line.pass new s t (take i lines) (l ∷ []) (drop (i + 1) lines) c.loop-line.invariant.entered c.in_err-enter.ensures.begun))
