use Rattle.std.proofs.Common.{◌≡◌, ℕ, ◌+◌, [], ◌∷◌, ◌++◌, List, Vec, Global, length, take, drop, take-append-drop, sym, ap, subst, ◌∙◌, arith}
use Rattle.std.proofs.lemmas.List.{drop_more, take_more, take_all}
use Rattle.std.proofs.lemmas.Result.{err_from_is_err_and}
use Rattle.dk_model.specs.declared.script.Line.{Line}
use Rattle.dk_play_laws.specs.BegunLaw.{HaveEntered, HaveBegun}
use Rattle.dk_play_laws.specs.Phased.{IsBetween}
use Rattle.dk_play_laws.proofs.Begun.{all_first}
use Rattle.dk_workers.specs.Logins.{said_of}
use Rattle.dk_workers.proofs.Playing.{IsPlayedTo, played_none, played_stands, played_more, played_begun, played_fault}
use Rattle.dk_workers.proofs.play.phases.play_phases.Goals as goal

pub play_phase-requires-clause-stand : goal.play_phase-requires-clause-stand
play_phase-requires-clause-stand g c loans lives =
    let o = g.W.Hosting.opened in
    let r = c.requires in
    let s = said_of c.none-logins.result in
    let ws = c.args.workers.now in
    played_stands o g.J.Naming.name.passes (length ws) [] c.args.script.now [] s c.new-marks.result.items ws c.args.main.now
    (played_none o c.args.script.now s c.new-marks.result.items ws c.args.main.now c.none-logins.ensures c.new-marks.ensures.items r.numbered r.number r.behind r.fresh r.stand) r.count

pub returns-in_err-play_phase-clause-plays : goal.returns-in_err-play_phase-clause-plays
returns-in_err-play_phase-clause-plays g c =
    let o = g.W.Hosting.opened in
    let r = c.requires in
    let s = said_of c.none-logins.result in
    let ws = c.args.workers.now in
    let n = c.play_phase.new in
    let p = err_from_is_err_and c.from_residual.result c.from_residual.ensures.1 in
    rw (p.1, p.2)
    (played_fault o g.J.Naming.name.passes (length ws) [] c.args.script.now [] s c.new-marks.result.items ws c.args.main.now
    (played_none o c.args.script.now s c.new-marks.result.items ws c.args.main.now c.none-logins.ensures c.new-marks.ensures.items r.numbered r.number r.behind r.fresh r.stand) r.count
    (λ (marks : Vec ℕ Global). marks.items) ([] ∷ c.args.script.now) _ r.budget.0 (said_of n.logins) n.marks.items n.workers n.main r.budget.1 c.in_err-play_phase.ensures.plays)

pub loop-lines-init : goal.loop-lines-init
loop-lines-init g c =
    let o = g.W.Hosting.opened in
    let r = c.requires in
    let s = said_of c.none-logins.result in
    let ws = c.args.workers.now in
    let n = c.play_phase.new in
    played_more o g.J.Naming.name.passes (length ws) [] c.args.script.now [] s c.new-marks.result.items ws c.args.main.now
    (played_none o c.args.script.now s c.new-marks.result.items ws c.args.main.now c.none-logins.ensures c.new-marks.ensures.items r.numbered r.number r.behind r.fresh r.stand) r.count
    (said_of n.logins) n.marks.items n.workers n.main r.lawful c.in_ok-play_phase.ensures.plays

pub play_phase-requires-in-loop-lines-clause-stand : goal.play_phase-requires-in-loop-lines-clause-stand
play_phase-requires-in-loop-lines-clause-stand g c loans lives =
    let o = g.W.Hosting.opened in
    let script = c.args.script.now in
    let at = c.loop-lines in
    let i = at.lines-index in
    let l = c.as_slice.result.now in
    let size = length c.args.workers.now in
    let s = said_of at.logins in
    let parted : drop i script ≡ l ∷ drop (i + 1) script = drop_more script i c.lines-item.result c.loop-lines-test.true ∙ ap (λ (x : List Line). x ∷ drop (i + 1) script) (sym c.lines-item.is ∙ sym c.as_slice.ensures) in
    let to = subst (λ (ls : List (List Line)). IsPlayedTo o size ([] ∷ take i script) ls s at.marks.items at.workers at.main) parted at.invariant in
    played_stands o g.J.Naming.name.passes size ([] ∷ take i script) (drop (i + 1) script) l s at.marks.items at.workers at.main to c.requires.count

pub returns-in_err-play_phase-2-clause-plays : goal.returns-in_err-play_phase-2-clause-plays
returns-in_err-play_phase-2-clause-plays g c =
    let o = g.W.Hosting.opened in
    let script = c.args.script.now in
    let at = c.loop-lines in
    let i = at.lines-index in
    let l = c.as_slice.result.now in
    let size = length c.args.workers.now in
    let s = said_of at.logins in
    let n = c.play_phase-in-loop-lines.new in
    let parted : drop i script ≡ l ∷ drop (i + 1) script = drop_more script i c.lines-item.result c.loop-lines-test.true ∙ ap (λ (x : List Line). x ∷ drop (i + 1) script) (sym c.lines-item.is ∙ sym c.as_slice.ensures) in
    let to = subst (λ (ls : List (List Line)). IsPlayedTo o size ([] ∷ take i script) ls s at.marks.items at.workers at.main) parted at.invariant in
    let p = err_from_is_err_and c.from_residual-in_err-play_phase-2.result c.from_residual-in_err-play_phase-2.ensures.1 in
    rw (p.1, p.2)
    (played_fault o g.J.Naming.name.passes size ([] ∷ take i script) (drop (i + 1) script) l s at.marks.items at.workers at.main to c.requires.count
    (λ (marks : Vec ℕ Global). marks.items) ([] ∷ script) _ c.requires.budget.0 (said_of n.logins) n.marks.items n.workers n.main c.requires.budget.1 c.in_err-play_phase-2.ensures.plays)

pub loop-lines-preserved : goal.loop-lines-preserved
loop-lines-preserved g c =
    let o = g.W.Hosting.opened in
    let script = c.args.script.now in
    let at = c.loop-lines in
    let i = at.lines-index in
    let l = c.as_slice.result.now in
    let size = length c.args.workers.now in
    let s = said_of at.logins in
    let n = c.play_phase-in-loop-lines.new in
    let same : c.lines-item.result ≡ l = sym c.as_slice.ensures in
    let parted : drop i script ≡ l ∷ drop (i + 1) script = drop_more script i c.lines-item.result c.loop-lines-test.true ∙ ap (λ (x : List Line). x ∷ drop (i + 1) script) (sym c.lines-item.is ∙ same) in
    let more : take (i + 1) script ≡ take i script ++ l ∷ [] = take_more script i c.lines-item.result c.loop-lines-test.true ∙ ap (λ (x : List Line). take i script ++ x ∷ []) (sym c.lines-item.is ∙ same) in
    let to = subst (λ (ls : List (List Line)). IsPlayedTo o size ([] ∷ take i script) ls s at.marks.items at.workers at.main) parted at.invariant in
    subst (λ (ls : List (List Line)). IsPlayedTo o size ([] ∷ ls) (drop (i + 1) script) (said_of n.logins) n.marks.items n.workers n.main) (sym more)
    (played_more o g.J.Naming.name.passes size ([] ∷ take i script) (drop (i + 1) script) l s at.marks.items at.workers at.main to c.requires.count (said_of n.logins) n.marks.items n.workers n.main c.requires.lawful c.in_ok-play_phase-2.ensures.plays)

pub returns-clause-plays : goal.returns-clause-plays
returns-clause-plays g c =
    let at = c.loop-lines in (
      said_of at.logins,
      subst (λ (ls : List (List Line)). IsBetween g.W.Hosting.opened ([] ∷ ls) at.marks.items (said_of at.logins) at.workers at.main) (take_all at.lines-index c.args.script.now (omega (arith, c.loop-lines-test.false))) at.invariant.between,
    )

pub returns-in_err-play_phase-clause-begun : goal.returns-in_err-play_phase-clause-begun
returns-in_err-play_phase-clause-begun g c =
    let o = g.W.Hosting.opened in
    let r = c.requires in
    let s = said_of c.none-logins.result in
    let ws = c.args.workers.now in
    let n = c.play_phase.new in
    played_begun o g.J.Naming.name.passes (length ws) [] c.args.script.now [] s c.new-marks.result.items ws c.args.main.now
    (played_none o c.args.script.now s c.new-marks.result.items ws c.args.main.now c.none-logins.ensures c.new-marks.ensures.items r.numbered r.number r.behind r.fresh r.stand) r.count
    n.workers n.main c.in_err-play_phase.ensures.begun

pub returns-in_err-play_phase-2-clause-begun : goal.returns-in_err-play_phase-2-clause-begun
returns-in_err-play_phase-2-clause-begun g c =
    let o = g.W.Hosting.opened in
    let script = c.args.script.now in
    let at = c.loop-lines in
    let i = at.lines-index in
    let l = c.as_slice.result.now in
    let size = length c.args.workers.now in
    let s = said_of at.logins in
    let n = c.play_phase-in-loop-lines.new in
    let parted : drop i script ≡ l ∷ drop (i + 1) script = drop_more script i c.lines-item.result c.loop-lines-test.true ∙ ap (λ (x : List Line). x ∷ drop (i + 1) script) (sym c.lines-item.is ∙ sym c.as_slice.ensures) in
    let to = subst (λ (ls : List (List Line)). IsPlayedTo o size ([] ∷ take i script) ls s at.marks.items at.workers at.main) parted at.invariant in
    let all : take i script ++ l ∷ drop (i + 1) script ≡ script = ap (λ (ls : List (List Line)). take i script ++ ls) (sym parted) ∙ take-append-drop i script in
    subst (λ (ls : List (List Line)). HaveBegun ([] ∷ ls) n.workers n.main) all
    (played_begun o g.J.Naming.name.passes size ([] ∷ take i script) (drop (i + 1) script) l s at.marks.items at.workers at.main to c.requires.count n.workers n.main c.in_err-play_phase-2.ensures.begun)

pub returns-clause-begun : goal.returns-clause-begun
returns-clause-begun g c =
    let at = c.loop-lines in
    let script = c.args.script.now in
    all_first ([] ∷ script) (said_of at.logins) at.workers at.main
    (subst (λ (ls : List (List Line)). HaveEntered ([] ∷ ls) (said_of at.logins) at.workers at.main) (take_all at.lines-index script (omega (arith, c.loop-lines-test.false))) at.invariant.entered)
