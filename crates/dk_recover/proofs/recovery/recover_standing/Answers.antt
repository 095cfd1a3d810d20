use Rattle.std.proofs.Common.{◌≡◌, ℕ, Bool, List, [], Ok, Err, not, true, false, refl, subst, ap, sym, ◌∙◌}
use Rattle.std.specs.Prelude.{nat_eq}
use Rattle.std.specs.Cmp.Lexicographic.{pointwise}
use Rattle.std.proofs.lemmas.Slice.Eq.{bytes_eq-Decides}
use Rattle.std.proofs.lemmas.Bool.{false≢true}
use Rattle.dk_disk.specs.Disk.{settled}
use Rattle.dk_disk.specs.DiskHistories.{now}
use Rattle.dk_types.specs.declared.side.Side.{Side}
use Rattle.dk_types.specs.declared.side.Side.TheVariants.{Zero, One}
use Rattle.dk_model.specs.Recovered.{file_on}
use Rattle.dk_model.specs.Stores.{header_spelling}
use Rattle.dk_journal.specs.Headers.{store_header}
use Rattle.dk_journal.specs.Scanning.{IsScanned}
use Rattle.dk_journal.proofs.Going.{looks_now}
use Rattle.dk_recover.specs.Recovery.{IsAnswer}
use Rattle.dk_recover.specs.Records.{IsWhole}
use Rattle.dk_recover.specs.declared.fault.OpenFault.TheVariants.{NoMemory}
use Rattle.dk_recover.proofs.Recoveries.{side_file, of_other, ours, refused, recovered, handed_on}
use Rattle.dk_recover.proofs.recovery.recover_standing.Goals as goal

not_true : (b : Bool) → not b ≡ false → b ≡ true
not_true true e = refl
not_true false e = sym e

other_games : (a b : List ℕ) (r : Bool) → r ≡ not (pointwise nat_eq a b) → r ≡ true → a ≡ b → ⊥
other_games a b r e is same = false≢true (sym (ap not ((bytes_eq-Decides a b).1 same)) ∙ sym e ∙ is)

same_games : (a b : List ℕ) (r : Bool) → r ≡ not (pointwise nat_eq a b) → r ≡ false → a ≡ b
same_games a b r e is = (bytes_eq-Decides a b).0 (not_true (pointwise nat_eq a b) (sym e ∙ is))

pub returns-then-ne-clause-answer : goal.returns-then-ne-clause-answer
returns-then-ne-clause-answer g c tells rests is =
    of_other (now (g.M.Home.past c.args.home.now) Zero).reads (now (g.M.Home.past c.args.home.now) One).reads c.args.game.now c.args.header c.args.scan is
    (other_games c.args.header.game c.args.game.now c.ne.result c.ne.ensures c.if-ne.true)

pub returns-in_err-world-clause-answer : goal.returns-in_err-world-clause-answer
returns-in_err-world-clause-answer g c tells rests is =
    let old = g.M.Home.past c.args.home.now in
    let z = (now old Zero).reads in
    let o = (now old One).reads in
    let new = g.M.Home.past c.read_store.new.home in
    let game = same_games c.args.header.game c.args.game.now c.ne.result c.ne.ensures c.if-ne.false in
    let file = side_file old c.args.scan.side in
    let header = store_header c.args.header in
    let fault = c.in_err-world.field-0.0 in
    let whole = c.in_err-world.ensures.read tells header refl (sym is.opened.format) (subst (λ (f : List ℕ). IsScanned f (header_spelling header) [] c.args.scan.at c.args.scan.end) file is.opened.scanned) in
    subst (IsAnswer z o c.args.game.now new) (sym (handed_on fault c.from_residual.result c.from_residual.ensures.0 c.from_residual.ensures.1))
    (refused z o c.args.game.now c.args.header c.args.scan is game new fault (subst (λ (f : List ℕ). IsWhole f header (Err fault)) (sym file) whole) (λ side at bad. c.in_err-world.ensures.side side at (ap Err bad)))

pub returns-in_err-durable-clause-answer : goal.returns-in_err-durable-clause-answer
returns-in_err-durable-clause-answer g c tells rests is =
    let old = g.M.Home.past c.args.home.now in
    let z = (now old Zero).reads in
    let o = (now old One).reads in
    let game = same_games c.args.header.game c.args.game.now c.ne.result c.ne.ensures c.if-ne.false in
    let failed = c.from_residual-in_err-durable.ensures in
    subst (IsAnswer z o c.args.game.now (g.M.Home.past c.read_store.new.home)) (sym (handed_on NoMemory c.from_residual-in_err-durable.result failed.0 failed.1)) (ours z o c.args.game.now c.args.header c.args.scan is game)

pub returns-clause-answer : goal.returns-clause-answer
returns-clause-answer g c tells rests is =
    let old = g.M.Home.past c.args.home.now in
    let z = (now old Zero).reads in
    let o = (now old One).reads in
    let new = g.M.Home.past c.read_store.new.home in
    let game = same_games c.args.header.game c.args.game.now c.ne.result c.ne.ensures c.if-ne.false in
    let file = side_file old c.args.scan.side in
    let header = store_header c.args.header in
    let whole = c.in_ok-world.ensures.read tells header refl (sym is.opened.format) (subst (λ (f : List ℕ). IsScanned f (header_spelling header) [] c.args.scan.at c.args.scan.end) file is.opened.scanned) in
    let at : (s : Side) → now new s ≡ settled (file_on s z o) = λ s. looks_now old new (c.in_ok-world.ensures.looks tells) s ∙ rests s ∙ ap settled (sym (side_file old s)) in
    recovered z o c.args.game.now c.args.header c.args.scan is game new c.in_ok-world.world c.in_ok-world.journal c.in_ok-durable.durable c.side-side.result c.format-format.result
    (subst (λ (f : List ℕ). IsWhole f header (Ok (c.in_ok-world.world, c.in_ok-world.journal))) (sym file) whole) c.in_ok-world.ensures.journal at c.in_ok-durable.ensures c.side-side.ensures c.format-format.ensures.value

pub returns-clause-valid : goal.returns-clause-valid
returns-clause-valid g c = (c.in_ok-world.world, c.in_ok-world.ensures.valid, c.in_ok-durable.ensures)
