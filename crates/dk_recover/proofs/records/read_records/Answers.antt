use Rattle.std.proofs.Common.{◌≡◌, ℕ, Bool, List, [], ◌∷◌, ◌++◌, length, subst, ap, sym, ◌∙◌, arith}
use Rattle.dk_types.specs.declared.side.Side.{Side}
use Rattle.dk_disk.specs.Disk.{Disk}
use Rattle.dk_disk.specs.Opening.{IsOpen}
use Rattle.dk_disk.specs.DiskHistories.{now}
use Rattle.dk_model.specs.Stores.{Reads, header_spelling}
use Rattle.dk_journal.specs.Scanning.{IsScanned}
use Rattle.dk_journal.specs.Windows.{IsWindowOf}
use Rattle.dk_journal.specs.declared.scan.Scan.{Scan}
use Rattle.dk_journal.proofs.Going.{looks_on, looks_now}
use Rattle.dk_recover.specs.Records.{IsStepOf}
use Rattle.dk_recover.proofs.records.read_records.Goals as goal

pub returns-then-is_last-clause-read : goal.returns-then-is_last-clause-read
returns-then-is_last-clause-read g c tells header done same is world =
    let old = g.M.Home.past c.args.home.now in
    let here = g.M.Home.past c.records.home in
    let inv = c.records.invariant in
    let so = inv.goes tells header done same is world in
    let file : (now here c.records.scan.side).reads ≡ (now old c.args.scan.side).reads = ap (λ (s : Side). (now here s).reads) inv.side ∙ ap (λ (d : Disk). d.reads) (looks_now old here (inv.looks tells) c.args.scan.side) in
    let step = c.in_ok-next.ensures.step tells header so.0 same (subst (λ (f : List ℕ). IsScanned f (header_spelling header) so.0 c.records.scan.at c.records.scan.end) (sym file) so.1) so.2 in
    let whole = subst (λ (b : Bool). IsStepOf (now here c.records.scan.side).reads header so.0 c.next_world.new.scan.at c.next_world.new.scan.end c.in_ok-next.next b) c.if-is_last.true step in
    let place : c.next_world.new.scan.at ≡ c.records.scan.at = ap (λ (s : Scan). s.at) (c.in_ok-next.ensures.ended c.if-is_last.true) in
    (so.0, subst (λ (f : List ℕ). Reads f (header_spelling header) so.0) file whole.0, whole.1, omega (arith, c.journal.ensures.length, place, so.1.place))

pub returns-then-is_last-clause-journal : goal.returns-then-is_last-clause-journal
returns-then-is_last-clause-journal g c =
    let inv = c.records.invariant in
    let same = c.in_ok-next.ensures.same in
    let here = c.journal.ensures.header in
    (here.0 ∙ same.0 ∙ inv.side, here.1 ∙ same.2 ∙ inv.header.0, here.2 ∙ same.3 ∙ inv.header.1)

pub records-preserved : goal.records-preserved
records-preserved g c =
    let old = g.M.Home.past c.args.home.now in
    let here = g.M.Home.past c.records.home in
    let new = g.M.Home.past c.next_world.new.home in
    let inv = c.records.invariant in
    let e = c.in_ok-next.ensures in
    record {
      is_open = subst IsOpen (sym e.opening) inv.is_open;
      opening = e.opening ∙ inv.opening;
      whole = λ tells. e.same.1 ∙ inv.whole tells ∙ sym (ap (λ (s : Side). length (now new s).reads) e.same.0 ∙ ap (λ (d : Disk). length d.reads) (looks_now here new (e.looks tells) c.records.scan.side));
      window = λ tells. subst (IsWindowOf c.next_world.new.window) (sym (ap (λ (s : Side). (now new s).reads) e.same.0 ∙ ap (λ (d : Disk). d.reads) (looks_now here new (e.looks tells) c.records.scan.side))) (e.window tells);
      valid = e.valid;
      side = e.same.0 ∙ inv.side;
      header = (e.same.2 ∙ inv.header.0, e.same.3 ∙ inv.header.1);
      looks = λ tells. looks_on old here new (inv.looks tells) (e.looks tells);
      counted = e.steady (λ err. cc) ∙ inv.counted;
      goes = λ tells header done same is world.
          let so = inv.goes tells header done same is world in
          let file : (now here c.records.scan.side).reads ≡ (now old c.args.scan.side).reads = ap (λ (s : Side). (now here s).reads) inv.side ∙ ap (λ (d : Disk). d.reads) (looks_now old here (inv.looks tells) c.args.scan.side) in
          let step = e.step tells header so.0 same (subst (λ (f : List ℕ). IsScanned f (header_spelling header) so.0 c.records.scan.at c.records.scan.end) (sym file) so.1) so.2 in
          let more = subst (λ (b : Bool). IsStepOf (now here c.records.scan.side).reads header so.0 c.next_world.new.scan.at c.next_world.new.scan.end c.in_ok-next.next b) c.if-is_last.false step in
          (so.0 ++ more.0 ∷ [], subst (λ (f : List ℕ). IsScanned f (header_spelling header) (so.0 ++ more.0 ∷ []) c.next_world.new.scan.at c.next_world.new.scan.end) file more.1, more.2);
    }
