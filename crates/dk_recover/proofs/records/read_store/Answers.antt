use Rattle.std.proofs.Common.{◌≡◌, inl, ℕ, List, [], ◌∷◌, refl, subst, ap, sym, ◌∙◌, arith}
use Rattle.dk_types.specs.declared.side.Side.{Side}
use Rattle.dk_disk.specs.Disk.{Disk}
use Rattle.dk_disk.specs.DiskHistories.{now}
use Rattle.dk_model.specs.Recovered.{HasWorld}
use Rattle.dk_model.specs.Stores.{header_spelling}
use Rattle.dk_model.specs.Validity.{IsValid}
use Rattle.dk_image.proofs.Worlds.{empty_valid}
use Rattle.dk_journal.specs.Scanning.{IsScanned}
use Rattle.dk_journal.proofs.Going.{looks_now}
use Rattle.dk_recover.specs.Records.{IsWhole}
use Rattle.dk_recover.proofs.records.read_store.Goals as goal

pub read_records-requires-clause-valid : goal.read_records-requires-clause-valid
read_records-requires-clause-valid g c = subst IsValid (sym c.empty.ensures) empty_valid

pub returns-then-epoch-eq0-clause-read : goal.returns-then-epoch-eq0-clause-read
returns-then-epoch-eq0-clause-read g c tells header epoch format is =
    c.read_records.ensures.read tells header [] (format ∙ sym c.format-format.ensures.value) is
    (subst (HasWorld header []) (sym c.empty.ensures) (inl (omega (arith, epoch, c.if-epoch-eq0.true), refl)))

pub returns-clause-read : goal.returns-clause-read
returns-clause-read g c tells header epoch format is =
    let old = g.M.Home.past c.args.home.now in
    let mid = g.M.Home.past c.first_world.new.home in
    let side = c.args.scan.side in
    let file : (now mid c.first_world.new.scan.side).reads ≡ (now old side).reads = ap (λ (s : Side). (now mid s).reads) c.in_ok-first.ensures.same.0 ∙ ap (λ (d : Disk). d.reads) (looks_now old mid (c.in_ok-first.ensures.looks tells) side) in
    let more = c.in_ok-first.ensures.first tells header format (omega (arith, epoch, c.if-epoch-eq0.false)) is in
    subst (λ (f : List ℕ). IsWhole f header c.read_records-2.result) file
    (c.read_records-2.ensures.read tells header (more.0 ∷ []) (format ∙ sym c.format-format.ensures.value) (subst (λ (f : List ℕ). IsScanned f (header_spelling header) (more.0 ∷ []) c.first_world.new.scan.at c.first_world.new.scan.end) (sym file) more.1) more.2)
