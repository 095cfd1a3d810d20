use Rattle.std.proofs.Common.{◌≡◌, inr, ℕ, List, Ok, Err, subst, ap, sym, ◌∙◌}
use Rattle.dk_disk.specs.DiskHistories.{now}
use Rattle.dk_model.specs.Recovered.{Takes, IsDamaged}
use Rattle.dk_model.specs.Stores.{header_spelling}
use Rattle.dk_journal.specs.Scanning.{IsCutOff}
use Rattle.dk_journal.specs.Windows.{payload_of}
use Rattle.dk_journal.specs.declared.refused.JournalRefused.TheVariants as journal
use Rattle.dk_recover.specs.declared.fault.OpenFault.TheVariants.{DiskFault, Damaged}
use Rattle.dk_image.proofs.Worlds.{next_world, takes_valid}
use Rattle.dk_recover.proofs.Damages.{unfit_damages, cut_damages}
use Rattle.dk_recover.proofs.Faults.{fault_step, fault_side, fault_disk, disk_fault}
use Rattle.dk_recover.proofs.records.next_world.Goals as goal

pub returns-in-Ok-false-clause-step : goal.returns-in-Ok-false-clause-step
returns-in-Ok-false-clause-step g c tells header done same is world =
    (c.in-Ok-false.ensures.none tells (ap Ok c.in-Ok-false.field-0-test) (header_spelling header) done is, world)

pub returns-in-Ok-clause-step : goal.returns-in-Ok-clause-step
returns-in-Ok-clause-step g c tells header done same is world =
    let payload = payload_of c.next_in.new.window in
    let told = c.in-Ok-true.ensures.some tells (ap Ok c.in-Ok-true.field-0-test) in
    (payload, told (header_spelling header) done is, next_world header done payload c.args.world c.in-Ok.next world (subst (λ (n : ℕ). Takes n c.args.world payload c.in-Ok.next) (sym same) (subst (λ (p : List ℕ). Takes c.args.format c.args.world p c.in-Ok.next) c.payload.ensures c.in-Ok.ensures.fits)))

pub returns-in-Ok-clause-valid : goal.returns-in-Ok-clause-valid
returns-in-Ok-clause-valid g c = takes_valid c.args.format c.args.world c.in-Ok.next _ c.requires.valid c.in-Ok.ensures.fits

pub returns-in-Err-DoesNotFit-clause-step : goal.returns-in-Err-DoesNotFit-clause-step
returns-in-Err-DoesNotFit-clause-step g c tells header done same is world =
    let file = (now (g.M.Home.past c.args.home.now) c.args.scan.now.side).reads in
    let payload = payload_of c.next_in.new.window in
    let told = c.in-Ok-true.ensures.some tells (ap Ok c.in-Ok-true.field-0-test) in
    subst (IsDamaged file header) (sym c.at-at.ensures)
    (unfit_damages file header done c.args.scan.now.at c.args.scan.now.end c.args.world is world payload c.next_in.new.self.at c.next_in.new.self.end (told (header_spelling header) done is)
    (λ last takes. c.in-Err-DoesNotFit.ensures.unfit (ap Err c.in-Err-DoesNotFit.field-0-is) last (subst (λ (n : ℕ). Takes n c.args.world c.payload.result.now last) same (subst (λ (p : List ℕ). Takes header.format c.args.world p last) (sym c.payload.ensures) takes))))

pub returns-in-Err-clause-step : goal.returns-in-Err-clause-step
returns-in-Err-clause-step g c tells header done same is world =
    let file = (now (g.M.Home.past c.args.home.now) c.args.scan.now.side).reads in
    fault_step file header done c.next_in.new.self.at c.next_in.new.self.end c.in-Err.refused c.side-side.result c.fault_of.result c.fault_of.ensures c.in-Err.ensures.only
    (λ place e.
    let d = c.in-Err.ensures.damaged tells place (ap Err e) in
    subst (IsDamaged file header) (sym d.0) (cut_damages file header done c.args.scan.now.at c.args.scan.now.end is (inr (c.args.world, world)) (subst (IsCutOff file) d.0 d.1)))

pub returns-in-Err-clause-side : goal.returns-in-Err-clause-side
returns-in-Err-clause-side g c side place e =
    let f : c.fault_of.result ≡ Damaged side place = cc in
    fault_side c.in-Err.refused c.side-side.result c.fault_of.result c.fault_of.ensures c.in-Err.ensures.only side place f ∙ c.side-side.ensures

pub returns-in-Err-clause-steady : goal.returns-in-Err-clause-steady
returns-in-Err-clause-steady g c never =
    c.next_in.ensures.steady (λ err. let v : c.in-Err.refused ≡ journal.DiskFault = cc in never (ap Err (disk_fault c.in-Err.refused c.side-side.result c.fault_of.result c.fault_of.ensures v)))

pub returns-in-Err-clause-cause : goal.returns-in-Err-clause-cause
returns-in-Err-clause-cause g c err =
    let f : c.fault_of.result ≡ DiskFault = cc in
    c.in-Err.ensures.cause (ap Err (fault_disk c.in-Err.refused c.side-side.result c.fault_of.result c.fault_of.ensures c.in-Err.ensures.only f))
