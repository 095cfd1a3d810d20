use Rattle.std.proofs.Common.{◌≡◌, inl, inr, ℕ, ◌<◌, List, [], ◌∷◌, Ok, Err, refl, subst, ap, sym, ◌∙◌}
use Rattle.dk_disk.specs.DiskHistories.{now}
use Rattle.dk_model.specs.DurableWorlds.{DurableWorld}
use Rattle.dk_model.specs.Images.{SpellsImage}
use Rattle.dk_model.specs.Recovered.{IsDamaged, HasWorld}
use Rattle.dk_model.specs.Stores.{StoreHeader, header_spelling}
use Rattle.dk_model.specs.Validity.{IsValid}
use Rattle.dk_journal.specs.Scanning.{IsCutOff}
use Rattle.dk_journal.specs.declared.refused.JournalRefused.TheVariants as journal
use Rattle.dk_recover.specs.declared.fault.OpenFault.TheVariants.{DiskFault, Damaged}
use Rattle.dk_recover.proofs.Damages.{unfit_image_damages, closed_damages, cut_damages}
use Rattle.dk_recover.proofs.Faults.{fault_step, fault_side, fault_disk, disk_fault}
use Rattle.dk_recover.proofs.records.first_world.Goals as goal

pub returns-in-Ok-None-clause-first : goal.returns-in-Ok-None-clause-first
returns-in-Ok-None-clause-first g c tells header same epoch is =
    let file = (now (g.M.Home.past c.args.home.now) c.args.scan.now.side).reads in
    subst (IsDamaged file header) (sym c.at-at.ensures)
    (closed_damages file header c.args.scan.now.at c.args.scan.now.end is epoch (c.in-Ok-None.ensures.none tells (ap Ok c.in-Ok-None.field-0-is) (header_spelling header) [] is))

-- the image alone
begins : (header : StoreHeader) (payload : List ℕ) (first : DurableWorld) → 0 < header.epoch → SpellsImage header.format first payload → IsValid first → HasWorld header (payload ∷ []) first
begins header payload first epoch spelled valid = inr (epoch, record { image = payload; others = []; parts = refl; first = first; spelled = spelled; valid = valid; rest = refl })

pub returns-in-Ok-clause-first : goal.returns-in-Ok-clause-first
returns-in-Ok-clause-first g c tells header same epoch is =
    let payload = c.in-Ok-Some.payload in
    let told = rw c.in-Ok-Some.field-0-is at (c.in-Ok-Some.ensures.some tells) in
    let format : c.format-format.result ≡ header.format = c.format-format.ensures.value ∙ sym same in
    (payload, told (header_spelling header) [] is, begins header payload c.in-Ok.first epoch (subst (λ (n : ℕ). SpellsImage n c.in-Ok.first payload) format c.in-Ok.ensures.fits.0) c.in-Ok.ensures.fits.1)

pub returns-in-Err-DoesNotFit-clause-first : goal.returns-in-Err-DoesNotFit-clause-first
returns-in-Err-DoesNotFit-clause-first g c tells header same epoch is =
    let file = (now (g.M.Home.past c.args.home.now) c.args.scan.now.side).reads in
    let payload = c.in-Ok-Some.payload in
    let told = rw c.in-Ok-Some.field-0-is at (c.in-Ok-Some.ensures.some tells) in
    let format : header.format ≡ c.format-format.result = same ∙ sym c.format-format.ensures.value in
    subst (IsDamaged file header) (sym c.at-at.ensures)
    (unfit_image_damages file header c.args.scan.now.at c.args.scan.now.end is epoch payload c.next.new.self.at c.next.new.self.end (told (header_spelling header) [] is)
    (λ first spells valid. c.in-Err-DoesNotFit.ensures.unfit (ap Err c.in-Err-DoesNotFit.field-0-is) first (subst (λ (n : ℕ). SpellsImage n first payload) format spells) valid))

pub returns-clause-first : goal.returns-clause-first
returns-clause-first g c tells header same epoch is =
    let file = (now (g.M.Home.past c.args.home.now) c.args.scan.now.side).reads in
    fault_step file header [] c.next.new.self.at c.next.new.self.end c.in-Err.refused c.side-side.result c.fault_of.result c.fault_of.ensures c.in-Err.ensures.only
    (λ place e.
    let d = c.in-Err.ensures.damaged tells place (ap Err e) in
    subst (IsDamaged file header) (sym d.0) (cut_damages file header [] c.args.scan.now.at c.args.scan.now.end is (inl refl) (subst (IsCutOff file) d.0 d.1)))

pub returns-clause-side : goal.returns-clause-side
returns-clause-side g c side place e =
    let f : c.fault_of.result ≡ Damaged side place = cc in
    fault_side c.in-Err.refused c.side-side.result c.fault_of.result c.fault_of.ensures c.in-Err.ensures.only side place f ∙ c.side-side.ensures

pub returns-clause-steady : goal.returns-clause-steady
returns-clause-steady g c never =
    c.next.ensures.steady (λ err. let v : c.in-Err.refused ≡ journal.DiskFault = cc in never (ap Err (disk_fault c.in-Err.refused c.side-side.result c.fault_of.result c.fault_of.ensures v)))

pub returns-clause-cause : goal.returns-clause-cause
returns-clause-cause g c err =
    let f : c.fault_of.result ≡ DiskFault = cc in
    c.in-Err.ensures.cause (ap Err (fault_disk c.in-Err.refused c.side-side.result c.fault_of.result c.fault_of.ensures c.in-Err.ensures.only f))
