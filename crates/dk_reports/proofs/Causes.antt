-- What a fault of recovering says of the files.
use Rattle.std.proofs.Common.{◌≡◌, Result, Ok, Err, IfErr, sym, ap, subst}
use Rattle.std.proofs.lemmas.Bool.{false≢true}
use Rattle.std.specs.Result.{IsErr, IsErrAnd}
use Rattle.dk_recover.specs.Recovery.{IsOfDevice}
use Rattle.dk_recover.specs.declared.fault.OpenFault.{OpenFault}
use Rattle.dk_recover.specs.declared.fault.OpenFault.TheVariants as opened
use Rattle.dk_reports.specs.Causes.{fault_of}
use Rattle.dk_reports.specs.Causes as reports
use Rattle.dk_reports.specs.declared.fault.ReportFault.{ReportFault}
use Rattle.dk_reports.specs.declared.fault.ReportFault.TheVariants.{DiskFault}

pub device_of : (fault : OpenFault) → IsOfDevice fault → reports.IsOfDevice (fault_of fault)
device_of opened.NoMemory is = tt
device_of opened.DiskFault is = tt
device_of (opened.NotAStore side at) is = absurd is
device_of (opened.WrongGame found) is = absurd is
device_of (opened.Damaged side at) is = absurd is

module _ {T : Type 0} (P : ReportFault → Type 0) (fault : ReportFault) where
  -- a fault that is handed on
  pub handed_on : (r : Result T ReportFault) → IsErr r → IsErrAnd r (λ f. f ≡ fault) → r ≡ Err fault
  handed_on (Ok found) err same = absurd (false≢true err)
  handed_on (Err f) err same = ap Err same

  pub told : (r : Result T ReportFault) → IsErr r → IsErrAnd r (λ f. f ≡ fault) → P fault → IfErr r P
  told r err same is = subst (λ (e : Result T ReportFault). IfErr e P) (sym (handed_on r err same)) is
