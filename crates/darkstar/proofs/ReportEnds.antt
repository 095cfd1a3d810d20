-- What the status after a report says of the report.
use Rattle.std.proofs.Common.{◌≡◌, ◌∙◌, sym, subst, Result, Ok, Err, OnOk, IfErr, List, ℕ, Option}
use Rattle.std.specs.Result.{IsErrOf}
use Rattle.dk_command.specs.Requests.{ReportKind}
use Rattle.dk_recover.specs.Recovery.{IsOurs}
use Rattle.darkstar.specs.declared.report.Kind.{Kind}
use Rattle.darkstar.specs.Asked.{kind_of}
use Rattle.dk_reports.specs.Causes.{IsOfDevice}
use Rattle.dk_reports.specs.declared.fault.ReportFault.{ReportFault}
use Rattle.dk_reports.specs.declared.fault.ReportFault.TheVariants as fault
use Rattle.dk_status.specs.declared.status.Status.{Status}
use Rattle.dk_status.specs.declared.status.Status.TheVariants as status
use Rattle.darkstar.specs.Reports.{AppendsOne, AppendsPart, IsLineOf, status_of_report}
use Rattle.darkstar.specs.Statuses.{IsOkOrOfDevice}

module _ {T : Type 0} where
  -- a status that is Ok comes of a report that was written
  pub ended_ok : (A : Type 0) (r : Result T ReportFault) → OnOk r A → status_of_report r ≡ status.Ok → A
  ended_ok A (Ok done) has is = has
  ended_ok A (Err fault.NoMemory) has is = absurd cc
  ended_ok A (Err fault.DiskFault) has is = absurd cc
  ended_ok A (Err fault.WriteFault) has is = absurd cc
  ended_ok A (Err (fault.NotAStore side at)) has is = absurd cc
  ended_ok A (Err (fault.WrongGame found)) has is = absurd cc
  ended_ok A (Err (fault.Damaged side at)) has is = absurd cc

  -- a fault of the sink comes of one, and no other does
  pub ended_write : (r : Result T ReportFault) → status_of_report r ≡ status.WriteFault → IsErrOf r fault.WriteFault
  ended_write (Ok done) is = absurd cc
  ended_write (Err fault.NoMemory) is = absurd cc
  ended_write (Err fault.DiskFault) is = absurd cc
  ended_write (Err fault.WriteFault) is = cc
  ended_write (Err (fault.NotAStore side at)) is = absurd cc
  ended_write (Err (fault.WrongGame found)) is = absurd cc
  ended_write (Err (fault.Damaged side at)) is = absurd cc

  pub ended_device : (r : Result T ReportFault) → IfErr r IsOfDevice → IsOkOrOfDevice (status_of_report r)
  ended_device (Ok done) has = tt
  ended_device (Err fault.NoMemory) has = tt
  ended_device (Err fault.DiskFault) has = tt
  ended_device (Err fault.WriteFault) has = tt
  ended_device (Err (fault.NotAStore side at)) has = absurd has
  ended_device (Err (fault.WrongGame found)) has = absurd has
  ended_device (Err (fault.Damaged side at)) has = absurd has

-- a report of this kind, on files that give these bytes, as one of the game with this id
module _ (k : Kind) (kind : ReportKind) (same : kind_of k ≡ kind) (id game : List ℕ) (named : id ≡ game) (z o : List ℕ) where
  line_back : (line : List ℕ) → IsLineOf kind z o id line → IsLineOf (kind_of k) z o game line
  line_back line is = subst (λ (m : ReportKind). IsLineOf m z o game line) (sym same) (subst (λ (i : List ℕ). IsLineOf kind z o i line) named is)

  module _ {T : Type 0} (s : Status) (r : Result T ReportFault) (ends : s ≡ status_of_report r) where
    -- its whole line was appended
    pub report_done : (a b : Option (List ℕ)) → OnOk r (AppendsOne (IsLineOf kind z o id) a b) → s ≡ status.Ok → AppendsOne (IsLineOf (kind_of k) z o game) a b
    report_done a b has is = let one = ended_ok (AppendsOne (IsLineOf kind z o id) a b) r has (sym ends ∙ is) in (one.0, line_back one.0 one.1, one.2)

    -- a first part of it was
    pub report_torn : (a b : Option (List ℕ)) → (IsErrOf r fault.WriteFault → AppendsPart (IsLineOf kind z o id) a b) → s ≡ status.WriteFault → AppendsPart (IsLineOf (kind_of k) z o game) a b
    report_torn a b torn is = let one = torn (ended_write r (sym ends ∙ is)) in (one.0, line_back one.0 one.1, one.2)

    -- a store of the game is told
    pub report_complete : (IsOurs z o id → IfErr r IsOfDevice) → IsOurs z o game → IsOkOrOfDevice s
    report_complete accepted ours = subst IsOkOrOfDevice (sym ends) (ended_device r (accepted (subst (IsOurs z o) (sym named) ours)))
