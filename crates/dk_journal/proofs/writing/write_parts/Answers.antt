use Rattle.std.proofs.Common.{◌+◌, ℕ, List, [], ◌∷◌, ◌++◌, length, ◌∙◌, ap, arith}
use Rattle.dk_disk.specs.Disk.{Disk, overwritten}
use Rattle.dk_disk.specs.DiskHistories.{now}
use Rattle.dk_types.specs.Fields.{blob_spelling, u32_spelling}
use Rattle.dk_journal.proofs.Going.{goes_further}
use Rattle.dk_journal.proofs.Steps.{at_end, three_writes}
use Rattle.dk_journal.proofs.writing.write_parts.Goals as goal

pub returns-in_err-write-2-clause-run : goal.returns-in_err-write-2-clause-run
returns-in_err-write-2-clause-run g c tells front le safe =
    let one = c.write.ensures.run tells front le safe in
    goes_further _ _ _ _ _ one (c.write-2.ensures.run tells front (omega (arith, le)) (at_end _ _ _ _ one))

pub returns-in_err-write-3-clause-run : goal.returns-in_err-write-3-clause-run
returns-in_err-write-3-clause-run g c tells front le safe =
    let one = c.write.ensures.run tells front le safe in
    let two = goes_further _ _ _ _ _ one (c.write-2.ensures.run tells front (omega (arith, le)) (at_end _ _ _ _ one)) in
    goes_further _ _ _ _ _ two (c.write-3.ensures.run tells front (omega (arith, le)) (at_end _ _ _ _ two))

pub returns-clause-run : goal.returns-clause-run
returns-clause-run g c tells front le safe =
    let one = c.write.ensures.run tells front le safe in
    let two = goes_further _ _ _ _ _ one (c.write-2.ensures.run tells front (omega (arith, le)) (at_end _ _ _ _ one)) in
    goes_further _ _ _ _ _ two (c.write-3.ensures.run tells front (omega (arith, le)) (at_end _ _ _ _ two))

pub returns-clause-written : goal.returns-clause-written
unfolding blob_spelling u32_spelling
returns-clause-written g c tells =
    let payload = c.args.payload.now in
    let reads = (now (g.M.Home.past c.args.home.now) c.args.side).reads in
    ap (λ (d : Disk). d.reads) (c.in_ok-write-3.ensures.written tells)
    ∙ ap (λ (d : Disk). overwritten (c.args.at + 4 + length payload) (0 ∷ []) d.reads) (c.in_ok-write-2.ensures.written tells)
    ∙ ap (λ (d : Disk). overwritten (c.args.at + 4 + length payload) (0 ∷ []) (overwritten (c.args.at + 4) payload d.reads)) (c.in_ok-write.ensures.written tells)
    ∙ three_writes c.args.at c.length_field.result payload (0 ∷ []) reads (c.args.at + 4) (c.args.at + 4 + length payload) (omega (arith, ap length c.length_field.ensures)) (omega arith) (c.requires.no_gap tells)
    ∙ ap (λ (field : List ℕ). overwritten c.args.at (field ++ payload ++ 0 ∷ []) reads) c.length_field.ensures
