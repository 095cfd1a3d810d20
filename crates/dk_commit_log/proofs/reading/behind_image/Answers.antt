use Rattle.std.proofs.Common.{◌≡◌, ◌++◌, ◌∷◌, [], Err, sym, ap, subst, ◌∙◌, arith}
use Rattle.std.proofs.lemmas.Result.{err_from_is_err_and}
use Rattle.dk_types.specs.declared.side.Side.{Side}
use Rattle.dk_disk.specs.DiskHistories.{now}
use Rattle.dk_model.specs.Stores.{Reads, header_spelling}
use Rattle.dk_journal.specs.Scanning.{IsScanned}
use Rattle.dk_commit_log.proofs.Beginning.{at_first, begun, behind_first, image_of, image_reads}
use Rattle.dk_commit_log.proofs.Scanned.{err_of}
use Rattle.dk_commit_log.proofs.reading.behind_image.Goals as goal

pub returns-in_err-header-clause-damaged : goal.returns-in_err-header-clause-damaged
returns-in_err-header-clause-damaged g c tells at is header payloads first others file begins =
    let p = err_from_is_err_and c.from_residual.result c.from_residual.ensures.1 in
    c.open_store.ensures.damaged tells at (c.in_err-header.was ∙ ap Err (sym p.2 ∙ err_of (sym p.1 ∙ is))) header payloads file

pub returns-in_err-payload_at-clause-damaged : goal.returns-in_err-payload_at-clause-damaged
returns-in_err-payload_at-clause-damaged g c tells at is header payloads first others file begins =
    let p = err_from_is_err_and c.from_residual-in_err-payload_at.result c.from_residual-in_err-payload_at.ensures.1 in
    let opened = c.in_ok-header.ensures.opened tells in
    let reads = c.in_ok-header.ensures.reads tells in
    let same = ap (λ (s : Side). (now (g.M.Home.past c.open_store.new.home) s).reads) opened.side ∙ reads in
    c.payload_at.ensures.damaged tells at (c.in_err-payload_at.was ∙ ap Err (sym p.2 ∙ err_of (sym p.1 ∙ is))) (header_spelling header) [] (image_of _ _ _ _ opened header payloads file first others begins c.if-header-gt0.true).image others
    (subst (λ f. IsScanned f (header_spelling header) [] c.in_ok-header.scan.at c.in_ok-header.scan.end) (sym same) (begun _ _ _ _ opened header payloads file))
    (subst (λ f. Reads f (header_spelling header) ([] ++ (image_of _ _ _ _ opened header payloads file first others begins c.if-header-gt0.true).image ∷ others)) (sym same) (image_reads _ _ _ _ opened header payloads file first others begins c.if-header-gt0.true))

pub returns-in_ok-payload_at-clause-begins : goal.returns-in_ok-payload_at-clause-begins
returns-in_ok-payload_at-clause-begins g c tells header payloads first others file begins =
    let opened = c.in_ok-header.ensures.opened tells in
    let reads = c.in_ok-header.ensures.reads tells in
    let same = ap (λ (s : Side). (now (g.M.Home.past c.open_store.new.home) s).reads) opened.side ∙ reads in
    behind_first _ _ _ _ opened header payloads file first others begins c.if-header-gt0.true c.in_ok-payload_at.field-0 c.payload_at.new.scan
    (subst (λ f. IsScanned f (header_spelling header) ([] ++ c.in_ok-payload_at.field-0 ∷ []) c.payload_at.new.scan.at c.payload_at.new.scan.end) same
    (c.in_ok-payload_at.ensures.next tells (header_spelling header) [] (subst (λ f. IsScanned f (header_spelling header) [] c.in_ok-header.scan.at c.in_ok-header.scan.end) (sym same) (begun _ _ _ _ opened header payloads file))))
    c.payload_at.ensures.same.2

pub returns-else-header-gt0-clause-begins : goal.returns-else-header-gt0-clause-begins
returns-else-header-gt0-clause-begins g c tells header payloads first others file begins =
    at_first _ _ _ _ (c.in_ok-header.ensures.opened tells) header payloads file first others begins (omega (arith, c.if-header-gt0.false))
