use Rattle.std.proofs.Common.{◌≡◌, ◌<◌, ◌++◌, ◌∷◌, [], Err, IfOk, ⊎_elim, sym, ap, subst, ◌∙◌, arith}
use Rattle.std.proofs.lemmas.Result.{err_from_is_err_and, IfOk-weaker}
use Rattle.dk_types.specs.declared.side.Side.{Side}
use Rattle.dk_disk.specs.DiskHistories.{now}
use Rattle.dk_model.specs.DurableWorlds.{DurableWorld}
use Rattle.dk_model.specs.Stores.{Reads, header_spelling}
use Rattle.dk_journal.specs.Scanning.{IsScanned}
use Rattle.dk_commit_log.proofs.Beginning.{begun, image_of, image_reads, image_number, none_first, image_scanned}
use Rattle.dk_commit_log.proofs.Scanned.{err_of}
use Rattle.dk_commit_log.proofs.reading.commits_before.Goals as goal

pub returns-in_err-header-clause-undamaged : goal.returns-in_err-header-clause-undamaged
returns-in_err-header-clause-undamaged g c tells at is header payloads first others file begins =
    let p = err_from_is_err_and c.from_residual.result c.from_residual.ensures.1 in
    c.open_store.ensures.damaged tells at (c.in_err-header.was ∙ ap Err (sym p.2 ∙ err_of (sym p.1 ∙ is))) header payloads file

pub returns-then-header-eq0-clause-begins : goal.returns-then-header-eq0-clause-begins
returns-then-header-eq0-clause-begins g c tells header payloads first others file begins = none_first _ _ _ _ (c.in_ok-header.ensures.opened tells) header payloads file first others begins c.if-header-eq0.true

pub returns-in_err-image-clause-undamaged : goal.returns-in_err-image-clause-undamaged
returns-in_err-image-clause-undamaged g c tells at is header payloads first others file begins =
    let p = err_from_is_err_and c.from_residual-in_err-image.result c.from_residual-in_err-image.ensures.1 in
    let opened = c.in_ok-header.ensures.opened tells in
    let later : 0 < c.in_ok-header.header.epoch = omega (arith, c.if-header-eq0.false) in
    let same = ap (λ (s : Side). (now (g.M.Home.past c.open_store.new.home) s).reads) opened.side ∙ c.in_ok-header.ensures.reads tells in
    c.payload_at.ensures.damaged tells at (c.in_err-image.was ∙ ap Err (sym p.2 ∙ err_of (sym p.1 ∙ is))) (header_spelling header) [] (image_of _ _ _ _ opened header payloads file first others begins later).image others
    (subst (λ f. IsScanned f (header_spelling header) [] c.in_ok-header.scan.at c.in_ok-header.scan.end) (sym same) (begun _ _ _ _ opened header payloads file))
    (subst (λ f. Reads f (header_spelling header) ([] ++ (image_of _ _ _ _ opened header payloads file first others begins later).image ∷ others)) (sym same) (image_reads _ _ _ _ opened header payloads file first others begins later))

pub returns-clause-begins : goal.returns-clause-begins
returns-clause-begins g c tells =
    let opened = c.in_ok-header.ensures.opened tells in
    let later : 0 < c.in_ok-header.header.epoch = omega (arith, c.if-header-eq0.false) in
    let same = ap (λ (s : Side). (now (g.M.Home.past c.open_store.new.home) s).reads) opened.side ∙ c.in_ok-header.ensures.reads tells in
    IfOk-weaker c.number_of.result _ _
    (λ n told header payloads first others file begins.
    let front = image_scanned _ _ _ _ opened header payloads file first others begins later c.in_ok-image.image c.payload_at.new.scan
    (subst (λ f. IsScanned f (header_spelling header) ([] ++ c.in_ok-image.image ∷ []) c.payload_at.new.scan.at c.payload_at.new.scan.end) same
    (c.in_ok-image.ensures.next tells (header_spelling header) [] (subst (λ f. IsScanned f (header_spelling header) [] c.in_ok-header.scan.at c.in_ok-header.scan.end) (sym same) (begun _ _ _ _ opened header payloads file)))) in
    told first.commits front.0 (omega (arith, front.2)) front.1)
    c.number_of.ensures.number

pub returns-clause-undamaged : goal.returns-clause-undamaged
returns-clause-undamaged g c tells at is header payloads first others file begins =
    let opened = c.in_ok-header.ensures.opened tells in
    let later : 0 < c.in_ok-header.header.epoch = omega (arith, c.if-header-eq0.false) in
    let same = ap (λ (s : Side). (now (g.M.Home.past c.open_store.new.home) s).reads) opened.side ∙ c.in_ok-header.ensures.reads tells in
    let front = image_scanned _ _ _ _ opened header payloads file first others begins later c.in_ok-image.image c.payload_at.new.scan
    (subst (λ f. IsScanned f (header_spelling header) ([] ++ c.in_ok-image.image ∷ []) c.payload_at.new.scan.at c.payload_at.new.scan.end) same
    (c.in_ok-image.ensures.next tells (header_spelling header) [] (subst (λ f. IsScanned f (header_spelling header) [] c.in_ok-header.scan.at c.in_ok-header.scan.end) (sym same) (begun _ _ _ _ opened header payloads file)))) in
    c.number_of.ensures.damaged at is first.commits front.0 front.2 front.1
