use Rattle.std.proofs.Common.{◌≡◌, ◌+◌, ◌++◌, ◌∷◌, [], Err, sym, ap, subst, ◌∙◌, arith}
use Rattle.std.proofs.lemmas.Result.{err_from_is_err_and}
use Rattle.dk_types.specs.declared.side.Side.{Side}
use Rattle.dk_disk.specs.DiskHistories.{now}
use Rattle.dk_model.specs.Entries.{SpellsEntries}
use Rattle.dk_model.specs.Stores.{Reads, header_spelling}
use Rattle.dk_journal.proofs.Going.{looks_on}
use Rattle.dk_journal.specs.Scanning.{IsScanned}
use Rattle.dk_commit_log.specs.Ranges.{between}
use Rattle.dk_commit_log.proofs.Numbers.{between_void}
use Rattle.dk_commit_log.proofs.Scanned.{err_of, not_err}
use Rattle.dk_commit_log.proofs.Walks.{walk_begins, has_more, more_numbered, left_next, taken_spelled, all_kept, passed_next, passed_numbered, reads_still}
use Rattle.dk_commit_log.proofs.reading.read_commits.Goals as goal

pub returns-then-last-after-clause-read : goal.returns-then-last-after-clause-read
returns-then-last-after-clause-read g c tells header payloads d first all log = c.new-found.ensures.none ∙ sym (between_void c.args.after c.args.last all c.if-last-after.true)

pub returns-in_err-scan-clause-undamaged : goal.returns-in_err-scan-clause-undamaged
returns-in_err-scan-clause-undamaged g c tells header payloads d first all log at is =
    let p = err_from_is_err_and c.from_residual.result c.from_residual.ensures.1 in
    c.behind_image.ensures.damaged tells at (c.in_err-scan.was ∙ ap Err (sym p.2 ∙ err_of (sym p.1 ∙ is))) header payloads first log.log.others log.file log.log.begins

pub records-init : goal.records-init
records-init g c = record {
  range = (c.new-found.ensures.range.1, c.new-found.ensures.range.2);
  order = omega (arith, c.if-last-after.false);
  opening = c.behind_image.ensures.opening;
  counted = c.in_ok-scan.ensures.steady not_err;
  looks = c.behind_image.ensures.looks;
  reads = λ tells. c.in_ok-scan.ensures.reads tells;
  side = λ tells. (c.in_ok-scan.ensures.scan tells).0;
  whole = λ tells. (c.in_ok-scan.ensures.scan tells).1;
  walk = walk_begins g.M.Home.tells _ _ _ _ _ _ _ c.new-found.ensures.range.0 c.new-found.ensures.none (λ tells. c.in_ok-scan.ensures.begins tells);
}

pub returns-in_err-payload-clause-undamaged : goal.returns-in_err-payload-clause-undamaged
returns-in_err-payload-clause-undamaged g c tells header payloads d first all log at is =
    let p = err_from_is_err_and c.from_residual-in_err-payload.result c.from_residual-in_err-payload.ensures.1 in
    let inv = c.records.invariant in
    let same = ap (λ (s : Side). (now (g.M.Home.past c.records.home) s).reads) (inv.side tells) ∙ inv.reads tells in
    let m = has_more _ header payloads d first all _ _ _ _ _ _ _ log inv.walk.is c.records-test.true (inv.walk.log tells header payloads d first all log) in
    c.payload_at.ensures.damaged tells at (c.in_err-payload.was ∙ ap Err (sym p.2 ∙ err_of (sym p.1 ∙ is))) (header_spelling header) m.done m.payload m.more
    (subst (λ f. IsScanned f (header_spelling header) m.done c.records.scan.at c.records.scan.end) (sym same) m.scanned) (subst (λ f. Reads f (header_spelling header) (m.done ++ m.payload ∷ m.more)) (sym same) m.reads)

pub returns-in_err-take_record-clause-undamaged : goal.returns-in_err-take_record-clause-undamaged
returns-in_err-take_record-clause-undamaged g c tells header payloads d first all log at is =
    let p = err_from_is_err_and c.from_residual-in_err-take_record.result c.from_residual-in_err-take_record.ensures.1 in
    let inv = c.records.invariant in
    let same = ap (λ (s : Side). (now (g.M.Home.past c.records.home) s).reads) (inv.side tells) ∙ inv.reads tells in
    let m = has_more _ header payloads d first all _ _ _ _ _ _ _ log inv.walk.is c.records-test.true (inv.walk.log tells header payloads d first all log) in
    let scanned = subst (λ f. IsScanned f (header_spelling header) (m.done ++ c.in_ok-payload.payload ∷ []) c.payload_at.new.scan.at c.payload_at.new.scan.end) same
    (c.in_ok-payload.ensures.next tells (header_spelling header) m.done (subst (λ f. IsScanned f (header_spelling header) m.done c.records.scan.at c.records.scan.end) (sym same) m.scanned)) in
    c.take_record.ensures.damaged at (c.in_err-take_record.was ∙ ap Err (sym p.2 ∙ err_of (sym p.1 ∙ is))) m.here
    (subst (λ n. SpellsEntries n m.here c.in_ok-payload.payload) (sym c.format-format.ensures.value) (taken_spelled _ header payloads d first all _ _ _ _ _ _ _ log inv.walk.is m c.in_ok-payload.payload c.payload_at.new.scan scanned))
    (more_numbered _ header payloads d first all _ _ _ _ _ _ _ log inv.walk.is m)

pub records-preserved : goal.records-preserved
records-preserved g c =
    let inv = c.records.invariant in
    let taken = c.in_ok-take_record.ensures.taken in record {
      range = (c.take_record.ensures.range.0 ∙ inv.range.0, c.take_record.ensures.range.1 ∙ inv.range.1);
      order = inv.order;
      opening = c.payload_at.ensures.opening ∙ inv.opening;
      counted = c.in_ok-payload.ensures.steady not_err ∙ inv.counted;
      looks = λ tells rests. looks_on _ _ _ (inv.looks tells rests) (c.payload_at.ensures.looks tells);
      reads = λ tells. reads_still _ _ c.args.side (c.payload_at.ensures.looks tells) ∙ inv.reads tells;
      side = λ tells. c.payload_at.ensures.same.0 ∙ inv.side tells;
      whole = λ tells. c.payload_at.ensures.same.1 ∙ inv.whole tells;
      walk = record {
        passed = inv.walk.passed ++ taken.0;
        is = passed_next _ _ _ _ _ _ _ inv.walk.passed taken.0 inv.walk.is taken.2 taken.3 (taken.4 ∙ (λ i. c.records.found.entries.items ++ between (inv.range.0 i) (inv.range.1 i) taken.0));
        log = λ tells header payloads d first all log.
            let same = ap (λ (s : Side). (now (g.M.Home.past c.records.home) s).reads) (inv.side tells) ∙ inv.reads tells in
            let m = has_more _ header payloads d first all _ _ _ _ _ _ _ log inv.walk.is c.records-test.true (inv.walk.log tells header payloads d first all log) in
            let scanned = subst (λ f. IsScanned f (header_spelling header) (m.done ++ c.in_ok-payload.payload ∷ []) c.payload_at.new.scan.at c.payload_at.new.scan.end) same
            (c.in_ok-payload.ensures.next tells (header_spelling header) m.done (subst (λ f. IsScanned f (header_spelling header) m.done c.records.scan.at c.records.scan.end) (sym same) m.scanned)) in
            left_next _ header payloads d first all _ _ _ _ _ _ _ log inv.walk.is m c.in_ok-payload.payload c.payload_at.new.scan taken.0 scanned c.payload_at.ensures.same.2 (subst (λ n. SpellsEntries n taken.0 c.in_ok-payload.payload) c.format-format.ensures.value taken.1);
      };
    }

pub returns-clause-numbered : goal.returns-clause-numbered
returns-clause-numbered g c =
    let inv = c.records.invariant in
    passed_numbered _ _ _ _ _ _ inv.walk.is c.requires.behind (omega (arith, inv.order)) (omega (arith, c.records-test.false))

pub returns-clause-read : goal.returns-clause-read
returns-clause-read g c tells header payloads d first all log =
    let inv = c.records.invariant in
    let left = inv.walk.log tells header payloads d first all log in
    all_kept _ header payloads d first all _ _ _ _ _ _ c.records.scan log inv.walk.is (omega (arith, c.records-test.false)) left.left left.parts
