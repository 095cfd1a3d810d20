use Rattle.std.proofs.Common.{◌≡◌, ◌≤◌, ◌∷◌, [], ℕ, ⊎_elim, length, take, drop, ap, sym, ◌∙◌, arith}
use Rattle.dk_disk.specs.Disk.{Disk}
use Rattle.dk_disk.specs.DiskHistories.{now}
use Rattle.dk_model.specs.Entries.{IsFormat}
use Rattle.dk_model.specs.Stores.{Faulty}
use Rattle.dk_journal.specs.Headers.{store_header}
use Rattle.dk_journal.proofs.Lookings.{look_live, look_faulty, scanned_first, first_byte}
use Rattle.dk_journal.proofs.opening.look_at.Goals as goal

pub returns-in-Ok-clause-live : goal.returns-in-Ok-clause-live
returns-in-Ok-clause-live g c tells =
    let side = c.args.side in
    let file = (now (g.M.Home.past c.args.home.now) side).reads in
    let long : 65 ≤ length file = omega (arith, c.requires.whole tells) in
    let gate : 1 ∷ [] ≡ take 1 (drop 0 file) = ap (λ n. n ∷ []) (sym c.if-gate-ne1.false) ∙ c.in_ok-gate.ensures.byte tells in
    let bytes : c.read.new.into ≡ take 64 (drop 0 file) = c.in_ok-read.ensures.bytes tells ∙ ap (λ (d : Disk). take 64 (drop 0 d.reads)) (c.byte_at.ensures.files tells side) in
    let read = c.in-Ok.ensures in
    record {
      looks = look_live file _ (store_header c.in-Ok.header) gate long bytes read.fine read.same;
      fits = read.fits;
      scanned = scanned_first file _ (store_header c.in-Ok.header) _ _ read.fits bytes (read.spelled (first_byte file _ gate bytes long)) c.first-scan.ensures.place.0 long (c.first-scan.ensures.place.1 ∙ c.requires.whole tells);
      side = c.first-scan.ensures.header.0;
      epoch = c.first-scan.ensures.header.1;
      format = c.first-scan.ensures.header.2;
    }

pub returns-in-Err-clause-fault : goal.returns-in-Err-clause-fault
returns-in-Err-clause-fault g c tells at err =
    let side = c.args.side in
    let file = (now (g.M.Home.past c.args.home.now) side).reads in
    let long : 65 ≤ length file = omega (arith, c.requires.whole tells) in
    let gate : 1 ∷ [] ≡ take 1 (drop 0 file) = ap (λ n. n ∷ []) (sym c.if-gate-ne1.false) ∙ c.in_ok-gate.ensures.byte tells in
    let bytes : c.read.new.into ≡ take 64 (drop 0 file) = c.in_ok-read.ensures.bytes tells ∙ ap (λ (d : Disk). take 64 (drop 0 d.reads)) (c.byte_at.ensures.files tells side) in
    let same : c.in-Err.at ≡ at = cc in
    look_faulty file _ c.in-Err.at gate long bytes c.in-Err.ensures ∙ ap Faulty same

-- a format that is read
known_format : (n : ℕ) → IsFormat n → (1 ≤ n) × (n ≤ 2)
known_format n is = ⊎_elim (λ (one : n ≡ 1). (omega (arith, one), omega (arith, one))) (λ (two : n ≡ 2). (omega (arith, two), omega (arith, two))) is

pub first-scan-requires-clause-known : goal.first-scan-requires-clause-known
first-scan-requires-clause-known g c = known_format c.in-Ok.header.format c.in-Ok.ensures.fits.format
