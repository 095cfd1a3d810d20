use Rattle.std.proofs.Common.{◌≡◌, ◌+◌, ◌∷◌, ℕ, [], length, take, drop, ap, sym, ◌∙◌, arith, subst}
use Rattle.dk_disk.specs.Disk.{Disk}
use Rattle.dk_disk.specs.DiskHistories.{now}
use Rattle.dk_types.specs.Fields.{u32_spelling}
use Rattle.dk_journal.specs.Scanning.{IsCutOff}
use Rattle.dk_journal.proofs.Scans.{ended, too_short, too_long, next_one}
use Rattle.dk_journal.proofs.scan.Scan.next.Goals as goal

pub returns-then-gate-ne1-clause-none : goal.returns-then-gate-ne1-clause-none
returns-then-gate-ne1-clause-none g c tells ok header done is = ended _ _ _ _ _ is _ (c.in_ok-gate.ensures.byte tells) c.if-gate-ne1.true

pub returns-then-self-lt6-clause-damaged : goal.returns-then-self-lt6-clause-damaged
returns-then-self-lt6-clause-damaged g c tells at err =
    let here : c.args.self.now.at ≡ at = cc in (
      sym here,
      subst (IsCutOff (now (g.M.Home.past c.args.home.now) c.args.self.now.side).reads) here
          (too_short _ c.args.self.now.at _ (c.requires.whole tells) (ap (λ n. n ∷ []) (sym c.if-gate-ne1.false) ∙ c.in_ok-gate.ensures.byte tells) c.if-self-lt6.true),
    )

pub returns-then-self-from-clause-damaged : goal.returns-then-self-from-clause-damaged
returns-then-self-from-clause-damaged g c tells at err =
    let here : c.args.self.now.at ≡ at = cc in (
      sym here,
      subst (IsCutOff (now (g.M.Home.past c.args.home.now) c.args.self.now.side).reads) here
          (too_long _ c.args.self.now.at _ (c.requires.whole tells) c.in_ok-size.size (omega arith) (ap (λ n. n ∷ []) (sym c.if-gate-ne1.false) ∙ c.in_ok-gate.ensures.byte tells)
          (c.in_ok-size.ensures.size tells ∙ ap (λ (d : Disk). take 4 (drop (c.args.self.now.at + 1) d.reads)) (c.byte_at.ensures.files tells c.args.self.now.side)) (omega (arith, c.from.ensures)) (omega arith)),
    )

pub returns-clause-some : goal.returns-clause-some
returns-clause-some g c tells header done is =
    let side = c.args.self.now.side in
    let at = c.args.self.now.at in
    let first : now (g.M.Home.past c.byte_at.new.home) side ≡ now (g.M.Home.past c.args.home.now) side = c.byte_at.ensures.files tells side in
    let second : now (g.M.Home.past c.size_at.new.home) side ≡ now (g.M.Home.past c.args.home.now) side = c.size_at.ensures.files tells side ∙ first in
    let open_gate : 1 ∷ [] ≡ take 1 (drop at (now (g.M.Home.past c.args.home.now) side).reads) = ap (λ n. n ∷ []) (sym c.if-gate-ne1.false) ∙ c.in_ok-gate.ensures.byte tells in
    let field : u32_spelling c.in_ok-size.size ≡ take 4 (drop (at + 1) (now (g.M.Home.past c.args.home.now) side).reads) = c.in_ok-size.ensures.size tells ∙ ap (λ (d : Disk). take 4 (drop (at + 1) d.reads)) first in
    let many : length c.in-Ok.bytes.items ≡ c.in_ok-size.size = omega (arith, c.in-Ok.ensures.len, c.in-Ok.bytes.ok) in
    let bytes : c.in_ok-payload.payload ≡ take c.in_ok-size.size (drop (at + 5) (now (g.M.Home.past c.args.home.now) side).reads) = c.in_ok-payload.ensures.bytes tells ∙ ap (λ (n : ℕ). take n (drop (at + 5) (now (g.M.Home.past c.size_at.new.home) side).reads)) many ∙ ap (λ (d : Disk). take c.in_ok-size.size (drop (at + 5) d.reads)) second in
    rw c.from-2.ensures (next_one _ _ _ _ _ is c.in_ok-size.size c.in_ok-payload.payload (omega arith) open_gate field bytes (omega (arith, c.from.ensures, is.within)))
