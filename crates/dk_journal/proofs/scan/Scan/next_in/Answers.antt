use Rattle.std.proofs.Common.{◌≡◌, ◌+◌, ◌∷◌, [], take, drop, ap, sym, ◌∙◌, arith, subst}
use Rattle.dk_disk.specs.Disk.{Disk}
use Rattle.dk_disk.specs.DiskHistories.{now}
use Rattle.dk_types.specs.Fields.{u32_spelling}
use Rattle.dk_journal.specs.Scanning.{IsCutOff}
use Rattle.dk_journal.specs.Windows.{payload_of}
use Rattle.dk_journal.proofs.Going.{looks_now}
use Rattle.dk_journal.proofs.Parts.{one_byte}
use Rattle.dk_journal.proofs.Scans.{ended, too_short, too_long, next_one}
use Rattle.dk_journal.proofs.scan.Scan.next_in.Goals as goal

pub returns-then-part-ne1-clause-none : goal.returns-then-part-ne1-clause-none
returns-then-part-ne1-clause-none g c tells ok header done is =
    ended _ _ _ _ _ is _ (one_byte _ c.part.ensures.count ∙ c.part.ensures.bytes _ (c.in_ok-hold.ensures.window tells)) c.if-part-ne1.true

pub returns-then-self-lt6-clause-damaged : goal.returns-then-self-lt6-clause-damaged
returns-then-self-lt6-clause-damaged g c tells at err =
    let here : c.args.self.now.at ≡ at = cc in
    let open_gate = ap (λ n. n ∷ []) (sym c.if-part-ne1.false) ∙ one_byte _ c.part.ensures.count ∙ c.part.ensures.bytes _ (c.in_ok-hold.ensures.window tells) in (
      sym here,
      subst (IsCutOff (now (g.M.Home.past c.args.home.now) c.args.self.now.side).reads) here
          (too_short _ c.args.self.now.at _ (c.requires.whole tells) open_gate c.if-self-lt6.true),
    )

pub returns-then-self-from-clause-damaged : goal.returns-then-self-from-clause-damaged
returns-then-self-from-clause-damaged g c tells at err =
    let here : c.args.self.now.at ≡ at = cc in
    let side = c.args.self.now.side in
    let open_gate = ap (λ n. n ∷ []) (sym c.if-part-ne1.false) ∙ one_byte _ c.part.ensures.count ∙ c.part.ensures.bytes _ (c.in_ok-hold.ensures.window tells) in
    let first : now (g.M.Home.past c.hold.new.home) side ≡ now (g.M.Home.past c.args.home.now) side = looks_now _ _ (c.hold.ensures.looks tells) side in
    let field : u32_spelling c.number_of-size.result ≡ take 4 (drop (c.args.self.now.at + 1) (now (g.M.Home.past c.args.home.now) side).reads) = c.number_of-size.ensures ∙ c.part-2.ensures.bytes _ (c.in_ok-hold-2.ensures.window tells) ∙ ap (λ (d : Disk). take 4 (drop (c.args.self.now.at + 1) d.reads)) first in (
      sym here,
      subst (IsCutOff (now (g.M.Home.past c.args.home.now) side).reads) here
          (too_long _ c.args.self.now.at _ (c.requires.whole tells) c.number_of-size.result (omega arith) open_gate field (omega (arith, c.from.ensures)) (omega arith)),
    )

pub returns-clause-some : goal.returns-clause-some
returns-clause-some g c tells ok header done is =
    let side = c.args.self.now.side in
    let at = c.args.self.now.at in
    let size = c.number_of-size.result in
    let file = (now (g.M.Home.past c.args.home.now) side).reads in
    let first : now (g.M.Home.past c.hold.new.home) side ≡ now (g.M.Home.past c.args.home.now) side = looks_now _ _ (c.hold.ensures.looks tells) side in
    let second : now (g.M.Home.past c.hold-2.new.home) side ≡ now (g.M.Home.past c.args.home.now) side = looks_now _ _ (c.hold-2.ensures.looks tells) side ∙ first in
    let open_gate : 1 ∷ [] ≡ take 1 (drop at file) = ap (λ n. n ∷ []) (sym c.if-part-ne1.false) ∙ one_byte _ c.part.ensures.count ∙ c.part.ensures.bytes _ (c.in_ok-hold.ensures.window tells) in
    let field : u32_spelling size ≡ take 4 (drop (at + 1) file) = c.number_of-size.ensures ∙ c.part-2.ensures.bytes _ (c.in_ok-hold-2.ensures.window tells) ∙ ap (λ (d : Disk). take 4 (drop (at + 1) d.reads)) first in
    let bytes : payload_of c.mark.new.self ≡ take size (drop (at + 5) file) = c.mark.ensures.payload _ (c.in_ok-hold-3.ensures.window tells) ∙ ap (λ (d : Disk). take size (drop (at + 5) d.reads)) second in
    rw c.from-2.ensures (next_one _ _ _ _ _ is size (payload_of c.mark.new.self) (omega arith) open_gate field bytes (omega (arith, c.from.ensures, is.within)))
