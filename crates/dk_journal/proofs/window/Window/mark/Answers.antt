use Rattle.std.proofs.Common.{◌≡◌, ◌+◌, ◌-◌, ℕ, take, drop, ap, ◌∙◌, arith}
use Rattle.dk_journal.proofs.Parts.{part_is}
use Rattle.dk_journal.proofs.window.Window.mark.Goals as goal

pub returns-clause-payload : goal.returns-clause-payload
returns-clause-payload c file is =
    let window = c.args.self.now in
    let many : (c.args.at - window.from + c.args.count) - (c.args.at - window.from) ≡ c.args.count = omega arith in
    ap (λ (n : ℕ). take n (drop (c.args.at - window.from) window.bytes.items)) many
    ∙ part_is file window.bytes.items window.from c.args.at c.args.count _ is c.requires.behind c.requires.within
