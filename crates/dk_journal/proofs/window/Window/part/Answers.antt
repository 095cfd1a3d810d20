use Rattle.std.proofs.Common.{◌≡◌, ◌+◌, ◌-◌, ℕ, take, drop, ap, ◌∙◌, arith, List}
use Rattle.dk_journal.proofs.Parts.{part_is}
use Rattle.dk_journal.proofs.window.Window.part.Goals as goal

pub returns-clause-bytes : goal.returns-clause-bytes
returns-clause-bytes c file is =
    let window = c.args.self.now in
    let many : (c.args.at - window.from + c.args.count) - (c.args.at - window.from) ≡ c.args.count = omega arith in
    ap (λ (n : ℕ). take n (drop (c.args.at - window.from) c.deref.result.now)) many
    ∙ ap (λ (b : List ℕ). take c.args.count (drop (c.args.at - window.from) b)) c.deref.ensures.value
    ∙ part_is file window.bytes.items window.from c.args.at c.args.count _ is c.requires.behind c.requires.within
