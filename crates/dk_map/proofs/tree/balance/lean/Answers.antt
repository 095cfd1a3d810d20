use Rattle.std.proofs.Common.{sym, ap, ◌∙◌}
use Rattle.dk_map.specs.Balance.{on_sides}
use Rattle.dk_map.proofs.Turns.{turned}
use Rattle.dk_map.proofs.tree.balance.lean.Goals as goal

pub returns-then-height-clause-entries : goal.returns-then-height-clause-entries
returns-then-height-clause-entries g c =
    let s = c.args.side in
    let node = c.apart-near.result in
    let upper = c.apart-outer.result in
    c.of-then-height.ensures.entries
    ∙ ap (λ t. on_sides s upper.0.0 (upper.1, upper.2) t) (ap (λ d. d.0) c.close-far.ensures ∙ c.of.ensures.entries)
    ∙ turned s upper.0.0 (upper.1, upper.2) upper.3.0 (node.1, node.2) node.3.0
    ∙ ap (λ t. on_sides s t (node.1, node.2) node.3.0) (sym c.apart-outer.ensures.entries ∙ c.open-cell.ensures.entries) ∙ sym c.apart-near.ensures.entries

pub returns-clause-entries : goal.returns-clause-entries
returns-clause-entries g c =
    let s = c.args.side in
    let node = c.apart-near.result in
    let upper = c.apart-outer.result in
    let middle = c.apart-before.result in
    let low = on_sides s middle.3.0 (node.1, node.2) node.3.0 in
    c.of-4.ensures.entries
    ∙ ap (λ t. on_sides s c.close-near.result.0 (middle.1, middle.2) t) (ap (λ d. d.0) c.close-far-2.ensures ∙ c.of-3.ensures.entries)
    ∙ ap (λ t. on_sides s t (middle.1, middle.2) low) (ap (λ d. d.0) c.close-near.ensures ∙ c.of-2.ensures.entries)
    ∙ turned s _ (middle.1, middle.2) middle.3.0 (node.1, node.2) node.3.0
    ∙ ap (λ t. on_sides s t (node.1, node.2) node.3.0)
    (sym (turned s upper.0.0 (upper.1, upper.2) middle.0.0 (middle.1, middle.2) middle.3.0)
    ∙ ap (λ t. on_sides s upper.0.0 (upper.1, upper.2) t) (sym c.apart-before.ensures.entries ∙ c.open-inner_cell.ensures.entries)
    ∙ sym c.apart-outer.ensures.entries ∙ c.open-cell.ensures.entries) ∙ sym c.apart-near.ensures.entries
