use Rattle.std.proofs.Common.{sym, ap, ◌∙◌, cond, if◌then◌else◌, Some, None}
use Rattle.std.specs.Ordering.{eq_by_cmp}
use Rattle.dk_types.specs.Names.{bytes_cmp}
use Rattle.dk_map.specs.Entries.{find}
use Rattle.dk_overlay.proofs.Keys.{names_total, names_same}
use Rattle.dk_overlay.proofs.Finding.{find_put, find_without}
use Rattle.dk_overlay.proofs.names.note_bound.Goals as goal

pub returns-then-is_bound-clause-found : goal.returns-then-is_bound-clause-found
returns-then-is_bound-clause-found c = λ q.
    ap (find bytes_cmp q) c.insert.ensures.entries ∙ find_put names_total names_same _ c.requires.ordered c.args.name tt q
    ∙ ap (λ b. cond (eq_by_cmp bytes_cmp q c.args.name) (if b then Some (tt {0}) else None) (find bytes_cmp q c.args.bound.now.entries)) (sym c.if-is_bound.true)

pub returns-else-is_bound-clause-found : goal.returns-else-is_bound-clause-found
returns-else-is_bound-clause-found c = λ q.
    ap (find bytes_cmp q) c.remove.ensures.entries ∙ find_without names_total names_same _ c.requires.ordered c.args.name q
    ∙ ap (λ b. cond (eq_by_cmp bytes_cmp q c.args.name) (if b then Some (tt {0}) else None) (find bytes_cmp q c.args.bound.now.entries)) (sym c.if-is_bound.false)
