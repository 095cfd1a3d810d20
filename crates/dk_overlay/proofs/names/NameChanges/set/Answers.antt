use Rattle.std.proofs.Common.{◌≡◌, rules, ap, ◌∙◌}
use Rattle.dk_types.specs.Names.{bytes_cmp}
use Rattle.dk_map.specs.Entries.{put}
use Rattle.dk_map.proofs.Seen.{put_seen}
use Rattle.dk_overlay.proofs.Keys.{names_total}
use Rattle.dk_overlay.proofs.Noting.{has_noted}
use Rattle.dk_overlay.proofs.names.NameChanges.set.Goals as goal

pub invariant_of-self-2 : goal.invariant_of-self-2
invariant_of-self-2 c =
    let key : c.in_ok-key.key ≡ c.args.name.now = search rules in
    let mark : c.in_ok-mark.mark ≡ c.args.name.now = search rules in (
      c.insert.ensures.ordered,
      c.note_bound.ensures.ordered,
      has_noted c.args.name.now _ _ _ c.args.change _ _ _ _ _ _ c.self.invariant.0 c.self.invariant.2 mark key c.is_some.ensures c.reserve-2.ensures.entries c.note_bound.ensures.found
          c.insert.ensures.entries c.reserve.ensures.entries,
    )

pub returns-clause-ok : goal.returns-clause-ok
returns-clause-ok c =
    let key : c.in_ok-key.key ≡ c.args.name.now = search rules in
    put_seen names_total _ c.self.view_is c.self.invariant.0 _ _ _
    (c.insert.ensures.entries ∙ ap (λ k. put bytes_cmp k c.args.change c.reserve.new.self.entries) key ∙ ap (put bytes_cmp c.args.name.now c.args.change) c.reserve.ensures.entries)
