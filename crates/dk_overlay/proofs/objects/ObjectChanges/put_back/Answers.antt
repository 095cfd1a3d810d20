use Rattle.std.proofs.Common.{◌≡◌, true, false, is_some, sym, ap, ◌∙◌}
use Rattle.dk_map.proofs.Seen.{get_seen, put_seen, without_seen}
use Rattle.dk_overlay.specs.Changes.{put_back}
use Rattle.dk_overlay.proofs.Keys.{ids_total, ids_same}
use Rattle.dk_overlay.proofs.objects.ObjectChanges.put_back.Goals as goal
use Rattle.dk_overlay.proofs.objects.ObjectChanges.put_back.Goals.{in-Some+in-Some-insert-3, in-Some+in-None-1, in-None-2}

pub insert-requires : goal.insert-requires
insert-requires c = record { room = λ none. let gone : false ≡ true = ap is_some (sym none ∙ get_seen _ c.self.view_is c.self.invariant c.args.id) ∙ c.requires in cc }

pub returns-in-None : goal.returns-in-None
returns-in-None c = without_seen ids_total _ c.self.view_is c.self.invariant ids_same c.args.id _ c.remove.ensures.entries ∙ ap (put_back c.args.self.now c.args.id) (sym c.in-None.is)

pub returns-in-Some : goal.returns-in-Some
returns-in-Some c =
    let there = put_seen ids_total _ c.self.view_is c.self.invariant c.args.id c.in-Some.change _ c.insert.ensures.entries ∙ ap (put_back c.args.self.now c.args.id) (sym c.in-Some.is) in
    elim c.match-insert.branch [
      | in-Some+in-Some-insert-3 w ↦ w.self-is ∙ there
      | in-Some+in-None-1 w ↦ w.self-is ∙ there
      | in-None-2 w ↦ w.self-is ∙ there
    ]
