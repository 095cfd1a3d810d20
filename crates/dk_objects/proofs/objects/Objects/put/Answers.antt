use Rattle.std.proofs.Common.{sym, ap, subst, ◌∙◌, ◌<◌}
use Rattle.dk_objects.proofs.Ids.{id_total}
use Rattle.dk_map.proofs.Seen.{get_seen, put_seen}
use Rattle.dk_objects.proofs.objects.Objects.put.Goals as goal

pub insert-requires : goal.insert-requires
insert-requires c = record {
  room = λ absent.
      subst (λ n. 0 < n) (sym (ap (λ s. s.spare) c.self.view_is)) (c.requires.room (sym (get_seen _ (ap (λ s. s.objects) c.self.view_is) c.self.invariant _) ∙ absent));
}

pub returns-clause-objects : goal.returns-clause-objects
returns-clause-objects c = put_seen id_total _ (ap (λ s. s.objects) c.self.view_is) c.self.invariant _ _ _ c.insert.ensures.entries

pub returns-clause-spare : goal.returns-clause-spare
returns-clause-spare c =
    let found = c.insert.ensures.old ∙ get_seen _ (ap (λ s. s.objects) c.self.view_is) c.self.invariant _ in
    rw (← found) (c.insert.ensures.spare ∙ ap (λ s. s.spare) c.self.view_is)
