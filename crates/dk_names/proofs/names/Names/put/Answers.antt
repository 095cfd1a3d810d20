use Rattle.std.proofs.Common.{sym, ap, subst, ◌∙◌, ◌<◌}
use Rattle.std.specs.Cmp.Lexicographic.{nat_list_cmp_total}
use Rattle.dk_map.proofs.Seen.{get_seen, put_seen}
use Rattle.dk_names.proofs.names.Names.put.Goals as goal

pub insert-requires : goal.insert-requires
insert-requires c = record {
  room = λ absent.
      subst (λ n. 0 < n) (sym (ap (λ s. s.spare) c.self.view_is)) (c.requires.room (sym (get_seen _ (ap (λ s. s.names) c.self.view_is) c.self.invariant _) ∙ absent));
}

pub returns-clause-names : goal.returns-clause-names
returns-clause-names c = put_seen nat_list_cmp_total _ (ap (λ s. s.names) c.self.view_is) c.self.invariant _ _ _ c.insert.ensures.entries

pub returns-clause-spare : goal.returns-clause-spare
returns-clause-spare c =
    let found = c.insert.ensures.old ∙ get_seen _ (ap (λ s. s.names) c.self.view_is) c.self.invariant _ in
    rw (← found) (c.insert.ensures.spare ∙ ap (λ s. s.spare) c.self.view_is)
