use Rattle.std.proofs.Common.{◌≡◌, refl, ap}
use Rattle.std.specs.Cmp.Lexicographic.{nat_list_cmp_total}
use Rattle.std.specs.FinMap.{nat_cmp-IsAntisymmetric, slice_cmp-IsAntisymmetric}
use Rattle.dk_types.specs.declared.number.ObjectId.{ObjectId}
use Rattle.dk_map.proofs.Seen.{changed_seen}
use Rattle.dk_model.specs.DurableWorlds.{with_value}
use Rattle.dk_names.proofs.names.Names.restamp.Goals as goal

pub returns-clause-names : goal.returns-clause-names
returns-clause-names c =
    changed_seen nat_list_cmp_total _ (ap (λ s. s.names) c.self.view_is) c.self.invariant (slice_cmp-IsAntisymmetric nat_cmp-IsAntisymmetric) c.args.name.now _ (λ (b : ObjectId × _). (b.0, c.args.stamp))
    (λ x y _ p. let met = p.met in let is : y ≡ (x.0, c.args.stamp) = cc in is)
    c.change.result _ c.change.ensures.changed (with_value c.args.self.now.names c.args.name.now) refl (λ _. refl)
