use Rattle.std.proofs.Common.{◌≡◌, refl, sym, ap, subst, ◌∙◌, IsSome}
use Rattle.dk_map.specs.Entries.{find, put}
use Rattle.dk_hashed.specs.InOrder.{in_order}
use Rattle.dk_map.specs.OrderedMap.{Ordered}
use Rattle.dk_hashed.proofs.InOrder.{lookup_in_order, ordered-in_order, updated_put}
use Rattle.dk_hashed.proofs.hashed.HashedMap.change.Goals as goal

pub returns-in_default-clause-changed : goal.returns-in_default-clause-changed
returns-in_default-clause-changed g c = (
  sym (c.in_default.ensures.value ∙ lookup_in_order g.met.K.Ord.total _ g.met.K.Ord.matches_eq _ _ ∙ ap (λ (m : Ordered _ _). find g.K.Ord.cmp c.args.key.now m.entries) c.self.view_is),
  ap (λ m. in_order g.K.Ord.cmp m.entries) c.get_mut.follows.holds-at-none ∙ ap (λ (m : Ordered _ _). m.entries) c.self.view_is,
)

pub returns-in_default-clause-ordered : goal.returns-in_default-clause-ordered
returns-in_default-clause-ordered g c = ordered-in_order _ _

pub returns-clause-changed : goal.returns-clause-changed
returns-clause-changed g c =
    let written = c.get_mut.follows.holds c.change.new.arg2 in (
      c.in-Some.value.now,
      c.change.new.arg2,
      sym (c.in-Some.ensures.value ∙ lookup_in_order g.met.K.Ord.total _ g.met.K.Ord.matches_eq _ _ ∙ ap (λ (m : Ordered _ _). find g.K.Ord.cmp c.args.key.now m.entries) c.self.view_is),
      record { shown = _; shows = refl; left = _; met = c.change.ensures; leaves = refl },
      updated_put g.met.K.Ord.total _ g.met.K.Ord.matches_eq c.self.invariant.0 _ _ c.args.key.now _ (written.3 (subst IsSome c.in-Some.ensures.value refl)).0
          ∙ ap (λ (m : Ordered _ _). put g.K.Ord.cmp c.args.key.now c.change.new.arg2 m.entries) c.self.view_is,
    )

pub returns-clause-ordered : goal.returns-clause-ordered
returns-clause-ordered g c = ordered-in_order _ _
