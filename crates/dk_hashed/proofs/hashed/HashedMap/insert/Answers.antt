use Rattle.std.proofs.Common.{◌≡◌, ◌<◌, refl, sym, ap, subst, ◌∙◌, None, Some, IsSome}
use Rattle.dk_map.specs.Entries.{find, put}
use Rattle.dk_hashed.specs.InOrder.{in_order}
use Rattle.dk_map.specs.OrderedMap.{Ordered}
use Rattle.dk_hashed.proofs.InOrder.{lookup_in_order, ordered-in_order, updated_put}
use Rattle.dk_hashed.proofs.hashed.HashedMap.insert.Goals as goal

pub returns-in-Some-clause-old : goal.returns-in-Some-clause-old
returns-in-Some-clause-old g c =
    ap Some c.replace.ensures.value ∙ c.in-Some.ensures.value ∙ lookup_in_order g.met.K.Ord.total _ g.met.K.Ord.matches_eq _ _
    ∙ ap (λ (m : Ordered _ _). find g.K.Ord.cmp c.args.key m.entries) c.self.view_is

pub returns-in-Some-clause-entries : goal.returns-in-Some-clause-entries
returns-in-Some-clause-entries g c =
    let written = c.get_mut.follows.holds c.replace.new.dest in
    updated_put g.met.K.Ord.total _ g.met.K.Ord.matches_eq c.self.invariant.0 _ _ c.args.key _ (written.3 (subst IsSome c.in-Some.ensures.value refl)).0
    ∙ ap (λ v. put g.K.Ord.cmp c.args.key v (in_order g.K.Ord.cmp c.self.inside.map.entries)) c.replace.ensures.after
    ∙ ap (λ (m : Ordered _ _). put g.K.Ord.cmp c.args.key c.args.value m.entries) c.self.view_is

pub returns-in-Some-clause-ordered : goal.returns-in-Some-clause-ordered
returns-in-Some-clause-ordered g c = ordered-in_order _ _

pub add-requires-clause-absent : goal.add-requires-clause-absent
add-requires-clause-absent g c =
    ap (λ m. find g.K.Ord.cmp c.args.key (in_order g.K.Ord.cmp m.entries)) c.get_mut.follows.holds-at-none
    ∙ sym (c.in_default.ensures.value ∙ lookup_in_order g.met.K.Ord.total _ g.met.K.Ord.matches_eq _ _)

pub add-requires-clause-room : goal.add-requires-clause-room
add-requires-clause-room g c =
    subst (λ (m : Ordered _ _). find g.K.Ord.cmp c.args.key m.entries ≡ None → 0 < m.spare) (sym c.self.view_is) c.requires.room
    (sym (c.in_default.ensures.value ∙ lookup_in_order g.met.K.Ord.total _ g.met.K.Ord.matches_eq _ _))

pub returns-clause-old : goal.returns-clause-old
returns-clause-old g c =
    c.in_default.ensures.value ∙ lookup_in_order g.met.K.Ord.total _ g.met.K.Ord.matches_eq _ _
    ∙ ap (λ (m : Ordered _ _). find g.K.Ord.cmp c.args.key m.entries) c.self.view_is
