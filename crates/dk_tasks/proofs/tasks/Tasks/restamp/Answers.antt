use Rattle.std.proofs.Common.{◌≡◌, Some, None, refl, ap, ◌∙◌, arith}
use Rattle.dk_map.specs.Entries.{find, put}
use Rattle.dk_model.specs.Keys.{key_cmp}
use Rattle.dk_tasks.specs.Places.{kept_tasks, held_count, IsKeyed, IsInStep}
use Rattle.dk_tasks.specs.declared.stored.Stored.{Stored}
use Rattle.dk_tasks.specs.Tasks.{with_stamp, changed_at}
use Rattle.dk_tasks.proofs.Changes.{changed_there, changed_nowhere, kept_changed, kept_absent}
use Rattle.dk_tasks.proofs.Found.{found_of_all}
use Rattle.dk_tasks.proofs.Held.{held_changed}
use Rattle.dk_tasks.proofs.Orders.{key_same}
use Rattle.dk_tasks.proofs.Rooms.{as_before}
use Rattle.dk_tasks.proofs.Steps.{step_same}
use Rattle.dk_tasks.proofs.tasks.Tasks.restamp.Goals as goal
use Rattle.dk_tasks.proofs.tasks.Tasks.restamp.Goals.{After-change}

-- the task that was found has the stamp
abbrev now_stamped : Stored → (c : After-change) → Stored
now_stamped s c = record s { stamp = c.args.stamp }

stamped_there : (c : After-change) (s : Stored) → find key_cmp c.args.key c.self.inside.tasks.entries ≡ Some s → c.change.new.self.entries ≡ put key_cmp c.args.key (now_stamped s c) c.self.inside.tasks.entries
stamped_there c s f =
    let y = changed_there _ c.args.key _ _ s f c.change.result c.change.ensures.changed in
    let met = y.2.met in
    let is : y.0 ≡ now_stamped s c = cc in
    y.3 ∙ ap (λ x. put key_cmp c.args.key x c.self.inside.tasks.entries) is

-- in both cases the places stand, and as many runs have tasks
stays : (c : After-change) → IsInStep c.change.new.self.entries c.self.inside.places.entries × (held_count c.change.new.self.entries ≡ held_count c.self.inside.tasks.entries)
stays c =
    let i = c.self.invariant.0 in
    elim (find key_cmp c.args.key c.self.inside.tasks.entries) as (λ r. find key_cmp c.args.key c.self.inside.tasks.entries ≡ r → IsInStep c.change.new.self.entries c.self.inside.places.entries × (held_count c.change.new.self.entries ≡ held_count c.self.inside.tasks.entries)) [
      | None ↦ λ f.
          let same = changed_nowhere _ c.args.key _ _ f c.change.result c.change.ensures.changed in
          (rw same i, ap held_count same)
      | Some s ↦ λ f.
          let now = stamped_there c s f in
          let key = found_of_all key_same IsKeyed _ i.keyed c.args.key s f in
          let count = held_changed _ i.ordered c.args.key s f (now_stamped s c) in
          (step_same _ _ i c.args.key s (now_stamped s c) f key _ now refl (λ _. refl), ap held_count now ∙ omega (arith, count))
    ] refl

pub invariant_of-self : goal.invariant_of-self
invariant_of-self c = let s = stays c in (s.0, omega (arith, s.1, c.self.invariant.1))

pub returns-clause-tasks : goal.returns-clause-tasks
returns-clause-tasks c =
    let v = ap (λ s. s.tasks) c.self.view_is in
    let i = c.self.invariant.0 in
    elim (find key_cmp c.args.key c.self.inside.tasks.entries) as (λ r. find key_cmp c.args.key c.self.inside.tasks.entries ≡ r → kept_tasks c.change.new.self.entries ≡ changed_at (with_stamp c.args.stamp) c.args.key c.args.self.now.tasks) [
      | None ↦ λ f. kept_absent _ v i.ordered c.args.key (with_stamp c.args.stamp) f _ (changed_nowhere _ c.args.key _ _ f c.change.result c.change.ensures.changed)
      | Some s ↦ λ f. kept_changed _ v i.ordered c.args.key (with_stamp c.args.stamp) s (now_stamped s c) f refl _ (stamped_there c s f)
    ] refl

pub returns-clause-spare : goal.returns-clause-spare
returns-clause-spare c = (as_before _ _ _ _ (ap (λ s. s.spare) c.self.view_is) c.self.invariant.1 _ _ _ c.change.ensures.spare refl (stays c).1).0
