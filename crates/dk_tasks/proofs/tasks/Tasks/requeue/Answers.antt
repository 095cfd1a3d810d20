use Rattle.std.proofs.Common.{◌≡◌, ◌≤◌, ◌-◌, min, false, refl, sym, ap, subst, ◌∙◌}
use Rattle.dk_tasks.specs.Places.{place_of, due_at, held_count, IsInStep}
use Rattle.dk_tasks.specs.Tasks.{with_due}
use Rattle.dk_tasks.specs.declared.stored.TaskRank.{TaskRank}
use Rattle.dk_tasks.proofs.Changes.{kept_changed, kept_absent}
use Rattle.dk_tasks.proofs.Moves.{moved_held, moved_room, moved_free}
use Rattle.dk_tasks.proofs.Rooms.{as_before}
use Rattle.dk_tasks.proofs.tasks.Tasks.requeue.Goals as goal
use Rattle.dk_tasks.proofs.tasks.Tasks.requeue.Goals.{Then-held, After-insert}

-- where no task is at the key
pub invariant_of-self : goal.invariant_of-self
invariant_of-self c =
    let none = c.in_default.ensures.moved in
    (subst (λ es. IsInStep es c.self.inside.places.entries) (sym none.1) c.self.invariant.0, rw none.1 c.self.invariant.1)

pub returns-in_default : goal.returns-in_default
returns-in_default c =
    let none = c.in_default.ensures.moved in
    record {
      tasks = kept_absent _ (ap (λ s. s.tasks) c.self.view_is) c.self.invariant.0.ordered c.args.key (with_due c.args.due) none.0 _ none.1;
      spare = (as_before _ _ _ _ (ap (λ s. s.spare) c.self.view_is) c.self.invariant.1 _ c.self.inside.places.spare _ c.in_default.ensures.spare refl (ap held_count none.1)).0;
    }

-- where a run has the task
held : (c : Then-held) → IsInStep c.set_due.new.tasks.entries c.self.inside.places.entries
    × (min c.set_due.new.tasks.spare (c.self.inside.places.spare - held_count c.set_due.new.tasks.entries) ≡ c.args.self.now.spare) × (held_count c.set_due.new.tasks.entries ≤ c.self.inside.places.spare)
held c =
    let m = c.in-Some.ensures.moved in
    moved_held _ _ c.self.invariant.0 c.args.key m.0 m.1 c.args.due _ m.3 _ _ _ (ap (λ s. s.spare) c.self.view_is) c.self.invariant.1 _ c.in-Some.ensures.spare (sym (ap (λ w. w.1) m.2) ∙ c.if-held.true)

pub invariant_of-self-then-held : goal.invariant_of-self-then-held
invariant_of-self-then-held c = let h = held c in (h.0, h.2)

pub returns-then-held : goal.returns-then-held
returns-then-held c =
    let m = c.in-Some.ensures.moved in
    record { tasks = kept_changed _ (ap (λ s. s.tasks) c.self.view_is) c.self.invariant.0.ordered c.args.key (with_due c.args.due) m.0 (due_at c.args.due m.0) m.1 refl _ m.3; spare = (held c).1 }

pub insert-requires : goal.insert-requires
insert-requires c =
    let m = c.in-Some.ensures.moved in
    let free : m.0.claimed ≡ false = sym (ap (λ w. w.1) m.2) ∙ c.if-held.false in
    let q : TaskRank = record { due = c.in-Some.was; key = c.args.key } in
    let at : q ≡ place_of c.args.key m.0 = λ i. record { due = (m.2 i).0; key = c.args.key } in
    record {
      room = λ _.
          moved_room _ _ c.self.invariant.0 c.args.key m.0 m.1 c.args.due _ m.3 _ _ _ (ap (λ s. s.spare) c.self.view_is) c.self.invariant.1 _ c.in-Some.ensures.spare free q at _ c.remove.ensures.value _ c.remove.ensures.spare;
    }

-- where none has it
free : (c : After-insert) → IsInStep c.set_due.new.tasks.entries c.insert.new.self.entries
    × (min c.set_due.new.tasks.spare (c.insert.new.self.spare - held_count c.set_due.new.tasks.entries) ≡ c.args.self.now.spare) × (held_count c.set_due.new.tasks.entries ≤ c.insert.new.self.spare)
free c =
    let m = c.in-Some.ensures.moved in
    let free : m.0.claimed ≡ false = sym (ap (λ w. w.1) m.2) ∙ c.if-held.false in
    let q : TaskRank = record { due = c.in-Some.was; key = c.args.key } in
    let at : q ≡ place_of c.args.key m.0 = λ i. record { due = (m.2 i).0; key = c.args.key } in
    moved_free _ _ c.self.invariant.0 c.args.key m.0 m.1 c.args.due _ m.3 _ _ _ (ap (λ s. s.spare) c.self.view_is) c.self.invariant.1 _ c.in-Some.ensures.spare free q at _ c.remove.ensures.value _ c.remove.ensures.spare
    _ _ c.remove.ensures.entries c.remove.ensures.ordered _ c.insert.ensures.old c.insert.ensures.entries c.insert.ensures.ordered _ c.insert.ensures.spare

pub invariant_of-self-2 : goal.invariant_of-self-2
invariant_of-self-2 c = let f = free c in (f.0, f.2)

pub returns : goal.returns
returns c =
    let m = c.in-Some.ensures.moved in
    record { tasks = kept_changed _ (ap (λ s. s.tasks) c.self.view_is) c.self.invariant.0.ordered c.args.key (with_due c.args.due) m.0 (due_at c.args.due m.0) m.1 refl _ m.3; spare = (free c).1 }
