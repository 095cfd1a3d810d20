use Rattle.std.proofs.Common.{◌≡◌, ◌≤◌, ◌-◌, min, None, true, false, refl, sym, ap, subst, ◌∙◌}
use Rattle.dk_tasks.specs.Places.{place_of, claimed_at, held_count, IsInStep}
use Rattle.dk_tasks.specs.Tasks.{with_claim}
use Rattle.dk_tasks.specs.declared.stored.TaskRank.{TaskRank}
use Rattle.dk_tasks.proofs.Changes.{kept_changed, kept_absent, alike, opposite}
use Rattle.dk_tasks.proofs.Marks.{marked_same, marked_claimed, marked_freed, held_absent}
use Rattle.dk_tasks.proofs.Rooms.{as_before}
use Rattle.dk_tasks.proofs.Spares.{room_kept}
use Rattle.dk_tasks.proofs.tasks.Tasks.set_claimed.Goals as goal
use Rattle.dk_tasks.proofs.tasks.Tasks.set_claimed.Goals.{Then-was-claimed, Then-claimed, Else-claimed, After-remove, After-insert_new}

-- where no task is at the key
pub invariant_of-self : goal.invariant_of-self
invariant_of-self c =
    let none = c.in_default.ensures.marked in
    (subst (λ es. IsInStep es c.self.inside.places.entries) (sym none.1) c.self.invariant.0, rw none.1 c.self.invariant.1)

pub returns-in_default : goal.returns-in_default
returns-in_default c =
    let none = c.in_default.ensures.marked in
    record {
      tasks = kept_absent _ (ap (λ s. s.tasks) c.self.view_is) c.self.invariant.0.ordered c.args.key (with_claim c.args.claimed) none.0 _ none.1;
      spare = (as_before _ _ _ _ (ap (λ s. s.spare) c.self.view_is) c.self.invariant.1 _ c.self.inside.places.spare _ c.in_default.ensures.spare refl (ap held_count none.1)).0;
    }

-- where it is marked so already
same : (c : Then-was-claimed) → IsInStep c.set_claim.new.tasks.entries c.self.inside.places.entries
    × (min c.set_claim.new.tasks.spare (c.self.inside.places.spare - held_count c.set_claim.new.tasks.entries) ≡ c.args.self.now.spare) × (held_count c.set_claim.new.tasks.entries ≤ c.self.inside.places.spare)
same c =
    let m = c.in-Some.ensures.marked in
    marked_same _ _ c.self.invariant.0 c.args.key m.0 m.1 c.args.claimed _ m.3 _ _ _ (ap (λ s. s.spare) c.self.view_is) c.self.invariant.1 _ c.in-Some.ensures.spare (sym (ap (λ w. w.1) m.2) ∙ alike _ _ c.if-was-claimed.true)

pub invariant_of-self-then-was-claimed : goal.invariant_of-self-then-was-claimed
invariant_of-self-then-was-claimed c = let s = same c in (s.0, s.2)

pub returns-then-was-claimed : goal.returns-then-was-claimed
returns-then-was-claimed c =
    let m = c.in-Some.ensures.marked in
    record { tasks = kept_changed _ (ap (λ s. s.tasks) c.self.view_is) c.self.invariant.0.ordered c.args.key (with_claim c.args.claimed) m.0 (claimed_at c.args.claimed m.0) m.1 refl _ m.3; spare = (same c).1 }

-- where a run has the task now
claimed : (c : After-remove) → IsInStep c.set_claim.new.tasks.entries c.remove.new.self.entries
    × (min c.set_claim.new.tasks.spare (c.remove.new.self.spare - held_count c.set_claim.new.tasks.entries) ≡ c.args.self.now.spare) × (held_count c.set_claim.new.tasks.entries ≤ c.remove.new.self.spare)
claimed c =
    let m = c.in-Some.ensures.marked in
    let free : m.0.claimed ≡ false = sym (ap (λ w. w.1) m.2) ∙ opposite _ _ false c.if-was-claimed.false c.if-claimed.true in
    let q : TaskRank = record { due = c.in-Some.due; key = c.args.key } in
    let at : q ≡ place_of c.args.key m.0 = λ i. record { due = (m.2 i).0; key = c.args.key } in
    marked_claimed _ _ c.self.invariant.0 c.args.key m.0 m.1 c.args.claimed _ m.3 _ _ _ (ap (λ s. s.spare) c.self.view_is) c.self.invariant.1 _ c.in-Some.ensures.spare q at free c.if-claimed.true _ c.remove.ensures.value _ c.remove.ensures.spare _ c.remove.ensures.entries c.remove.ensures.ordered

pub invariant_of-self-then-claimed : goal.invariant_of-self-then-claimed
invariant_of-self-then-claimed c = let s = claimed c in (s.0, s.2)

pub returns-then-claimed : goal.returns-then-claimed
returns-then-claimed c =
    let m = c.in-Some.ensures.marked in
    record { tasks = kept_changed _ (ap (λ s. s.tasks) c.self.view_is) c.self.invariant.0.ordered c.args.key (with_claim c.args.claimed) m.0 (claimed_at c.args.claimed m.0) m.1 refl _ m.3; spare = (claimed c).1 }

-- where none has it any more
pub insert_new-requires : goal.insert_new-requires
insert_new-requires c =
    let m = c.in-Some.ensures.marked in
    let held : m.0.claimed ≡ true = sym (ap (λ w. w.1) m.2) ∙ opposite _ _ true c.if-was-claimed.false c.if-claimed.false in
    let q : TaskRank = record { due = c.in-Some.due; key = c.args.key } in
    let at : q ≡ place_of c.args.key m.0 = λ i. record { due = (m.2 i).0; key = c.args.key } in
    record {
      absent = held_absent _ _ c.self.invariant.0 c.args.key m.0 m.1 c.args.claimed _ m.3 _ _ _ (ap (λ s. s.spare) c.self.view_is) c.self.invariant.1 _ c.in-Some.ensures.spare q at held;
      room = room_kept _ _ c.self.invariant.0 c.args.key m.0 m.1 _ _ _ (ap (λ s. s.spare) c.self.view_is) c.self.invariant.1 held;
    }

freed : (c : After-insert_new) → IsInStep c.set_claim.new.tasks.entries c.insert_new.new.self.entries
    × (min c.set_claim.new.tasks.spare (c.insert_new.new.self.spare - held_count c.set_claim.new.tasks.entries) ≡ c.args.self.now.spare) × (held_count c.set_claim.new.tasks.entries ≤ c.insert_new.new.self.spare)
freed c =
    let m = c.in-Some.ensures.marked in
    let held : m.0.claimed ≡ true = sym (ap (λ w. w.1) m.2) ∙ opposite _ _ true c.if-was-claimed.false c.if-claimed.false in
    let q : TaskRank = record { due = c.in-Some.due; key = c.args.key } in
    let at : q ≡ place_of c.args.key m.0 = λ i. record { due = (m.2 i).0; key = c.args.key } in
    marked_freed _ _ c.self.invariant.0 c.args.key m.0 m.1 c.args.claimed _ m.3 _ _ _ (ap (λ s. s.spare) c.self.view_is) c.self.invariant.1 _ c.in-Some.ensures.spare q at held c.if-claimed.false None (sym (held_absent _ _ c.self.invariant.0 c.args.key m.0 m.1 c.args.claimed _ m.3 _ _ _ (ap (λ s. s.spare) c.self.view_is) c.self.invariant.1 _ c.in-Some.ensures.spare q at held)) _ c.insert_new.ensures.spare _ c.insert_new.ensures.entries c.insert_new.ensures.ordered

pub invariant_of-self-else-claimed : goal.invariant_of-self-else-claimed
invariant_of-self-else-claimed c = let s = freed c in (s.0, s.2)

pub returns-else-claimed : goal.returns-else-claimed
returns-else-claimed c =
    let m = c.in-Some.ensures.marked in
    record { tasks = kept_changed _ (ap (λ s. s.tasks) c.self.view_is) c.self.invariant.0.ordered c.args.key (with_claim c.args.claimed) m.0 (claimed_at c.args.claimed m.0) m.1 refl _ m.3; spare = (freed c).1 }
