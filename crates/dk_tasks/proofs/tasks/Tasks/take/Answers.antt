use Rattle.std.proofs.Common.{◌≡◌, ℕ, if◌then◌else◌, true, false, refl, sym, ap, ◌∙◌, arith, is_some}
use Rattle.std.specs.Option.{option_map}
use Rattle.dk_map.specs.Entries.{without}
use Rattle.dk_map.proofs.Seen.{without_absent}
use Rattle.dk_tasks.specs.Places.{kept_of, held_count, place_cmp, place_of, IsKeyed}
use Rattle.dk_tasks.proofs.Found.{found_of_all}
use Rattle.dk_tasks.proofs.Spares.{place_out, spare_out, spare_held_out}
use Rattle.dk_tasks.proofs.Kept.{kept_get, kept_some, kept_without}
use Rattle.dk_tasks.proofs.Orders.{key_same}
use Rattle.dk_tasks.proofs.Rooms.{as_before}
use Rattle.dk_tasks.proofs.Steps.{step_none, step_out, step_held_out}
use Rattle.dk_model.specs.Keys.{key_cmp}
use Rattle.dk_tasks.proofs.tasks.Tasks.take.Goals as goal
use Rattle.dk_tasks.proofs.tasks.Tasks.take.Goals.{then-not-stored, else-not-stored}

pub invariant_of-self : goal.invariant_of-self
invariant_of-self c =
    let none = sym c.in_default.ensures.value in
    let same = c.in_default.ensures.entries ∙ without_absent key_cmp c.args.key c.self.inside.tasks.entries none in
    (step_none _ _ c.self.invariant.0 c.args.key _ none c.in_default.ensures.entries, omega (arith, ap held_count same, c.self.invariant.1))

pub returns-in_default-clause-found : goal.returns-in_default-clause-found
returns-in_default-clause-found c = ap (option_map kept_of) c.in_default.ensures.value ∙ kept_get _ (ap (λ s. s.tasks) c.self.view_is) c.self.invariant.0.ordered c.args.key

pub returns-in_default-clause-tasks : goal.returns-in_default-clause-tasks
returns-in_default-clause-tasks c = kept_without _ (ap (λ s. s.tasks) c.self.view_is) c.self.invariant.0.ordered c.args.key _ c.in_default.ensures.entries

pub returns-in_default-clause-spare : goal.returns-in_default-clause-spare
returns-in_default-clause-spare c =
    let none = sym c.in_default.ensures.value in
    let same = ap held_count (c.in_default.ensures.entries ∙ without_absent key_cmp c.args.key c.self.inside.tasks.entries none) in
    let room = as_before _ _ _ _ (ap (λ s. s.spare) c.self.view_is) c.self.invariant.1 c.remove.new.self.spare c.self.inside.places.spare _ (omega (arith, c.in_default.ensures.kept, c.in_default.ensures.at_most_one)) refl same in
    omega (arith, room.0)

pub invariant_of-self-then-not-stored : goal.invariant_of-self-then-not-stored
invariant_of-self-then-not-stored c =
    let s = c.in-Some.stored in
    let i = c.self.invariant.0 in
    let there = sym c.in-Some.ensures.value in
    let free : s.claimed ≡ false = cc in
    let key = found_of_all key_same IsKeyed _ i.keyed c.args.key s there in
    let place = c.place.ensures ∙ ap (λ k. place_of k s) key in
    let gone = c.remove-then-not-stored in (
      step_out _ _ i c.args.key s _ _ c.in-Some.ensures.ordered gone.ensures.ordered there free c.in-Some.ensures.entries (gone.ensures.entries ∙ ap (λ q. without place_cmp q c.self.inside.places.entries) place),
      (spare_out _ _ i c.args.key s there _ _ _ (ap (λ s. s.spare) c.self.view_is) c.self.invariant.1 free _ c.in-Some.ensures.entries _ _ c.in-Some.ensures.kept
          (place_out _ _ i c.args.key s there _ _ _ (ap (λ s. s.spare) c.self.view_is) c.self.invariant.1 free _ place _ gone.ensures.value _ gone.ensures.spare)).1,
    )

pub invariant_of-self-else-not-stored : goal.invariant_of-self-else-not-stored
invariant_of-self-else-not-stored c =
    let s = c.in-Some.stored in
    let there = sym c.in-Some.ensures.value in
    let held : s.claimed ≡ true = cc in (
      step_held_out _ _ c.self.invariant.0 c.args.key s _ c.in-Some.ensures.ordered there held c.in-Some.ensures.entries,
      (spare_held_out _ _ c.self.invariant.0 c.args.key s there _ _ _ (ap (λ s. s.spare) c.self.view_is) c.self.invariant.1 held _ c.in-Some.ensures.entries _ c.in-Some.ensures.kept).1,
    )

pub returns : goal.returns
returns c =
    let s = c.in-Some.stored in
    let v = ap (λ s. s.tasks) c.self.view_is in
    let i = c.self.invariant.0 in
    let there = sym c.in-Some.ensures.value in
    let key = found_of_all key_same IsKeyed _ i.keyed c.args.key s there in
    let tasks = kept_without _ v i.ordered c.args.key _ c.in-Some.ensures.entries in
    elim c.if-not-stored.branch [
      | then-not-stored w ↦
          let free : s.claimed ≡ false = cc in
          let gone = w.remove-then-not-stored in
          let place = w.place.ensures ∙ ap (λ k. place_of k s) key in
          let room =
          spare_out _ _ i c.args.key s there _ _ _ (ap (λ s. s.spare) c.self.view_is) c.self.invariant.1 free _ c.in-Some.ensures.entries _ _ c.in-Some.ensures.kept
          (place_out _ _ i c.args.key s there _ _ _ (ap (λ s. s.spare) c.self.view_is) c.self.invariant.1 free _ place _ gone.ensures.value _ gone.ensures.spare) in
          record {
            found = ap (option_map kept_of) c.in-Some.ensures.value ∙ kept_get _ v i.ordered c.args.key;
            same_key = key;
            tasks = rw w.self-is tasks;
            spare = rw w.self-is room.0;
          }
      | else-not-stored w ↦
          let held : s.claimed ≡ true = cc in
          let room = spare_held_out _ _ i c.args.key s there _ _ _ (ap (λ s. s.spare) c.self.view_is) c.self.invariant.1 held _ c.in-Some.ensures.entries _ c.in-Some.ensures.kept in
          record {
            found = ap (option_map kept_of) c.in-Some.ensures.value ∙ kept_get _ v i.ordered c.args.key;
            same_key = key;
            tasks = rw w.self-is tasks;
            spare = rw w.self-is room.0;
          }
    ]
