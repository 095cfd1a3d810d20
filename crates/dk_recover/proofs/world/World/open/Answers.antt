use Rattle.std.proofs.Common.{◌≡◌, ℕ, true, false, map, List, [], subst, ap, sym, ◌∙◌}
use Rattle.dk_types.specs.Names.{bytes_cmp}
use Rattle.dk_types.specs.declared.number.ObjectId.{ObjectId}
use Rattle.dk_types.specs.declared.object.Object.{Object}
use Rattle.dk_map.specs.Entries.{IsOrdered}
use Rattle.dk_map.specs.AsMap.{map_of}
use Rattle.dk_model.specs.Keys.{id_cmp, key_cmp}
use Rattle.dk_model.specs.DurableWorlds.{DurableWorld}
use Rattle.dk_model.specs.Effects.{task_of}
use Rattle.dk_model.specs.Images.{world_lists}
use Rattle.dk_model.specs.Validity.{IsValid}
use Rattle.dk_model.proofs.Maps.{ids_total, exact_ids, names_total, exact_names, keys_total, exact_keys}
use Rattle.dk_recover.specs.Changes.{with_put}
use Rattle.dk_recover.specs.Worlds.{are_made, are_scheduled}
use Rattle.dk_recover.proofs.Fit.{objects_in_order, names_in_order, tasks_in_order}
use Rattle.dk_recover.proofs.Opened.{put_all_is, opened, lists_of, opened_valid, made_by}
use Rattle.dk_recover.proofs.world.World.open.Goals as goal
use Rattle.dk_recover.proofs.world.World.open.Goals.{then-not-are_made-via-then-not-are_made, then-not-are_made-via-else-not-are_made+then-not-are_scheduled}

pub returns-then-not-are_made-clause-unfit : goal.returns-then-not-are_made-clause-unfit
returns-then-not-are_made-clause-unfit c _ world same valid =
    let d = c.args.durable in
    let made = made_by d c.requires.lists world same valid in
    elim c.then-not-are_made.branch [
      | then-not-are_made-via-then-not-are_made w ↦
          let wrong : true ≡ false = sym made.0 ∙ ap (are_made d.last) (sym c.as_slice.ensures) ∙ sym c.are_made.ensures ∙ w.if-not-are_made.true in cc
      | then-not-are_made-via-else-not-are_made+then-not-are_scheduled w ↦
          let wrong : true ≡ false = sym made.1 ∙ ap (are_scheduled d.last) (sym w.as_slice-else-not-are_made.ensures) ∙ sym w.are_scheduled.ensures ∙ w.if-not-are_scheduled.true in cc
    ]

pub invariant_of-result : goal.invariant_of-result
invariant_of-result c =
    let d = c.args.durable in
    let is = c.requires.lists in
    let so = objects_in_order 2 d.objects is.objects in
    let sn = names_in_order d.names is.names in
    let st = tasks_in_order 2 d.tasks is.tasks in (
      subst (IsOrdered id_cmp) (sym (c.in_ok-filled.ensures ∙ ap (λ (l : List (ObjectId × Object)). with_put id_cmp l []) c.into_vec.ensures ∙ put_all_is id_cmp ids_total exact_ids d.objects so)) so,
      subst (IsOrdered bytes_cmp) (sym (c.in_ok-filled-2.ensures ∙ ap (λ (l : List (List ℕ × ObjectId)). with_put bytes_cmp l []) c.into_vec-2.ensures ∙ put_all_is bytes_cmp names_total exact_names d.names sn)) sn,
      subst (IsOrdered key_cmp) (sym (c.in_ok-filled_tasks.ensures ∙ put_all_is key_cmp keys_total exact_keys (map task_of d.tasks) st)) st,
    )

pub returns-clause-fits : goal.returns-clause-fits
returns-clause-fits c =
    let d = c.args.durable in
    let is = c.requires.lists in
    let so = objects_in_order 2 d.objects is.objects in
    let sn = names_in_order d.names is.names in
    let st = tasks_in_order 2 d.tasks is.tasks in
    let made : are_made d.last d.objects ≡ true = ap (are_made d.last) (sym c.as_slice.ensures) ∙ sym c.are_made.ensures ∙ c.if-not-are_made.false in
    let scheduled : are_scheduled d.last d.tasks ≡ true = ap (are_scheduled d.last) (sym c.as_slice-else-not-are_made.ensures) ∙ sym c.are_scheduled.ensures ∙ c.if-not-are_scheduled.false in
    let same : opened d is ≡ record { objects = map_of id_cmp c.in_ok-filled.field-0.entries; names = map_of bytes_cmp c.in_ok-filled-2.field-0.entries; tasks = map_of key_cmp c.in_ok-filled_tasks.field-0.entries; commits = d.commits; last = d.last } =
    λ i. record {
      objects = map_of id_cmp (sym (c.in_ok-filled.ensures ∙ ap (λ (l : List (ObjectId × Object)). with_put id_cmp l []) c.into_vec.ensures ∙ put_all_is id_cmp ids_total exact_ids d.objects so) i);
      names = map_of bytes_cmp (sym (c.in_ok-filled-2.ensures ∙ ap (λ (l : List (List ℕ × ObjectId)). with_put bytes_cmp l []) c.into_vec-2.ensures ∙ put_all_is bytes_cmp names_total exact_names d.names sn) i);
      tasks = map_of key_cmp (sym (c.in_ok-filled_tasks.ensures ∙ put_all_is key_cmp keys_total exact_keys (map task_of d.tasks) st) i);
      commits = d.commits;
      last = d.last;
    } in
    subst (λ (w : DurableWorld). (world_lists w ≡ d) × IsValid w) same (lists_of d is, opened_valid d is c.requires.bytes.0 c.requires.bytes.1 made scheduled)
