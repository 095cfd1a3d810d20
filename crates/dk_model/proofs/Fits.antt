-- A fit run stays fit where one thing of it is written within the limits.
use Rattle.std.proofs.Common.{◌≡◌, ℕ, ◌<◌, ◌≤◌, Option, Some, None, List, length, refl, sym, subst, ◌∙◌, inl, inr, arith}
use Rattle.std.specs.FinMap.{get}
use Rattle.dk_types.specs.declared.number.ConnNo.{ConnNo}
use Rattle.dk_types.specs.declared.number.ObjectId.{ObjectId}
use Rattle.dk_types.specs.declared.number.TaskKey.{TaskKey}
use Rattle.dk_types.specs.declared.object.Object.{Object}
use Rattle.dk_types.specs.declared.job.Out.{Out}
use Rattle.dk_types.specs.declared.limits.TheConstants.{OBJECTS_MOST_COUNT, TASKS_MOST_COUNT, MESSAGES_MOST_COUNT}
use Rattle.dk_types.specs.Names.{IsName}
use Rattle.dk_types.specs.declared.mode.Mode.{Mode}
use Rattle.dk_model.specs.DurableWorlds.{Task, with_value}
use Rattle.dk_model.specs.Validity.{IsCommitted, IsNumbered, IsObject, IsTask}
use Rattle.dk_model.specs.Runs.{Run, with_object, with_name, with_task}
use Rattle.dk_model.specs.Lawful.{IsMade, GoesOn, HaveShortBodies, IsFit, LeavesTasks}
use Rattle.dk_model.proofs.Maps.{ids_total, exact_ids, names_total, exact_names, keys_total, exact_keys, get-with_value_cases, some_is}

-- the mode does not matter, nor do messages within their limits
pub fit_with : (s : Run) → IsFit s → (mode : Mode) (outs : List (ConnNo × Out)) → length outs ≤ MESSAGES_MOST_COUNT → HaveShortBodies outs → IsFit (record s { mode = mode; outs = outs })
fit_with s f mode outs few short = record {
  world = f.world;
  number = f.number;
  committed = f.committed;
  at = f.at;
  few_objects = f.few_objects;
  few_tasks = f.few_tasks;
  few_messages = few;
  bodies = short;
  objects = f.objects;
  tasks = f.tasks;
}

-- what an object that is written owes
pub record IsPlaced (s : Run) (made : ℕ) (id : ObjectId) (object : Object) : Type 0 where
  pub numbered : IsNumbered id.run id.k
  pub committed : IsCommitted s.world.last id.run
  pub fits : IsObject object
  pub below : id.run ≡ s.number → id.k < made

pub fit_object : (s : Run) → IsFit s → (id : ObjectId) (new : Option Object) (made : ℕ) → s.objects_made ≤ made → made ≤ OBJECTS_MOST_COUNT
    → ((object : Object) → new ≡ Some object → IsPlaced s made id object) → IsFit (with_object (record s { objects_made = made }) id new)
fit_object s f id new made more most owes = record {
  world = record {
    objects = λ q object e. elim (get-with_value_cases ids_total exact_ids s.world.objects id new q object e) [
      | inl p ↦
          let o : IsPlaced s made q object = subst (λ (i : ObjectId). IsPlaced s made i object) (sym p.0) (owes object p.1) in
          (o.numbered, o.committed, o.fits)
      | inr there ↦ f.world.objects q object there
    ];
    names = f.world.names;
    tasks = f.world.tasks;
    last = f.world.last;
    commits = f.world.commits;
    begun = f.world.begun;
  };
  number = f.number;
  committed = f.committed;
  at = f.at;
  few_objects = most;
  few_tasks = f.few_tasks;
  few_messages = f.few_messages;
  bodies = f.bodies;
  objects = λ q object e own. elim (get-with_value_cases ids_total exact_ids s.world.objects id new q object e) [
    | inl p ↦
        let o : IsPlaced s made q object = subst (λ (i : ObjectId). IsPlaced s made i object) (sym p.0) (owes object p.1) in
        o.below own
    | inr there ↦ let b = f.objects q object there own in omega arith
  ];
  tasks = f.tasks;
}

pub fit_name : (s : Run) → IsFit s → (name : List ℕ) (new : Option ObjectId) → ((id : ObjectId) → new ≡ Some id → IsName name × IsNumbered id.run id.k) → IsFit (with_name s name new)
fit_name s f name new owes = record {
  world = record {
    objects = f.world.objects;
    names = λ q id e. elim (get-with_value_cases names_total exact_names s.world.names name new q id e) [
      | inl p ↦ let o = owes id p.1 in (subst IsName (sym p.0) o.0, o.1)
      | inr there ↦ f.world.names q id there
    ];
    tasks = f.world.tasks;
    last = f.world.last;
    commits = f.world.commits;
    begun = f.world.begun;
  };
  number = f.number;
  committed = f.committed;
  at = f.at;
  few_objects = f.few_objects;
  few_tasks = f.few_tasks;
  few_messages = f.few_messages;
  bodies = f.bodies;
  objects = f.objects;
  tasks = f.tasks;
}

-- what a task that is written owes
pub record IsPlacedTask (s : Run) (made : ℕ) (key : TaskKey) (task : Task) : Type 0 where
  pub numbered : IsNumbered key.run key.k
  pub committed : IsCommitted s.world.last key.run
  pub fits : IsTask task
  pub below : key.run ≡ s.number → key.k < made

pub fit_tasks : (s : Run) → IsFit s → (key : TaskKey) (new : Option Task) (made : ℕ) → s.tasks_made ≤ made → made ≤ TASKS_MOST_COUNT
    → ((task : Task) → new ≡ Some task → IsPlacedTask s made key task)
    → IsFit (record s { world = record (s.world) { tasks = with_value s.world.tasks key new }; tasks_made = made })
fit_tasks s f key new made more most owes = record {
  world = record {
    objects = f.world.objects;
    names = f.world.names;
    tasks = λ q task e. elim (get-with_value_cases keys_total exact_keys s.world.tasks key new q task e) [
      | inl p ↦
          let o : IsPlacedTask s made q task = subst (λ (i : TaskKey). IsPlacedTask s made i task) (sym p.0) (owes task p.1) in
          (o.numbered, o.committed, o.fits)
      | inr there ↦ f.world.tasks q task there
    ];
    last = f.world.last;
    commits = f.world.commits;
    begun = f.world.begun;
  };
  number = f.number;
  committed = f.committed;
  at = f.at;
  few_objects = f.few_objects;
  few_tasks = most;
  few_messages = f.few_messages;
  bodies = f.bodies;
  objects = f.objects;
  tasks = λ q task e own. elim (get-with_value_cases keys_total exact_keys s.world.tasks key new q task e) [
    | inl p ↦
        let o : IsPlacedTask s made q task = subst (λ (i : TaskKey). IsPlacedTask s made i task) (sym p.0) (owes task p.1) in
        o.below own
    | inr there ↦ let b = f.tasks q task there own in omega arith
  ];
}

-- the list of what was written does not matter
pub fit_task : (s : Run) → IsFit s → (key : TaskKey) (new : Option Task) (made : ℕ) → s.tasks_made ≤ made → made ≤ TASKS_MOST_COUNT
    → ((task : Task) → new ≡ Some task → IsPlacedTask s made key task) → IsFit (with_task (record s { tasks_made = made }) key new)
fit_task s f key new made more most owes = let t = fit_tasks s f key new made more most owes in record {
  world = t.world;
  number = t.number;
  committed = t.committed;
  at = t.at;
  few_objects = t.few_objects;
  few_tasks = t.few_tasks;
  few_messages = t.few_messages;
  bodies = t.bodies;
  objects = t.objects;
  tasks = t.tasks;
}

-- where no task is changed, each is as it was
pub leaves_all : (a b : Run) → ((key : TaskKey) → get b.world.tasks key ≡ get a.world.tasks key) → LeavesTasks a b
leaves_all a b same key x y e f = some_is y x (sym f ∙ same key ∙ e)

-- of two steps of a fit run neither changes what stands under a key: what was taken away does not come back
pub leaves_at : (a b c : Run) → IsFit a → GoesOn a b → GoesOn b c → (key : TaskKey) → ((x y : Task) → get a.world.tasks key ≡ Some x → get b.world.tasks key ≡ Some y → y ≡ x)
    → ((x y : Task) → get b.world.tasks key ≡ Some x → get c.world.tasks key ≡ Some y → y ≡ x) → (x y : Task) → get a.world.tasks key ≡ Some x → get c.world.tasks key ≡ Some y → y ≡ x
leaves_at a b c f p q key first second x y e g =
    elim (get b.world.tasks key) as (λ o. get b.world.tasks key ≡ o → y ≡ x) [
      | None ↦ λ none.
          let made : IsMade b.number b.tasks_made c.tasks_made key.run key.k = q.new_tasks key y none g in
          let below : key.k < a.tasks_made = f.tasks key x e (made.0 ∙ p.number) in
          let more = p.more_tasks in absurd (omega (arith, below, more, made.1))
      | Some z ↦ λ some. second z y some g ∙ first x z e some
    ] refl

-- of two steps of a fit run neither changes a task
pub leaves_then : (a b c : Run) → IsFit a → GoesOn a b → GoesOn b c → LeavesTasks a b → LeavesTasks b c → LeavesTasks a c
leaves_then a b c f p q first second key = leaves_at a b c f p q key (first key) (second key)
