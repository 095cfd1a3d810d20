-- A run that goes on: nothing done, one thing after another, and one write.
use Rattle.std.proofs.Common.{◌≡◌, ℕ, ◌≤◌, Option, Some, None, List, [], ◌∷◌, ◌++◌, refl, sym, ap, subst, ◌∙◌, append_assoc, append-nil, inl, inr, arith, le_trans, le_refl}
use Rattle.std.specs.FinMap.{get}
use Rattle.dk_types.specs.declared.number.RunNo.{RunNo}
use Rattle.dk_types.specs.declared.number.ConnNo.{ConnNo}
use Rattle.dk_types.specs.declared.number.ObjectId.{ObjectId}
use Rattle.dk_types.specs.declared.number.TaskKey.{TaskKey}
use Rattle.dk_types.specs.declared.object.Object.{Object}
use Rattle.dk_types.specs.declared.job.Out.{Out}
use Rattle.dk_types.specs.declared.item.Item.{Item}
use Rattle.dk_types.specs.declared.item.Item.TheVariants as ask
use Rattle.dk_types.specs.declared.mode.Mode.{Mode}
use Rattle.dk_model.specs.DurableWorlds.{Task, task_answer}
use Rattle.dk_model.specs.Runs.{Run, with_object, with_name, with_task}
use Rattle.dk_model.specs.Lawful.{Lacks, IsMade, GoesOn}
use Rattle.dk_model.proofs.Maps.{ids_total, exact_ids, names_total, exact_names, keys_total, exact_keys, get-with_value_other, get-with_value_cases, not_both}

pub Lacks-front : (xs ys : List Item) (item : Item) → Lacks (xs ++ ys) item → Lacks xs item
unfolding Lacks
Lacks-front [] ys item h = tt
Lacks-front (x ∷ xs) ys item h = (h.0, Lacks-front xs ys item h.1)

pub Lacks-back : (xs ys : List Item) (item : Item) → Lacks (xs ++ ys) item → Lacks ys item
unfolding Lacks
Lacks-back [] ys item h = h
Lacks-back (x ∷ xs) ys item h = Lacks-back xs ys item h.1

Lacks-one : (x item : Item) → Lacks (x ∷ []) item → x ≡ item → ⊥
unfolding Lacks
Lacks-one x item h = h.0

-- a run that is as it was, but for messages behind those that were sent, goes on
pub goes_sending : (s : Run) (outs sent : List (ConnNo × Out)) → outs ≡ s.outs ++ sent → GoesOn s (record s { outs = outs })
goes_sending s outs sent behind = record {
  commits = refl;
  last = refl;
  number = refl;
  at = refl;
  written = [];
  listed = sym (append-nil s.touched);
  objects = λ id h. refl;
  names = λ name h. refl;
  tasks = λ key h. refl;
  more_objects = le_refl _;
  more_tasks = le_refl _;
  new_objects = λ id object e f. not_both _ object f e;
  new_tasks = λ key task e f. not_both _ task f e;
  sent = sent;
  behind = behind;
}

-- a run that is as it was goes on
pub goes_nowhere : (s : Run) → GoesOn s s
goes_nowhere s = goes_sending s s.outs [] (sym (append-nil s.outs))

made_later : (a b : RunNo) (from mid to k : ℕ) (run : RunNo) → b ≡ a → from ≤ mid → IsMade b mid to run k → IsMade a from to run k
made_later a b from mid to k run same more made = (made.0 ∙ same, le_trans more made.1, made.2)

made_earlier : (a : RunNo) (from mid to k : ℕ) (run : RunNo) → mid ≤ to → IsMade a from mid run k → IsMade a from to run k
made_earlier a from mid to k run more made = (made.0, made.1, omega (arith, made.2))

-- what goes on from where a run went on to
pub goes_then : {a b c : Run} → GoesOn a b → GoesOn b c → GoesOn a c
goes_then {a = a} {b = b} {c = c} p q = record {
  commits = q.commits ∙ p.commits;
  last = q.last ∙ p.last;
  number = q.number ∙ p.number;
  at = q.at ∙ p.at;
  written = p.written ++ q.written;
  listed = q.listed ∙ ap (λ xs. xs ++ q.written) p.listed ∙ append_assoc a.touched p.written q.written;
  objects = λ id h. q.objects id (Lacks-back p.written q.written (ask.Object id) h) ∙ p.objects id (Lacks-front p.written q.written (ask.Object id) h);
  names = λ name h. q.names name (Lacks-back p.written q.written (ask.Bound name) h) ∙ p.names name (Lacks-front p.written q.written (ask.Bound name) h);
  tasks = λ key h. q.tasks key (Lacks-back p.written q.written (ask.Task key) h) ∙ p.tasks key (Lacks-front p.written q.written (ask.Task key) h);
  more_objects = le_trans p.more_objects q.more_objects;
  more_tasks = le_trans p.more_tasks q.more_tasks;
  new_objects = λ id object e f.
      elim (get b.world.objects id) as (λ o. get b.world.objects id ≡ o → IsMade a.number a.objects_made c.objects_made id.run id.k) [
        | None ↦ λ none. made_later a.number b.number _ _ _ id.k id.run p.number p.more_objects (q.new_objects id object none f)
        | Some x ↦ λ some. made_earlier a.number _ _ _ id.k id.run q.more_objects (p.new_objects id x e some)
      ] refl;
  new_tasks = λ key task e f.
      elim (get b.world.tasks key) as (λ o. get b.world.tasks key ≡ o → IsMade a.number a.tasks_made c.tasks_made key.run key.k) [
        | None ↦ λ none. made_later a.number b.number _ _ _ key.k key.run p.number p.more_tasks (q.new_tasks key task none f)
        | Some x ↦ λ some. made_earlier a.number _ _ _ key.k key.run q.more_tasks (p.new_tasks key x e some)
      ] refl;
  sent = p.sent ++ q.sent;
  behind = q.behind ∙ ap (λ xs. xs ++ q.sent) p.behind ∙ append_assoc a.outs p.sent q.sent;
}

-- a run in another mode, and then in its own
pub goes_within : (s : Run) (mode : Mode) (b : Run) → GoesOn (record s { mode = mode }) b → GoesOn s (record b { mode = s.mode })
goes_within s mode b p = record {
  commits = p.commits;
  last = p.last;
  number = p.number;
  at = p.at;
  written = p.written;
  listed = p.listed;
  objects = p.objects;
  names = p.names;
  tasks = p.tasks;
  more_objects = p.more_objects;
  more_tasks = p.more_tasks;
  new_objects = p.new_objects;
  new_tasks = p.new_tasks;
  sent = p.sent;
  behind = p.behind;
}

-- one object is written; where it was not there, it is of the run's own
pub goes_object : (s : Run) (id : ObjectId) (new : Option Object) (made : ℕ) → s.objects_made ≤ made
    → (get s.world.objects id ≡ None → (object : Object) → new ≡ Some object → IsMade s.number s.objects_made made id.run id.k)
    → GoesOn s (with_object (record s { objects_made = made }) id new)
goes_object s id new made more own = record {
  commits = refl;
  last = refl;
  number = refl;
  at = refl;
  written = ask.Object id ∷ [];
  listed = refl;
  objects = λ q h. get-with_value_other ids_total exact_ids s.world.objects id new q (λ e. Lacks-one (ask.Object id) (ask.Object q) h (ap ask.Object e));
  names = λ name h. refl;
  tasks = λ key h. refl;
  more_objects = more;
  more_tasks = le_refl _;
  new_objects = λ q object e f. elim (get-with_value_cases ids_total exact_ids s.world.objects id new q object f) [
    | inl p ↦ subst (λ (i : ObjectId). IsMade s.number s.objects_made made i.run i.k) (sym p.0) (own (ap (get s.world.objects) (sym p.0) ∙ e) object p.1)
    | inr there ↦ not_both _ object there e
  ];
  new_tasks = λ key task e f. not_both _ task f e;
  sent = [];
  behind = sym (append-nil s.outs);
}

-- one name is written
pub goes_name : (s : Run) (name : List ℕ) (new : Option ObjectId) → GoesOn s (with_name s name new)
goes_name s name new = record {
  commits = refl;
  last = refl;
  number = refl;
  at = refl;
  written = ask.Bound name ∷ [];
  listed = refl;
  objects = λ id h. refl;
  names = λ q h. get-with_value_other names_total exact_names s.world.names name new q (λ e. Lacks-one (ask.Bound name) (ask.Bound q) h (ap ask.Bound e));
  tasks = λ key h. refl;
  more_objects = le_refl _;
  more_tasks = le_refl _;
  new_objects = λ id object e f. not_both _ object f e;
  new_tasks = λ key task e f. not_both _ task f e;
  sent = [];
  behind = sym (append-nil s.outs);
}

-- one task is written; where it was not there, it is of the run's own
pub goes_task : (s : Run) (key : TaskKey) (new : Option Task) (made : ℕ) → s.tasks_made ≤ made
    → (get s.world.tasks key ≡ None → (task : Task) → new ≡ Some task → IsMade s.number s.tasks_made made key.run key.k)
    → GoesOn s (with_task (record s { tasks_made = made }) key new)
goes_task s key new made more own = record {
  commits = refl;
  last = refl;
  number = refl;
  at = refl;
  written = ask.Task key ∷ [];
  listed = refl;
  objects = λ id h. refl;
  names = λ name h. refl;
  tasks = λ q h. ap task_answer (get-with_value_other keys_total exact_keys s.world.tasks key new q (λ e. Lacks-one (ask.Task key) (ask.Task q) h (ap ask.Task e)));
  more_objects = le_refl _;
  more_tasks = more;
  new_objects = λ id object e f. not_both _ object f e;
  new_tasks = λ q task e f. elim (get-with_value_cases keys_total exact_keys s.world.tasks key new q task f) [
    | inl p ↦ subst (λ (i : TaskKey). IsMade s.number s.tasks_made made i.run i.k) (sym p.0) (own (ap (get s.world.tasks) (sym p.0) ∙ e) task p.1)
    | inr there ↦ not_both _ task there e
  ];
  sent = [];
  behind = sym (append-nil s.outs);
}
