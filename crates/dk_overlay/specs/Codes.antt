-- How the values of a read and write set are stored as numbers and lists.
use Rattle.std.specs.Prelude.{◌≡◌, ℕ, Bool, true, false, Option, List, [], refl}
use Rattle.std.specs.Coded.{Coded, code_by, coded×, coded_ℕ, coded_bool, coded_list, coded_option}
use Rattle.std.specs.FinMap as map
use Rattle.dk_types.specs.declared.number.RunNo.{RunNo}
use Rattle.dk_types.specs.declared.number.ConnNo.{ConnNo}
use Rattle.dk_types.specs.declared.number.ObjectId.{ObjectId}
use Rattle.dk_types.specs.declared.number.TaskKey.{TaskKey}
use Rattle.dk_types.specs.declared.object.Object.{Object}
use Rattle.dk_types.specs.declared.item.Item.{Item}
use Rattle.dk_types.specs.declared.item.Read.{Read}
use Rattle.dk_types.specs.declared.job.Out.{Out}
use Rattle.dk_types.specs.Names.{bytes_cmp}
use Rattle.dk_types.specs.Keys.{id_cmp, key_cmp}
use Rattle.dk_types.specs.declared.mode.Mode.{Mode}
use Rattle.dk_types.specs.declared.mode.Mode.TheVariants.{Platform, Game}
use Rattle.dk_overlay.specs.declared.change.Change.{Change}
use Rattle.dk_overlay.specs.declared.change.Scheduled.{Scheduled}
use Rattle.dk_overlay.specs.declared.change.TaskChange.{TaskChange}
use Rattle.dk_overlay.specs.declared.change.TaskChange.TheVariants.{Added, Withdrawn, Dropped, Moved}
use Rattle.dk_overlay.specs.Asked.{Places}
use Rattle.dk_overlay.specs.ReadsAndWrites.{ReadsAndWrites}

-- a run is stored as its number
abbrev pub run_code : Coded RunNo
run_code = code_by ℕ coded_ℕ (λ r. r.0) (λ n. record { 0 = n }) (λ _. refl)

-- a connection is stored as its number
abbrev pub conn_code : Coded ConnNo
conn_code = code_by ℕ coded_ℕ (λ r. r.0) (λ n. record { 0 = n }) (λ _. refl)

-- an id is stored as the pair of its fields
abbrev pub id_code : Coded ObjectId
id_code = code_by (RunNo × ℕ) (coded× run_code coded_ℕ) (λ i. (i.run, i.k)) (λ p. record { run = p.0; k = p.1 }) (λ _. refl)

-- a task's key is stored as the pair of its fields
abbrev pub key_code : Coded TaskKey
key_code = code_by (RunNo × ℕ) (coded× run_code coded_ℕ) (λ i. (i.run, i.k)) (λ p. record { run = p.0; k = p.1 }) (λ _. refl)

-- an object is stored as its kind and its bytes
abbrev pub object_code : Coded Object
object_code = code_by (ℕ × List ℕ) (coded× coded_ℕ (coded_list coded_ℕ)) (λ o. (o.kind, o.bytes)) (λ p. record { kind = p.0; bytes = p.1 }) (λ _. refl)

-- a change is stored as what was there before and what is there now
abbrev pub change_code : {X : Type 0} → Coded X → Coded (Change X)
change_code {X} c = code_by (Option X × Option X) (coded× (coded_option c) (coded_option c)) (λ e. (e.before, e.after)) (λ p. record { before = p.0; after = p.1 }) (λ _. refl)

-- a scheduled task is stored as its fields, one pair in another
abbrev pub scheduled_code : Coded Scheduled
scheduled_code =
    code_by (ℕ × (ℕ × (ℕ × List ℕ))) (coded× coded_ℕ (coded× coded_ℕ (coded× coded_ℕ (coded_list coded_ℕ))))
    (λ s. (s.due, (s.period, (s.kind, s.arg)))) (λ p. record { due = p.0; period = p.1.0; kind = p.1.1.0; arg = p.1.1.1 }) (λ _. refl)

-- two flags for the case, a task, and two moments
abbrev TaskChangeParts : Type 0
TaskChangeParts = (Bool × Bool) × (Scheduled × (ℕ × ℕ))

abbrev no_task : Scheduled
no_task = record { due = 0; period = 0; kind = 0; arg = [] }

abbrev to_parts : TaskChange → TaskChangeParts
to_parts (Added s) = ((true, true), (s, (0, 0)))
to_parts Withdrawn = ((true, false), (no_task, (0, 0)))
to_parts Dropped = ((false, true), (no_task, (0, 0)))
to_parts (Moved from to) = ((false, false), (no_task, (from, to)))

abbrev by_flags : Bool → Bool → Scheduled → ℕ → ℕ → TaskChange
by_flags true true s from to = Added s
by_flags true false s from to = Withdrawn
by_flags false true s from to = Dropped
by_flags false false s from to = Moved from to

abbrev parts_back : (c : TaskChange) → let p = to_parts c in by_flags p.0.0 p.0.1 p.1.0 p.1.1.0 p.1.1.1 ≡ c
parts_back (Added s) = refl
parts_back Withdrawn = refl
parts_back Dropped = refl
parts_back (Moved from to) = refl

-- a change of a task is stored as its parts
abbrev pub task_change_code : Coded TaskChange
task_change_code =
    code_by TaskChangeParts (coded× (coded× coded_bool coded_bool) (coded× scheduled_code (coded× coded_ℕ coded_ℕ)))
    to_parts (λ p. by_flags p.0.0 p.0.1 p.1.0 p.1.1.0 p.1.1.1) parts_back

abbrev is_platform : Mode → Bool
is_platform Platform = true
is_platform Game = false

abbrev mode_by : Bool → Mode
mode_by true = Platform
mode_by false = Game

abbrev mode_back : (m : Mode) → mode_by (is_platform m) ≡ m
mode_back Platform = refl
mode_back Game = refl

-- a mode is stored as whether it is the platform's
abbrev pub mode_code : Coded Mode
mode_code = code_by Bool coded_bool is_platform mode_by mode_back

abbrev Maps : Type 0
Maps = map.FinMap id_cmp (Change Object) × (map.FinMap bytes_cmp (Change ObjectId) × map.FinMap key_cmp TaskChange)

abbrev Counts : Type 0
Counts = (RunNo × ℕ) × ((ℕ × ℕ) × Mode)

abbrev Lists : Type 0
Lists = List (Item × Read) × (List Item × List (ConnNo × Out))

-- a read and write set is stored as the tuple of its fields
abbrev pub read_write_code : Coded Item → Coded Read → Coded Out → Coded ReadsAndWrites
read_write_code item read out =
    code_by (Lists × (Maps × Counts))
    (coded× (coded× (coded_list (coded× item read)) (coded× (coded_list item) (coded_list (coded× conn_code out))))
    (coded× (coded× (map.code id_code (change_code object_code)) (coded× (map.code (coded_list coded_ℕ) (change_code id_code)) (map.code key_code task_change_code)))
    (coded× (coded× run_code coded_ℕ) (coded× (coded× coded_ℕ coded_ℕ) mode_code))))
    (λ t. ((t.reads, (t.touched, t.outs)), ((t.objects, (t.names, t.tasks)), ((t.run, t.at), ((t.objects_made, t.tasks_made), t.mode)))))
    (λ p. record {
      reads = p.0.0;
      touched = p.0.1.0;
      outs = p.0.1.1;
      objects = p.1.0.0;
      names = p.1.0.1.0;
      tasks = p.1.0.1.1;
      run = p.1.1.0.0;
      at = p.1.1.0.1;
      objects_made = p.1.1.1.0.0;
      tasks_made = p.1.1.1.0.1;
      mode = p.1.1.1.1;
    })
    (λ _. refl)

-- places are stored as the tuple of their fields
abbrev pub places_code : Coded Places
places_code =
    code_by ((List (ObjectId × ℕ) × List (List ℕ × ℕ)) × (Option ℕ × (List (List ℕ × ℕ) × List (TaskKey × ℕ))))
    (coded× (coded× (coded_list (coded× id_code coded_ℕ)) (coded_list (coded× (coded_list coded_ℕ) coded_ℕ)))
    (coded× (coded_option coded_ℕ) (coded× (coded_list (coded× (coded_list coded_ℕ) coded_ℕ)) (coded_list (coded× key_code coded_ℕ)))))
    (λ p. ((p.objects, p.names), (p.first, (p.nexts, p.tasks)))) (λ t. record { objects = t.0.0; names = t.0.1; first = t.1.0; nexts = t.1.1.0; tasks = t.1.1.1 }) (λ _. refl)
