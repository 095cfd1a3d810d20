-- A run in its midst, and what each operation does to it, said on the world itself with no buffers.
use Rattle.std.specs.Prelude.{ℕ, ◌+◌, ◌&&◌, ◌||◌, ◌==◌, Bool, true, false, Option, Some, None, List, [], ◌∷◌, ◌++◌, length, nat_lt, nat_le, if◌then◌else◌, Result, Ok, Err}
use Rattle.std.specs.FinMap as map
use Rattle.dk_types.specs.declared.number.RunNo.{RunNo}
use Rattle.dk_types.specs.declared.number.ConnNo.{ConnNo}
use Rattle.dk_types.specs.declared.number.ObjectId.{ObjectId}
use Rattle.dk_types.specs.declared.number.TaskKey.{TaskKey}
use Rattle.dk_types.specs.declared.object.Object.{Object}
use Rattle.dk_types.specs.declared.item.Item.{Item}
use Rattle.dk_types.specs.declared.item.Item.TheVariants as ask
use Rattle.dk_types.specs.declared.job.Out.{Out}
use Rattle.dk_types.specs.declared.job.Out.TheVariants as out
use Rattle.dk_types.specs.declared.fault.AppFault.{AppFault}
use Rattle.dk_types.specs.declared.fault.AppFault.TheVariants.{Refused}
use Rattle.dk_types.specs.declared.limits.TheConstants.{BODY_MOST_BYTES, OBJECTS_MOST_COUNT, TASKS_MOST_COUNT, MESSAGES_MOST_COUNT, DELAY_MOST_MS, PERIOD_MOST_MS}
use Rattle.dk_types.specs.declared.mode.Mode.{Mode}
use Rattle.dk_types.specs.declared.mode.Mode.TheVariants.{Platform, Game}
use Rattle.dk_model.specs.DurableWorlds.{DurableWorld, Task, with_value, next_name, last_with}

-- the world as the run has changed it, what it has written and sent so far, its number and moment, and how much it has made
pub record Run : Type 0 where
  pub world : DurableWorld
  pub touched : List Item
  pub outs : List (ConnNo × Out)
  pub number : RunNo
  pub at : ℕ
  pub objects_made : ℕ
  pub tasks_made : ℕ
  pub mode : Mode

-- a run at its start: the number of commits and the largest committed run are raised before all else
abbrev pub begun : RunNo → ℕ → DurableWorld → Run
begun run at d = record {
  world = record d { commits = d.commits + 1; last = last_with d.last run };
  touched = [];
  outs = [];
  number = run;
  at = at;
  objects_made = 0;
  tasks_made = 0;
  mode = Platform;
}

-- what a step of a run does: its answer, and the run after it
abbrev pub Act : Type 0 → Type 0
Act A = Run → Result A AppFault × Run

-- a step that answers this and changes nothing
unfoldable pub give : {A : Type 0} → Result A AppFault → Act A
give r s = (r, s)

-- the next step, unless the one before it failed
abbrev pub carry_on : {A B : Type 0} → Result A AppFault → (A → Act B) → Act B
carry_on (Ok x) f = f x
carry_on (Err e) f = λ s. (Err e, s)

-- one step, and the next where it was not refused
unfoldable pub and_then : {A B : Type 0} → Act A → (A → Act B) → Act B
and_then m f s = let p = m s in carry_on p.0 f p.1

-- a step in a mode of its own; the old mode is put back, however it ends
unfoldable pub within : {A : Type 0} → Mode → Act A → Act A
within mode m s = let p = m (record s { mode = mode }) in (p.0, record (p.1) { mode = s.mode })

-- the numbers by which operations refuse
abbrev pub NAME_NOT_BOUND : ℕ
NAME_NOT_BOUND = 1

-- there is no such object or task
abbrev pub OBJECT_NOT_FOUND : ℕ
OBJECT_NOT_FOUND = 2

-- the object is of another kind
abbrev pub WRONG_KIND : ℕ
WRONG_KIND = 3

-- an object, an argument or a body has too many bytes
abbrev pub TOO_LONG : ℕ
TOO_LONG = 4

-- a delay or a period is out of its limits
abbrev pub BAD_DELAY : ℕ
BAD_DELAY = 5

-- the name or the kind is the platform's
abbrev pub RESERVED : ℕ
RESERVED = 6

-- the run has made, scheduled or sent as many as it may
abbrev pub TOO_MANY : ℕ
TOO_MANY = 8

-- the name is bound already
abbrev pub NAME_EXISTS : ℕ
NAME_EXISTS = 9

-- the bytes are none of a value of this type
abbrev pub BAD_BYTES : ℕ
BAD_BYTES = 10

-- a step that is refused by this number and changes nothing
abbrev pub refuse : {A : Type 0} → ℕ → Run → Result A AppFault × Run
refuse n s = (Err (Refused n), s)

-- whether the game's own code runs
abbrev pub is_game : Mode → Bool
is_game Game = true
is_game Platform = false

-- a game may not touch the kinds from 0xFF00 on
abbrev pub is_reserved_kind : Mode → ℕ → Bool
is_reserved_kind mode kind = is_game mode && nat_le 65280 kind

-- whether a name is one of the platform's
abbrev pub begins_with_dollar : List ℕ → Bool
begins_with_dollar [] = false
begins_with_dollar (b ∷ bs) = b == 36

-- nor the names that begin with `$`
abbrev pub is_reserved_name : Mode → List ℕ → Bool
is_reserved_name mode name = is_game mode && begins_with_dollar name

-- whether these are more bytes than an object, an argument or a body has
abbrev pub is_too_long : List ℕ → Bool
is_too_long bytes = nat_lt BODY_MOST_BYTES (length bytes)

-- the run with an object as given, or gone, and the object listed as written
abbrev pub with_object : Run → ObjectId → Option Object → Run
with_object s id object = record s { world = record (s.world) { objects = with_value s.world.objects id object }; touched = s.touched ++ ask.Object id ∷ [] }

-- the run with a name as given, or unbound, and the name listed as written
abbrev pub with_name : Run → List ℕ → Option ObjectId → Run
with_name s name id = record s { world = record (s.world) { names = with_value s.world.names name id }; touched = s.touched ++ ask.Bound name ∷ [] }

-- the run with a task as given, or no longer pending, and the task listed as written
abbrev pub with_task : Run → TaskKey → Option Task → Run
with_task s key task = record s { world = record (s.world) { tasks = with_value s.world.tasks key task }; touched = s.touched ++ ask.Task key ∷ [] }

-- what was found, or a refusal by this number
abbrev pub found : {A : Type 0} → ℕ → Option A → Result A AppFault
found n None = Err (Refused n)
found n (Some x) = Ok x

-- the object
unfoldable pub get : ObjectId → Act Object
get id s = (found OBJECT_NOT_FOUND (map.get s.world.objects id), s)

-- the id of the next object that the run makes
abbrev pub next_id : Run → ObjectId
next_id s = record { run = s.number; k = s.objects_made }

-- makes an object
unfoldable pub create : ℕ → List ℕ → Act ObjectId
create kind bytes s =
    if is_reserved_kind s.mode kind then refuse RESERVED s
    else if is_too_long bytes then refuse TOO_LONG s
    else if nat_le OBJECTS_MOST_COUNT s.objects_made then refuse TOO_MANY s
    else (Ok (next_id s), with_object (record s { objects_made = s.objects_made + 1 }) (next_id s) (Some (record { kind = kind; bytes = bytes })))

-- an object that stands and may be touched is then as the function says
abbrev pub change_found : Option Object → ObjectId → (Object → Option Object) → Act (Unit {0})
change_found None id change s = refuse OBJECT_NOT_FOUND s
change_found (Some object) id change s = if is_reserved_kind s.mode object.kind then refuse RESERVED s else (Ok tt, with_object s id (change object))

-- changes the object under an id
abbrev pub change_object : ObjectId → (Object → Option Object) → Act (Unit {0})
change_object id change s = change_found (map.get s.world.objects id) id change s

-- the object has these bytes, under its old kind
unfoldable pub save : ObjectId → List ℕ → Act (Unit {0})
save id bytes s = if is_too_long bytes then refuse TOO_LONG s else change_object id (λ object. Some (record { kind = object.kind; bytes = bytes })) s

-- the object is written as it is
unfoldable pub mark : ObjectId → Act (Unit {0})
mark id = change_object id (λ object. Some object)

-- the object is gone
unfoldable pub remove : ObjectId → Act (Unit {0})
remove id = change_object id (λ object. None)

-- the object that the name is bound to
unfoldable pub bound : List ℕ → Act ObjectId
bound name s = (found NAME_NOT_BOUND (map.get s.world.names name), s)

-- the name is bound to the object, whatever it was bound to
unfoldable pub bind : List ℕ → ObjectId → Act (Unit {0})
bind name id s = if is_reserved_name s.mode name then refuse RESERVED s else (Ok tt, with_name s name (Some id))

-- takes a name away where it was found bound
abbrev pub unbind_found : Option ObjectId → List ℕ → Act (Unit {0})
unbind_found None name s = refuse NAME_NOT_BOUND s
unbind_found (Some id) name s = (Ok tt, with_name s name None)

-- takes a name away
unfoldable pub unbind : List ℕ → Act (Unit {0})
unbind name s = if is_reserved_name s.mode name then refuse RESERVED s else unbind_found (map.get s.world.names name) name s

-- the least bound name above the given one, or the first
unfoldable pub next_bound : Option (List ℕ) → Act (Option (List ℕ))
next_bound after s = (Ok (next_name s.world.names after), s)

-- the key of the next task that the run schedules
abbrev pub next_key : Run → TaskKey
next_key s = record { run = s.number; k = s.tasks_made }

-- a task, due at the run's moment and the delay
abbrev pub scheduled : ℕ → List ℕ → ℕ → ℕ → Act TaskKey
scheduled kind arg delay period s =
    if nat_le TASKS_MOST_COUNT s.tasks_made then refuse TOO_MANY s
    else (Ok (next_key s), with_task (record s { tasks_made = s.tasks_made + 1 }) (next_key s) (Some (record { due = s.at + delay; period = period; kind = kind; arg = arg })))

-- schedules a task that is run once
unfoldable pub schedule : ℕ → List ℕ → ℕ → Act TaskKey
schedule kind arg delay s =
    if is_too_long arg then refuse TOO_LONG s
    else if nat_lt DELAY_MOST_MS delay then refuse BAD_DELAY s
    else scheduled kind arg delay 0 s

-- schedules a task that is run again after each period
unfoldable pub schedule_periodic : ℕ → List ℕ → ℕ → ℕ → Act TaskKey
schedule_periodic kind arg delay period s =
    if is_too_long arg then refuse TOO_LONG s
    else if nat_lt DELAY_MOST_MS delay || nat_lt PERIOD_MOST_MS period || period == 0 then refuse BAD_DELAY s
    else scheduled kind arg delay period s

-- takes a task away where it was found
abbrev pub cancel_found : Option Task → TaskKey → Act (Unit {0})
cancel_found None key s = refuse OBJECT_NOT_FOUND s
cancel_found (Some task) key s = (Ok tt, with_task s key None)

-- the task is no longer pending
unfoldable pub cancel : TaskKey → Act (Unit {0})
cancel key s = cancel_found (map.get s.world.tasks key) key s

-- the body of a message, where it has one
abbrev pub body_of : Out → List ℕ
body_of (out.Message body) = body
body_of (out.Channel channel body) = body
body_of out.Accepted = []
body_of out.Refused = []
body_of out.Close = []

-- a message to a connection, of which nothing else is looked at
unfoldable pub send : ConnNo → Out → Act (Unit {0})
send to message s =
    if is_too_long (body_of message) then refuse TOO_LONG s
    else if nat_le MESSAGES_MOST_COUNT (length s.outs) then refuse TOO_MANY s
    else (Ok tt, record s { outs = s.outs ++ (to, message) ∷ [] })
