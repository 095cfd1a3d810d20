-- Values as the maps of a world hold them, and when two are the same.
use Rattle.std.specs.Prelude.{ℕ, Bool, true, false, ◌&&◌, nat_eq, if◌then◌else◌, Option, Some, None, List, [], ◌∷◌}
use Rattle.std.specs.Ordering.{is_gt}
use Rattle.std.specs.Cmp.Lexicographic.{pointwise}
use Rattle.dk_types.specs.declared.number.ObjectId.{ObjectId}
use Rattle.dk_types.specs.declared.number.TaskKey.{TaskKey}
use Rattle.dk_types.specs.declared.object.Object.{Object}
use Rattle.dk_types.specs.declared.durable.Pending.{Pending}
use Rattle.dk_types.specs.Names.{bytes_cmp}

-- a pending task under its key; a period of 0 marks a once-task
pub record Task : Type 0 where
  pub due : ℕ
  pub period : ℕ
  pub kind : ℕ
  pub arg : List ℕ

-- a task with its key, as a list has it
abbrev pub pending_of : TaskKey × Task → Pending
pending_of e = record { key = e.0; due = e.1.due; period = e.1.period; kind = e.1.kind; arg = e.1.arg }

-- whether two ids are one
abbrev pub same_id : ObjectId → ObjectId → Bool
same_id a b = nat_eq a.run.0 b.run.0 && nat_eq a.k b.k

-- whether two objects have one kind and the same bytes
abbrev pub same_object : Object → Object → Bool
same_object a b = nat_eq a.kind b.kind && pointwise nat_eq a.bytes b.bytes

-- whether a key has the same value in both
abbrev pub same_value : {X : Type 0} → (X → X → Bool) → Option X → Option X → Bool
same_value same None None = true
same_value same None (Some y) = false
same_value same (Some x) None = false
same_value same (Some x) (Some y) = same x y

-- whether a name is above the given one, as each is where none is given
abbrev pub is_above : Option (List ℕ) → List ℕ → Bool
is_above None name = true
is_above (Some after) name = is_gt (bytes_cmp name after)

-- the key of the first entry that passes
abbrev pub first_key : {K X : Type 0} → (K → Bool) → List (K × X) → Option K
first_key p [] = None
first_key p (e ∷ es) = if p e.0 then Some e.0 else first_key p es
