-- The orders of ids, keys and numbers.
use Rattle.std.specs.Ordering.{nat_cmp, ordering_then}
use Rattle.std.specs.declared.cmp.Ordering.{Ordering}
use Rattle.dk_types.specs.declared.number.RunNo.{RunNo}
use Rattle.dk_types.specs.declared.number.ConnNo.{ConnNo}
use Rattle.dk_types.specs.declared.number.ObjectId.{ObjectId}
use Rattle.dk_types.specs.declared.number.TaskKey.{TaskKey}

-- runs by their numbers
abbrev pub run_cmp : RunNo → RunNo → Ordering
run_cmp a b = nat_cmp a.0 b.0

-- connections by their numbers
abbrev pub conn_cmp : ConnNo → ConnNo → Ordering
conn_cmp a b = nat_cmp a.0 b.0

-- by run, and then by place
abbrev pub id_cmp : ObjectId → ObjectId → Ordering
id_cmp a b = ordering_then (nat_cmp a.run.0 b.run.0) (nat_cmp a.k b.k)

-- by run, and then by place
abbrev pub key_cmp : TaskKey → TaskKey → Ordering
key_cmp a b = ordering_then (nat_cmp a.run.0 b.run.0) (nat_cmp a.k b.k)
