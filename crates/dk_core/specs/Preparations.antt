-- What is prepared for a commit.
use Rattle.std.specs.Prelude.{List}
use Rattle.dk_types.specs.declared.number.ConnNo.{ConnNo}
use Rattle.dk_types.specs.declared.job.Out.{Out}
use Rattle.dk_types.specs.declared.durable.Entry.{Entry}

-- the entry of the commit, and the messages of its run
pub record Preparation : Type 0 where
  pub entry : Entry
  pub deliveries : List (ConnNo × Out)
