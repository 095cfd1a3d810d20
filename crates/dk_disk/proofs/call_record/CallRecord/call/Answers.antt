use Rattle.std.proofs.Common.{rules}
use Rattle.dk_disk.proofs.Calls.{reversed_within, reversed_call}
use Rattle.dk_disk.proofs.call_record.CallRecord.call.Goals as goal

pub step_of-requires : goal.step_of-requires
step_of-requires c =
    rw c.deref.ensures.value (reversed_within c.self.inside.bytes.items c.self.inside.entries.items c.len.result c.args.at c.index-entry.result.now (search rules) (rw (← c.self.view_is) at c.requires) c.index-entry.ensures c.self.invariant)

pub returns-clause-call : goal.returns-clause-call
returns-clause-call c =
    rw (← c.self.view_is, c.step_of.ensures.step, c.deref.ensures.value) (reversed_call c.self.inside.bytes.items c.self.inside.entries.items c.len.result c.args.at c.index-entry.result.now (search rules) (rw (← c.self.view_is) at c.requires) c.index-entry.ensures)
