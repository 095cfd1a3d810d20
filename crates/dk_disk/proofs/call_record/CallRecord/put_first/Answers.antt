use Rattle.std.proofs.Common.{ap}
use Rattle.dk_disk.specs.CallRecord.{as_call}
use Rattle.dk_disk.specs.Record.{Change}
use Rattle.dk_disk.proofs.Calls.{within_pushed, calls_put_first}
use Rattle.dk_disk.proofs.call_record.CallRecord.put_first.Goals as goal

pub invariant_of-self-2 : goal.invariant_of-self-2
invariant_of-self-2 c =
    rw (c.push_reserved.ensures.items, c.keep-kept.ensures.put, c.reserve.ensures.items, c.reserve-2.ensures.items) (within_pushed _ _ _ _ c.self.invariant (rw (c.keep-kept.ensures.put, c.reserve-2.ensures.items) at c.keep-kept.ensures.within))

pub returns : goal.returns
returns c =
    rw (c.push_reserved.ensures.items, c.keep-kept.ensures.put, c.reserve.ensures.items, c.reserve-2.ensures.items, ← c.self.view_is) (calls_put_first _ _ _ _ (as_call c.args.call.now) c.self.invariant (ap (λ (x : Change). record { number = c.args.call.now.number; side = c.args.call.now.side; change = x; is_made = c.args.call.now.is_made }) (rw (c.keep-kept.ensures.put, c.reserve-2.ensures.items) at c.keep-kept.ensures.kept)))
