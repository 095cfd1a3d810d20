use Rattle.std.proofs.Common.{◌≡◌, None}
use Rattle.std.specs.Option.{option_copied}
use Rattle.std.proofs.lemmas.Result.{err_from_is_err_and}
use Rattle.dk_types.specs.Lists.{items_at}
use Rattle.dk_wire.proofs.Loop.{last_of, goes_on, ends, is_done}
use Rattle.dk_wire.proofs.form.take_items.Goals as goal

pub returns-in_err-item : goal.returns-in_err-item
returns-in_err-item g c =
    let p = err_from_is_err_and c.from_residual-in_err-item.result c.from_residual-in_err-item.ensures.1 in
    let before : option_copied c.last.result ≡ last_of c.loop.items.items = rw c.deref.ensures.value at c.last.ensures.value in
    let misses = rw before at c.in_err-item.ensures in
    rw (p.1, p.2) (ends g.F.Form.reading c.in_err-item.field-0.0 c.loop.items.items c.args.count c.loop.counter c.loop.reader (items_at g.F.Form.reading None c.args.count c.args.reader) c.loop-test.true misses c.loop.invariant)

pub loop-preserved : goal.loop-preserved
loop-preserved g c =
    let before : option_copied c.last.result ≡ last_of c.loop.items.items = rw c.deref.ensures.value at c.last.ensures.value in
    let read = rw before at c.in_ok-item.ensures in
    rw c.in_ok-push.ensures.items (goes_on g.F.Form.reading c.loop.items.items c.args.count c.loop.counter c.loop.reader c.in_ok-item.item c.in_ok-item.behind (items_at g.F.Form.reading None c.args.count c.args.reader) c.loop-test.true read c.loop.invariant)

pub returns : goal.returns
returns g c =
    rw c.from_vec.ensures (is_done g.F.Form.reading c.loop.items.items c.args.count c.loop.counter c.loop.reader (items_at g.F.Form.reading None c.args.count c.args.reader) c.loop-test.false c.loop.invariant)
