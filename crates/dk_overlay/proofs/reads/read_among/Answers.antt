use Rattle.std.proofs.Common.{◌≡◌, Some, length, ap, sym, refl, arith, ◌∙◌}
use Rattle.std.specs.List.{slice_get}
use Rattle.std.proofs.lemmas.Option.{slice_get_read, slice_get_within}
use Rattle.dk_overlay.proofs.Asking.{among_more}
use Rattle.dk_overlay.proofs.SameItems.{item_equal}
use Rattle.dk_overlay.proofs.reads.read_among.Goals as goal

pub returns-then-is_same_item-clause-some : goal.returns-then-is_same_item-clause-some
returns-then-is_same_item-clause-some c =
    let list = c.args.list.now in
    let n = c.loop-known.known-index in
    let x = c.loop-known-item.result in
    let here : slice_get list n ≡ Some x = slice_get_read list (length list) n x refl c.loop-known-test.true c.loop-known-item.is in
    (n, here ∙ ap (λ i. Some (i, x.1)) (item_equal x.0 c.args.item.now (sym c.is_same_item.ensures ∙ c.if-is_same_item.true)))

pub loop-known-preserved : goal.loop-known-preserved
loop-known-preserved c =
    let list = c.args.list.now in
    let n = c.loop-known.known-index in
    let x = c.loop-known-item.result in
    let here : slice_get list n ≡ Some x = slice_get_read list (length list) n x refl c.loop-known-test.true c.loop-known-item.is in
    among_more list n x c.args.item.now here (sym c.is_same_item.ensures ∙ c.if-is_same_item.false) c.loop-known.invariant

pub returns-clause-none : goal.returns-clause-none
returns-clause-none c read was =
    let within = slice_get_within c.args.list.now was.0 (c.args.item.now, read) was.1 in
    c.loop-known.invariant was.0 read (omega (arith, within, c.loop-known-test.false)) was.1
