use Rattle.std.proofs.Common.{◌<◌, ◌≤◌, ◌+◌, ◌-◌, ◌/◌, length, ap, sym, ◌∙◌, arith}
use Rattle.dk_overlay.proofs.Places.{arrives, passes, runs_out, stops}
use Rattle.dk_overlay.proofs.small_map.place.Goals as goal

pub halve-preserved-in-Less : goal.halve-preserved-in-Less
halve-preserved-in-Less g c =
    let n = c.halve.low + (c.halve.high - c.halve.low) / 2 in
    let behind : c.halve.low ≤ n = omega arith in
    let within : n < length c.args.list.now = omega (arith, c.halve.invariant.within) in
    let below = ap (λ e. g.K.Ord.cmp c.args.key.now e.0) c.index-list-middle.is ∙ sym c.cmp.ensures ∙ c.in-Less.is in
    stops g.met.K.Ord.total _ _ n c.index-list-middle.result within c.index-list-middle.is c.requires c.halve.low c.halve.high behind below c.halve.invariant

pub returns-in-Equal : goal.returns-in-Equal
returns-in-Equal g c =
    let n = c.halve.low + (c.halve.high - c.halve.low) / 2 in
    let within : n < length c.args.list.now = omega (arith, c.halve.invariant.within) in
    let tied = ap (λ e. g.K.Ord.cmp c.args.key.now e.0) c.index-list-middle.is ∙ sym c.cmp.ensures ∙ c.in-Equal.is in
    arrives g.met.K.Ord.total _ _ n c.index-list-middle.result within c.index-list-middle.is c.requires tied

pub halve-preserved : goal.halve-preserved
halve-preserved g c =
    let n = c.halve.low + (c.halve.high - c.halve.low) / 2 in
    let before : n < c.halve.high = omega arith in
    let within : n < length c.args.list.now = omega (arith, c.halve.invariant.within) in
    let above = ap (λ e. g.K.Ord.cmp c.args.key.now e.0) c.index-list-middle.is ∙ sym c.cmp.ensures ∙ c.in-Greater.is in
    passes g.met.K.Ord.total _ _ n c.index-list-middle.result within c.index-list-middle.is c.requires c.halve.low c.halve.high before above c.halve.invariant

pub returns : goal.returns
returns g c = runs_out g.met.K.Ord.total _ _ c.halve.low c.halve.high c.halve-test.false c.halve.invariant
