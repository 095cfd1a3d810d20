use Rattle.std.proofs.Common.{◌<◌, Some, sym, ap, subst, ◌∙◌, arith, length}
use Rattle.std.specs.List.{slice_get}
use Rattle.std.proofs.lemmas.Option.{slice_get_within, get_or_from_slice_get}
use Rattle.dk_overlay.specs.Asked.{WasNotRead}
use Rattle.dk_overlay.specs.declared.reads.TheConstants.{FEW_READS}
use Rattle.dk_overlay.proofs.Asking.{indexed_none, none_among}
use Rattle.dk_overlay.proofs.reads.Reads.get.Goals as goal

pub returns-then-len-le-FEW_READS-clause-none : goal.returns-then-len-le-FEW_READS-clause-none
returns-then-len-le-FEW_READS-clause-none c = none_among _ _ _ c.read_among.result (c.as_slice.ensures.value ∙ c.self.view_is) c.read_among.ensures.none

pub index-requires : goal.index-requires
index-requires c =
    let w = c.self.inside in
    let long : FEW_READS < length w.list.items = omega (arith, c.len.ensures, c.if-len-le-FEW_READS.false, w.list.ok.0) in
    let r = (c.self.invariant.1 long).right c.args.item.now c.in-Some.at (sym c.get.ensures ∙ c.in-Some.is) in
    let within = slice_get_within w.list.items c.in-Some.at (c.args.item.now, r.0) r.1 in
    omega (arith, within, w.list.ok.0)

pub returns-in-None-clause-none : goal.returns-in-None-clause-none
returns-in-None-clause-none c =
    let w = c.self.inside in
    let long : FEW_READS < length w.list.items = omega (arith, c.len.ensures, c.if-len-le-FEW_READS.false, w.list.ok.0) in
    subst (λ l. WasNotRead l c.args.item.now) c.self.view_is (indexed_none w.list.items _ (c.self.invariant.1 long) c.args.item.now (sym c.get.ensures ∙ c.in-None.is))

pub returns-in-Some-clause-some : goal.returns-in-Some-clause-some
returns-in-Some-clause-some c =
    let w = c.self.inside in
    let long : FEW_READS < length w.list.items = omega (arith, c.len.ensures, c.if-len-le-FEW_READS.false, w.list.ok.0) in
    let r = (c.self.invariant.1 long).right c.args.item.now c.in-Some.at (sym c.get.ensures ∙ c.in-Some.is) in
    let same = c.index.ensures ∙ get_or_from_slice_get w.list.items c.in-Some.at (c.args.item.now, r.0) c.index.result.now r.1 in
    (c.in-Some.at, ap (λ l. slice_get l c.in-Some.at) (sym c.self.view_is) ∙ r.1 ∙ ap (λ e. Some (c.args.item.now, e.1)) (sym same))
