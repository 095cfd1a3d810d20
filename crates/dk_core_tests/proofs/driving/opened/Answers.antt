use Rattle.std.proofs.Common.{◌∙◌, [], refl, sym, subst, arith}
use Rattle.dk_core.proofs.Bare.{IsFew, bare_valid}
use Rattle.dk_core_tests.proofs.driving.opened.Goals.{then-commits-eq0, else-commits-eq0}
use Rattle.dk_core_tests.proofs.driving.opened.Goals as goal

pub open-requires : goal.open-requires
open-requires g c = record {
  valid = bare_valid _ (c.from_vec.ensures ∙ c.new.ensures.items) (c.from_vec-2.ensures ∙ c.new-2.ensures.items) (c.from_vec-3.ensures ∙ c.new-3.ensures.items) (elim c.if-commits-eq0.branch [
    | then-commits-eq0 w ↦ subst (IsFew c.args.commits) (sym w.last-is) w.if-commits-eq0.true
    | else-commits-eq0 w ↦ let some = w.if-commits-eq0.false in let few = c.requires in subst (IsFew c.args.commits) (sym w.last-is) (omega (arith, some, few), refl)
  ]);
}

pub returns-in-Ok : goal.returns-in-Ok
returns-in-Ok g c = record { opened = _; budget = _; events = []; stands = c.in-Ok.ensures.stands (g.G.Rules.rules c.args.game.now) }
