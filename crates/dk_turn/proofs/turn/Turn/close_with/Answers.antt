use Rattle.std.proofs.Common.{◌∷◌, ap, ◌∙◌}
use Rattle.dk_turn.proofs.Closing.{taken_off, none_left, continues_more, continues_same}
use Rattle.dk_turn.proofs.turn.Turn.close_with.Goals as goal

pub loop-pass-preserved : goal.loop-pass-preserved
loop-pass-preserved g c =
    let i = c.loop-pass.invariant in
    let s = c.see.ensures in (
      s.book ∙ i.0,
      (
        c.in-Some.pass ∷ i.1.0,
        taken_off _ _ _ _ _ i.1.1 c.in-Some.ensures.items,
        continues_more g.O.Book.number c.in-Some.pass i.1.0 _ _ (s.front ∙ ap g.O.Book.history i.0) s.continues i.1.2,
      ),
    )

pub returns-clause-fronts : goal.returns-clause-fronts
returns-clause-fronts g c =
    let i = c.loop-pass.invariant in
    let e = c.in_default.ensures in
    continues_same g.O.Book.number _ _ _ _ (none_left _ _ _ _ _ i.1.1 e.items e.rest e.cases.0) (ap g.O.Book.history i.0) i.1.2
