use Rattle.std.proofs.Common.{◌≡◌, false, rules, sym, ap, ◌∙◌}
use Rattle.dk_notice.specs.Boards.{view}
use Rattle.dk_notice.proofs.Moves.{hears, compares}
use Rattle.dk_notice.proofs.board.NoticeBoard.tell_apart.Goals as goal

pub join_seat-requires : goal.join_seat-requires
join_seat-requires c = (search rules, search rules, ap (λ m. m.1) c.other.invariant, search rules, hears _ _ _ _)

pub load-requires : goal.load-requires
load-requires c = (search rules, search rules, compares _ _ _ _)

pub invariant_of-one : goal.invariant_of-one
invariant_of-one c =
    let heard = c.load.ensures.2.0.after in
    let keeps : c.join_seat.new.seat.me.0.keeps ≡ false = ap (λ m. m.0.keeps) c.join_seat.ensures.2 ∙ ap (λ m. m.0.keeps) c.one.invariant in
    let now = heard ∙ ap (λ b. view c.join_seat.new.seat.me.0.known b c.join_seat.new.seat.me.0.first) keeps in
    let same = now ∙ ap (λ v. view v.known false v.first) (sym now) in
    let none = c.load.ensures.2.1 ∙ ap (λ m. m.1) c.join_seat.ensures.2 ∙ ap (λ m. m.1) c.one.invariant in
    λ i. (same i, none i)
