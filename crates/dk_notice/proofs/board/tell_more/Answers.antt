use Rattle.std.proofs.Common.{◌≡◌, ◌==◌, rules, refl, ap, ◌∙◌}
use prog.Atomic.{either}
use Rattle.dk_notice.specs.Boards.{first_of, later_of, taker_of}
use Rattle.dk_notice.specs.Notices.{notice_of}
use Rattle.dk_notice.proofs.Moves.{tells_more, gives}
use Rattle.dk_notice.proofs.board.tell_more.Goals as goal

pub compare_exchange_with-requires : goal.compare_exchange_with-requires
compare_exchange_with-requires c = (search rules, search rules, tells_more _ _ _ _ (λ k. either (k == 0) 0 k) _ c.requires.keeps c.requires.goes_on c.requires.more)

pub split_seat-requires : goal.split_seat-requires
split_seat-requires c = (search rules, search rules, gives _ _ (ap (λ v. v.first) (c.compare_exchange_with.ensures.2 _ refl)))

pub returns-clause-seat : goal.returns-clause-seat
returns-clause-seat c = ap (λ m. m.0) c.split_seat.ensures.2 ∙ ap later_of (c.compare_exchange_with.ensures.2 _ refl)

pub returns-clause-notice : goal.returns-clause-notice
returns-clause-notice c =
    let taken : c.split_seat.result.me.0 ≡ taker_of (first_of c.args.told.now) = ap (λ m. m.0) c.split_seat.ensures.4 ∙ ap taker_of (c.compare_exchange_with.ensures.2 _ refl) in
    let place = c.split_seat.ensures.3 ∙ c.compare_exchange_with.ensures.0 in
    λ i. notice_of (place i) (taken i).known (taken i).first
