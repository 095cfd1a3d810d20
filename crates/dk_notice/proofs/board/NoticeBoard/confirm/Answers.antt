use Rattle.std.proofs.Common.{rules, ap}
use Rattle.dk_notice.proofs.Moves.{copies, hears, compares}
use Rattle.dk_notice.proofs.board.NoticeBoard.confirm.Goals as goal

pub split_seat-copy-requires : goal.split_seat-copy-requires
split_seat-copy-requires c = (search rules, search rules, copies _ _)

pub join_seat-requires : goal.join_seat-requires
join_seat-requires c = (search rules, search rules, ap (λ m. m.1) c.split_seat-copy.ensures.4, search rules, hears _ _ _ _)

pub load-requires : goal.load-requires
load-requires c = (search rules, search rules, compares _ _ _ _)
