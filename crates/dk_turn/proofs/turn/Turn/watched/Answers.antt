use Rattle.std.proofs.Common.{rules}
use Rattle.dk_turn.proofs.Moves.{seats}
use Rattle.dk_turn.proofs.turn.Turn.watched.Goals as goal

pub split_seat-requires : goal.split_seat-requires
split_seat-requires g c = (search rules, search rules, seats g.O.Book.number _ _)
