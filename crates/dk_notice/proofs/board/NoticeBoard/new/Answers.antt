use Rattle.std.proofs.Common.{[], ◌∷◌}
use Rattle.dk_notice.proofs.Moves.{begins}
use Rattle.dk_notice.proofs.board.NoticeBoard.new.Goals as goal

pub of_words-requires : goal.of_words-requires
of_words-requires c = begins (0 ∷ [])
