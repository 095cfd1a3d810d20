use Rattle.dk_turn_books.proofs.InTurn.{still_next}
use Rattle.dk_turn_books.proofs.relay_race.run_leg.Goals as goal

pub with-requires : goal.with-requires
with-requires g c = λ book goes_on. still_next c.args.pass.now.number c.args.pass.now.front book.legs.items book.in_turn goes_on c.requires
