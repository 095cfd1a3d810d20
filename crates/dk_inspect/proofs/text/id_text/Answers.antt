use Rattle.std.proofs.Common.{IsUtf8, sym, subst}
use Rattle.dk_inspect.proofs.Written.{id_text_is}
use Rattle.dk_inspect.proofs.text.id_text.Goals as goal

pub unreachable-requires : goal.unreachable-requires
unreachable-requires c = c.in-Err.ensures.cases.0 (subst IsUtf8 (sym c.as_slice.ensures.value) (id_text_is c.args.game.now c.as_slice.ensures.id))
