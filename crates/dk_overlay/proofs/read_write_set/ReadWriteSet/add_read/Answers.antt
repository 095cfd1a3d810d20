use Rattle.std.proofs.Common.{sym, subst}
use Rattle.dk_overlay.specs.Asked.{WasNotRead}
use Rattle.dk_overlay.specs.ReadsAndWrites.{ReadsAndWrites}
use Rattle.dk_overlay.proofs.read_write_set.ReadWriteSet.add_read.Goals as goal

pub push-requires : goal.push-requires
push-requires c = subst (λ (t : ReadsAndWrites). WasNotRead t.reads c.args.item) (sym c.self.view_is) c.requires
