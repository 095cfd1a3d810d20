-- A world that agrees with reads.
use Rattle.std.proofs.Common.{◌≡◌, List}
use Rattle.dk_types.specs.declared.item.Item.{Item}
use Rattle.dk_types.specs.declared.item.Read.{Read}
use Rattle.dk_model.specs.DurableWorlds.{DurableWorld, Agrees, answer}
use Rattle.dk_overlay.specs.Asked.{WasRead}
use Rattle.dk_overlay.proofs.Asking.{all_at}

-- a world that agrees with the reads gives what was read
pub agrees_read : (d : DurableWorld) (reads : List (Item × Read)) (item : Item) (read : Read) → Agrees d reads → WasRead reads item read → answer d item ≡ read.answer
unfolding Agrees
agrees_read d reads item read h w = all_at (λ r. answer d r.0 ≡ r.1.answer) reads w.0 (item, read) w.1 h
