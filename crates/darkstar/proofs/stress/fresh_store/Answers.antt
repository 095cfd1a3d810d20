use Rattle.std.proofs.Common.{◌≡◌, [], Ok, refl, ap, ◌∙◌}
use Rattle.dk_types.specs.declared.side.Side.TheVariants.{Zero, One}
use Rattle.dk_disk.specs.Disk.{Disk}
use Rattle.dk_disk.specs.DiskHistories.{now}
use Rattle.dk_disk.specs.Memory.{Memory, past_of}
use Rattle.dk_host.specs.OpenedStores.{answer_of}
use Rattle.darkstar.proofs.FreshStores.{fresh_world}
use Rattle.darkstar.proofs.stress.fresh_store.Goals as goal

pub returns-in-Ok : goal.returns-in-Ok
returns-in-Ok c =
    let home = c.open.new.self in
    let none_zero : (now (past_of home) Zero).reads ≡ [] = ap (λ (d : Disk). d.reads) (c.open.ensures.files refl Zero) ∙ ap (λ (m : Memory). (now (past_of m) Zero).reads) c.new-home.ensures ∙ c.new.ensures.items in
    let none_one : (now (past_of home) One).reads ≡ [] = ap (λ (d : Disk). d.reads) (c.open.ensures.files refl One) ∙ ap (λ (m : Memory). (now (past_of m) One).reads) c.new-home.ensures ∙ c.new-2.ensures.items in
    fresh_world (now (past_of home) Zero).reads (now (past_of home) One).reads c.args.game.now (answer_of (Ok c.in-Ok.store)) none_zero none_one (c.in-Ok.ensures.accepted refl)
