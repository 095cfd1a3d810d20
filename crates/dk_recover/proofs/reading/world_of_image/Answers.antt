use Rattle.std.specs.Prelude.{IfOk}
use Rattle.std.proofs.Common.{◌≡◌, ℕ, List, Result, Ok, Err, subst, ap, sym, ◌∙◌}
use Rattle.dk_types.specs.declared.durable.Durable.{Durable}
use Rattle.dk_model.specs.DurableWorlds.{DurableWorld}
use Rattle.dk_model.specs.Images.{IsImageValue, SpellsImage, image_spelling, world_lists}
use Rattle.dk_model.specs.Validity.{IsValid}
use Rattle.dk_recover.specs.Bytes.{AreBytes}
use Rattle.dk_recover.proofs.Spelled.{image_bytes, image_one, second_image}
use Rattle.dk_recover.proofs.reading.world_of_image.Goals as goal

pub open-requires-clause-lists : goal.open-requires-clause-lists
open-requires-clause-lists c = second_image c.args.format c.requires c.in-Ok.durable c.in-Ok.ensures.0

pub open-requires-clause-bytes : goal.open-requires-clause-bytes
open-requires-clause-bytes c = image_bytes c.in-Ok.durable (subst AreBytes (c.as_slice.ensures ∙ c.in-Ok.ensures.1) c.are_bytes.ensures)

opened : {E : Type 0} (format : ℕ) (payload : List ℕ) (d : Durable) → IsImageValue format d → payload ≡ image_spelling d → (r : Result DurableWorld E) → IfOk r (λ world. (world_lists world ≡ d) × IsValid world)
    → IfOk r (λ first. SpellsImage format first payload × IsValid first)
opened format payload d is bytes (Ok world) h = (record { value = subst (IsImageValue format) (sym h.0) is; bytes = bytes ∙ ap image_spelling (sym h.0) }, h.1)
opened format payload d is bytes (Err e) h = tt

pub returns-in-Ok-clause-fits : goal.returns-in-Ok-clause-fits
returns-in-Ok-clause-fits c = opened c.args.format c.args.payload.now c.in-Ok.durable c.in-Ok.ensures.0 c.in-Ok.ensures.1 c.open.result c.open.ensures.fits

pub returns-in-Ok-clause-unfit : goal.returns-in-Ok-clause-unfit
returns-in-Ok-clause-unfit c wrong first spelled valid =
    c.open.ensures.unfit wrong first (image_one c.args.format c.in-Ok.durable (world_lists first) c.args.payload.now c.in-Ok.ensures.0 c.in-Ok.ensures.1 spelled.value spelled.bytes) valid

pub returns-in-Err-NotInGrammar-clause-unfit : goal.returns-in-Err-NotInGrammar-clause-unfit
returns-in-Err-NotInGrammar-clause-unfit c wrong first spelled valid =
    let told = rw c.in-Err-NotInGrammar.field-0-is at c.in-Err-NotInGrammar.ensures in
    told.1 (world_lists first) spelled.value spelled.bytes
