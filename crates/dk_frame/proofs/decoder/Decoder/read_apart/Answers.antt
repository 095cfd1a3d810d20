use Rattle.std.proofs.Common.{◌≡◌, ◌++◌, option_map, subst, ◌∙◌}
use Rattle.dk_frame.specs.Meanings.{fault_of, stage_of}
use Rattle.dk_frame.specs.Fronts.{IsRead}
use Rattle.dk_frame.specs.Decoding.{Decoding}
use Rattle.dk_frame.specs.Behind.{behind}
use Rattle.dk_frame.proofs.Parted.{parted}
use Rattle.dk_frame.proofs.decoder.Decoder.read_apart.Goals as goal

pub returns-in-Ok-Some-clause-ok : goal.returns-in-Ok-Some-clause-ok
returns-in-Ok-Some-clause-ok c =
    let here = c.self.inside in
    let old : Decoding = record { fed = here.fed; at = here.at; stage = stage_of here.stage; held = here.held.items; fault = option_map fault_of here.fault } in
    let piece = c.args.front.now ++ c.args.later.now in
    let read = c.in-Ok-Some.read in
    let both = parted old c.args.front.now c.args.later.now c.extend_from_slice.new.self.items c.read_behind.new.held.items c.len-whole.result read c.in_ok-extend_from_slice.ensures.ok c.len-whole.ensures.value (rw c.in-Ok-Some.field-0-is at c.in-Ok-Some.ensures.ok) in
    subst (λ (d : Decoding). (c.pass.new.self ≡ behind d piece read) × IsRead d.stage (d.held ++ piece) read) c.self.view_is (c.pass.ensures ∙ both.0, both.1)
