use Rattle.std.proofs.Common.{◌≡◌, List, ◌++◌, length, map, Some, None, option_map, sym, ap, subst, ◌∙◌}
use Rattle.std.proofs.Common.{arith}
use Rattle.std.proofs.lemmas.List.{append-nil}
use Rattle.std.proofs.lemmas.Grind.{common_steps}
use Rattle.dk_model.specs.Frames.{Frame, LoggedOut}
use Rattle.dk_frame.specs.declared.frame.ClientFrame.{ClientFrame}
use Rattle.dk_frame.specs.Meanings.{frame_of, fault_of, stage_of}
use Rattle.dk_frame.specs.Decoding.{Decoding, HasDecoded, following_at}
use Rattle.dk_frame.proofs.Standing.{stands_still, stands_over, fed_more}
use Rattle.dk_frame.specs.Behind.{behind}
use Rattle.dk_frame.proofs.Fed.{Gives, gives_read, gives_answer, refuses_answer}
use Rattle.dk_frame.proofs.decoder.Decoder.feed.Goals as goal

pub returns-in-Some-clause-refused : goal.returns-in-Some-clause-refused
returns-in-Some-clause-refused c =
    let here = c.self.inside in
    let old : Decoding = record { fed = here.fed; at = here.at; stage = stage_of here.stage; held = here.held.items; fault = option_map fault_of here.fault } in
    let bad : old.fault ≡ Some (fault_of c.in-Some.why) = ap (option_map fault_of) c.in-Some.is in (
      ap (following_at here.at here.held.items) bad,
      λ stream given s.
          stands_still old stream c.args.piece.now given (fault_of c.in-Some.why) bad (subst (λ (d : Decoding). HasDecoded d stream given) (sym c.self.view_is) s),
    )

gives : (c : goal.After-answer) → Gives c.args.self.now c.args.piece.now c.read.new.self (map frame_of c.in_ok-read.read.frames.items)
gives c =
    let old = c.args.self.now in
    let read = c.in_ok-read.read in
    let fine : old.fault ≡ None = ap (λ (d : Decoding). d.fault) (sym c.self.view_is) ∙ ap (option_map fault_of) c.in_default.is in
    let at : old.stage ≡ stage_of c.self.inside.stage = ap (λ (d : Decoding). d.stage) (sym c.self.view_is) in
    let running : stage_of c.self.inside.stage ≡ LoggedOut → ⊥ = grind (arith, common_steps, c.if-eq.ensures) in
    let new : c.read.new.self ≡ behind old c.args.piece.now read = c.in_ok-read.ensures.ok.0 in
    subst (λ (d : Decoding). Gives old c.args.piece.now d (map frame_of read.frames.items)) (sym new)
    (gives_read old c.args.piece.now read fine (λ over. running (sym at ∙ over)) c.in_ok-read.ensures.ok.1)

pub returns-clause-ok : goal.returns-clause-ok
returns-clause-ok c = gives_answer (λ frames. frames.items) c.answer.result c.in_ok-read.read.frames.items c.args.self.now c.args.piece.now c.read.new.self (gives c) c.answer.ensures.frames

pub returns-clause-refused : goal.returns-clause-refused
returns-clause-refused c =
    let read = c.in_ok-read.read in
    let same : c.read.new.self.fault ≡ option_map fault_of read.fault = ap (λ (d : Decoding). d.fault) c.in_ok-read.ensures.ok.0 in
    refuses_answer c.answer.result read c.args.self.now c.args.piece.now c.read.new.self c.self-2.inside.at (gives c) (ap (λ (d : Decoding). d.at) (sym c.self-2.view_is)) same c.answer.ensures.refused

pub returns-then-eq-clause-ok : goal.returns-then-eq-clause-ok
returns-then-eq-clause-ok c stream given s =
    let here = c.self.inside in
    let old : Decoding = record { fed = here.fed; at = here.at; stage = stage_of here.stage; held = here.held.items; fault = option_map fault_of here.fault } in
    let fine : old.fault ≡ None = ap (option_map fault_of) c.in_default.is in
    let over : stage_of here.stage ≡ LoggedOut = grind (arith, common_steps, c.if-eq.ensures) in
    let still = stands_over old stream c.args.piece.now given fine over (subst (λ (d : Decoding). HasDecoded d stream given) (sym c.self.view_is) s) in
    let none : given ++ map frame_of c.new.result.items ≡ given = ap (λ (items : List ClientFrame). given ++ map frame_of items) c.new.ensures.items ∙ append-nil given in
    subst (λ (frames : List Frame). HasDecoded (fed_more old (length c.args.piece.now)) (stream ++ c.args.piece.now) frames) (sym none) still
