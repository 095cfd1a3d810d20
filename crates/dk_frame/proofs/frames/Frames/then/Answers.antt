use Rattle.std.proofs.Common.{◌≡◌, ◌+◌, ◌≤◌, List, ℕ, [], ◌∷◌, ◌++◌, length, drop, map, Some, None, refl, sym, ap, subst, ◌∙◌, arith}
use Rattle.std.proofs.lemmas.List.{map-append}
use Rattle.std.proofs.lemmas.Grind.{common_steps}
use Rattle.dk_model.specs.Frames.{Frame, Stage, LoggedOut, IsPartial, IsBad, stage_behind, opcode_of, fields_of}
use Rattle.dk_frame.specs.declared.frames.Frames.{Frames}
use Rattle.dk_frame.specs.Meanings.{frame_of, fault_of, stage_of}
use Rattle.dk_frame.specs.Fronts.{IsWhole, AreTaken, AddsTaken}
use Rattle.dk_frame.proofs.Lengths.{length-spelled}
use Rattle.dk_frame.proofs.MessageRuns.{messages_on}
use Rattle.dk_frame.proofs.Turns.{taken_on, whole_within, read_on, partial_stops, bad_stops, over_stops}
use Rattle.dk_frame.proofs.frames.Frames.then.Goals as goal

pub frames-preserved : goal.frames-preserved
frames-preserved c =
    let stage = stage_of c.frames.stage in
    let old = map frame_of c.frames.frames.items in
    let new = map frame_of c.take_messages.new.frames.items in
    let place = c.frames.taken + c.in_ok-passed.passed in
    let adds = subst (λ (b : List ℕ). AddsTaken stage b old new c.in_ok-passed.passed) c.split_at.ensures.back c.in_ok-passed.ensures in
    let within : place ≤ length c.args.bytes.now = omega (arith, c.in_ok-passed.ensures.are.within, c.split_at.ensures.back_len) in
    let f = frame_of c.in-Whole.frame in
    let whole : IsWhole stage c.split_at-in-frames.result.1.now f c.in-Whole.more = rw c.in-Whole.is at c.in_ok-frame.ensures in
    let here = subst (λ (b : List ℕ). IsWhole stage b f c.in-Whole.more) c.split_at-in-frames.ensures.back whole in
    let items : map frame_of c.push.new.self.items ≡ new ++ f ∷ [] = ap (map frame_of) c.in_ok-push-in-Whole.ensures.items ∙ map-append frame_of c.take_messages.new.frames.items (c.in-Whole.frame ∷ []) in (
      whole_within stage c.args.bytes.now f place c.in-Whole.more within here,
      λ start front are all.
          let on = messages_on start stage front c.args.bytes.now old new c.args.self.taken c.frames.taken c.in_ok-passed.passed (c.frames.invariant.1 start front are all) all adds in
          let taken = c.args.self.taken + (place + c.in-Whole.more) in
          let more = taken_on start stage front c.args.bytes.now new c.args.self.taken place c.in-Whole.more f on all here in
          subst (λ (s : Stage). AreTaken start (front ++ c.args.bytes.now) (map frame_of c.push.new.self.items) taken s) (sym c.behind-stage.ensures)
          (subst (λ (fs : List Frame). AreTaken start (front ++ c.args.bytes.now) fs taken (stage_behind f)) (sym items) more),
    )

pub frames-smaller : goal.frames-smaller
frames-smaller c =
    let f = frame_of c.in-Whole.frame in
    let whole : IsWhole (stage_of c.frames.stage) c.split_at-in-frames.result.1.now f c.in-Whole.more = rw c.in-Whole.is at c.in_ok-frame.ensures in
    let some : 5 ≤ c.in-Whole.more = omega (arith, whole.takes, length-spelled (opcode_of f) (fields_of f)) in
    let within : c.frames.taken + c.in_ok-passed.passed + c.in-Whole.more ≤ length c.args.bytes.now = (frames-preserved c).0 in
    omega arith

pub returns-in-Partial-clause-read : goal.returns-in-Partial-clause-read
returns-in-Partial-clause-read c =
    let stage = stage_of c.frames.stage in
    let old = map frame_of c.frames.frames.items in
    let new = map frame_of c.take_messages.new.frames.items in
    let place = c.frames.taken + c.in_ok-passed.passed in
    let adds = subst (λ (b : List ℕ). AddsTaken stage b old new c.in_ok-passed.passed) c.split_at.ensures.back c.in_ok-passed.ensures in
    let partial : IsPartial stage c.split_at-in-frames.result.1.now = rw c.in-Partial.is at c.in_ok-frame.ensures in
    let here = subst (λ (b : List ℕ). IsPartial stage b) c.split_at-in-frames.ensures.back partial in
    let running : stage ≡ LoggedOut → ⊥ = grind (arith, common_steps, c.frames-test.ensures) in
    let read : Frames = record { frames = c.take_messages.new.frames; taken = c.args.self.taken + place; stage = c.frames.stage; fault = None } in
    read_on c.args.self c.args.bytes.now read place
    (λ start front are all. messages_on start stage front c.args.bytes.now old new c.args.self.taken c.frames.taken c.in_ok-passed.passed (c.frames.invariant.1 start front are all) all adds)
    refl (partial_stops stage (drop place c.args.bytes.now) running here)

pub returns-in-Bad-clause-read : goal.returns-in-Bad-clause-read
returns-in-Bad-clause-read c =
    let stage = stage_of c.frames.stage in
    let old = map frame_of c.frames.frames.items in
    let new = map frame_of c.take_messages.new.frames.items in
    let place = c.frames.taken + c.in_ok-passed.passed in
    let adds = subst (λ (b : List ℕ). AddsTaken stage b old new c.in_ok-passed.passed) c.split_at.ensures.back c.in_ok-passed.ensures in
    let bad : IsBad stage c.split_at-in-frames.result.1.now (fault_of c.in-Bad.why) = rw c.in-Bad.is at c.in_ok-frame.ensures in
    let here = subst (λ (b : List ℕ). IsBad stage b (fault_of c.in-Bad.why)) c.split_at-in-frames.ensures.back bad in
    let running : stage ≡ LoggedOut → ⊥ = grind (arith, common_steps, c.frames-test.ensures) in
    let read : Frames = record { frames = c.take_messages.new.frames; taken = c.args.self.taken + place; stage = c.frames.stage; fault = Some c.in-Bad.why } in
    read_on c.args.self c.args.bytes.now read place
    (λ start front are all. messages_on start stage front c.args.bytes.now old new c.args.self.taken c.frames.taken c.in_ok-passed.passed (c.frames.invariant.1 start front are all) all adds)
    refl (bad_stops stage (drop place c.args.bytes.now) (fault_of c.in-Bad.why) running here)

pub returns-clause-read : goal.returns-clause-read
returns-clause-read c =
    let stage = stage_of c.frames.stage in
    let over : stage ≡ LoggedOut = grind (arith, common_steps, c.frames-test.ensures) in
    let read : Frames = record { frames = c.frames.frames; taken = c.args.self.taken + c.frames.taken; stage = c.frames.stage; fault = None } in
    read_on c.args.self c.args.bytes.now read c.frames.taken c.frames.invariant.1 refl (over_stops stage (drop c.frames.taken c.args.bytes.now) over)
