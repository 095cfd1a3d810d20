use Rattle.std.proofs.Common.{◌∷◌, ◌+◌, ◌≤◌, length, rules, subst, arith}
use Rattle.dk_model.specs.Frames.{States, Begins, MayCome}
use Rattle.dk_frame.specs.Meanings.{stage_of, frame_of}
use Rattle.dk_frame.proofs.FrontLemmas.{whole_front, bad_field}
use Rattle.dk_frame.proofs.front.Front.of.Goals as goal

pub returns-in-Some-2 : goal.returns-in-Some-2
returns-in-Some-2 c =
    let own = c.in-Some-split_first in
    let states = subst (States c.args.bytes.now c.in-Some.len) own.ensures.cases.0 c.in-Some.ensures.found in
    let may : MayCome (stage_of c.args.stage) own.opcode.now = search (rules, c.if-not-admits.ensures) in
    let long : c.in-Some.len ≤ 1 + length own.fields.now = omega (arith, own.ensures.cases.1) in
    whole_front (stage_of c.args.stage) c.args.bytes.now own.fields.now c.in-Some.len own.opcode.now (frame_of c.in-Some-2.frame) states (omega arith) long may (rw c.in-Some-2.is at c.in_ok-frame.ensures)

pub returns-in-None : goal.returns-in-None
returns-in-None c =
    let own = c.in-Some-split_first in
    let states = subst (States c.args.bytes.now c.in-Some.len) own.ensures.cases.0 c.in-Some.ensures.found in
    let begins : Begins c.args.bytes.now c.in-Some.len (own.opcode.now ∷ own.fields.now) = record { states = states; some = omega arith; most = omega arith } in
    let may : MayCome (stage_of c.args.stage) own.opcode.now = search (rules, c.if-not-admits.ensures) in
    let long : c.in-Some.len ≤ 1 + length own.fields.now = omega (arith, own.ensures.cases.1) in
    bad_field (stage_of c.args.stage) c.args.bytes.now own.fields.now c.in-Some.len own.opcode.now begins long may (rw c.in-None.is at c.in_ok-frame.ensures)
