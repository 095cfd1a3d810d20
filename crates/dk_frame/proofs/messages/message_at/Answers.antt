use Rattle.std.proofs.Common.{◌≡◌, ℕ, ◌+◌, ◌-◌, ◌≤◌, List, ◌∷◌, length, take, sym, ap, subst, arith}
use Rattle.dk_model.specs.Frames.{States, body_most}
use Rattle.dk_frame.specs.Fronts.{IsMessage}
use Rattle.dk_frame.proofs.MessageRuns.{message_front}
use Rattle.dk_frame.proofs.messages.message_at.Goals as goal

pub returns : goal.returns
returns c =
    let own = c.in_ok-opcode in
    let len = c.in_ok-len.len in
    let there = subst (States c.args.bytes.now len) own.ensures.cases.0 c.in_ok-len.ensures.found in
    let message : own.opcode.now ≡ 2 = omega arith in
    let states = subst (λ (opcode : ℕ). States c.args.bytes.now len (opcode ∷ own.fields.now)) message there in
    let long : len ≤ 1 + length own.fields.now = omega (arith, own.ensures.cases.1) in
    let few : length (take (len - 1) own.fields.now) ≤ body_most = omega (arith, ap (λ (b : List ℕ). length b) c.split_at.ensures.front) in
    let is = message_front c.args.bytes.now own.fields.now len states (omega arith) long few in
    subst (λ (body : List ℕ). IsMessage c.args.bytes.now body c.split_at.result.1.now) (sym c.split_at.ensures.front)
    (subst (λ (behind : List ℕ). IsMessage c.args.bytes.now (take (len - 1) own.fields.now) behind) (sym c.split_at.ensures.back) is)
