use Rattle.std.proofs.Common.{◌≡◌, length, List, ℕ, ap, sym, subst, arith}
use Rattle.dk_types.specs.Rest.{Rest}
use Rattle.dk_model.specs.Frames.{States}
use Rattle.dk_frame.proofs.Numbers.{States-taken, short_of_number}
use Rattle.dk_frame.proofs.front.length_of.Goals as goal

pub split_at-requires : goal.split_at-requires
split_at-requires c = let front = c.in-Ok.ensures.front in (States-taken c.new-reader.result _ c.in-Ok.len c.take_u32.new.self (ap (λ (r : Rest). r.bytes) c.new-reader.ensures.rest) front.0 front.1).0

pub returns-in-Ok-clause-found : goal.returns-in-Ok-clause-found
returns-in-Ok-clause-found c =
    let front = c.in-Ok.ensures.front in
    let states = (States-taken c.new-reader.result c.args.bytes.now c.in-Ok.len c.take_u32.new.self (ap (λ (r : Rest). r.bytes) c.new-reader.ensures.rest) front.0 front.1).1 in
    subst (λ (b : List ℕ). States c.args.bytes.now c.in-Ok.len b) (sym c.split_at.ensures.back) states

pub returns-in-Err-clause-none : goal.returns-in-Err-clause-none
returns-in-Err-clause-none c =
    let short = short_of_number c.new-reader.result c.in-Err.field-0 c.in-Err.ensures.reads.1 c.in-Err.ensures.memory in
    let same : c.new-reader.result.bytes ≡ c.args.bytes.now = ap (λ (r : Rest). r.bytes) c.new-reader.ensures.rest in
    omega (arith, short, ap (λ (b : List ℕ). length b) same)
