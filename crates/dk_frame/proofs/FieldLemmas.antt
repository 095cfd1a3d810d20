-- When no frame has these fields.
use Rattle.std.proofs.Common.{◌≡◌, ℕ, ◌<◌, ◌==◌, true, false, List, [], ◌++◌, length, sym, ◌∙◌, ap, arith}
use Rattle.std.proofs.lemmas.List.{append-nil}
use Rattle.dk_types.specs.Names.{IsName}
use Rattle.dk_types.specs.Fields.{name_spelling}
use Rattle.dk_model.specs.Frames.{Login, Message, Channel, Logout, body_most}
use Rattle.dk_frame.specs.Fields.{HasNoFrame, BeginsWithNoName}
use Rattle.dk_frame.proofs.Opened.{names_apart}

-- a LOGIN begins with a name
pub nameless_login : (fields : List ℕ) → BeginsWithNoName fields → HasNoFrame 1 fields
nameless_login fields none (Login name) has = none name [] has.is_frame (sym (append-nil (name_spelling name) ∙ has.fields_are))
nameless_login fields none (Message body) has = absurd (omega (arith, has.opcode_is))
nameless_login fields none (Channel channel body) has = absurd (omega (arith, has.opcode_is))
nameless_login fields none Logout has = absurd (omega (arith, has.opcode_is))

-- a LOGIN ends with its name
pub no_login : (fields name behind : List ℕ) → IsName name → fields ≡ name_spelling name ++ behind → (length behind == 0) ≡ false → HasNoFrame 1 fields
no_login fields name behind is e some (Login other) has =
    let both = names_apart other name [] behind has.is_frame is (append-nil (name_spelling other) ∙ has.fields_are ∙ e) in
    let empty : true ≡ (length behind == 0) = ap (λ (b : List ℕ). length b == 0) both.1 in
    absurd cc
no_login fields name behind is e some (Message body) has = absurd (omega (arith, has.opcode_is))
no_login fields name behind is e some (Channel channel body) has = absurd (omega (arith, has.opcode_is))
no_login fields name behind is e some Logout has = absurd (omega (arith, has.opcode_is))

-- a CHANNEL's body is within its limit
pub no_channel : (fields name body : List ℕ) → IsName name → fields ≡ name_spelling name ++ body → body_most < length body → HasNoFrame 3 fields
no_channel fields name body is e long (Channel channel other) has =
    let both = names_apart channel name other body has.is_frame.0 is (has.fields_are ∙ e) in
    omega (arith, ap length both.1, has.is_frame.1)
no_channel fields name body is e long (Login other) has = absurd (omega (arith, has.opcode_is))
no_channel fields name body is e long (Message other) has = absurd (omega (arith, has.opcode_is))
no_channel fields name body is e long Logout has = absurd (omega (arith, has.opcode_is))
