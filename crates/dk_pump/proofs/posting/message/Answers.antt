use Rattle.std.proofs.Common.{◌<◌, All, subst}
use Rattle.dk_pump.proofs.posting.message.Goals as goal

pub returns-clause-within : goal.returns-clause-within
returns-clause-within c = record { short = c.requires; bytes = subst (All (λ b. b < 256)) c.as_slice.ensures c.are_bytes.ensures }
