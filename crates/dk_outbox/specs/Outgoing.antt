-- What an outbox is seen as, and what the world says of a message that is put into one.
use Rattle.std.specs.Prelude.{◌≡◌, ℕ, ◌||◌, Bool, false, List, [], ◌∷◌, ◌++◌, length, nat_le, if◌then◌else◌}
use Rattle.dk_types.specs.declared.job.Out.{Out}
use Rattle.dk_types.specs.declared.job.Out.TheVariants.{Close}
use Rattle.dk_types.specs.declared.limits.TheConstants.{OUTS_MOST_COUNT}
use Rattle.dk_model.specs.Worlds.{Connection}
use Rattle.dk_model.specs.Deliveries.{with_out, cut_off}

-- the messages that wait, the first to be handed in front, and how many more fit without memory
pub record Outgoing : Type 0 where
  pub outs : List Out
  pub spare : ℕ

-- as many messages wait as may wait
abbrev pub is_full_outbox : List Out → Bool
is_full_outbox outs = nat_le OUTS_MOST_COUNT (length outs)

-- the messages with one behind them, where it is taken
abbrev pub with_last : List Out → Out → Bool → List Out
with_last outs message taken = if taken then outs ++ message ∷ [] else outs

-- a connection that is neither cut nor over gets the message, or is cut off where it is not taken
abbrev pub IsSent : Out → List Out → List Out → Bool → Type 0
IsSent message before after taken =
    (c : Connection) → c.outbox ≡ before → (c.cut || c.over) ≡ false → with_out message c ≡ (if taken then record c { outbox = after } else cut_off c)

-- the one message of a cell
abbrev pub out_of_cell : List Out → Out
out_of_cell [] = Close
out_of_cell (out ∷ outs) = out
