-- What a connection leaves to run, and what waits to be handed at it: no event of a run makes either more than it may be.
use Rattle.std.proofs.Common.{◌≡◌, ℕ, ◌+◌, ◌<◌, ◌≤◌, Bool, true, false, cond, ◌||◌, if◌then◌else◌, nat_le, Option, Some, None, List, [], ◌∷◌, ◌++◌, length, drop, option_map, refl, sym, ap, leb-false, length-append, arith}
use Rattle.std.specs.List.{list_any}
use Rattle.dk_types.specs.declared.job.Out.{Out}
use Rattle.dk_types.specs.declared.job.Input.TheVariants as input
use Rattle.dk_types.specs.declared.limits.TheConstants.{OUTS_MOST_COUNT}
use Rattle.dk_model.specs.declared.waiting.Waiting.{Waiting}
use Rattle.dk_model.specs.declared.waiting.Waiting.TheVariants as waits
use Rattle.dk_model.specs.Worlds.{Connection}
use Rattle.dk_model.specs.Deliveries.{input_left, is_disconnect, with_disconnect, cut_off, is_full}
use Rattle.dk_model.specs.Events.{outbox_at}
use Rattle.dk_progress.specs.Fitness.{left_of, left_at}
use Rattle.dk_progress.proofs.Kept.{IsSteady, IsDelivered}

-- it leaves no more to run than before
abbrev pub LeavesNoMore : Option Connection → Option Connection → Type 0
LeavesNoMore after before = left_at after ≤ left_at before

-- no more waits to be handed than may wait, where that was so before
abbrev pub StaysWithin : Option Connection → Option Connection → Type 0
StaysWithin after before = length (outbox_at before) ≤ OUTS_MOST_COUNT → length (outbox_at after) ≤ OUTS_MOST_COUNT

-- no connection is there where none was
abbrev pub StaysAway : Option Connection → Option Connection → Type 0
StaysAway after before = before ≡ None → after ≡ None

-- to leave no more is a relation of one change after another
pub lefts_steady : IsSteady LeavesNoMore
lefts_steady = record { same = λ o. omega arith; next = λ a b c p q. omega (arith, p, q); gone = λ o. omega arith }

-- to stay within the limit of messages is one
pub boxes_steady : IsSteady StaysWithin
boxes_steady = record { same = λ o h. h; next = λ a b c p q h. p (q h); gone = λ o h. omega arith }

-- to stay away is one
pub away_steady : IsSteady StaysAway
away_steady = record { same = λ o h. h; next = λ a b c p q h. p (q h); gone = λ o h. refl }

-- what the end of a session counts
abbrev ends : Bool → ℕ
ends b = if b then 1 else 2

-- it counts one at least
ends_least : (b : Bool) → 1 ≤ ends b
ends_least true = omega arith
ends_least false = omega arith

-- it counts one where the session is over
ends_over : (b : Bool) → ends (b || true) ≡ 1
ends_over true = refl
ends_over false = refl

-- a connection that is there leaves something
pub left_some : (c : Connection) → 1 ≤ left_of c
left_some c = omega (arith, ends_least (c.cut || c.over))

-- so none is there where nothing is left
pub left_none : (o : Option Connection) → left_at o ≤ 0 → o ≡ None
left_none None h = refl
left_none (Some c) h = absurd (omega (arith, h, left_some c))

-- the end waits once at most
disconnect_most : (queue : List Waiting) → length (with_disconnect queue) ≤ length queue + 1
disconnect_most queue = elim (list_any is_disconnect queue) as (λ b. length (if b then queue else queue ++ waits.Input (input.Disconnect false) ∷ []) ≤ length queue + 1) [
  | true ↦ omega arith
  | false ↦ omega (arith, length-append queue (waits.Input (input.Disconnect false) ∷ []))
]

-- a connection that is over leaves no more than before, where no more waits
over_less : (c : Connection) (n : ℕ) → n ≤ length c.queue → n + ends (c.cut || true) ≤ left_of c
over_less c n h = omega (arith, h, ends_over c.cut, ends_least (c.cut || c.over))

-- the rest of a queue is no longer
dropped_less : (queue : List Waiting) → length (drop 1 queue) ≤ length queue
dropped_less [] = omega arith
dropped_less (x ∷ queue) = omega arith

-- a message that is dropped, or that cuts the connection off, or that waits
out_less : (message : Out) (c : Connection) (gone full : Bool) → gone ≡ (c.cut || c.over)
    → left_of (if gone then c else if full then cut_off c else record c { outbox = c.outbox ++ message ∷ [] }) ≤ left_of c
out_less message c true full e = omega arith
out_less message c false true e =
    let two : ends (c.cut || c.over) ≡ 2 = ap ends (sym e) in
    omega (arith, two, disconnect_most c.queue)
out_less message c false false e = omega arith

-- a commit leaves no more at any connection
pub lefts_delivered : IsDelivered LeavesNoMore
lefts_delivered = record {
  steady = lefts_steady;
  input = λ c. omega (arith, dropped_less c.queue);
  out = λ message c. out_less message c (c.cut || c.over) (is_full c) refl;
  closed = λ c. over_less c 0 (omega arith);
  ended = λ c. over_less c (length c.queue) (omega arith);
}

-- a message waits only where fewer wait than may wait
out_within : (message : Out) (c : Connection) (gone full : Bool) → full ≡ nat_le OUTS_MOST_COUNT (length c.outbox) → length c.outbox ≤ OUTS_MOST_COUNT
    → length ((if gone then c else if full then cut_off c else record c { outbox = c.outbox ++ message ∷ [] }).outbox) ≤ OUTS_MOST_COUNT
out_within message c true full e h = h
out_within message c false true e h = h
out_within message c false false e h =
    let few : length c.outbox < OUTS_MOST_COUNT = leb-false OUTS_MOST_COUNT (length c.outbox) (sym e) in
    omega (arith, few, length-append c.outbox (message ∷ []))

-- a commit lets no more messages wait than may wait
pub boxes_delivered : IsDelivered StaysWithin
boxes_delivered = record {
  steady = boxes_steady;
  input = λ c h. h;
  out = λ message c. out_within message c (c.cut || c.over) (is_full c) refl;
  closed = λ c h. h;
  ended = λ c h. h;
}

-- the first input leaves its queue, or the connection is gone
pub input_less : (b : Bool) (c : Connection) (x : Waiting) (queue : List Waiting) → c.queue ≡ x ∷ queue → left_at (option_map input_left (cond b (Some c) None)) < left_of c
input_less true c x queue e =
    let before : length c.queue ≡ length (x ∷ queue) = ap length e in
    let after : length (drop 1 c.queue) ≡ length queue = ap (λ q. length (drop 1 q)) e in
    omega (arith, before, after)
input_less false c x queue e = left_some c
