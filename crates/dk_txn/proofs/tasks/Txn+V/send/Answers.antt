use Rattle.std.proofs.Common.{arith, refl}
use Rattle.dk_txn.proofs.TaskCalls.{send_long, send_many, send_does}
use Rattle.dk_txn.proofs.tasks.Txn+V.send.Goals as goal

pub returns-then-len-gt-BODY_MOST_BYTES-clause-does : goal.returns-then-len-gt-BODY_MOST_BYTES-clause-does
returns-then-len-gt-BODY_MOST_BYTES-clause-does g c = send_long _ _ refl (omega (arith, c.body_len-len.ensures))

pub returns-then-outs_made-ge-MESSAGES_MOST_COUNT-clause-does : goal.returns-then-outs_made-ge-MESSAGES_MOST_COUNT-clause-does
returns-then-outs_made-ge-MESSAGES_MOST_COUNT-clause-does g c = send_many _ _ (omega (arith, c.body_len-len.ensures)) (omega (arith, c.outs_made.ensures))

pub returns-clause-does : goal.returns-clause-does
returns-clause-does g c = send_does _ _ (omega (arith, c.body_len-len.ensures)) (omega (arith, c.outs_made.ensures)) c.in_ok-add_out.ensures.ok
