use Rattle.std.proofs.Common.{sym, ap, ◌∙◌}
use Rattle.dk_model.specs.Platforms.{is_member}
use Rattle.dk_txn.proofs.Kit.{halts_last, then_last, give_does, if_true_does, if_false_does}
use Rattle.dk_game.proofs.ChannelJobs.{channel_does, channel_none, channel_halts}
use Rattle.dk_game.proofs.channel_jobs.on_channel.Goals as goal

pub returns-then-not-is_member-clause-does : goal.returns-then-not-is_member-clause-does
returns-then-not-is_member-clause-does g c = channel_does _ _ _ _ c.in-Ok.ensures.does (if_false_does _ (ap (is_member c.args.session.now) (sym c.as_slice.ensures) ∙ sym c.is_member.ensures ∙ c.if-not-is_member.true) give_does)

pub returns-then-record-clause-does : goal.returns-then-record-clause-does
returns-then-record-clause-does g c = channel_does _ _ _ _ c.in-Ok.ensures.does (if_true_does _ (ap (is_member c.args.session.now) (sym c.as_slice.ensures) ∙ sym c.is_member.ensures ∙ c.if-not-is_member.false) (if_true_does _ c.if-record.true c.game_part.ensures.does))

pub returns-in_err-send-in-Ok-clause-does : goal.returns-in_err-send-in-Ok-clause-does
returns-in_err-send-in-Ok-clause-does g c = channel_does _ _ _ _ c.in-Ok.ensures.does (if_true_does _ (ap (is_member c.args.session.now) (sym c.as_slice.ensures) ∙ sym c.is_member.ensures ∙ c.if-not-is_member.false) (if_false_does _ c.if-record.false (halts_last (rw c.in_ok-clone-in-Ok.ensures.cases at c.in_err-send-in-Ok.ensures.does) c.from_residual-in_err-send-in-Ok.ensures.1)))

pub returns-in-Ok-clause-does : goal.returns-in-Ok-clause-does
returns-in-Ok-clause-does g c = channel_does _ _ _ _ c.in-Ok.ensures.does (if_true_does _ (ap (is_member c.args.session.now) (sym c.as_slice.ensures) ∙ sym c.is_member.ensures ∙ c.if-not-is_member.false) (if_false_does _ c.if-record.false (then_last (rw c.in_ok-clone-in-Ok.ensures.cases at c.in_ok-send-in-Ok.ensures.does))))

pub returns-in-NameNotBound-clause-does : goal.returns-in-NameNotBound-clause-does
returns-in-NameNotBound-clause-does g c = channel_none _ _ _ _ (rw c.in-NameNotBound.is at c.in-Err.ensures.does)

pub returns-clause-does : goal.returns-clause-does
returns-clause-does g c = channel_halts _ _ _ _ c.in-Err.ensures.does c.in_default.not-NameNotBound c.from.ensures
