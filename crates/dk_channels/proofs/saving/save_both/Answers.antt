use Rattle.std.proofs.Common.{sym, ◌∙◌}
use Rattle.dk_model.specs.Records.{channel_bytes, session_bytes}
use Rattle.dk_refs.proofs.Tellings.{length_never_last, then_avoids, save_short_avoids}
use Rattle.dk_channels.specs.BothRecords.{too_long_of}
use Rattle.dk_channels.proofs.saving.save_both.Goals as goal

pub returns-clause-length : goal.returns-clause-length
returns-clause-length g c =
    length_never_last (too_long_of (channel_bytes c.args.channel.1) (session_bytes c.args.session.1))
    (then_avoids (save_short_avoids _ _ (sym c.is_too_long.ensures ∙ c.if-is_too_long.false)) (λ u. save_short_avoids _ _ (sym c.is_too_long-2.ensures ∙ c.if-is_too_long-2.false))) c.save_both.ensures.does
