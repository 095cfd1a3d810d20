use Rattle.dk_frame.proofs.FieldLemmas.{no_channel}
use Rattle.dk_frame.proofs.fields.channel.Goals as goal

pub returns-then-body-gt-BODY_MOST_BYTES : goal.returns-then-body-gt-BODY_MOST_BYTES
returns-then-body-gt-BODY_MOST_BYTES c =
    let found = rw c.in-Some.is at c.in_ok-channel.ensures in
    no_channel _ c.in-Some.channel c.in-Some.body.now found.0 found.1 c.if-body-gt-BODY_MOST_BYTES.true
