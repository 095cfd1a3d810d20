use Rattle.std.proofs.Common.{ap, ◌∙◌, take_all}
use Rattle.dk_types.specs.declared.job.Out.TheVariants as out
use Rattle.dk_channels.specs.Sendings.{letters_of}
use Rattle.dk_channels.proofs.Sendings.{letters_more}
use Rattle.dk_channels.proofs.sending.letters.Goals as goal

pub loop-member-preserved : goal.loop-member-preserved
loop-member-preserved c =
    c.in_ok-push.ensures.items
    ∙ rw c.in_ok-message.ensures (letters_more (out.Channel c.args.channel.now c.args.body.now) c.args.members.now c.loop-member.member-index c.member-item.result c.loop-member.letters.items c.loop-member-test.true c.member-item.is c.loop-member.invariant)

pub returns : goal.returns
returns c = c.loop-member.invariant ∙ ap (letters_of (out.Channel c.args.channel.now c.args.body.now)) (take_all c.loop-member.member-index c.args.members.now c.loop-member-test.false)
