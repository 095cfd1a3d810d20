use Rattle.std.proofs.Common.{◌≡◌, ◌+◌, nat_lt, length, false, rules, sym, ap, subst, ◌∙◌}
use Rattle.std.specs.List.{AllByRecursion}
use Rattle.dk_types.specs.declared.job.Out.TheVariants as out
use Rattle.dk_types.specs.declared.limits.TheConstants.{MESSAGES_MOST_COUNT}
use Rattle.dk_model.specs.Runs as act
use Rattle.dk_channels.proofs.Sendings.{letters_len, letters_short, each_does}
use Rattle.dk_channels.proofs.sending.send_each.Goals as goal

pub send_all-requires-clause-short : goal.send_all-requires-clause-short
send_all-requires-clause-short g c =
    subst (AllByRecursion (λ m. act.is_too_long (act.body_of m.1) ≡ false)) (sym c.in_ok-messages.ensures) (letters_short (out.Channel c.args.channel.now c.args.body.now) c.requires c.args.members.now)

pub send_all-requires-clause-room : goal.send_all-requires-clause-room
send_all-requires-clause-room g c =
    let fits : nat_lt MESSAGES_MOST_COUNT (length c.args.txn.now.set.outs + length c.args.members.now) ≡ false = search rules in
    ap (λ n. nat_lt MESSAGES_MOST_COUNT (length c.args.txn.now.set.outs + n)) (ap length c.in_ok-messages.ensures ∙ letters_len (out.Channel c.args.channel.now c.args.body.now) c.args.members.now) ∙ fits

pub returns-clause-does : goal.returns-clause-does
returns-clause-does g c =
    let fits : nat_lt MESSAGES_MOST_COUNT (length c.args.txn.now.set.outs + length c.args.members.now) ≡ false = search rules in
    each_does c.args.members.now (out.Channel c.args.channel.now c.args.body.now) c.in_ok-messages.messages.items c.in_ok-messages.ensures fits c.send_all.ensures.does
