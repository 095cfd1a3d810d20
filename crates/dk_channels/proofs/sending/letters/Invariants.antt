use Rattle.std.proofs.Common.{◌≡◌, take}
use Rattle.dk_types.specs.declared.job.Out.TheVariants as out
use Rattle.dk_channels.specs.Sendings.{letters_of}
use Rattle.dk_channels.proofs.sending.letters.Given as goal

-- the messages of the members before this one
abbrev pub invariant-loop-member : goal.invariant-loop-member
invariant-loop-member l = l.letters.items ≡ letters_of (out.Channel l.channel l.body) (take l.member-index l.members)
