use Rattle.dk_channels.proofs.Lookups.{get_long, get_halts, get_finds}
use Rattle.dk_model.specs.Records.{channel_name}
use Rattle.dk_refs.proofs.Tellings.{length_passes, length_never, bound_avoids}
use Rattle.dk_channels.proofs.channel.find_channel.Goals as goal

pub returns-in_err-bound-in-Some-clause-does : goal.returns-in_err-bound-in-Some-clause-does
returns-in_err-bound-in-Some-clause-does g c = let key = rw c.in-Some.is at c.in_ok-key_of.ensures in get_halts c.args.name.now c.in-Some.key key.0 key.1 c.in_err-bound-in-Some.ensures.does c.from_residual-in_err-bound-in-Some.ensures.1

pub returns-in-None-clause-does : goal.returns-in-None-clause-does
returns-in-None-clause-does g c = get_long c.args.name.now c.name_too_long.ensures.told (rw c.in-None.is at c.in_ok-key_of.ensures)

pub returns-in_ok-bound-in-Some-clause-does : goal.returns-in_ok-bound-in-Some-clause-does
returns-in_ok-bound-in-Some-clause-does g c = let key = rw c.in-Some.is at c.in_ok-key_of.ensures in get_finds c.args.name.now c.in-Some.key key.0 key.1 c.in_ok-bound-in-Some.ensures.does

pub returns-in_err-bound-in-Some-clause-length : goal.returns-in_err-bound-in-Some-clause-length
returns-in_err-bound-in-Some-clause-length g c =
    let at = channel_name c.args.name.now in
    length_passes c.in_err-bound-in-Some.ensures.does _ at (length_never c.in_err-bound-in-Some.ensures.does at (bound_avoids c.in-Some.key 4 (λ e. cc))) c.from_residual-in_err-bound-in-Some.ensures.1
