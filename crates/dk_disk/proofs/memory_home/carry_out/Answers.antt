use Rattle.std.proofs.Common.{arith, ap, List, ℕ, length}
use Rattle.dk_disk.proofs.Sides.{addressable}
use Rattle.dk_disk.proofs.Unwindings.{kept_fits, within_size}
use Rattle.dk_disk.proofs.memory_home.carry_out.Goals as goal

pub push-requires-clause-range : goal.push-requires-clause-range
push-requires-clause-range c = addressable _ _ c.requires.within c.requires.small.0 c.requires.small.1

pub push-requires-clause-room : goal.push-requires-clause-room
push-requires-clause-room c = record {
  calls_fit = c.requires.ready.spare.calls_fit;
  bytes_fit = omega (arith, c.requires.ready.spare.bytes_fit, kept_fits c.args.step.now c.is_ok.result c.bytes.result.now, within_size c.args.drives.now c.args.side, ap (λ (l : List ℕ). length l) c.bytes.ensures);
}
