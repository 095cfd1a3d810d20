use Rattle.std.proofs.Common.{sym, ap, ◌∙◌}
use Rattle.std.specs.Hash.{le_bytes}
use Rattle.std.proofs.lemmas.Nat.{from_le_bytes-to_le_bytes_8}
use Rattle.dk_hashed.specs.KeyHashes.{joined}
use Rattle.dk_hashed.proofs.key_hasher.KeyHasherHasher.write_u64.Goals as goal

pub returns : goal.returns
unfolding le_bytes
returns c = c.join.ensures ∙ ap (joined c.args.self.now) (sym (from_le_bytes-to_le_bytes_8 c.args.i c.ranges.i.fits))
