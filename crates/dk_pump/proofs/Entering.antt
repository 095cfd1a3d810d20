-- How the calls of a pass go together, as at the host.
pub use Rattle.dk_host.proofs.Entering.{enters_none, enters_one, enters_then, enters_as}
