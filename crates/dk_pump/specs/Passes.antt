-- How far the calls of one pass brought it, as the host says it.
pub use Rattle.dk_host.specs.Passes.{Enters}
