pub use Rattle.dk_refs.specs.Lookups
pub mod Openings
