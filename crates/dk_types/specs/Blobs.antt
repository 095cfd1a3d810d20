-- Blobs: the bytes, wherever they stand.
use Rattle.std.specs.Prelude.{ℕ, List}
use Rattle.std.specs.Arc.{arc_value}
use Rattle.dk_types.specs.declared.blob.Bytes.{Bytes}
use Rattle.dk_types.specs.declared.blob.Bytes.TheVariants.{Inline, Own, Shared}

abbrev pub items_of : Bytes → List ℕ
items_of (Inline bytes alloc) = bytes.items
items_of (Own bytes) = bytes.items
items_of (Shared bytes) = (arc_value bytes).items
