-- A run at its start, and the law that it keeps.
use Rattle.std.specs.Prelude.{◌≡◌}
use Rattle.dk_overlay.specs.ReadsAndWrites.{ReadsAndWrites, nothing_done}

-- nothing was read or changed
abbrev pub IsBegun : ReadsAndWrites → Type 0
IsBegun t = t ≡ nothing_done t.run t.at
