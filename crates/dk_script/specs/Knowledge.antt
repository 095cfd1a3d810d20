-- What the printer of a transcript knows, seen as the definitions see it.
use Rattle.std.specs.Prelude.{ℕ, List, map}
use Rattle.std.specs.FinMap as maps
use Rattle.dk_model.specs.Keys.{conn_cmp}
use Rattle.dk_model.specs.Transcripts as transcripts
use Rattle.dk_script.specs.declared.known.Known.{Known}

-- names by the numbers of connections
abbrev pub names_of : List (ℕ × List ℕ) → maps.FinMap conn_cmp (List ℕ)
names_of entries = maps.from_entries (map (λ e. (record { 0 = e.0 }, e.1)) entries)

-- the printer's table and moment, as what a reader of events knows
abbrev pub known_of : Known → transcripts.Known
known_of k = record { names = names_of k.names.entries; moment = k.moment }
