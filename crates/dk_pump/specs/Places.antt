-- What the end of a session, and that of a place, tells of numbers.
use Rattle.std.specs.Prelude.{◌≡◌}
use Rattle.dk_types.specs.declared.limits.TheConstants.{NUMBERS_END}
use Rattle.dk_pump.specs.declared.ends.SessionEnd.{SessionEnd}
use Rattle.dk_pump.specs.declared.ends.SessionEnd.TheVariants as ends
use Rattle.dk_pump.specs.declared.place.PlaceEnd.{PlaceEnd}
use Rattle.dk_pump.specs.declared.place.PlaceEnd.TheVariants as place

-- where a session found no number, numbers have come to their end
abbrev pub IsSoundEnd : SessionEnd → Type 0
IsSoundEnd (ends.Exhausted next) = next ≡ NUMBERS_END
IsSoundEnd _ = Unit {0}

-- the same of a place, which such a session ended
abbrev pub IsSoundPlaceEnd : PlaceEnd → Type 0
IsSoundPlaceEnd (place.NoLink why) = Unit {0}
IsSoundPlaceEnd (place.Exhausted next) = next ≡ NUMBERS_END
