-- A home that is open.
use Rattle.dk_disk.specs.Opening.{Opening, NotCalled, Refused, Opened, IsOpen}

-- it is so in at most one way
pub IsOpen-prop : (opening : Opening) → IsProp (IsOpen opening)
IsOpen-prop NotCalled = hlevel
IsOpen-prop (Refused dir) = hlevel
IsOpen-prop (Opened dir) = hlevel
