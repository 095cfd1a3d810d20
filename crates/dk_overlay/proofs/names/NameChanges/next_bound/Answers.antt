use Rattle.std.proofs.Common.{None, Some, refl}
use Rattle.std.specs.Option.{option_copied}
use Rattle.dk_map.proofs.Seen.{next_seen}
use Rattle.dk_overlay.proofs.Keys.{names_total}
use Rattle.dk_overlay.proofs.NextBound.{next_least}
use Rattle.dk_overlay.proofs.names.NameChanges.next_bound.Goals as goal

pub returns-in_default : goal.returns-in_default
returns-in_default c =
    next_least _ _ _ c.self.invariant.1 c.self.invariant.0 c.self.invariant.2 c.self.view_is (option_copied c.args.after) None
    (next_seen names_total c.self.inside.bound.entries refl c.self.invariant.1 (option_copied c.args.after) None c.in_default.ensures)

pub returns : goal.returns
returns c =
    next_least _ _ _ c.self.invariant.1 c.self.invariant.0 c.self.invariant.2 c.self.view_is (option_copied c.args.after) (Some (c.in-Some.name.now, c.in-Some.field-0-1.now))
    (next_seen names_total c.self.inside.bound.entries refl c.self.invariant.1 (option_copied c.args.after) (Some (c.in-Some.name.now, c.in-Some.field-0-1.now)) c.in-Some.ensures)
