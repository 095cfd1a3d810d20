use Rattle.std.proofs.Common.{None, Some, ap}
use Rattle.std.specs.Option.{option_copied}
use Rattle.dk_names.proofs.NextNames.{next_named}
use Rattle.dk_names.proofs.names.Names.next_after.Goals as goal

pub returns-in_default : goal.returns-in_default
returns-in_default c = next_named _ (ap (λ s. s.names) c.self.view_is) c.self.invariant (option_copied c.args.after) None c.in_default.ensures

pub returns : goal.returns
returns c = next_named _ (ap (λ s. s.names) c.self.view_is) c.self.invariant (option_copied c.args.after) (Some (c.in-Some.name.now, c.in-Some.field-0-1.now)) c.in-Some.ensures
