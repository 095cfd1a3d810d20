use Rattle.std.proofs.Common.{Some, sym, ap, ◌∙◌}
use Rattle.std.specs.Option.{option_map}
use Rattle.dk_tasks.specs.Tasks.{stamped}
use Rattle.dk_tasks.specs.Places.{kept_of, IsKeyed}
use Rattle.dk_tasks.proofs.Found.{found_of_all}
use Rattle.dk_tasks.proofs.Kept.{kept_get, stamped-kept_of}
use Rattle.dk_tasks.proofs.Orders.{key_same}
use Rattle.dk_tasks.proofs.tasks.Tasks.get.Goals as goal

pub returns-in_default : goal.returns-in_default
returns-in_default c =
    ap (option_map (stamped c.args.key)) (ap (option_map kept_of) c.in_default.ensures ∙ kept_get _ (ap (λ s. s.tasks) c.self.view_is) c.self.invariant.0.ordered c.args.key)

pub returns : goal.returns
returns c =
    let stored = c.in-Some.stored.now in
    let key = found_of_all key_same IsKeyed _ c.self.invariant.0.keyed c.args.key stored (sym c.in-Some.ensures) in
    ap Some (sym (stamped-kept_of stored c.args.key key))
    ∙ ap (option_map (stamped c.args.key)) (ap (option_map kept_of) c.in-Some.ensures ∙ kept_get _ (ap (λ s. s.tasks) c.self.view_is) c.self.invariant.0.ordered c.args.key)
