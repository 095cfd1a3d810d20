use Rattle.std.proofs.Common.{◌≡◌, rules, sym, ap, subst, ◌∙◌}
use Rattle.std.specs.FinMap as map
use Rattle.dk_types.specs.declared.item.Item.TheVariants as item
use Rattle.dk_model.specs.DurableWorlds.{DurableWorld, Agrees, answer}
use Rattle.dk_overlay.specs.ReadsAndWrites.{ReadsAndWrites}
use Rattle.dk_txn.proofs.NameCalls.{name_changed, name_asked}
use Rattle.dk_txn.proofs.names.Txn+V.known_name.Goals as goal

pub returns-in-Some-clause-known : goal.returns-in-Some-clause-known
returns-in-Some-clause-known g c = name_changed c.args.self.now.set c.args.name.now c.in-Some.change (sym c.in-Some.ensures)

pub returns-in_ok-said-in-None-clause-known : goal.returns-in_ok-said-in-None-clause-known
returns-in_ok-said-in-None-clause-known g c =
    let same : c.in_ok-clone-in-None.field-0 ≡ c.args.name.now = search rules in
    name_asked c.ask.new.self.set c.args.name.now c.in_ok-said-in-None.said c.says_named-after.result
    (ap (λ (t : ReadsAndWrites). map.get t.names c.args.name.now) c.ask.ensures.same_changes ∙ sym c.in-None.ensures)
    c.says_named-after.ensures
    (subst (λ n. (d : DurableWorld) → Agrees d c.ask.new.self.set.reads → answer d (item.Bound n) ≡ c.in_ok-said-in-None.said) same c.in_ok-said-in-None.ensures.answers)
