use Rattle.std.proofs.Common.{◌≡◌, ◌<◌, true, is_some, inl, inr, Some, rules, sym, ap, subst, ◌∙◌}
use Rattle.std.specs.FinMap.{entries}
use Rattle.std.specs.Option.{option_copied}
use Rattle.dk_types.specs.declared.item.Item.TheVariants as item
use Rattle.dk_model.specs.DurableWorlds.{DurableWorld, Agrees, answer}
use Rattle.dk_overlay.specs.ReadsAndWrites.{ReadsAndWrites}
use Rattle.dk_txn.specs.Asks.{Asks}
use Rattle.dk_txn.proofs.NextNames.{names_above, passed_start, passed_asked, passed_none, passed_some, passed_on, fewer_left}
use Rattle.dk_txn.proofs.names.Txn+V.next_standing.Goals as goal
use Rattle.dk_txn.proofs.names.Txn+V.next_standing.Goals.{then-not-is_above-via-then-not-is_above, then-not-is_above-via-else-not-is_above+then-is_none}

pub names-init : goal.names-init
names-init g c = passed_start (option_copied c.args.after) c.in_ok-cursor.cursor c.in_ok-cursor.ensures

pub returns-in-None-clause-next : goal.returns-in-None-clause-next
returns-in-None-clause-next g c =
    passed_none (passed_asked c.names.invariant c.ask.ensures.keeps c.ask.ensures.same_changes (subst (λ x. Asks (item.NextAfter x) g.V.View.sights c.names.self c.ask.new.self) c.in_ok-copy_name.ensures c.ask.ensures.asks)) c.in_ok-said.said
    (subst (λ x. (d : DurableWorld) → Agrees d c.ask.new.self.set.reads → answer d (item.NextAfter x) ≡ c.in_ok-said.said) c.in_ok-copy_name.ensures c.in_ok-said.ensures.answers) c.in-None.ensures

pub returns-then-not-is_above-clause-keeps : goal.returns-then-not-is_above-clause-keeps
returns-then-not-is_above-clause-keeps g c = (passed_asked c.names.invariant c.ask.ensures.keeps c.ask.ensures.same_changes (subst (λ x. Asks (item.NextAfter x) g.V.View.sights c.names.self c.ask.new.self) c.in_ok-copy_name.ensures c.ask.ensures.asks)).keeps

pub returns-then-not-is_above-clause-next : goal.returns-then-not-is_above-clause-next
returns-then-not-is_above-clause-next g c =
    passed_some (passed_asked c.names.invariant c.ask.ensures.keeps c.ask.ensures.same_changes (subst (λ x. Asks (item.NextAfter x) g.V.View.sights c.names.self c.ask.new.self) c.in_ok-copy_name.ensures c.ask.ensures.asks)) c.in_ok-said.said
    (subst (λ x. (d : DurableWorld) → Agrees d c.ask.new.self.set.reads → answer d (item.NextAfter x) ≡ c.in_ok-said.said) c.in_ok-copy_name.ensures c.in_ok-said.ensures.answers)
    c.in-Some.name c.in-Some.ensures
    (elim c.then-not-is_above.branch [
      | then-not-is_above-via-then-not-is_above w ↦ inl (sym c.is_above.ensures ∙ w.if-not-is_above.true)
      | then-not-is_above-via-else-not-is_above+then-is_none w ↦ inr (ap is_some (sym w.name.ensures) ∙ w.if-is_none.ensures)
    ])

pub names-smaller : goal.names-smaller
names-smaller g c =
    let n = c.in-Some.name in
    let there : is_some c.name.result ≡ true = search rules in
    let names : c.ask.new.self.set.names ≡ c.names.self.set.names = ap (λ (t : ReadsAndWrites). t.names) c.ask.ensures.same_changes in
    subst (λ m. names_above (Some n) (entries c.ask.new.self.set.names) < names_above c.names.cursor (entries m)) names
    (fewer_left c.ask.new.self.set.names c.names.cursor n (sym c.is_above.ensures ∙ c.if-not-is_above.false) (ap is_some (sym c.name.ensures) ∙ there))

pub names-preserved : goal.names-preserved
names-preserved g c =
    let there : is_some c.name.result ≡ true = search rules in
    passed_on (passed_asked c.names.invariant c.ask.ensures.keeps c.ask.ensures.same_changes (subst (λ x. Asks (item.NextAfter x) g.V.View.sights c.names.self c.ask.new.self) c.in_ok-copy_name.ensures c.ask.ensures.asks)) c.in_ok-said.said
    (subst (λ x. (d : DurableWorld) → Agrees d c.ask.new.self.set.reads → answer d (item.NextAfter x) ≡ c.in_ok-said.said) c.in_ok-copy_name.ensures c.in_ok-said.ensures.answers)
    c.in-Some.name c.in-Some.ensures (ap is_some (sym c.name.ensures) ∙ there)

pub returns-in_err-said-clause-keeps : goal.returns-in_err-said-clause-keeps
returns-in_err-said-clause-keeps g c = (passed_asked c.names.invariant c.ask.ensures.keeps c.ask.ensures.same_changes (subst (λ x. Asks (item.NextAfter x) g.V.View.sights c.names.self c.ask.new.self) c.in_ok-copy_name.ensures c.ask.ensures.asks)).keeps

pub returns-in_err-said-clause-asks : goal.returns-in_err-said-clause-asks
returns-in_err-said-clause-asks g c = (passed_asked c.names.invariant c.ask.ensures.keeps c.ask.ensures.same_changes (subst (λ x. Asks (item.NextAfter x) g.V.View.sights c.names.self c.ask.new.self) c.in_ok-copy_name.ensures c.ask.ensures.asks)).asks

pub returns-in-None-clause-keeps : goal.returns-in-None-clause-keeps
returns-in-None-clause-keeps g c = (passed_asked c.names.invariant c.ask.ensures.keeps c.ask.ensures.same_changes (subst (λ x. Asks (item.NextAfter x) g.V.View.sights c.names.self c.ask.new.self) c.in_ok-copy_name.ensures c.ask.ensures.asks)).keeps

pub returns-in-None-clause-asks : goal.returns-in-None-clause-asks
returns-in-None-clause-asks g c = (passed_asked c.names.invariant c.ask.ensures.keeps c.ask.ensures.same_changes (subst (λ x. Asks (item.NextAfter x) g.V.View.sights c.names.self c.ask.new.self) c.in_ok-copy_name.ensures c.ask.ensures.asks)).asks

pub returns-then-not-is_above-clause-asks : goal.returns-then-not-is_above-clause-asks
returns-then-not-is_above-clause-asks g c = (passed_asked c.names.invariant c.ask.ensures.keeps c.ask.ensures.same_changes (subst (λ x. Asks (item.NextAfter x) g.V.View.sights c.names.self c.ask.new.self) c.in_ok-copy_name.ensures c.ask.ensures.asks)).asks
