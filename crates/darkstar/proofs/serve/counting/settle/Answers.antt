use Rattle.std.proofs.Common.{◌+◌, refl, ap, sym, subst, ◌∙◌, Option, None, Some}
use Rattle.dk_pump.specs.Arrivals.{AreAll}
use Rattle.darkstar.specs.declared.serve.verdict.ServeFault.{ServeFault}
use Rattle.darkstar.specs.declared.serve.verdict.ServeFault.TheVariants as fault
use Rattle.darkstar.proofs.serve.counting.settle.Goals as goal

pub returns-then-places-clause-all : goal.returns-then-places-clause-all
returns-then-places-clause-all g c = λ none.
    let no : Path (Option ServeFault) None (Some fault.NoMemory) = sym (c.or.ensures none).1 ∙ c.no_memory.ensures in
    let out : ⊥ = cc in absurd out

pub returns-clause-all : goal.returns-clause-all
returns-clause-all g c =
    let listening = g.L.Listener.listening in
    let most = g.D.Doorway.most in
    let served = c.into_tally-2.ensures ∙ c.audit.ensures.all ∙ c.audit.ensures.given in
    let same = c.into_listener-2.ensures.now ∙ c.audit.ensures.net.1 in
    λ _. record {
      links = c.into_listener-2.ensures.given.links ∙ ap (λ n. g.D.Doorway.first + n) (sym c.audit.ensures.all ∙ sym c.into_tally-2.ensures);
      all = subst (λ l. AreAll most c.into_tally-2.result l) (ap listening (sym same)) (subst (λ n. AreAll most n (listening c.args.arrivals.net.now)) (sym served) (c.if-not-is_over.ensures refl));
    }
