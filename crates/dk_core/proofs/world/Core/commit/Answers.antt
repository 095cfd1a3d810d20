use Rattle.std.proofs.Common.{◌+◌, refl, ap, subst, ◌∙◌}
use Rattle.std.proofs.lemmas.List.{append-nil}
use Rattle.dk_core.specs.Cores.{Represents}
use Rattle.dk_core.proofs.Committed.{stood_with}
use Rattle.dk_core.proofs.Stales.{told_back}
use Rattle.dk_core.proofs.world.Core.commit.Goals as goal

pub returns-in-Ok : goal.returns-in-Ok
returns-in-Ok c =
    let same = c.make_ready.ensures.same.world in (
      c.enter.ensures.number ∙ ap (λ w. w.commits + 1) same,
      stood_with c.args.self.now.world c.make_ready.new.self.world c.args.finished.reads.items same c.in-Ok.ensures.ready.0.stand,
      λ rules d budget events lawful honest s.
          c.enter.ensures.commits rules d budget events lawful honest (subst (λ es. Represents rules d budget es c.make_ready.new.self) (append-nil events) (c.make_ready.ensures.stays rules d budget events s)),
    )

pub returns-in-Err : goal.returns-in-Err
returns-in-Err c =
    told_back c.args.self.now c.make_ready.new.self c.args.claimed c.args.claimed c.args.finished c.in-Err.refused refl c.make_ready.ensures.same c.requires.granted c.in-Err.ensures.ready
    c.make_ready.ensures.stays
