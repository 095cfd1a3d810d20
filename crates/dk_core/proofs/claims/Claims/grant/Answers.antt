use Rattle.std.proofs.Common.{◌≡◌, ◌+◌, ◌<◌, true, refl, sym, subst, ap, ◌∙◌}
use Rattle.dk_map.specs.Entries.{put}
use Rattle.dk_map.proofs.Seen.{put_seen}
use Rattle.dk_types.specs.declared.limits.TheConstants.{NUMBERS_END}
use Rattle.dk_types.specs.Keys.{run_cmp}
use Rattle.dk_model.specs.Events.{has_left}
use Rattle.dk_model.proofs.Maps.{runs_total}
use Rattle.dk_core.specs.Claiming.{with_grant, IsCounted}
use Rattle.dk_core.proofs.Counted.{counted_granted, budget_lowered}
use Rattle.dk_core.proofs.claims.Claims.grant.Goals as goal

pub invariant_of-self-2 : goal.invariant_of-self-2
invariant_of-self-2 c =
    let more = put_seen runs_total c.self.inside.held.entries refl c.self.invariant.0 (record { 0 = c.self.inside.next }) c.args.held c.insert.new.self.entries
    (c.insert.ensures.entries ∙ ap (put run_cmp (record { 0 = c.self.inside.next }) c.args.held) c.in_ok-reserve.ensures.entries) in
    let few = subst (λ n. n < NUMBERS_END) (sym (ap (λ s. s.next) c.self.view_is)) c.requires.number in
    let left = subst (λ b. has_left b ≡ true) (sym (ap (λ s. s.budget) c.self.view_is)) c.requires.left in (
      c.insert.ensures.ordered,
      subst (λ m. IsCounted m (c.self.inside.next + 1) c.one_more-self-inside.result c.self.inside.most) (sym more)
          (counted_granted _ c.self.inside.next c.self.inside.granted c.self.inside.most c.self.invariant.1 c.args.held c.one_more-self-inside.result few left c.one_more-self-inside.ensures),
    )

pub returns-clause-granted : goal.returns-clause-granted
returns-clause-granted c =
    let more = put_seen runs_total c.self.inside.held.entries refl c.self.invariant.0 (record { 0 = c.self.inside.next }) c.args.held c.insert.new.self.entries
    (c.insert.ensures.entries ∙ ap (put run_cmp (record { 0 = c.self.inside.next }) c.args.held) c.in_ok-reserve.ensures.entries) in
    let left = subst (λ b. has_left b ≡ true) (sym (ap (λ s. s.budget) c.self.view_is)) c.requires.left in
    let lower = budget_lowered c.self.inside.granted c.one_more-self-inside.result c.self.inside.most left c.one_more-self-inside.ensures in
    (λ i. record { claims = more i; next = c.self.inside.next + 1; budget = lower i }) ∙ ap (with_grant c.args.held) c.self.view_is
