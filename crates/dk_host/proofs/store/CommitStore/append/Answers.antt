use Rattle.std.proofs.Common.{◌≡◌, ◌+◌, ◌<◌, ◌^◌, ◌↔◌, min, length, IsErrOf, None, sym, ap, subst, ◌∙◌}
use Rattle.dk_types.specs.Faults.{COUNT_END}
use Rattle.dk_journal.specs.declared.refused.JournalRefused.TheVariants.{Full}
use Rattle.dk_host.specs.Stores.{Stored, IsNextCommit}
use Rattle.dk_host.specs.Commits.{IsPreparedAt}
use Rattle.dk_host.specs.Fulls.{IsFullAt}
use Rattle.dk_host.proofs.Filling.{full_there}
use Rattle.dk_host.proofs.Homes.{as_stopped, appended_home}
use Rattle.dk_host.proofs.Storing.{as_waiting, as_faults, kept_still, store_settled}
use Rattle.dk_host.proofs.store.CommitStore.append.Goals as goal

pub invariant_of-self : goal.invariant_of-self
invariant_of-self g c =
    let none : c.self.inside.waiting ≡ None = ap (λ (v : Stored). v.waiting) c.self.view_is ∙ c.requires.none_waits in
    let running : c.self.inside.faults ≡ None = ap (λ (v : Stored). v.faults) c.self.view_is ∙ c.requires.running in
    let s = as_faults _ _ running (as_waiting _ _ none c.self.invariant.3) in
    let claimed = c.requires.ready.0 in
    let f = c.requires.ready.1.0 in
    let next = subst (λ es. IsNextCommit g.W.Hosting.opened es claimed f c.args.commit.prepared) (sym (ap (λ (v : Stored). v.watcher.front) c.self.view_is)) c.requires.ready.1.1.0 in
    let room = ap (λ (v : Stored). v.room) c.self.view_is ∙ c.requires.ready.1.1.1 in (
      c.self.invariant.0,
      c.self.invariant.1,
      kept_still _ _ _ _ _ _ c.append-answer.ensures.header.0 c.append-answer.ensures.header.1 c.self.invariant.2,
      as_waiting _ _ (sym c.settle-waiting.ensures.0) (as_faults _ _ (sym c.settle-waiting.ensures.1)
          (store_settled g.W.Hosting.opened _ _ _ _ _ _ _ _ _ _ _ _ _ claimed f _ _ s next room c.args.commit.spelled c.append-answer.ensures.run c.append-answer.ensures.falls c.append-answer.ensures.opening c.append-answer.ensures.header.0 c.append-answer.ensures.header.1
          c.append-answer.ensures.header.2 c.append-answer.result _ c.append-answer.ensures.acknowledged (λ m e. ap g.M.Home.past (c.append-answer.ensures.untouched m e)) c.append-answer.ensures.refused c.append-answer.ensures.only)),
      as_stopped _ _ (sym c.settle-waiting.ensures.1)
          (appended_home _ _ _ _ _ _ _ (as_stopped _ _ running c.self.invariant.4) c.append-answer.ensures.opening c.append-answer.result c.append-answer.ensures.steady c.append-answer.ensures.cause
          (λ m e. ap g.M.Home.counted (c.append-answer.ensures.untouched m e)) c.append-answer.ensures.only),
    )

pub returns-clause-full : goal.returns-clause-full
returns-clause-full g c = λ n.
    subst (λ long. IsErrOf c.append-answer.result (Full n) ↔ ((n ≡ min (long + (5 + length c.args.commit.payload)) COUNT_END) × (2 ^ 40 < n))) (ap (λ (v : Stored). v.journal_length) c.self.view_is) (c.append-answer.ensures.full n)

pub returns-clause-log : goal.returns-clause-log
returns-clause-log g c tells n told claimed f next =
    let o = g.W.Hosting.opened in
    let none : c.self.inside.waiting ≡ None = ap (λ (v : Stored). v.waiting) c.self.view_is ∙ c.requires.none_waits in
    let running : c.self.inside.faults ≡ None = ap (λ (v : Stored). v.faults) c.self.view_is ∙ c.requires.running in
    let front = ap (λ (v : Stored). v.watcher.front) c.self.view_is in
    subst (λ es. IsFullAt o es claimed f n) front
    (full_there o _ _ _ _ _ _ _ _ _ _ (as_faults _ _ running (as_waiting _ _ none c.self.invariant.3)) tells claimed f c.args.commit.prepared
    (subst (λ es. IsPreparedAt o es claimed f c.args.commit.prepared) (sym front) next.prepared) c.args.commit.payload c.args.commit.spelled n ((c.append-answer.ensures.full n).0 told).0)
