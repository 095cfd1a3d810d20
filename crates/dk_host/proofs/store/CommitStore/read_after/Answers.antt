use Rattle.std.proofs.Common.{◌≡◌, ◌≤◌, List, Some, None, Err, IsTrue, sym, ap, subst, ◌∙◌}
use Rattle.std.proofs.lemmas.Result.{err_from_is_err_and}
use Rattle.dk_types.specs.declared.event.Event.{Event}
use Rattle.dk_disk.specs.DiskHistories.{now}
use Rattle.dk_model.specs.Legal.{world_after}
use Rattle.dk_journal.proofs.Going.{looks_on}
use Rattle.dk_commit_log.proofs.Walks.{reads_still}
use Rattle.dk_host.specs.Stores.{Stored}
use Rattle.dk_host.specs.Tails.{IsLogPart, BeginsAt}
use Rattle.dk_host.proofs.Rereading.{log_there, rests_there, file_there, file_log, part_there, begins_there, stored_looked, rests_still, some_number, some_most, damage_of, exit_of, older_of}
use Rattle.dk_host.proofs.Homes.{as_stopped, read_home}
use Rattle.dk_host.proofs.Storing.{as_waiting, as_faults}
use Rattle.dk_host.proofs.store.CommitStore.read_after.Goals as goal

pub invariant_of-self : goal.invariant_of-self
invariant_of-self g c =
    let o = g.W.Hosting.opened in
    let none : c.self.inside.waiting ≡ None = ap (λ (v : Stored). v.waiting) c.self.view_is ∙ c.requires.none_waits in
    let running : c.self.inside.faults ≡ None = ap (λ (v : Stored). v.faults) c.self.view_is ∙ c.requires.running in
    let s = as_faults _ _ running (as_waiting _ _ none c.self.invariant.3) in
    let here = c.self.invariant.2.here in (
      c.self.invariant.0,
      c.self.invariant.1,
      c.self.invariant.2,
      as_waiting _ _ (sym none)
          (as_faults _ _ (sym running) (stored_looked o _ _ _ _ _ _ _ _ _ _ _ s here _ _ c.known_commits.ensures.opening (λ h. c.known_commits.ensures.looks h (rests_there o _ _ _ _ _ _ _ _ _ _ _ s here h)) c.self.inside.base (λ h n is. (log_there o _ _ _ _ _ _ _ _ _ _ _ s here h).known n is))),
      as_stopped _ _ (sym running) (read_home _ _ _ _ _ _ (as_stopped _ _ running c.self.invariant.4) c.known_commits.ensures.opening c.known_commits.result c.known_commits.ensures.cause c.known_commits.ensures.steady),
    )

pub invariant_of-self-then-after-base : goal.invariant_of-self-then-after-base
invariant_of-self-then-after-base g c =
    let o = g.W.Hosting.opened in
    let none : c.self.inside.waiting ≡ None = ap (λ (v : Stored). v.waiting) c.self.view_is ∙ c.requires.none_waits in
    let running : c.self.inside.faults ≡ None = ap (λ (v : Stored). v.faults) c.self.view_is ∙ c.requires.running in
    let s = as_faults _ _ running (as_waiting _ _ none c.self.invariant.3) in
    let here = c.self.invariant.2.here in
    let there = log_there o _ _ _ _ _ _ _ _ _ _ _ s here in
    let rests = rests_there o _ _ _ _ _ _ _ _ _ _ _ s here in
    let looked = λ (h : IsTrue g.M.Home.tells). c.known_commits.ensures.looks h (rests h) in
    let begins = λ (h : IsTrue g.M.Home.tells). c.in_ok-base.ensures.begins h (there h).stands.header (there h).stands.payloads (there h).first (there h).log.others (file_there o _ _ _ _ _ _ _ _ _ _ _ s here h) (there h).log.begins (there h).known in (
      c.self.invariant.0,
      c.self.invariant.1,
      record { here = here; same = c.self.invariant.2.same; later = c.self.invariant.2.later; most = λ n is. some_most c.in_ok-base.base n c.in_ok-base.ensures.most is },
      as_waiting _ _ (sym none) (as_faults _ _ (sym running) (stored_looked o _ _ _ _ _ _ _ _ _ _ _ s here _ _ c.known_commits.ensures.opening looked (Some c.in_ok-base.base) (λ h n is. some_number c.in_ok-base.base n (there h).first.commits (begins h) is))),
      as_stopped _ _ (sym running) (read_home _ _ _ _ _ _ (as_stopped _ _ running c.self.invariant.4) c.known_commits.ensures.opening c.known_commits.result c.known_commits.ensures.cause c.known_commits.ensures.steady),
    )

pub invariant_of-self-in_err-entries : goal.invariant_of-self-in_err-entries
invariant_of-self-in_err-entries g c =
    let o = g.W.Hosting.opened in
    let none : c.self.inside.waiting ≡ None = ap (λ (v : Stored). v.waiting) c.self.view_is ∙ c.requires.none_waits in
    let running : c.self.inside.faults ≡ None = ap (λ (v : Stored). v.faults) c.self.view_is ∙ c.requires.running in
    let s = as_faults _ _ running (as_waiting _ _ none c.self.invariant.3) in
    let here = c.self.invariant.2.here in
    let there = log_there o _ _ _ _ _ _ _ _ _ _ _ s here in
    let rests = rests_there o _ _ _ _ _ _ _ _ _ _ _ s here in
    let looked = λ (h : IsTrue g.M.Home.tells). c.known_commits.ensures.looks h (rests h) in
    let begins = λ (h : IsTrue g.M.Home.tells). c.in_ok-base.ensures.begins h (there h).stands.header (there h).stands.payloads (there h).first (there h).log.others (file_there o _ _ _ _ _ _ _ _ _ _ _ s here h) (there h).log.begins (there h).known in
    let later = λ (h : IsTrue g.M.Home.tells). looks_on _ _ _ (looked h) (c.read_commits.ensures.looks h (rests_still _ _ c.self.inside.side (looked h) (rests h))) in (
      c.self.invariant.0,
      c.self.invariant.1,
      record { here = here; same = c.self.invariant.2.same; later = c.self.invariant.2.later; most = λ n is. some_most c.in_ok-base.base n c.in_ok-base.ensures.most is },
      as_waiting _ _ (sym none) (as_faults _ _ (sym running) (stored_looked o _ _ _ _ _ _ _ _ _ _ _ s here _ _ (c.read_commits.ensures.opening ∙ c.known_commits.ensures.opening) later (Some c.in_ok-base.base) (λ h n is. some_number c.in_ok-base.base n (there h).first.commits (begins h) is))),
      as_stopped _ _ (sym running) (read_home _ _ _ _ _ _ (read_home _ _ _ _ _ _ (as_stopped _ _ running c.self.invariant.4) c.known_commits.ensures.opening c.known_commits.result c.known_commits.ensures.cause c.known_commits.ensures.steady)
          c.read_commits.ensures.opening c.read_commits.result c.read_commits.ensures.cause c.read_commits.ensures.steady),
    )

pub invariant_of-self-2 : goal.invariant_of-self-2
invariant_of-self-2 g c =
    let o = g.W.Hosting.opened in
    let none : c.self.inside.waiting ≡ None = ap (λ (v : Stored). v.waiting) c.self.view_is ∙ c.requires.none_waits in
    let running : c.self.inside.faults ≡ None = ap (λ (v : Stored). v.faults) c.self.view_is ∙ c.requires.running in
    let s = as_faults _ _ running (as_waiting _ _ none c.self.invariant.3) in
    let here = c.self.invariant.2.here in
    let there = log_there o _ _ _ _ _ _ _ _ _ _ _ s here in
    let rests = rests_there o _ _ _ _ _ _ _ _ _ _ _ s here in
    let looked = λ (h : IsTrue g.M.Home.tells). c.known_commits.ensures.looks h (rests h) in
    let begins = λ (h : IsTrue g.M.Home.tells). c.in_ok-base.ensures.begins h (there h).stands.header (there h).stands.payloads (there h).first (there h).log.others (file_there o _ _ _ _ _ _ _ _ _ _ _ s here h) (there h).log.begins (there h).known in
    let later = λ (h : IsTrue g.M.Home.tells). looks_on _ _ _ (looked h) (c.read_commits.ensures.looks h (rests_still _ _ c.self.inside.side (looked h) (rests h))) in (
      c.self.invariant.0,
      c.self.invariant.1,
      record { here = here; same = c.self.invariant.2.same; later = c.self.invariant.2.later; most = λ n is. some_most c.in_ok-base.base n c.in_ok-base.ensures.most is },
      as_waiting _ _ (sym none) (as_faults _ _ (sym running) (stored_looked o _ _ _ _ _ _ _ _ _ _ _ s here _ _ (c.read_commits.ensures.opening ∙ c.known_commits.ensures.opening) later (Some c.in_ok-base.base) (λ h n is. some_number c.in_ok-base.base n (there h).first.commits (begins h) is))),
      as_stopped _ _ (sym running) (read_home _ _ _ _ _ _ (read_home _ _ _ _ _ _ (as_stopped _ _ running c.self.invariant.4) c.known_commits.ensures.opening c.known_commits.result c.known_commits.ensures.cause c.known_commits.ensures.steady)
          c.read_commits.ensures.opening c.read_commits.result c.read_commits.ensures.cause c.read_commits.ensures.steady),
    )

pub returns-in_err-base-clause-undamaged : goal.returns-in_err-base-clause-undamaged
returns-in_err-base-clause-undamaged g c tells at is =
    let o = g.W.Hosting.opened in
    let none : c.self.inside.waiting ≡ None = ap (λ (v : Stored). v.waiting) c.self.view_is ∙ c.requires.none_waits in
    let running : c.self.inside.faults ≡ None = ap (λ (v : Stored). v.faults) c.self.view_is ∙ c.requires.running in
    let s = as_faults _ _ running (as_waiting _ _ none c.self.invariant.3) in
    let here = c.self.invariant.2.here in
    let there = log_there o _ _ _ _ _ _ _ _ _ _ _ s here in
    let p = err_from_is_err_and c.from_residual.result c.from_residual.ensures.1 in
    let e = damage_of c.in_err-base.field-0.0 at (sym p.2 ∙ exit_of c.from_residual.result p.0 _ p.1 is) in
    c.known_commits.ensures.undamaged tells at (c.in_err-base.was ∙ ap Err e) (there tells).stands.header (there tells).stands.payloads (there tells).first (there tells).log.others (file_there o _ _ _ _ _ _ _ _ _ _ _ s here tells) (there tells).log.begins

pub returns-then-after-base-clause-begins : goal.returns-then-after-base-clause-begins
returns-then-after-base-clause-begins g c tells n is =
    let o = g.W.Hosting.opened in
    let none : c.self.inside.waiting ≡ None = ap (λ (v : Stored). v.waiting) c.self.view_is ∙ c.requires.none_waits in
    let running : c.self.inside.faults ≡ None = ap (λ (v : Stored). v.faults) c.self.view_is ∙ c.requires.running in
    let s = as_faults _ _ running (as_waiting _ _ none c.self.invariant.3) in
    let here = c.self.invariant.2.here in
    let there = log_there o _ _ _ _ _ _ _ _ _ _ _ s here in
    let begins = λ (h : IsTrue g.M.Home.tells). c.in_ok-base.ensures.begins h (there h).stands.header (there h).stands.payloads (there h).first (there h).log.others (file_there o _ _ _ _ _ _ _ _ _ _ _ s here h) (there h).log.begins (there h).known in
    subst (λ (es : List Event). BeginsAt o es n) (ap (λ (v : Stored). v.watcher.front) c.self.view_is) (begins_there o _ _ _ _ _ _ _ _ _ _ _ s here tells n c.in_ok-base.base (begins tells) (sym (older_of is)))

pub returns-in_err-entries-clause-undamaged : goal.returns-in_err-entries-clause-undamaged
returns-in_err-entries-clause-undamaged g c tells at is =
    let o = g.W.Hosting.opened in
    let none : c.self.inside.waiting ≡ None = ap (λ (v : Stored). v.waiting) c.self.view_is ∙ c.requires.none_waits in
    let running : c.self.inside.faults ≡ None = ap (λ (v : Stored). v.faults) c.self.view_is ∙ c.requires.running in
    let s = as_faults _ _ running (as_waiting _ _ none c.self.invariant.3) in
    let here = c.self.invariant.2.here in
    let there = log_there o _ _ _ _ _ _ _ _ _ _ _ s here in
    let rests = rests_there o _ _ _ _ _ _ _ _ _ _ _ s here in
    let looked = λ (h : IsTrue g.M.Home.tells). c.known_commits.ensures.looks h (rests h) in
    let begins = λ (h : IsTrue g.M.Home.tells). c.in_ok-base.ensures.begins h (there h).stands.header (there h).stands.payloads (there h).first (there h).log.others (file_there o _ _ _ _ _ _ _ _ _ _ _ s here h) (there h).log.begins (there h).known in
    let front : c.self.inside.watcher.front ≡ c.args.self.now.watcher.front = ap (λ (v : Stored). v.watcher.front) c.self.view_is in
    let enough : c.args.last ≤ (world_after o c.self.inside.watcher.front).durable.commits = subst (λ (es : List Event). c.args.last ≤ (world_after o es).durable.commits) (sym front) c.requires.there in
    let log = file_log o _ _ _ _ _ _ _ _ _ _ _ s here tells (now (g.M.Home.past c.known_commits.new.home) c.self.inside.side).reads c.in_ok-base.base c.args.last (reads_still _ _ c.self.inside.side (looked tells)) (begins tells) enough in
    let p = err_from_is_err_and c.from_residual-in_err-entries.result c.from_residual-in_err-entries.ensures.1 in
    let e = damage_of c.in_err-entries.field-0.0 at (sym p.2 ∙ exit_of c.from_residual-in_err-entries.result p.0 _ p.1 is) in
    c.read_commits.ensures.undamaged tells (there tells).stands.header (there tells).stands.payloads _ (there tells).first (there tells).entries log at (c.in_err-entries.was ∙ ap Err e)

pub returns-clause-read : goal.returns-clause-read
returns-clause-read g c tells =
    let o = g.W.Hosting.opened in
    let none : c.self.inside.waiting ≡ None = ap (λ (v : Stored). v.waiting) c.self.view_is ∙ c.requires.none_waits in
    let running : c.self.inside.faults ≡ None = ap (λ (v : Stored). v.faults) c.self.view_is ∙ c.requires.running in
    let s = as_faults _ _ running (as_waiting _ _ none c.self.invariant.3) in
    let here = c.self.invariant.2.here in
    let there = log_there o _ _ _ _ _ _ _ _ _ _ _ s here in
    let rests = rests_there o _ _ _ _ _ _ _ _ _ _ _ s here in
    let looked = λ (h : IsTrue g.M.Home.tells). c.known_commits.ensures.looks h (rests h) in
    let begins = λ (h : IsTrue g.M.Home.tells). c.in_ok-base.ensures.begins h (there h).stands.header (there h).stands.payloads (there h).first (there h).log.others (file_there o _ _ _ _ _ _ _ _ _ _ _ s here h) (there h).log.begins (there h).known in
    let front : c.self.inside.watcher.front ≡ c.args.self.now.watcher.front = ap (λ (v : Stored). v.watcher.front) c.self.view_is in
    let enough : c.args.last ≤ (world_after o c.self.inside.watcher.front).durable.commits = subst (λ (es : List Event). c.args.last ≤ (world_after o es).durable.commits) (sym front) c.requires.there in
    let log = file_log o _ _ _ _ _ _ _ _ _ _ _ s here tells (now (g.M.Home.past c.known_commits.new.home) c.self.inside.side).reads c.in_ok-base.base c.args.last (reads_still _ _ c.self.inside.side (looked tells)) (begins tells) enough in
    subst (λ (es : List Event). IsLogPart o es c.args.after c.args.last c.in_ok-entries.entries.items) front
    (part_there o _ _ _ _ _ _ _ _ _ _ _ s here tells c.args.after c.args.last c.in_ok-entries.entries.items (c.in_ok-entries.ensures.read tells (there tells).stands.header (there tells).stands.payloads _ (there tells).first (there tells).entries log))
