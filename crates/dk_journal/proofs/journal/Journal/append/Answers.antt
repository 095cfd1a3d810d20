use Rattle.std.proofs.Common.{◌≡◌, ◌+◌, length, List, [], ◌∷◌, ◌++◌, ℕ, subst, arith}
use Rattle.dk_journal.specs.Moments.{Runs, HasOrNot}
use Rattle.dk_journal.specs.Standing.{Stands}
use Rattle.dk_journal.proofs.journal.Journal.append.Goals as goal

pub returns-in-Ok-clause-run : goal.returns-in-Ok-clause-run
returns-in-Ok-clause-run g c tells header payloads stands =
    subst (λ (p : List ℕ). Runs c.args.self.now.side (HasOrNot header payloads p) (g.M.Home.past c.args.home.now) (g.M.Home.past c.put_record.new.home)) c.as_slice-bytes.ensures (c.put_record.ensures.run tells header payloads stands)

pub returns-in-Ok-clause-acknowledged : goal.returns-in-Ok-clause-acknowledged
returns-in-Ok-clause-acknowledged g c tells header payloads stands =
    let bytes = c.as_slice-bytes.result.now in
    let same : c.args.self.now.length + 5 + length bytes ≡ c.saturating_add-length.result = omega (arith, c.saturating_add-length.ensures) in
    subst (λ (n : ℕ). Stands c.args.self.now.side n (g.M.Home.past c.put_record.new.home) header (payloads ++ c.args.payload.now ∷ [])) same
    (subst (λ (p : List ℕ). Stands c.args.self.now.side (c.args.self.now.length + 5 + length bytes) (g.M.Home.past c.put_record.new.home) header (payloads ++ p ∷ [])) c.as_slice-bytes.ensures (c.in-Ok.ensures.done tells header payloads stands))

pub returns-in-Err-clause-run : goal.returns-in-Err-clause-run
returns-in-Err-clause-run g c tells header payloads stands =
    subst (λ (p : List ℕ). Runs c.args.self.now.side (HasOrNot header payloads p) (g.M.Home.past c.args.home.now) (g.M.Home.past c.put_record.new.home)) c.as_slice-bytes.ensures (c.put_record.ensures.run tells header payloads stands)
