use Rattle.std.proofs.Common.{inl, inr, ℕ, ◌<◌, ◌≤◌, ⊎_elim, arith, rules, subst}
use Rattle.std.proofs.lemmas.Bool.{cases_lt}
use Rattle.dk_model.specs.Entries.{IsFormat}
use Rattle.dk_journal.proofs.scan.Scan.format.Goals as goal

between : (n : ℕ) → (1 ≤ n) × (n ≤ 2) → IsFormat n
between n is = ⊎_elim (λ (more : 1 < n). inr (omega (arith, more, is.1))) (λ (less : n ≤ 1). inl (omega (arith, less, is.0))) (cases_lt 1 n)

pub returns-clause-known : goal.returns-clause-known
returns-clause-known c = subst IsFormat (search rules) (between c.args.self.now.format c.args.self.now.known)
