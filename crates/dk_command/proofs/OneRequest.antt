-- Words ask for one thing.
use Rattle.std.proofs.Common.{◌≡◌, ◌∙◌, ℕ, List, sum, ap, arith, string_bytes, Result, Ok, Err, IfOk}
use Rattle.clap.specs.Words.{App, Text}
use Rattle.dk_command.specs.declared.command.Command.{Command}
use Rattle.dk_command.specs.declared.command.Command.TheVariants as command
use Rattle.dk_command.specs.declared.parse.CommandRefused.{CommandRefused}
use Rattle.dk_command.specs.Grammar.{play_app, serve_app, check_app, inspect_app, stress_app}
use Rattle.dk_command.specs.Commands.{IsAnswerOf, IsCommandOf, app_of_command}
use Rattle.dk_command.specs.Requests.{AreFew, Request, request_of, Asks}

-- the subcommands have different names
mark : App → ℕ
mark app = sum app.top.name

-- the other subcommands are not `stress`
pub play_is_other : stress_app ≡ play_app → ⊥
unfolding play_app stress_app mark
play_is_other e = let m : mark stress_app ≡ mark play_app = ap mark e in omega arith

pub check_is_other : stress_app ≡ check_app → ⊥
unfolding check_app stress_app mark
check_is_other e = let m : mark stress_app ≡ mark check_app = ap mark e in omega arith

pub inspect_is_other : stress_app ≡ inspect_app → ⊥
unfolding inspect_app stress_app mark
inspect_is_other e = let m : mark stress_app ≡ mark inspect_app = ap mark e in omega arith

-- nor `serve`
pub play_serves_none : serve_app ≡ play_app → ⊥
unfolding play_app serve_app mark
play_serves_none e = let m : mark serve_app ≡ mark play_app = ap mark e in omega arith

pub check_serves_none : serve_app ≡ check_app → ⊥
unfolding check_app serve_app mark
check_serves_none e = let m : mark serve_app ≡ mark check_app = ap mark e in omega arith

pub inspect_serves_none : serve_app ≡ inspect_app → ⊥
unfolding inspect_app serve_app mark
inspect_serves_none e = let m : mark serve_app ≡ mark inspect_app = ap mark e in omega arith

-- the answer for another subcommand asks for nothing of which there may be too much
pub answers_few : (words : List Text) (app : App) (r : Result Command CommandRefused) → IsAnswerOf app words r → (stress_app ≡ app → ⊥) → (serve_app ≡ app → ⊥) → IfOk r AreFew
unfolding IsAnswerOf
answers_few words app (Ok (command.Play dir game workers budget checkpoint)) h differs serves = tt
answers_few words app (Ok (command.Serve dir port game workers clients sessions)) h differs serves = absurd (serves h.1)
answers_few words app (Ok (command.Check dir game)) h differs serves = tt
answers_few words app (Ok (command.Inspect dir game)) h differs serves = tt
answers_few words app (Ok (command.Stress seed tasks workers)) h differs serves = absurd (differs h.1)
answers_few words app (Err e) h differs serves = tt

module _ (words : List Text) where
  marks : (c d : Command) → IsCommandOf words c → IsCommandOf words d → mark (app_of_command c) ≡ mark (app_of_command d)
  unfolding IsCommandOf
  marks c d is other = let same : app_of_command c ≡ app_of_command d = cc in ap mark same

  one : (c d : Command) → IsCommandOf words c → IsCommandOf words d → mark (app_of_command c) ≡ mark (app_of_command d) → request_of c ≡ request_of d
  unfolding IsCommandOf play_app serve_app check_app inspect_app stress_app mark
  one (command.Play dir game workers budget checkpoint) (command.Play dir' game' workers' budget' checkpoint') is other same =
      let a = is.2 in
      let b = other.2 in
      let dirs : string_bytes dir ≡ string_bytes dir' = cc in
      let games : game ≡ game' = cc in
      cc
  one (command.Play dir game workers budget checkpoint) (command.Serve dir' port' game' workers' clients' sessions') is other same = absurd (omega arith)
  one (command.Play dir game workers budget checkpoint) (command.Check dir' game') is other same = absurd (omega arith)
  one (command.Play dir game workers budget checkpoint) (command.Inspect dir' game') is other same = absurd (omega arith)
  one (command.Play dir game workers budget checkpoint) (command.Stress seed' tasks' workers') is other same = absurd (omega arith)
  one (command.Serve dir port game workers clients sessions) (command.Play dir' game' workers' budget' checkpoint') is other same = absurd (omega arith)
  one (command.Serve dir port game workers clients sessions) (command.Serve dir' port' game' workers' clients' sessions') is other same =
      let a = is.2 in
      let b = other.2 in
      let dirs : string_bytes dir ≡ string_bytes dir' = cc in
      let games : game ≡ game' = cc in
      cc
  one (command.Serve dir port game workers clients sessions) (command.Check dir' game') is other same = absurd (omega arith)
  one (command.Serve dir port game workers clients sessions) (command.Inspect dir' game') is other same = absurd (omega arith)
  one (command.Serve dir port game workers clients sessions) (command.Stress seed' tasks' workers') is other same = absurd (omega arith)
  one (command.Check dir game) (command.Play dir' game' workers' budget' checkpoint') is other same = absurd (omega arith)
  one (command.Check dir game) (command.Serve dir' port' game' workers' clients' sessions') is other same = absurd (omega arith)
  one (command.Check dir game) (command.Check dir' game') is other same =
      let a = is.2 in
      let b = other.2 in
      let dirs : string_bytes dir ≡ string_bytes dir' = cc in
      let games : game ≡ game' = cc in
      cc
  one (command.Check dir game) (command.Inspect dir' game') is other same = absurd (omega arith)
  one (command.Check dir game) (command.Stress seed' tasks' workers') is other same = absurd (omega arith)
  one (command.Inspect dir game) (command.Play dir' game' workers' budget' checkpoint') is other same = absurd (omega arith)
  one (command.Inspect dir game) (command.Serve dir' port' game' workers' clients' sessions') is other same = absurd (omega arith)
  one (command.Inspect dir game) (command.Check dir' game') is other same = absurd (omega arith)
  one (command.Inspect dir game) (command.Inspect dir' game') is other same =
      let a = is.2 in
      let b = other.2 in
      let dirs : string_bytes dir ≡ string_bytes dir' = cc in
      let games : game ≡ game' = cc in
      cc
  one (command.Inspect dir game) (command.Stress seed' tasks' workers') is other same = absurd (omega arith)
  one (command.Stress seed tasks workers) (command.Play dir' game' workers' budget' checkpoint') is other same = absurd (omega arith)
  one (command.Stress seed tasks workers) (command.Serve dir' port' game' workers' clients' sessions') is other same = absurd (omega arith)
  one (command.Stress seed tasks workers) (command.Check dir' game') is other same = absurd (omega arith)
  one (command.Stress seed tasks workers) (command.Inspect dir' game') is other same = absurd (omega arith)
  one (command.Stress seed tasks workers) (command.Stress seed' tasks' workers') is other same =
      let a = is.2 in
      let b = other.2 in
      cc

-- two commands of the same words ask for the same
pub one_request : (words : List Text) (c d : Command) → IsCommandOf words c → IsCommandOf words d → request_of c ≡ request_of d
one_request words c d is other = one words c d is other (marks words c d is other)

-- an answer is what the words ask for
pub answers_one : (words : List Text) (r : Result Command CommandRefused) → IfOk r (IsCommandOf words) → (request : Request) → Asks words request → IfOk r (λ c. request_of c ≡ request)
answers_one words (Ok command) is request asks = one_request words command asks.0 is asks.1 ∙ asks.2
answers_one words (Err refused) is request asks = tt
