-- A text is one script, or has one first line outside the grammar; and a script has one transcript by one worker.
use Rattle.std.specs.Prelude.{◌≡◌, ℕ, List}
use Rattle.dk_model.specs.declared.script.Line.{Line}
use Rattle.dk_model.specs.Worlds.{World}
use Rattle.dk_model.specs.Events.{Meaning}
use Rattle.dk_model.specs.Scripts.{IsScript, IsBadLine}
use Rattle.dk_model.specs.Transcripts.{DecidesOneTranscript}

-- no text is two scripts, is a script and has a bad line, or has two
pub record HasOneReading (bytes : List ℕ) : Type 0 where
  pub one_script : (p q : List (List Line)) → IsScript bytes p → IsScript bytes q → p ≡ q
  pub not_both : (p : List (List Line)) (line : ℕ) → IsScript bytes p → IsBadLine bytes line → ⊥
  pub one_line : (line other : ℕ) → IsBadLine bytes line → IsBadLine bytes other → line ≡ other

-- all bytes have one reading as a script
abbrev pub ScriptsAreRead : Type 0
ScriptsAreRead = (bytes : List ℕ) → HasOneReading bytes

-- where each run is committed before the next is claimed, the rules, the opening world and the script alone decide the transcript
abbrev pub OneWorkerDecides : Type 0
OneWorkerDecides = (rules : Meaning) (opening : World) (script : List (List Line)) → DecidesOneTranscript rules opening script
