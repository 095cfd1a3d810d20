-- What a refusal of a script says.
use Rattle.std.specs.Prelude.{ℕ, Result, Ok, Err}
use Rattle.dk_script.specs.declared.script.ScriptRefused.{ScriptRefused}
use Rattle.dk_script.specs.declared.script.ScriptRefused.TheVariants as refused

-- where a line is told, this holds of its number
abbrev pub IfBadLine : {T : Type 0} → Result T ScriptRefused → (ℕ → Type 0) → Type 0
IfBadLine (Ok script) P = Unit {0}
IfBadLine (Err (refused.BadLine line)) P = P line
IfBadLine (Err refused.NoMemory) P = Unit {0}
