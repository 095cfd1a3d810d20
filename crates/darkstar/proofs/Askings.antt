-- What words ask for.
use Rattle.std.proofs.Common.{◌≡◌, ◌∙◌, ℕ, List, Result, Err, sym, ap, subst}
use Rattle.dk_command.specs.declared.command.Command.{Command}
use Rattle.dk_command.specs.declared.parse.CommandRefused.{CommandRefused}
use Rattle.dk_command.specs.declared.parse.CommandRefused.TheVariants.{Usage, NoMemory}
use Rattle.dk_command.specs.Commands.{IsCommandLine, IsCommandOf}
use Rattle.dk_command.specs.Requests.{Asks, Playing, Plays, Report, Reports, Request, Serves, Serving, Stresses, Stressing, request_of}
use Rattle.darkstar.specs.Reports.{ForReport}
use Rattle.darkstar.specs.Runs.{ForPlay}
use Rattle.darkstar.specs.Serves.{ForServe}
use Rattle.darkstar.specs.StressText.{ForStress}
use Rattle.dk_command.specs.declared.command.Command.TheVariants as command

-- words that ask for something are a command line
pub asks_line : (words : List (List ℕ)) (request : Request) → Asks words request → IsCommandLine words
unfolding IsCommandOf
asks_line words request asks = asks.1.0

-- the one report that the words ask for
pub for_report : (words : List (List ℕ)) (mine : Report) (command : Command) → ((request : Request) → Asks words request → request_of command ≡ request) → request_of command ≡ Reports mine → (P : Report → Type 0) → P mine → ForReport words P
for_report words mine command one is P has report asks = let e : Reports mine ≡ Reports report = sym is ∙ one (Reports report) asks in let same : mine ≡ report = cc in subst P same has

-- the one play that the words ask for
pub for_play : (words : List (List ℕ)) (mine : Playing) (command : Command) → ((request : Request) → Asks words request → request_of command ≡ request) → request_of command ≡ Plays mine → (P : Playing → Type 0) → P mine → ForPlay words P
for_play words mine command one is P has play asks = let e : Plays mine ≡ Plays play = sym is ∙ one (Plays play) asks in let same : mine ≡ play = cc in subst P same has

-- the one `stress` that the words ask for
pub for_stress : (words : List (List ℕ)) (mine : Stressing) (command : Command) → ((request : Request) → Asks words request → request_of command ≡ request) → request_of command ≡ Stresses mine → (P : Stressing → Type 0) → P mine → ForStress words P
for_stress words mine command one is P has stress asks = let e : Stresses mine ≡ Stresses stress = sym is ∙ one (Stresses stress) asks in let same : mine ≡ stress = cc in subst P same has

-- the one server that the words ask for
pub for_serve : (words : List (List ℕ)) (mine : Serving) (command : Command) → ((request : Request) → Asks words request → request_of command ≡ request) → request_of command ≡ Serves mine → (P : Serving → Type 0) → P mine → ForServe words P
for_serve words mine command one is P has serve asks = let e : Serves mine ≡ Serves serve = sym is ∙ one (Serves serve) asks in let same : mine ≡ serve = cc in subst P same has

-- words ask for one thing: where it is this, they ask for no play that is another, and so on
pub ask_once : (words : List (List ℕ)) (mine other : Request) (command : Command) → ((request : Request) → Asks words request → request_of command ≡ request) → request_of command ≡ mine → Asks words other → mine ≡ other
ask_once words mine other command one is asks = sym is ∙ one other asks

-- words that are no command line ask for nothing
pub no_request : (words : List (List ℕ)) → ¬ IsCommandLine words → (request : Request) → Asks words request → ⊥
no_request words outside request asks = outside (asks_line words request asks)

-- words that were refused as no command
pub refused_line : (words : List (List ℕ)) (e : CommandRefused) → e ≡ Usage
    → ((◌≡◌ {A = Result Command CommandRefused} (Err e) (Err NoMemory) → ⊥) → (◌≡◌ {A = Result Command CommandRefused} (Err e) (Err Usage) → ¬ IsCommandLine words) × (¬ IsCommandLine words → ◌≡◌ {A = Result Command CommandRefused} (Err e) (Err Usage)))
    → ¬ IsCommandLine words
refused_line words e is usage = (usage (λ no. let same : e ≡ NoMemory = cc in cc)).0 (ap Err is)
