-- What the words ask for, of what the program does.
use Rattle.std.specs.Prelude.{ℕ, ◌+◌, List, Some, None, false, string_bytes}
use Rattle.dk_command.specs.Requests as requests
use Rattle.darkstar.specs.declared.report.Kind.{Kind}
use Rattle.darkstar.specs.declared.report.Kind.TheVariants as kind
use Rattle.darkstar.specs.declared.report.Report.{Report}
use Rattle.darkstar.specs.declared.play_command.Terms.{Terms}
use Rattle.darkstar.specs.declared.serve_command.Service.{Service}
use Rattle.darkstar.specs.declared.asked.Asked.{Asked}
use Rattle.darkstar.specs.declared.asked.Asked.TheVariants as it
use Rattle.dk_command.specs.Games.{word_of}
use Rattle.darkstar.specs.Games.{rules_of}
use Rattle.darkstar.specs.Runs.{PlayTerms}

-- which line it writes
abbrev pub kind_of : Kind → requests.ReportKind
kind_of kind.Check = requests.Checks
kind_of kind.Inspect = requests.Inspects

-- what was asked for
abbrev pub asked : Report → requests.Report
asked report = record { kind = kind_of report.kind; dir = string_bytes report.dir; game = report.game }

-- the terms of a play in this folder
abbrev pub play_of : List ℕ → Terms → requests.Playing
play_of dir terms = record { dir = dir; game = terms.game; workers = terms.workers; budget = terms.budget; checkpoint = terms.checkpoint }

-- the same, by what its game means
abbrev pub terms_for : Terms → PlayTerms
terms_for terms = record { game = word_of terms.game; rules = rules_of terms.game; budget = Some terms.budget; workers = terms.workers; checkpoint = terms.checkpoint }

-- a server on this folder
abbrev pub serving_of : List ℕ → Service → requests.Serving
serving_of dir service = record { dir = dir; port = service.terms.port; game = service.game; workers = service.terms.workers; clients = service.terms.clients; sessions = service.terms.sessions }

-- how it goes
abbrev pub service_for : Service → PlayTerms
service_for service = record { game = word_of service.game; rules = rules_of service.game; budget = None; workers = service.terms.workers + 2; checkpoint = false }

-- the request that is done
abbrev pub request_for : Asked → requests.Request
request_for (it.Play dir terms) = requests.Plays (play_of (string_bytes dir) terms)
request_for (it.Serve dir service) = requests.Serves (serving_of (string_bytes dir) service)
request_for (it.Report report) = requests.Reports (asked report)
request_for (it.Stress seed tasks workers) = requests.Stresses (record { seed = seed; tasks = tasks; workers = workers })
