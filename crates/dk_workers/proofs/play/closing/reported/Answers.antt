use Rattle.std.proofs.Common.{◌≡◌, ℕ, [], ◌∷◌, List, Result, IfOk, IsTrue, rules, subst, ◌∙◌}
use Rattle.dk_model.specs.Phases.{phases_of}
use Rattle.dk_model.specs.Transcripts.{transcript_text}
use Rattle.dk_workers.specs.Played.{IsCounted, IsSettled}
use Rattle.dk_workers.specs.declared.play.closing.Staged.{Staged}
use Rattle.dk_workers.specs.declared.play.fault.PlayFault.{PlayFault}
use Rattle.dk_workers.proofs.Closing.{fault_text, whole_text}
use Rattle.dk_workers.proofs.play.closing.reported.Goals as goal

pub returns-in-Err : goal.returns-in-Err
returns-in-Err g c =
    let k = c.args.closed.now in
    let o = g.W.Hosting.opened in
    let script = c.args.script.now in
    let settled = subst (λ (r : Result Staged PlayFault). IsSettled c.args.asked o c.args.workers ([] ∷ script) (λ (s : Staged). s.marks.items) (λ (s : Staged). s.saved) k.history r) c.in-Err.is c.requires.settled in
    fault_text o c.args.workers c.args.asked script k.history k.faults k.first k.epoch c.args.before (g.M.Home.counted k.home) (λ (s : Staged). s.marks.items) (λ (s : Staged). s.saved) ([] ∷ script) c.in-Err.fault c.counted.result (c.is_stopped_alone.ensures.not_so c.if-is_stopped_alone.false) settled
    (subst (λ (n : ℕ). IsCounted c.args.before n c.in-Err.fault c.counted.result) c.faults-after.ensures c.counted.ensures)

pub returns : goal.returns
returns g c =
    let k = c.args.closed.now in
    let o = g.W.Hosting.opened in
    let script = c.args.script.now in
    let staged = c.in-Ok.staged in
    let r = c.text_of.result in
    let events = c.as_slice.result.now in
    let settled = subst (λ (x : Result Staged PlayFault). IsSettled c.args.asked o c.args.workers ([] ∷ script) (λ (s : Staged). s.marks.items) (λ (s : Staged). s.saved) k.history x) c.in-Ok.is c.requires.settled in
    let is : IsTrue c.shows.result = search rules in
    whole_text o c.args.workers c.args.asked script k.history k.faults k.first k.epoch c.args.before (g.M.Home.counted k.home) staged.marks.items staged.saved k.commits k.tasks events r settled c.requires.commits c.requires.tasks c.in-None.is (c.shows.ensures is)
    (c.as_slice.ensures.value ∙ c.requires.kept) c.text_of.ensures.kept
    (subst (λ (ms : List ℕ). IfOk r (λ text. text ≡ transcript_text (phases_of events ms) k.commits k.tasks)) c.as_slice-2.ensures.value c.text_of.ensures.text) c.text_of.ensures.fault
