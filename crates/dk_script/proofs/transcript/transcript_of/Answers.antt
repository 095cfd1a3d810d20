use Rattle.std.proofs.Common.{ℕ, List, ◌∷◌, ◌++◌, [], sym, ap, ◌∙◌}
use Rattle.dk_model.specs.Lines.{text_of}
use Rattle.dk_model.specs.Phases.{phases_of}
use Rattle.dk_model.specs.Transcripts.{transcript_text, lines_of_phases, done_line, nothing_known}
use Rattle.dk_script.specs.Knowledge.{known_of}
use Rattle.dk_script.proofs.Written.{text_of-push}
use Rattle.dk_script.proofs.transcript.transcript_of.Goals as goal

pub returns : goal.returns
unfolding transcript_text
returns c =
    let phases = phases_of c.args.events.now c.args.marks.now in
    let done = done_line c.args.commits c.args.tasks in
    let begun = c.in_ok-push_phases.ensures.ok ∙ ap (λ (t : List ℕ). t ++ text_of (lines_of_phases 0 (known_of c.nothing-known.result) phases)) c.new-out.ensures.bytes ∙ ap (λ k. text_of (lines_of_phases 0 k phases)) c.nothing-known.ensures in
    c.from_vec.ensures ∙ ap (λ v. v.items) c.into_bytes.ensures.value ∙ c.in_ok-push_done.ensures.ok ∙ ap (λ (t : List ℕ). t ++ (done ++ 10 ∷ [])) begun ∙ sym (text_of-push (lines_of_phases 0 nothing_known phases) done)
