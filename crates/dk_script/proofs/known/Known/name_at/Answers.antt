use Rattle.std.proofs.Common.{ap, sym, ◌∙◌}
use Rattle.dk_model.specs.Transcripts.{name_or_none}
use Rattle.dk_script.proofs.NamesOf.{get-names_of}
use Rattle.dk_script.proofs.known.Known.name_at.Goals as goal

pub returns-in-None : goal.returns-in-None
returns-in-None c = c.as_slice.ensures ∙ ap name_or_none ((c.in-None.ensures).value ∙ sym (get-names_of _ c.args.conn))

pub returns-in-Some : goal.returns-in-Some
returns-in-Some c =
    c.as_slice-in-Some.ensures.value ∙ ap name_or_none ((c.in-Some.ensures).value ∙ sym (get-names_of _ c.args.conn))
