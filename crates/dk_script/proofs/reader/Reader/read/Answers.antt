use Rattle.std.proofs.Common.{sym, subst, ◌∙◌}
use Rattle.std.proofs.lemmas.Bool.{false≢true}
use Rattle.dk_model.specs.declared.script.Line.TheVariants as line
use Rattle.dk_model.specs.Scripts.{Spoken, Does, MaySay}
use Rattle.dk_script.specs.Reading.{names_of}
use Rattle.dk_script.proofs.SpokenLines.{Says-once}
use Rattle.dk_script.proofs.reader.Reader.read.Goals as goal

pub returns-in-Some-Send-clause-refused : goal.returns-in-Some-Send-clause-refused
returns-in-Some-Send-clause-refused c = λ refused said says may.
    let found = rw c.in-Some-Send.field-0-is at c.in-Some-Send.ensures.found in
    let same = Says-once c.args.line.now said (Does (line.Send c.in-Some-Send.name.now c.in-Some-Send.text.now)) says found in
    false≢true (sym (c.send.ensures.refused refused) ∙ subst (λ (s : Spoken). MaySay (names_of c.args.self.now) s) same may)

pub returns-in-Some-Channel-clause-refused : goal.returns-in-Some-Channel-clause-refused
returns-in-Some-Channel-clause-refused c = λ refused said says may.
    let found = rw c.in-Some-Channel.field-0-is at c.in-Some-Channel.ensures.found in
    let same = Says-once c.args.line.now said (Does (line.Channel c.in-Some-Channel.name.now c.in-Some-Channel.channel.now c.in-Some-Channel.text.now)) says found in
    false≢true (sym (c.send_on.ensures.refused refused) ∙ subst (λ (s : Spoken). MaySay (names_of c.args.self.now) s) same may)
