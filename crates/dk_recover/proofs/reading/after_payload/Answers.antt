use Rattle.std.proofs.Common.{List, subst}
use Rattle.dk_types.specs.declared.durable.Entry.{Entry}
use Rattle.dk_model.specs.Recovered.{Follow}
use Rattle.dk_recover.specs.Bytes.{AreBytes}
use Rattle.dk_recover.proofs.Spelled.{entries_bytes, entries_one, second_entries}
use Rattle.dk_recover.proofs.reading.after_payload.Goals as goal

pub after_entries-requires-clause-entries : goal.after_entries-requires-clause-entries
after_entries-requires-clause-entries c = second_entries c.args.format c.requires.format c.in-Ok.entries c.in-Ok.ensures.0

pub after_entries-requires-clause-bytes : goal.after_entries-requires-clause-bytes
after_entries-requires-clause-bytes c = entries_bytes c.in-Ok.entries (subst AreBytes c.in-Ok.ensures.1 c.are_bytes.ensures)

pub returns-in-Ok-clause-unfit : goal.returns-in-Ok-clause-unfit
returns-in-Ok-clause-unfit c wrong last takes =
    let same = entries_one c.args.format c.in-Ok.entries takes.entries c.args.payload.now c.in-Ok.ensures.0 c.in-Ok.ensures.1 takes.spelled in
    c.after_entries.ensures.unfit (cc) last (subst (λ (es : List Entry). Follow c.args.world es last) same takes.follow)
