use Rattle.std.proofs.Common.{◌∙◌, length}
use Rattle.std.proofs.lemmas.List.{append-nil}
use Rattle.std.specs.Int.{w32}
use Rattle.dk_types.specs.Fields.{u32_spelling}
use Rattle.dk_journal.proofs.Endian.{big_bytes-is}
use Rattle.dk_journal.proofs.writing.length_field.Goals as goal

pub returns : goal.returns
unfolding u32_spelling
returns c = c.write_u32.ensures ∙ append-nil _ ∙ big_bytes-is w32 (length c.args.payload.now)
