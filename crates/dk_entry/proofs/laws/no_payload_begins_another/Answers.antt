use Rattle.dk_types.proofs.ExactLaws.{prefix_free}
use Rattle.dk_model.specs.Entries.{AreEntries, entries_spelling, entries_at}
use Rattle.dk_entry.specs.EntryLaws.{entries_exact}
use Rattle.dk_entry.proofs.laws.no_payload_begins_another.Goals as goal

pub returns : goal.returns
returns c format = prefix_free (AreEntries format) entries_spelling (entries_at format) (entries_exact format)
