-- The payload of one entry.
use Rattle.std.proofs.Common.{◌≡◌, ◌≤◌, ℕ, length, arith, [], ◌∷◌, ◌++◌, ap, sym}
use Rattle.std.proofs.lemmas.List.{append-nil}
use Rattle.dk_types.specs.declared.durable.Effects.{Effects}
use Rattle.dk_types.specs.declared.durable.Entry.{Entry}
use Rattle.dk_types.specs.declared.number.RunNo.{RunNo}
use Rattle.dk_types.specs.Fields.{u32_spelling, u64_spelling}
use Rattle.dk_types.specs.Lists.{list_spelling}
use Rattle.dk_model.specs.Entries.{entry_spelling, entries_spelling}
use Rattle.dk_entry.specs.Drafts.{numbered}

-- one entry is spelled behind the count of one
pub spelled_alone : (e : Entry) → entries_spelling (e ∷ []) ≡ u32_spelling 1 ++ entry_spelling e
unfolding list_spelling
spelled_alone e = ap (λ bytes. u32_spelling 1 ++ bytes) (append-nil (entry_spelling e))

-- a draft with a number is the spelling of the entry of that number
pub numbered_alone : (seq : ℕ) (run : RunNo) (effects : Effects) → numbered seq (u32_spelling 1 ++ entry_spelling (record { seq = 0; run = run; effects = effects })) ≡ entries_spelling (record { seq = seq; run = run; effects = effects } ∷ [])
unfolding u32_spelling u64_spelling
numbered_alone seq run effects = sym (spelled_alone (record { seq = seq; run = run; effects = effects }))

-- it has the place of the number
pub has_number : (e : Entry) → 12 ≤ length (u32_spelling 1 ++ entry_spelling e)
unfolding u32_spelling u64_spelling
has_number e = grind arith
