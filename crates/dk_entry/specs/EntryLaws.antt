-- Effects, entries and payloads of entries are read exactly.
use Rattle.std.proofs.Common.{◌≡◌, ℕ, true, Option, refl, arith}
use Rattle.std.proofs.lemmas.Bool.{ltb-true}
use Rattle.dk_types.specs.declared.durable.Effects.{Effects}
use Rattle.dk_types.specs.declared.durable.Entry.{Entry}
use Rattle.dk_types.specs.declared.limits.TheConstants.{NUMBERS_END}
use Rattle.dk_types.specs.Fields.{IsU64}
use Rattle.dk_types.specs.Exact.{IsExact}
use Rattle.dk_types.proofs.Composing.{then_exact, last_exact, checked_exact}
use Rattle.dk_types.proofs.NextLaws.{next_u64_exact}
use Rattle.dk_types.proofs.ListLaws.{list_exact}
use Rattle.dk_model.specs.Entries.{AreEffects, effects_spelling, effects_at, is_seq, is_run, IsEntry, entry_spelling, entry_at, is_some_entry, AreEntries, entries_spelling, entries_at}
use Rattle.dk_entry.specs.ItemLaws.{object_exact, id_item_exact, binding_exact, name_item_exact}
use Rattle.dk_entry.specs.TaskLaws.{pending_exact, key_item_exact, moved_exact}

-- reading effects takes back what their bytes say, and nothing else
pub effects_exact : (format : ℕ) → IsExact (AreEffects format) effects_spelling (effects_at format)
unfolding effects_at
effects_exact format =
    then_exact (λ (e : Effects). e.written) _ (list_exact (object_exact format)) (λ e is. is.written) (λ written a.
    then_exact (λ (e : Effects). e.removed) _ (list_exact id_item_exact) (λ e is. is.0.removed) (λ removed b.
    then_exact (λ (e : Effects). e.bound) _ (list_exact binding_exact) (λ e is. is.0.0.bound) (λ bound c.
    then_exact (λ (e : Effects). e.unbound) _ (list_exact name_item_exact) (λ e is. is.0.0.0.unbound) (λ unbound d.
    then_exact (λ (e : Effects). e.added) _ (list_exact (pending_exact format)) (λ e is. is.0.0.0.0.added) (λ added f.
    then_exact (λ (e : Effects). e.dropped) _ (list_exact key_item_exact) (λ e is. is.0.0.0.0.0.dropped) (λ dropped g.
    last_exact (λ (e : Effects). e.requeued) (λ requeued. record { written = written; removed = removed; bound = bound; unbound = unbound; added = added; dropped = dropped; requeued = requeued }) (list_exact moved_exact) (λ e is. is.0.0.0.0.0.0.requeued)
    (λ requeued h. ((((((record { written = a; removed = b; bound = c; unbound = d; added = f; dropped = g; requeued = h }, refl), refl), refl), refl), refl), refl)) (λ requeued. refl)
    (λ e is i. record { written = is.0.0.0.0.0.1 i; removed = is.0.0.0.0.1 i; bound = is.0.0.0.1 i; unbound = is.0.0.1 i; added = is.0.1 i; dropped = is.1 i; requeued = e.requeued })))))))

run_small : (run : ℕ) → is_run run ≡ true → IsU64 run
run_small run is = omega (arith, ltb-true run NUMBERS_END is)

-- the same of an entry
pub entry_exact : (format : ℕ) → IsExact (IsEntry format) entry_spelling (entry_at format)
unfolding entry_at
entry_exact format =
    then_exact (λ (e : Entry). e.seq) _ (checked_exact is_seq next_u64_exact) (λ e is. (is.seq, is.counted)) (λ seq fits.
    then_exact (λ (e : Entry). e.run.0) _ (checked_exact is_run next_u64_exact) (λ e is. (run_small e.run.0 is.0.run, is.0.run)) (λ run small.
    last_exact (λ (e : Entry). e.effects) (λ effects. record { seq = seq; run = record { 0 = run }; effects = effects }) (effects_exact format) (λ e is. is.0.0.effects)
    (λ effects are. ((record { seq = fits.0; counted = fits.1; run = small.1; effects = are }, refl), refl)) (λ effects. refl)
    (λ e is i. record { seq = is.0.1 i; run = record { 0 = is.1 i }; effects = e.effects })))

-- the same of an entry in a list
pub each_entry_exact : (format : ℕ) (before : Option Entry) → IsExact (IsEntry format) entry_spelling (entry_at format)
each_entry_exact format before = entry_exact format

-- the same of a payload of entries
pub entries_exact : (format : ℕ) → IsExact (AreEntries format) entries_spelling (entries_at format)
unfolding entries_at
entries_exact format = checked_exact is_some_entry (list_exact (each_entry_exact format))
