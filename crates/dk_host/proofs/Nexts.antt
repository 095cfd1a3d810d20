-- The commit that comes next.
use Rattle.std.proofs.Common.{◌≡◌, ℕ, ◌+◌, ◌<◌, ◌^◌, List, [], ◌∷◌, ◌++◌, length, refl, sym, ap, subst, ◌∙◌}
use Rattle.dk_types.specs.declared.event.Event.{Event}
use Rattle.dk_types.specs.declared.durable.Entry.{Entry}
use Rattle.dk_model.specs.DurableWorlds.{DurableWorld}
use Rattle.dk_model.specs.Effects.{after}
use Rattle.dk_model.specs.Entries.{AreEntries, entries_spelling}
use Rattle.dk_model.specs.Finishes.{Report, step_report}
use Rattle.dk_model.specs.Lawful.{AreLawful}
use Rattle.dk_model.specs.Legal.{Opened, opening_of, world_after, IsLegal, commits_of}
use Rattle.dk_model.specs.Recovered.{IsNext, Takes}
use Rattle.dk_model.specs.Steps.{Stepped, step}
use Rattle.dk_model.specs.Tails.{MayCommit}
use Rattle.dk_model.specs.Worlds.{World, Claim}
use Rattle.dk_laws.proofs.Between.{commits_change, valid_on}
use Rattle.dk_laws.proofs.OneWorld.{event_leads, events_lead, after_events-append}
use Rattle.dk_laws.proofs.Sound.{IsSound}
use Rattle.dk_laws.proofs.SoundCommits.{claim_ready}
use Rattle.dk_laws.proofs.SoundHistories.{history_sound}
use Rattle.dk_commit_laws.specs.EntryOfStep.{entry_of}
use Rattle.dk_commit_laws.proofs.Nexts.{entries_next}
use Rattle.dk_commit_laws.proofs.Payloads.{entries_spelled}
use Rattle.dk_txn.specs.declared.finished.Finished.{Finished}
use Rattle.dk_txn.specs.Finishes.{report}
use Rattle.dk_core.specs.declared.claimed.Claimed.{Claimed}
use Rattle.dk_core.specs.declared.prepared.Prepared.{Prepared}
use Rattle.dk_host.specs.Calls.{Stands}
use Rattle.dk_host.specs.Commits.{IsPreparedAt}
use Rattle.dk_host.specs.Steps.{TellsStep}
use Rattle.dk_host.specs.Stores.{IsNextCommit, commit_of}

-- the last world of a legal history is sound
pub sound : (o : Opened) (events : List Event) → AreLawful o.rules → IsLegal o events → IsSound (world_after o events)
sound o events lawful legal =
    subst IsSound (events_lead o.rules (opening_of o) events legal.history.last legal.history.leads) (history_sound o.rules o.durable o.budget events legal.history.last lawful legal.valid legal.within legal.history.leads)

-- a claim that stands, whose run tells its step and is prepared, has its commit next
module _ (o : Opened) (events : List Event) (claimed : Claimed) (f : Finished) (p : Prepared) (lawful : AreLawful o.rules) (legal : IsLegal o events) (stands : Stands o events claimed) (tells : TellsStep o events claimed f) (prepared : IsPreparedAt o events claimed f p) where
  abbrev w : World
  w = world_after o events

  abbrev claim : Claim
  claim = record { pass = claimed.pass; job = claimed.job; at = claimed.at }

  abbrev s : Stepped
  s = step o.rules claimed.job claimed.run claimed.at w.durable

  entry_is : p.entry ≡ entry_of w.durable claimed.run s
  entry_is = prepared.entry ∙ (λ i. record { seq = w.durable.commits + 1; run = claimed.run; effects = (tells i).effects })

  may_commit : MayCommit o events (commit_of claimed f p)
  may_commit = (refl, (_, (claim, stands, refl, ap (λ (e : Entry). e.seq) prepared.entry, ap (λ (t : Report). t.outcome) tells, refl)))

  world_is : (world_after o (events ++ commit_of claimed f p ∷ [])).durable ≡ s.world
  unfolding may_commit
  world_is = ap (λ (x : World). x.durable) (after_events-append o.rules (opening_of o) events (commit_of claimed f p ∷ [])) ∙ ap (λ (x : World). x.durable) (sym (event_leads o.rules w (commit_of claimed f p) may_commit.1.0 may_commit.1.1))

  pub next_commit : IsNextCommit o events claimed f p
  next_commit =
      let ready = claim_ready w claimed.run claim (sound o events lawful legal) stands in
      let valid = (sound o events lawful legal).valid in
      let fits = entries_next o.rules claimed.job claimed.run claimed.at w.durable lawful valid ready in
      let spelled = entries_spelled o.rules claimed.job claimed.run claimed.at w.durable lawful valid ready in record {
        prepared = prepared;
        tells = tells;
        may = may_commit;
        world = world_is ∙ sym fits.1 ∙ ap (λ (e : Entry). after e w.durable) (sym entry_is);
        next = subst (IsNext w.durable) (sym entry_is) fits.0;
        spelled = subst (λ (e : Entry). AreEntries 2 (e ∷ [])) (sym entry_is) spelled.0;
        short = subst (λ (e : Entry). length (entries_spelling (e ∷ [])) < 2 ^ 32) (sym entry_is) spelled.1;
      }

-- and where no commit came since, it is next still
module _ (o : Opened) (events more : List Event) (claimed : Claimed) (f : Finished) (p : Prepared) (lawful : AreLawful o.rules) (none : commits_of more ≡ 0) where
  pub durable_on : (world_after o (events ++ more)).durable ≡ (world_after o events).durable
  durable_on = (commits_change o.rules (opening_of o) events more lawful none).durable

  pub prepared_on : IsPreparedAt o events claimed f p → IsPreparedAt o (events ++ more) claimed f p
  prepared_on is = record {
    stand = (valid_on o.rules (opening_of o) events more f.reads.items lawful none is.stand).0;
    messages = is.messages;
    entry = is.entry ∙ (λ i. record { seq = (sym durable_on i).commits + 1; run = claimed.run; effects = f.effects });
  }

  pub tells_on : TellsStep o events claimed f → TellsStep o (events ++ more) claimed f
  tells_on tells = subst (λ (d : DurableWorld). report f ≡ step_report d (step o.rules claimed.job claimed.run claimed.at d)) (sym durable_on) tells

-- the payload of its entry takes the world to the one after it
pub takes : (o : Opened) (events : List Event) (claimed : Claimed) (f : Finished) (p : Prepared) → (next : IsNextCommit o events claimed f p) → (payload : List ℕ) → payload ≡ entries_spelling (p.entry ∷ [])
    → Takes 2 (world_after o events).durable payload (world_after o (events ++ commit_of claimed f p ∷ [])).durable
takes o events claimed f p next payload bytes = record {
  entries = p.entry ∷ [];
  spelled = record { are = next.spelled; bytes = bytes };
  follow = (next.next, sym next.world);
}
