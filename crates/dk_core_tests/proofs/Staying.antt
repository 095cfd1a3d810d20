-- What stays of a claim while other passes call.
use Rattle.std.proofs.Common.{◌≡◌, ◌≢◌, ℕ, ◌+◌, arith, [], ◌∷◌, ◌++◌, refl, sym, ap, ◌∙◌}
use Rattle.std.specs.FinMap.{get}
use Rattle.dk_types.specs.declared.event.Event.{Event}
use Rattle.dk_model.specs.Worlds.{World}
use Rattle.dk_model.specs.Events.{Meaning}
use Rattle.dk_model.specs.Lawful.{AreLawful}
use Rattle.dk_model.specs.Legal.{pass_of}
use Rattle.dk_model.specs.Openings.{opening}
use Rattle.dk_laws.proofs.LaterOn.{claims_stand}
use Rattle.dk_laws.proofs.OneWorld.{events_lead}
use Rattle.dk_core.specs.declared.world.Core.{Core}
use Rattle.dk_core.specs.declared.claimed.Claimed.{Claimed}
use Rattle.dk_core.specs.Cores.{world_of, Adds, KeepsReady}
use Rattle.dk_core_tests.specs.Between.{IsBeside, KeepsBeside}

pub ready_then : (a b c : Core) → KeepsReady a b → KeepsReady b c → KeepsReady a c
ready_then a b c p q = record { seen = λ item. q.seen item ∙ p.seen item; commits = q.commits ∙ p.commits; room = q.room ∙ p.room }

pub keeps_then : (rules : Meaning) (a b c : Core) (held : Claimed) → KeepsBeside rules a b held → KeepsBeside rules b c held → KeepsBeside rules a c held
keeps_then rules a b c held p q = record { beside = q.beside; ready = ready_then a b c p.ready q.ready }

-- a claim stands after an event of another pass
pub beside_then : (rules : Meaning) → AreLawful rules → (old new : Core) (e : Event) (held : Claimed) → pass_of e ≢ held.pass → IsBeside rules old held → Adds old new (e ∷ []) → KeepsReady old new
    → KeepsBeside rules old new held
beside_then rules lawful old new e held apart b adds ready =
    let s = b.standing in
    let w = opening s.opened s.budget in
    let n = adds rules s.opened s.budget s.events lawful s.stands in
    let before : world_of old ≡ _ = events_lead rules w s.events (world_of old) s.stands.leads in
    let after : world_of new ≡ _ = events_lead rules w (s.events ++ e ∷ []) (world_of new) n.leads in
    record {
      beside = record {
        standing = record { opened = s.opened; budget = s.budget; events = s.events ++ e ∷ []; stands = n };
        granted = ap (λ (x : World). get x.claims held.run) after
            ∙ claims_stand (record { rules = rules; durable = s.opened; budget = s.budget }) s.events (s.events ++ e ∷ []) held.run (record { pass = held.pass; job = held.job; at = held.at })
            (record { later = e ∷ []; all = refl; others = (apart, tt) }) (record { valid = n.valid; within = n.within; history = record { last = world_of new; leads = n.leads } })
            (ap (λ (x : World). get x.claims held.run) (sym before) ∙ b.granted);
      };
      ready = ready;
    }

-- an event of any pass may be taken as another's
pub after_any : (rules : Meaning) → AreLawful rules → (old new : Core) (held : Claimed) (e : ℕ → Event) → ((pass : ℕ) → pass_of (e pass) ≡ pass) → IsBeside rules old held → ((pass : ℕ) → Adds old new (e pass ∷ [])) → KeepsReady old new
    → KeepsBeside rules old new held
after_any rules lawful old new held e own b adds ready =
    beside_then rules lawful old new (e (held.pass + 1)) held (λ same. let at : held.pass + 1 ≡ held.pass = sym (own (held.pass + 1)) ∙ same in absurd (omega (arith, at))) b (adds (held.pass + 1)) ready
