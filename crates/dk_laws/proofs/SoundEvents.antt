-- Each event leaves a sound world sound.
use Rattle.std.proofs.Common.{ℕ, ◌+◌, ◌<◌, drop, List, [], ◌∷◌, refl, sym, subst, arith}
use Rattle.std.specs.List.{AllByRecursion}
use Rattle.std.proofs.lemmas.List.Elements.{All-drop}
use Rattle.dk_types.specs.declared.number.ConnNo.{ConnNo}
use Rattle.dk_types.specs.declared.limits.TheConstants.{NUMBERS_END}
use Rattle.dk_types.specs.declared.event.Event.{Event}
use Rattle.dk_types.specs.declared.event.Event.TheVariants as event
use Rattle.dk_types.specs.declared.event.ConnectReply.TheVariants as connected
use Rattle.dk_types.specs.declared.event.PostReply.TheVariants as posted
use Rattle.dk_types.specs.declared.event.ClaimReply.TheVariants as claimed
use Rattle.dk_types.specs.Names.{IsName}
use Rattle.dk_model.specs.declared.waiting.Waiting.TheVariants as waits
use Rattle.dk_model.specs.Worlds.{World, new_connection}
use Rattle.dk_model.specs.Deliveries.{change_connection, without_done}
use Rattle.dk_model.specs.Events.{Meaning, Happens, swept, with_connection, with_handed, ticked, put_last}
use Rattle.dk_model.specs.Histories.{Leads}
use Rattle.dk_model.specs.Lawful.{HasShortBody, AreLawful, IsWithinLimits}
use Rattle.dk_laws.proofs.OpenClaims.{TheClaims}
use Rattle.dk_laws.proofs.Sound.{IsSpent, IsSound, sound_with}
use Rattle.dk_laws.proofs.SoundConnections.{insert_sound, change_sound, outbox_sound, swept_sound, put_sound, new_sound}
use Rattle.dk_laws.proofs.SoundClaims.{pick_claimable, sound_claim, sound_release}
use Rattle.dk_laws.proofs.SoundCommits.{sound_commit}

-- connections that are done go
pub sound_swept : (w : World) → IsSound w → IsSound (swept w)
sound_swept w s = sound_with (without_done w.connections) (swept_sound w.connections s.connections) s

-- a spent number is spent once another was drawn
pub spent_more : (claims : TheClaims) (next n : ℕ) → IsSpent claims next n → IsSpent claims (next + 1) n
spent_more claims next n p = let drawn = p.drawn in record { drawn = omega arith; closed = p.closed }

sound_connect : (w : World) (name : List ℕ) → IsSound w → w.next < NUMBERS_END → IsName name → IsSound (with_connection w name)
sound_connect w name s few is =
    let last = s.last in record {
      valid = s.valid;
      moment = s.moment;
      numbers = omega arith;
      last = omega arith;
      counted = s.counted;
      objects = λ id object e. spent_more w.claims w.next id.run.0 (s.objects id object e);
      tasks = λ key task e. spent_more w.claims w.next key.run.0 (s.tasks key task e);
      claims = λ run claim e. let c = s.claims run claim e in let number = c.number in record {
        number = omega arith;
        job = c.job;
        due = c.due;
        moment = c.moment;
        own = c.own;
        spent = λ key own. spent_more w.claims w.next key.run.0 (c.spent key own);
        alone = c.alone;
      };
      connections = insert_sound w.connections (record { 0 = w.next }) (new_connection name w.next) s.connections (new_sound name w.next (record { 0 = w.next }) few is);
    }

sound_tick : (w : World) (moment : ℕ) → IsSound w → IsSound (ticked w moment)
sound_tick w moment s = let now = s.moment in record {
  valid = s.valid;
  moment = omega arith;
  numbers = s.numbers;
  last = s.last;
  counted = s.counted;
  objects = s.objects;
  tasks = s.tasks;
  claims = s.claims;
  connections = s.connections;
}

sound_hand : (w : World) (conn : ConnNo) (most : ℕ) → IsSound w → IsSound (with_handed w conn most)
sound_hand w conn most s =
    sound_with (change_connection conn (λ c. record c { outbox = drop most c.outbox }) w.connections) (change_sound conn (λ c. record c { outbox = drop most c.outbox }) w.connections s.connections (λ c h. outbox_sound (record c { outbox = drop most c.outbox }) refl refl (All-drop HasShortBody most c.outbox h.outbox) h)) s

-- what an event leads to
pub happens_sound : (rules : Meaning) → AreLawful rules → (w : World) (e : Event) (after : World) → IsSound w → IsWithinLimits e → Happens rules w e after → IsSound after
happens_sound rules lawful w (event.Connect pass name (connected.Number conn)) after s is h = subst IsSound (sym h.2) (sound_swept (with_connection w name) (sound_connect w name s h.0 is))
happens_sound rules lawful w (event.Connect pass name (connected.Exhausted next)) after s is h = subst IsSound (sym h.2) s
happens_sound rules lawful w (event.Post pass conn x posted.Taken) after s is h =
    subst IsSound (sym h.2) (sound_swept _ (sound_with (change_connection conn (put_last (waits.Input x)) w.connections) (change_sound conn (put_last (waits.Input x)) w.connections s.connections (put_sound (waits.Input x) is conn)) s))
happens_sound rules lawful w (event.Post pass conn x posted.Closed) after s is h = subst IsSound (sym h.1) s
happens_sound rules lawful w (event.Post pass conn x (posted.QueueFull waiting)) after s is h = subst IsSound (sym h.3) s
happens_sound rules lawful w (event.Claim pass (claimed.Granted run at j)) after s is h = subst IsSound (sym h.5) (sound_swept _ (sound_claim w pass j s h.2 (pick_claimable w s j h.0)))
happens_sound rules lawful w (event.Claim pass claimed.Nothing) after s is h = subst IsSound (sym h.1) s
happens_sound rules lawful w (event.Claim pass (claimed.Spent granted)) after s is h = subst IsSound (sym h.3) s
happens_sound rules lawful w (event.Claim pass (claimed.Exhausted next)) after s is h = subst IsSound (sym h.4) s
happens_sound rules lawful w (event.Release pass run) after s is h = subst IsSound (sym h.3) (sound_swept _ (sound_release w run s))
happens_sound rules lawful w (event.Commit pass run seq outcome) after s is h = subst IsSound (sym h.5) (sound_swept _ (sound_commit w run h.0 s h.1 rules lawful))
happens_sound rules lawful w (event.Hand pass conn most outs end) after s is h = subst IsSound (sym h.2) (sound_swept _ (sound_hand w conn most s))
happens_sound rules lawful w (event.Tick pass moment) after s is h = subst IsSound (sym h) (sound_swept _ (sound_tick w moment s))

-- and what events lead to
pub leads_sound : (rules : Meaning) → AreLawful rules → (w : World) (events : List Event) (after : World) → IsSound w → AllByRecursion IsWithinLimits events → Leads rules w events after → IsSound after
leads_sound rules lawful w [] after s is h = subst IsSound (sym h) s
leads_sound rules lawful w (e ∷ events) after s is h = leads_sound rules lawful h.0 events after (happens_sound rules lawful w e h.0 s is.0 h.1) is.1 h.2
