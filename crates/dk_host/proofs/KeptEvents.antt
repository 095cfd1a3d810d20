-- What is kept of a call is the event that it enters, and it finds a place.
use Rattle.std.proofs.Common.{◌≡◌, ◌&&◌, ℕ, ◌+◌, ◌-◌, ◌≤◌, ◌<◌, Bool, true, false, if◌then◌else◌, List, [], ◌∷◌, ◌++◌, length, Option, Some, None, Result, Ok, Err, take, refl, sym, ap, subst, ◌∙◌, arith, length-append}
use Rattle.dk_types.specs.declared.event.Event.{Event}
use Rattle.dk_types.specs.declared.event.Event.TheVariants as event
use Rattle.dk_types.specs.declared.event.ClaimReply.TheVariants as claimed
use Rattle.dk_types.specs.declared.event.PostReply.TheVariants as posted
use Rattle.dk_types.specs.declared.fault.NoMemory.{NoMemory}
use Rattle.dk_types.specs.declared.job.Input.{Input}
use Rattle.dk_types.specs.declared.job.Input.TheVariants as input
use Rattle.dk_types.specs.declared.job.Job.{Job}
use Rattle.dk_types.specs.declared.job.Out.{Out}
use Rattle.dk_types.specs.declared.number.ConnNo.{ConnNo}
use Rattle.dk_model.specs.declared.waiting.Waiting.TheVariants as waits
use Rattle.dk_model.specs.Deliveries.{is_disconnect}
use Rattle.dk_model.specs.Events.{is_open, outbox}
use Rattle.dk_model.specs.Legal.{Opened, world_after, IsLegal}
use Rattle.dk_model.specs.Picks.{pick}
use Rattle.dk_model.specs.Worlds.{World}
use Rattle.dk_connections.specs.declared.answers.Handed.{Handed}
use Rattle.dk_connections.specs.declared.answers.PostRefused.{PostRefused}
use Rattle.dk_connections.specs.declared.answers.PostRefused.TheVariants as post_refused
use Rattle.dk_core.specs.declared.claimed.Claimed.{Claimed}
use Rattle.dk_core.specs.declared.answers.ClaimRefused.{ClaimRefused}
use Rattle.dk_core.specs.declared.answers.ClaimRefused.TheVariants as claim_refused
use Rattle.dk_core.specs.declared.world.Core.{Core}
use Rattle.dk_core.specs.Cores.{world_of}
use Rattle.dk_host.specs.Books.{IsAt}
use Rattle.dk_host.specs.Calls.{post_events, claim_events, hand_events}
use Rattle.dk_host.specs.Kept.{kept_claim, kept_hand, granted_of, handed_of}
use Rattle.dk_host.specs.Keeping.{listed, begins_one, ends_one, new_places, owed_after, IsOwed, IsKeptAs}
use Rattle.dk_host.proofs.Owing.{happened, owed_on, owed_none, place_there}
use Rattle.dk_host.proofs.Stepping.{world_is}

-- ---- places

-- two places are enough for any event
pub room_for : (n : ℕ) → 2 ≤ n → (e : Event) → new_places e ≤ n
room_for n two e = by (ends_one e) (begins_one e)
  where
    by : (ends begins : Bool) → (if ends then 0 else if begins then 2 else 1) ≤ n
    by true begins = omega arith
    by false true = two
    by false false = omega arith

-- the one event of one or none
pub the_one : (o : Option Event) (e : Event) (events : List Event) → listed o ≡ events → o ≡ Some e → e ∷ [] ≡ events
the_one o e events is some = sym (ap listed some) ∙ is

and_false : (x : Bool) → (x && false) ≡ true → ⊥
and_false true is = absurd (cc is)
and_false false is = absurd (cc is)

-- a Disconnect of an open connection has its place
module _ (o : Opened) (before : List Event) (pass : ℕ) (conn : ConnNo) (open_there : is_open (world_after o before) conn ≡ true) (n : ℕ) (e : Event) where
  ending_room : (graceful : Bool) (r : Result (Unit {0}) PostRefused) → IsLegal o (before ++ post_events pass conn (input.Disconnect graceful) r) → e ∷ [] ≡ post_events pass conn (input.Disconnect graceful) r → new_places e ≤ n
  ending_room graceful (Ok done) legal is = let same : e ≡ event.Post pass conn (input.Disconnect graceful) posted.Taken = cc is in subst (λ x. new_places x ≤ n) (sym same) (omega arith)
  ending_room graceful (Err post_refused.Closed) legal is =
      let h = happened o before (event.Post pass conn (input.Disconnect graceful) posted.Closed) legal in let shut = h.0 in absurd (cc (shut, open_there))
  ending_room graceful (Err (post_refused.QueueFull waiting)) legal is =
      let h = happened o before (event.Post pass conn (input.Disconnect graceful) (posted.QueueFull waiting)) legal in absurd (and_false _ h.1)
  ending_room graceful (Err post_refused.NoMemory) legal is = absurd (cc is)

  pub post_room : (i : Input) (r : Result (Unit {0}) PostRefused) → is_disconnect (waits.Input i) ≡ true → IsLegal o (before ++ post_events pass conn i r) → e ∷ [] ≡ post_events pass conn i r → new_places e ≤ n
  post_room (input.Disconnect graceful) r ends legal is = ending_room graceful r legal is
  post_room (input.Message body) r ends legal is = absurd (cc ends)
  post_room (input.Channel channel body) r ends legal is = absurd (cc ends)

-- ---- copies

-- the job that was copied is the one that was granted
pub claim_kept : (o : Opened) (before : List Event) (c : Core) (pass : ℕ) (job : Option Job) (r : Result (Option Claimed) ClaimRefused) → IsAt o before c → pick (world_of c) ≡ job → IsLegal o (before ++ claim_events pass r)
    → kept_claim pass job r ≡ claim_events pass r
claim_kept o before c pass job (Ok (Some g)) at picked legal =
    let h = happened o before (event.Claim pass (claimed.Granted g.run g.at g.job)) legal in
    ap (λ j. granted_of pass j g) (sym picked ∙ ap pick (world_is o before c at) ∙ h.0)
claim_kept o before c pass job (Ok None) at picked legal = refl
claim_kept o before c pass job (Err (claim_refused.Spent granted)) at picked legal = refl
claim_kept o before c pass job (Err (claim_refused.Exhausted next)) at picked legal = refl
claim_kept o before c pass job (Err claim_refused.NoMemory) at picked legal = refl

-- the messages that were copied are those that were handed
pub hand_kept : (o : Opened) (before : List Event) (c : Core) (pass : ℕ) (conn : ConnNo) (most : ℕ) (outs : Option (List Out)) (r : Result Handed NoMemory) → IsAt o before c → outs ≡ Some (take most (outbox (world_of c) conn))
    → IsLegal o (before ++ hand_events pass conn most r) → kept_hand pass conn most outs r ≡ hand_events pass conn most r
hand_kept o before c pass conn most outs (Ok handed) at copied legal =
    let h = happened o before (event.Hand pass conn most handed.outs handed.end) legal in
    ap (λ x. handed_of pass conn most x handed) (copied ∙ ap (λ (w : World). Some (take most (outbox w conn))) (world_is o before c at)) ∙ ap (λ x. event.Hand pass conn most x handed.end ∷ []) (sym h.0)
hand_kept o before c pass conn most outs (Err refused) at copied legal = refl

-- ---- the history

-- no events yet
pub told_none : (o : Opened) (keeps : Bool) (events kept : List Event) (owed capacity : ℕ) → events ≡ [] → kept ≡ [] → owed ≡ 0 → IsKeptAs o keeps events kept owed capacity
told_none o keeps events kept owed capacity none empty zero = record {
  same = λ _. empty ∙ sym none;
  none = λ _. empty;
  owes = λ _. subst (λ (y : List Event × ℕ). IsOwed (world_after o y.0) y.1) (λ i. (sym none i, sym zero i)) (owed_none o);
  room = λ _. let no_length : length kept ≡ 0 = ap length empty in omega (arith, no_length, zero);
}

-- how many places an event leaves kept, and how many it takes
places_fit : (n : ℕ) (e : Event) (long capacity : ℕ) → (ends_one e ≡ true → 0 < n) → new_places e ≤ capacity - (long + n) → long + n ≤ capacity → (long + 1) + owed_after e n ≤ capacity
places_fit n e long capacity some spare fits = by (ends_one e) (begins_one e) some spare
  where
    by : (ends begins : Bool) → (ends ≡ true → 0 < n) → (if ends then 0 else if begins then 2 else 1) ≤ capacity - (long + n) → (long + 1) + (if ends then n - 1 else if begins then n + 1 else n) ≤ capacity
    by true begins has enough = let more = has refl in omega (arith, more)
    by false true has enough = omega (arith, enough)
    by false false has enough = omega (arith, enough)

-- an event was entered and kept
module _ (o : Opened) (keeps : Bool) (events kept : List Event) (owed capacity : ℕ) (t : IsKeptAs o keeps events kept owed capacity) where
  pub told_more : (e : Event) (more after kept' : List Event) (owed' capacity' : ℕ) → after ≡ events ++ more → keeps ≡ true → e ∷ [] ≡ more → IsLegal o (events ++ more) → new_places e ≤ capacity - (length kept + owed) → kept' ≡ kept ++ e ∷ [] → owed' ≡ owed_after e owed → capacity' ≡ capacity
      → IsKeptAs o keeps after kept' owed' capacity'
  told_more e more after kept' owed' capacity' noted on one legal spare pushed changed same_room =
      let legal_one : IsLegal o (events ++ e ∷ []) = subst (λ es. IsLegal o (events ++ es)) (sym one) legal in
      let owes = t.owes on in
      subst (λ es. IsKeptAs o keeps es kept' owed' capacity') (sym noted) (record {
        same = λ _. pushed ∙ ap (λ es. es ++ e ∷ []) (t.same on) ∙ ap (λ es. events ++ es) one;
        none = λ off. let no : true ≡ false = sym on ∙ off in absurd (cc no);
        owes = λ _. subst (λ (y : List Event × ℕ). IsOwed (world_after o (events ++ y.0)) y.1) (λ i. (one i, sym changed i)) (owed_on o events e owed legal_one owes);
        room = λ _. let longer : length kept' ≡ length kept + 1 = ap length pushed ∙ length-append kept (e ∷ []) in let fits = places_fit owed e (length kept) capacity (place_there o events e owed legal_one owes) spare (t.room on) in omega (arith, fits, longer, changed, same_room);
      })

  -- there is a place for it
  pub place_here : (e : Event) (more : List Event) (long : ℕ) → keeps ≡ true → e ∷ [] ≡ more → IsLegal o (events ++ more) → new_places e ≤ capacity - (length kept + owed) → long ≡ length kept → long < capacity
  place_here e more long on one legal spare longs =
      let legal_one : IsLegal o (events ++ e ∷ []) = subst (λ es. IsLegal o (events ++ es)) (sym one) legal in
      let fits = places_fit owed e (length kept) capacity (place_there o events e owed legal_one (t.owes on)) spare (t.room on) in
      omega (arith, fits, longs)
