-- What a refusal tells of the members, from what the steps found of them.
use Rattle.std.proofs.Common.{◌≡◌, ℕ, ◌+◌, ◌<◌, inr, true, false, if◌then◌else◌, Option, Some, None, is_some, List, length, drop, get_or, Result, Ok, Err, refl, sym, ap, subst, ◌∙◌}
use Rattle.std.specs.Option.{option_or}
use Rattle.std.specs.FinMap.{get}
use Rattle.std.specs.Result.{IsErrAnd, IfErr}
use Rattle.std.proofs.lemmas.Result.{IfErr-weaker}
use Rattle.dk_types.specs.declared.number.ObjectId.{ObjectId}
use Rattle.dk_types.specs.declared.job.Session.{Session}
use Rattle.dk_types.specs.declared.fault.AppFault.TheVariants.{Refused}
use Rattle.dk_types.specs.declared.mode.Mode.{Mode}
use Rattle.dk_model.specs.declared.records.SessionRecord.{SessionRecord}
use Rattle.dk_model.specs.declared.records.ChannelRecord.{ChannelRecord}
use Rattle.dk_model.specs.DurableWorlds.{DurableWorld, Agrees}
use Rattle.dk_model.specs.Runs.{Run, Act, is_too_long}
use Rattle.dk_model.specs.Records.{CHANNEL_KIND, session_name, channel_of, channel_name}
use Rattle.dk_model.specs.Platforms.{channel_under, record_if_connected, bytes_without, record_without}
use Rattle.dk_overlay.specs.ReadsAndWrites.{ReadsAndWrites}
use Rattle.dk_txn.specs.Current.{current}
use Rattle.dk_txn.specs.declared.refusal.Refusal.{Refusal}
use Rattle.dk_txn.specs.declared.refusal.Refusal.TheVariants as refusal
use Rattle.dk_txn.specs.declared.txn.Txn.{Txn}
use Rattle.dk_txn.specs.Refusals.{refusal_fault, TellsLength}
use Rattle.dk_txn.specs.Does.{Keeps, Does, SameChanges, failure}
use Rattle.dk_txn.proofs.Kit.{agreed}
use Rattle.dk_refs.specs.Telling.{TellsKindOf, kind_under}
use Rattle.dk_refs.proofs.Calls.{passed}
use Rattle.dk_refs.proofs.Standing.{stands, is_other}
use Rattle.dk_refs.proofs.Tellings.{Avoids, current_same}
use Rattle.dk_channels.specs.AllMembers.{first_of, wrong_kind_of, long_record_of, members_of, members_in, kind_of_all, length_of_all, TellsFound, NeverTooLong, FoundLater, IsFoundOf}
use Rattle.dk_channels.proofs.Drops.{rest_is}
use Rattle.dk_channels.proofs.Tellings.{first_is, second_is}
use Rattle.dk_channels.proofs.Looks.{Looked, IsFine, looked, look_other, fine, session_there, none_long, not_session_is}
use Rattle.dk_txn.specs.Sights.{Sights}

-- the mode has no part in it
pub found_moded : {A : Type 0} (r : Result A Refusal) (t b c u : ReadsAndWrites) (first last : Mode) (sort : ℕ → Refusal) (found : DurableWorld → Option ℕ) → b ≡ record t { mode = first } → u ≡ record c { mode = last }
    → IfErr r (TellsFound sort b c found) → IfErr r (TellsFound sort t u found)
found_moded (Ok x) t b c u first last sort found is was told = tt
found_moded (Err e) t b c u first last sort found is was told = rw was (λ n same d agrees. subst (λ (l : ReadsAndWrites). found (current l d).world ≡ Some n) is (told n same d agrees))

-- where the length that is told is found in the world, a world of short objects has none
pub never_long : {A : Type 0} (r : Result A Refusal) (before after : ReadsAndWrites) (name : List ℕ) → IfErr r (TellsFound refusal.TooLong before after (length_of_all name)) → IfErr r (NeverTooLong before after)
never_long r before after name told = IfErr-weaker r _ (NeverTooLong before after) (λ e told n is d agrees short.
    let none : None ≡ Some n = sym (none_long name (current before d).world short (members_in name (current before d).world)) ∙ told n is d agrees in absurd cc) told

-- at the first member all is found as it was
pub later_start : (find : Session → DurableWorld → Option ℕ) (t : ReadsAndWrites) (members : List Session) → FoundLater find t t members 0
later_start find t members d agrees = refl

-- at a member all is found as of it and of those behind it
found_at : (before after : ReadsAndWrites) (members : List Session) (i : ℕ) (m : Session) → i < length members → m ≡ get_or members i m → (find : Session → DurableWorld → Option ℕ) → FoundLater find before after members i
    → (d : DurableWorld) → Agrees d after.reads → first_of find members (current before d).world ≡ option_or (find m (current after d).world) (first_of find (drop (i + 1) members) (current after d).world)
found_at before after members i m more at find later d agrees = later d agrees ∙ ap (λ ms. first_of find ms (current after d).world) (rest_is members i m more at)

-- a refusal by another number tells of no kind
pub kind_never : (e : Refusal) (k : ℕ) → (k ≡ 3 → ⊥) → (before after : ReadsAndWrites) (found : DurableWorld → Option ℕ) → refusal_fault e ≡ Some (Refused k) → TellsFound refusal.WrongKind before after found e
kind_never e k other before after found told n is d agrees =
    let twice : Some (Refused k) ≡ Some (Refused 3) = sym told ∙ ap refusal_fault is in
    let same : k ≡ 3 = cc in absurd (other same)

module _ {S : Type 0} {sights : Sights S} where
  -- a refusal by another number tells nothing
  found_never : {a b : Txn S ReadsAndWrites} {A : Type 0} {f : Act A} {e : Refusal} (k : ℕ) (sort : ℕ → Refusal) (before : ReadsAndWrites) (found : DurableWorld → Option ℕ) → ((n : ℕ) → refusal_fault (sort n) ≡ Some (Refused k)) → Avoids k f
      → Does sights refusal_fault a b f (Err e) → TellsFound sort before b.set found e
  found_never {a = a} {b = b} k sort before found number never p n is d agrees = absurd (never (current a.set d) (current b.set d) (p.does (Err (Refused k)) (ap (λ (h : Refusal). failure (refusal_fault h)) is ∙ ap failure (number n)) d agrees))

  -- one that is none over a length, and is passed on
  pub length_unfound : {a b : Txn S ReadsAndWrites} {A B : Type 0} {f : Act A} {e : Refusal} (r : Result B Refusal) (before : ReadsAndWrites) (found : DurableWorld → Option ℕ) → Avoids 4 f
      → Does sights refusal_fault a b f (Err e) → IsErrAnd r (λ h. h ≡ e) → IfErr r (TellsFound refusal.TooLong before b.set found)
  length_unfound {b = b} {e = e} r before found never p is = passed (TellsFound refusal.TooLong before b.set found) e r is (found_never 4 refusal.TooLong before found (λ n. refl) never p)

  -- the record of a member is of another kind
  pub member_kind : {a b : Txn S ReadsAndWrites} {A : Type 0} {e : Refusal} (r : Result A Refusal) (m : Session) → Does sights refusal_fault a b (record_if_connected m) (Err e) → SameChanges a.set b.set
      → TellsKindOf b.set (kind_under (session_name m.name)) e → IsErrAnd r (λ h. h ≡ e) → IfErr r (TellsFound refusal.WrongKind a.set b.set (wrong_kind_of m))
  member_kind {a = a} {b = b} {e = e} r m p same told is = passed (TellsFound refusal.WrongKind a.set b.set (wrong_kind_of m)) e r is by
    where
      by : TellsFound refusal.WrongKind a.set b.set (wrong_kind_of m) e
      by n is d agrees =
          let refused : record_if_connected m (current a.set d) ≡ (Err (Refused 3), current b.set d) = p.does (Err (Refused 3)) (ap (λ (h : Refusal). failure (refusal_fault h)) is) d agrees in
          let told_here = subst (TellsKindOf b.set (kind_under (session_name m.name))) is told in
          let has : kind_under (session_name m.name) (current a.set d).world ≡ Some n = subst (λ (s : Run). kind_under (session_name m.name) s.world ≡ Some n) (current_same a.set b.set d same) (told_here d agrees) in
          not_session_is (kind_under (session_name m.name) (current a.set d).world) n has (look_other m (current a.set d) (current b.set d) refused)

  -- a last call that is refused over no kind, or over no length
  pub kind_unfound_last : {a b : Txn S ReadsAndWrites} {A : Type 0} {f : Act A} (r : Result A Refusal) (before : ReadsAndWrites) (found : DurableWorld → Option ℕ) → Avoids 3 f → Does sights refusal_fault a b f r → IfErr r (TellsFound refusal.WrongKind before b.set found)
  kind_unfound_last (Ok x) before found never p = tt
  kind_unfound_last (Err e) before found never p = found_never 3 refusal.WrongKind before found (λ n. refl) never p

  pub length_unfound_last : {a b : Txn S ReadsAndWrites} {A : Type 0} {f : Act A} (r : Result A Refusal) (before : ReadsAndWrites) (found : DurableWorld → Option ℕ) → Avoids 4 f → Does sights refusal_fault a b f r → IfErr r (TellsFound refusal.TooLong before b.set found)
  length_unfound_last (Ok x) before found never p = tt
  length_unfound_last (Err e) before found never p = found_never 4 refusal.TooLong before found (λ n. refl) never p

  -- the record of a member is too long without the channel
  pub member_length : {a b : Txn S ReadsAndWrites} (e : Refusal) (name : List ℕ) (m : Session) (x : ObjectId × SessionRecord) → Does sights refusal_fault a b (record_if_connected m) (Ok (Some x))
      → is_too_long (bytes_without name x.1) ≡ true → TellsLength (bytes_without name x.1) e → TellsFound refusal.TooLong a.set b.set (long_record_of name m) e
  member_length {a = a} {b = b} e name m x p long told = λ n is d agrees.
      let l = looked name m (Some x) (current a.set d) (current b.set d) (p.does (Ok (Some x)) refl d agrees) in
      let len : n ≡ length (bytes_without name x.1) = subst (TellsLength (bytes_without name x.1)) is told in
      l.found.1 ∙ ap (λ b. if b then Some (length (bytes_without name x.1)) else None) long ∙ ap (λ k. Some k) (sym len)

  -- it stands, under the member's name
  pub member_found : {a b : Txn S ReadsAndWrites} (name : List ℕ) (m : Session) (x : ObjectId × SessionRecord) (payload : List ℕ) → Does sights refusal_fault a b (record_if_connected m) (Ok (Some x)) → is_too_long payload ≡ false
      → IsFoundOf a.set b.set m (x.0, payload)
  member_found {a = a} {b = b} name m x payload p short = (
    λ d agrees. let l = at d agrees in subst (λ (s : Run). is_some (get s.world.objects x.0) ≡ true) (sym l.same) (session_there (get (current a.set d).world.objects x.0) x.1 l.found.0),
    inr (x.0, refl, λ d agrees. (at d agrees).found.2),
    short,
  )
    where
      at : (d : DurableWorld) → Agrees d b.set.reads → Looked name m (Some x) (current a.set d) (current b.set d)
      at d agrees = looked name m (Some x) (current a.set d) (current b.set d) (p.does (Ok (Some x)) refl d agrees)

  module _ {b c : Txn S ReadsAndWrites} (name : List ℕ) (before : ReadsAndWrites) (members : List Session) (i : ℕ) (m : Session) (more : i < length members) (at : m ≡ get_or members i m) where
    next : (o : Option (ObjectId × List ℕ)) (find : Session → DurableWorld → Option ℕ) → ((s t : Run) → IsFine name m s t → find m s.world ≡ None)
        → FoundLater find before b.set members i → Does sights refusal_fault b c (record_without name m) (Ok o) → FoundLater find before c.set members (i + 1)
    next o find none later q d agrees =
        let done = fine name m o (current b.set d) (current c.set d) (q.does (Ok o) refl d agrees) in
        found_at before b.set members i m more at find later d (agreed q.keeps d agrees) ∙ ap (λ o. option_or o (first_of find (drop (i + 1) members) (current b.set d).world)) (none _ _ done)
        ∙ ap (λ (s : Run). first_of find (drop (i + 1) members) s.world) (sym done.same)

    -- behind a member of whom nothing is to be told
    pub later_kinds : (o : Option (ObjectId × List ℕ)) → FoundLater wrong_kind_of before b.set members i → Does sights refusal_fault b c (record_without name m) (Ok o) → FoundLater wrong_kind_of before c.set members (i + 1)
    later_kinds o later q = next o wrong_kind_of (λ _ _ done. done.kind) later q

    pub later_lengths : (o : Option (ObjectId × List ℕ)) → FoundLater (long_record_of name) before b.set members i → Does sights refusal_fault b c (record_without name m) (Ok o) → FoundLater (long_record_of name) before c.set members (i + 1)
    later_lengths o later q = next o (long_record_of name) (λ _ _ done. done.length) later q

    -- what the refusal over this member tells, it tells of the first of all
    pub later_tells : {A : Type 0} {e : Refusal} (r : Result A Refusal) (find : Session → DurableWorld → Option ℕ) (sort : ℕ → Refusal) → FoundLater find before b.set members i → Does sights refusal_fault b c (record_without name m) (Err e)
        → TellsFound sort b.set c.set (find m) e → IsErrAnd r (λ h. h ≡ e) → IfErr r (TellsFound sort before c.set (first_of find members))
    later_tells {e = e} r find sort later q told is = passed (TellsFound sort before c.set (first_of find members)) e r is (λ n is d agrees.
        found_at before b.set members i m more at find later d (agreed q.keeps d agrees) ∙ ap (λ o. option_or o (first_of find (drop (i + 1) members) (current b.set d).world)) (told n is d agrees))

  -- the channel's record is of another kind
  pub channel_kind : {a b : Txn S ReadsAndWrites} {A : Type 0} {e : Refusal} (r : Result A Refusal) (name : List ℕ) → Does sights refusal_fault a b (channel_under name) (Err e) → TellsKindOf b.set (kind_under (channel_name name)) e → IsErrAnd r (λ h. h ≡ e)
      → IfErr r (TellsFound refusal.WrongKind a.set b.set (kind_of_all name))
  channel_kind {a = a} {b = b} {e = e} r name p told is = passed (TellsFound refusal.WrongKind a.set b.set (kind_of_all name)) e r is by
    where
      by : TellsFound refusal.WrongKind a.set b.set (kind_of_all name) e
      by n is d agrees =
          let refused : channel_under name (current a.set d) ≡ (Err (Refused 3), current b.set d) = p.does (Err (Refused 3)) (ap (λ (h : Refusal). failure (refusal_fault h)) is) d agrees in
          let o = is_other CHANNEL_KIND channel_of (current a.set d) (current b.set d) (channel_name name) refused in
          let told_here = subst (TellsKindOf b.set (kind_under (channel_name name))) is told in
          first_is (kind_under (channel_name name) (current a.set d).world) _ n (subst (λ (s : Run). kind_under (channel_name name) s.world ≡ Some n) o.same (told_here d agrees)) o.other

  module _ {a b c : Txn S ReadsAndWrites} (name : List ℕ) (x : ObjectId × ChannelRecord) (p : Does sights refusal_fault a b (channel_under name) (Ok x)) (k : Keeps sights b c) where
    -- what is found of its members is found of all
    found_members : (find : Session → DurableWorld → Option ℕ) (d : DurableWorld) → Agrees d c.set.reads → first_of find (members_in name (current a.set d).world) (current a.set d).world ≡ first_of find x.1.members (current b.set d).world
    found_members find d agrees =
        let own = stands CHANNEL_KIND channel_of (current a.set d) (current b.set d) (channel_name name) x (p.does (Ok x) refl d (agreed k d agrees)) in
        ap (λ v. first_of find (members_of v) (current a.set d).world) own.has_value ∙ ap (λ (s : Run). first_of find x.1.members s.world) (sym own.same)

    pub all_kind : (r : Result (Unit {0}) Refusal) → IfErr r (TellsFound refusal.WrongKind b.set c.set (first_of wrong_kind_of x.1.members)) → IfErr r (TellsFound refusal.WrongKind a.set c.set (kind_of_all name))
    all_kind r told = IfErr-weaker r _ (TellsFound refusal.WrongKind a.set c.set (kind_of_all name)) (λ e told n is d agrees.
        let own = stands CHANNEL_KIND channel_of (current a.set d) (current b.set d) (channel_name name) x (p.does (Ok x) refl d (agreed k d agrees)) in
        second_is (kind_under (channel_name name) (current a.set d).world) _ own.has_kind ∙ found_members wrong_kind_of d agrees ∙ told n is d agrees) told

    pub all_length : (r : Result (Unit {0}) Refusal) → IfErr r (TellsFound refusal.TooLong b.set c.set (first_of (long_record_of name) x.1.members)) → IfErr r (TellsFound refusal.TooLong a.set c.set (length_of_all name))
    all_length r told = IfErr-weaker r _ (TellsFound refusal.TooLong a.set c.set (length_of_all name)) (λ e told n is d agrees. found_members (long_record_of name) d agrees ∙ told n is d agrees) told
