-- How the pieces of a run compose: the lemmas by which a game is proved. `docs/TRANSACTIONS.md` shows their use.
use Rattle.std.proofs.Common.{◌≡◌, ℕ, Bool, true, false, if◌then◌else◌, Option, Some, None, [], ◌++◌, Result, Ok, Err, refl, sym, ap, subst, ◌∙◌, append_assoc, append-nil}
use Rattle.std.specs.Result.{IsErrAnd}
use Rattle.std.specs.List.{AllByRecursion}
use Rattle.std.specs.FinMap as map
use Rattle.dk_types.specs.declared.number.TaskKey.{TaskKey}
use Rattle.dk_types.specs.declared.fault.AppFault.{AppFault}
use Rattle.dk_types.specs.declared.mode.Mode.{Mode}
use Rattle.dk_model.specs.DurableWorlds.{DurableWorld, Agrees}
use Rattle.dk_model.specs.Runs.{Run, Act, give, and_then, carry_on, within}
use Rattle.dk_overlay.specs.ReadsAndWrites.{ReadsAndWrites}
use Rattle.dk_txn.specs.Current.{current}
use Rattle.dk_txn.proofs.Sound.{Agrees-front, sound_as}
use Rattle.dk_overlay.proofs.Tests.{Some_injective}
use Rattle.dk_txn.specs.declared.txn.Txn.{Txn}
use Rattle.dk_txn.specs.Does.{KeepsFor, DoesFor, ResumesFor, Keeps, Does, failure}
use Rattle.dk_txn.specs.Sights.{Sights}
use Rattle.dk_txn.proofs.Asking.{asks_nothing, asks_then}

-- what a step that fails with a fault leads to
stopped : {A B : Type 0} (W : DurableWorld → Type 0) (o : Option AppFault) (f : Act A) (g : A → Act B) (before after : DurableWorld → Run)
    → ((fault : AppFault) → o ≡ Some fault → (d : DurableWorld) → W d → f (before d) ≡ (Err fault, after d))
    → (s : Result B AppFault) → failure o ≡ Some s → (d : DurableWorld) → W d → and_then f g (before d) ≡ (s, after d)
unfolding and_then
stopped W None f g before after p s t d h = cc
stopped W (Some fault) f g before after p s t d h = ap (λ o. carry_on o.0 g o.1) (p fault refl d h) ∙ ap (λ r. (r, after d)) (Some_injective _ _ t)

module _ {P : TaskKey → ℕ → Type 0} {S : Type 0} {sights : Sights S} where
  -- nothing was done
  pub keeps_all : {a : Txn S ReadsAndWrites} → KeepsFor P sights a a
  keeps_all {a = a} = record { same_view = refl; reads_stay = ([], sym (append-nil a.set.reads)); becomes = sights.stays a.view.now; asks = asks_nothing (record { same_view = refl; same_reads = refl }); given = λ h. h; same_run = refl; same_at = refl; sound = λ s. s; moves = λ k due p m. m }

  pub keeps_then : {a b c : Txn S ReadsAndWrites} → KeepsFor P sights a b → KeepsFor P sights b c → KeepsFor P sights a c
  keeps_then {a = a} {b = b} {c = c} k l = record {
    same_view = l.same_view ∙ k.same_view;
    reads_stay = (k.reads_stay.0 ++ l.reads_stay.0, l.reads_stay.1 ∙ ap (λ rs. rs ++ l.reads_stay.0) k.reads_stay.1 ∙ append_assoc a.set.reads k.reads_stay.0 l.reads_stay.0);
    becomes = sights.goes_on a.view.now b.view.now c.view.now k.becomes l.becomes;
    asks = asks_then k.asks l.asks;
    given = λ h. l.given (k.given h);
    same_run = l.same_run ∙ k.same_run;
    same_at = l.same_at ∙ k.same_at;
    sound = λ s. l.sound (k.sound s);
    moves = λ key due p m. l.moves key due p (k.moves key due p m);
  }

  -- a world that agrees with the reads agreed with those before
  pub agreed : {a b : Txn S ReadsAndWrites} → KeepsFor P sights a b → (d : DurableWorld) → Agrees d b.set.reads → Agrees d a.set.reads
  agreed {a = a} k d h = Agrees-front d a.set.reads k.reads_stay.0 (subst (Agrees d) k.reads_stay.1 h)

  -- what moves no task moves none but those for which P holds
  pub keeps_for : {a b : Txn S ReadsAndWrites} → Keeps sights a b → KeepsFor P sights a b
  keeps_for k = record { same_view = k.same_view; reads_stay = k.reads_stay; becomes = k.becomes; asks = k.asks; given = k.given; same_run = k.same_run; same_at = k.same_at; sound = k.sound; moves = λ key due p m. k.moves key due tt m }

  pub does_for : {a b : Txn S ReadsAndWrites} {E A : Type 0} {told : E → Option AppFault} {f : Act A} {r : Result A E} → Does sights told a b f r → DoesFor P sights told a b f r
  does_for p = record { keeps = keeps_for p.keeps; does = p.does }

  -- a step that was not refused, and then what is left
  pub then_does : {a b c : Txn S ReadsAndWrites} {E F A B : Type 0} {told : E → Option AppFault} {told' : F → Option AppFault} {f : Act A} {x : A} {r : Result B F} (g : A → Act B)
      → DoesFor P sights told a b f (Ok x) → DoesFor P sights told' b c (g x) r → DoesFor P sights told' a c (and_then f g) r
  unfolding and_then
  then_does {b = b} {c = c} {x = x} g p q = record {
    keeps = keeps_then p.keeps q.keeps;
    does = λ s t d agrees.
        ap (λ o. carry_on o.0 g o.1) (p.does (Ok x) refl d (agreed q.keeps d agrees)) ∙ q.does s t d agrees;
  }

  -- a step that was refused ends the run
  pub stop_does : {a b : Txn S ReadsAndWrites} {E F A B : Type 0} {told : E → Option AppFault} {told' : F → Option AppFault} {f : Act A} {e : E} {h : F} (g : A → Act B)
      → DoesFor P sights told a b f (Err e) → told' h ≡ told e → DoesFor P sights told' a b (and_then f g) (Err h)
  unfolding and_then
  stop_does {a = a} {b = b} {told = told} {f = f} {e = e} g p same = record {
    keeps = p.keeps;
    does = λ s t. stopped (λ d. Agrees d b.set.reads) (told e) f g (λ d. current a.set d) (λ d. current b.set d) (λ fault is. p.does (Err fault) (ap failure is)) s (ap failure (sym same) ∙ t);
  }

  -- a refused call ends the game's part, with an error that tells what the refusal tells
  pub halts : {a b : Txn S ReadsAndWrites} {E F A B : Type 0} {told : E → Option AppFault} {told' : F → Option AppFault} {f : Act A} {e : E} {r : Result B F} (g : A → Act B)
      → DoesFor P sights told a b f (Err e) → IsErrAnd r (λ h. told' h ≡ told e) → DoesFor P sights told' a b (and_then f g) r
  halts {r = Err h} g p is = stop_does g p is
  halts {r = Ok x} g p is = absurd is

  -- the same of the last call of a line, behind which the rules have no `and_then`
  pub halts_last : {a b : Txn S ReadsAndWrites} {E F A : Type 0} {told : E → Option AppFault} {told' : F → Option AppFault} {f : Act A} {e : E} {r : Result A F}
      → DoesFor P sights told a b f (Err e) → IsErrAnd r (λ h. told' h ≡ told e) → DoesFor P sights told' a b f r
  halts_last {r = Err h} p is = record { keeps = p.keeps; does = λ s t d agrees. p.does s (ap failure (sym is) ∙ t) d agrees }
  halts_last {r = Ok x} p is = absurd is

  pub then_last : {a b : Txn S ReadsAndWrites} {E F A : Type 0} {told : E → Option AppFault} {told' : F → Option AppFault} {f : Act A} {x : A}
      → DoesFor P sights told a b f (Ok x) → DoesFor P sights told' a b f (Ok x)
  then_last p = record { keeps = p.keeps; does = p.does }

  -- an error is passed on as it is
  pub same_error : {a b : Txn S ReadsAndWrites} {E A : Type 0} {told : E → Option AppFault} {f : Act A} {e : E} {r : Result A E} → DoesFor P sights told a b f (Err e) → IsErrAnd r (λ h. h ≡ e) → DoesFor P sights told a b f r
  same_error {told = told} {r = Err h} p is = record { keeps = p.keeps; does = λ s t d agrees. p.does s (ap (λ x. failure (told x)) (sym is) ∙ t) d agrees }
  same_error {r = Ok x} p is = absurd is

  -- a refused call ends what was to follow it, and is passed on as it is
  pub stops : {a b : Txn S ReadsAndWrites} {E A B : Type 0} {told : E → Option AppFault} {f : Act A} {e : E} {r : Result B E} (g : A → Act B)
      → DoesFor P sights told a b f (Err e) → IsErrAnd r (λ h. h ≡ e) → DoesFor P sights told a b (and_then f g) r
  stops g p is = same_error (stop_does g p refl) is

  -- the rules say the same in other words
  pub does_as : {a b : Txn S ReadsAndWrites} {E A : Type 0} {told : E → Option AppFault} {f : Act A} {r : Result A E} (g : Act A)
      → ((s : Run) → f s ≡ g s) → DoesFor P sights told a b g r → DoesFor P sights told a b f r
  does_as {a = a} g same p = record { keeps = p.keeps; does = λ s t d agrees. same (current a.set d) ∙ p.does s t d agrees }

  -- nothing is done
  pub give_does : {a : Txn S ReadsAndWrites} {E A : Type 0} {told : E → Option AppFault} {x : A} → DoesFor P sights told a a (give (Ok x)) (Ok x)
  unfolding give
  give_does {a = a} = record { keeps = keeps_all; does = λ s t d agrees. ap (λ r. (r, current a.set d)) (Some_injective _ _ t) }

  -- the game gives up with a fault of its own
  pub fails : {a : Txn S ReadsAndWrites} {E A : Type 0} {told : E → Option AppFault} {fault : AppFault} {e : E} → told e ≡ Some fault → DoesFor P sights told a a (give {A = A} (Err fault)) (Err e)
  unfolding give
  fails {a = a} is = record { keeps = keeps_all; does = λ s t d agrees. ap (λ r. (r, current a.set d)) (Some_injective _ _ (sym (ap failure is) ∙ t)) }

  -- where a test decides, it is what stands there that is done
  pub if_true_does : {a b : Txn S ReadsAndWrites} {E A : Type 0} {told : E → Option AppFault} {r : Result A E} {f : Act A} {t : Bool} (g : Act A)
      → t ≡ true → DoesFor P sights told a b f r → DoesFor P sights told a b (if t then f else g) r
  if_true_does g e p = rw e p

  pub if_false_does : {a b : Txn S ReadsAndWrites} {E A : Type 0} {told : E → Option AppFault} {r : Result A E} {g : Act A} {t : Bool} (f : Act A)
      → t ≡ false → DoesFor P sights told a b g r → DoesFor P sights told a b (if t then f else g) r
  if_false_does f e p = rw e p

  -- at first all is left to do
  pub leads_start : {a : Txn S ReadsAndWrites} {C : Type 0} {f : Act C} → ResumesFor P sights a a f f
  leads_start = record { keeps = keeps_all; leads = λ d agrees. refl }

  -- a step that was not refused leaves what follows it
  pub leads_then : {a b c : Txn S ReadsAndWrites} {E A C : Type 0} {told : E → Option AppFault} {f : Act C} {m : Act A} {x : A} (g : A → Act C)
      → ResumesFor P sights a b f (and_then m g) → DoesFor P sights told b c m (Ok x) → ResumesFor P sights a c f (g x)
  unfolding and_then
  leads_then {b = b} {c = c} {x = x} g p q = record {
    keeps = keeps_then p.keeps q.keeps;
    leads = λ d agrees. p.leads d (agreed q.keeps d agrees) ∙ ap (λ o. carry_on o.0 g o.1) (q.does (Ok x) refl d agrees);
  }

  -- what is left is done
  pub leads_does : {a b c : Txn S ReadsAndWrites} {E A : Type 0} {told : E → Option AppFault} {f g : Act A} {r : Result A E}
      → ResumesFor P sights a b f g → DoesFor P sights told b c g r → DoesFor P sights told a c f r
  leads_does p q = record {
    keeps = keeps_then p.keeps q.keeps;
    does = λ s t d agrees. p.leads d (agreed q.keeps d agrees) ∙ q.does s t d agrees;
  }

  -- another mode alone
  pub keeps_mode : {a b : Txn S ReadsAndWrites} (mode : Mode) → b.view.ghost_name ≡ a.view.ghost_name → b.view.now ≡ a.view.now → b.set ≡ record (a.set) { mode = mode } → KeepsFor P sights a b
  keeps_mode {a = a} {b = b} mode same stays e = record {
    same_view = same;
    reads_stay = ([], ap (λ (t : ReadsAndWrites). t.reads) e ∙ sym (append-nil a.set.reads));
    becomes = subst (sights.becomes a.view.now) (sym stays) (sights.stays a.view.now);
    asks = asks_nothing (record { same_view = stays; same_reads = ap (λ (t : ReadsAndWrites). t.reads) e });
    given = λ h. record { given = subst (λ rs. AllByRecursion (λ r. sights.gave b.view.now r.0 r.1) rs) (sym (ap (λ (t : ReadsAndWrites). t.reads) e)) (subst (λ v. AllByRecursion (λ r. sights.gave v r.0 r.1) a.set.reads) (sym stays) h.given) };
    same_run = ap (λ (t : ReadsAndWrites). t.run) e;
    same_at = ap (λ (t : ReadsAndWrites). t.at) e;
    sound = λ s. sound_as a.set b.set (ap (λ (t : ReadsAndWrites). t.reads) e) (ap (λ (t : ReadsAndWrites). t.run) e) (ap (λ (t : ReadsAndWrites). t.objects) e) (ap (λ (t : ReadsAndWrites). t.names) e) (ap (λ (t : ReadsAndWrites). t.tasks) e) s;
    moves = λ key due p m k from to h. m k from to (ap (λ (t : ReadsAndWrites). map.get t.tasks k) (sym e) ∙ h);
  }

  -- a part in a mode of its own, with the old mode put back
  pub within_does : {a b c d : Txn S ReadsAndWrites} {E A : Type 0} {told : E → Option AppFault} {f : Act A} {r : Result A E} (mode : Mode)
      → b.view.ghost_name ≡ a.view.ghost_name → b.view.now ≡ a.view.now → b.set ≡ record (a.set) { mode = mode }
      → DoesFor P sights told b c f r
      → d.view.ghost_name ≡ c.view.ghost_name → d.view.now ≡ c.view.now → d.set ≡ record (c.set) { mode = a.set.mode }
      → DoesFor P sights told a d (within mode f) r
  unfolding within
  within_does {a = a} {b = b} {c = c} {d = e} {f = f} mode same stays is p same' stays' is' = record {
    keeps = keeps_then (keeps_mode mode same stays is) (keeps_then p.keeps (keeps_mode a.set.mode same' stays' is'));
    does = λ s t w agrees.
        ap (λ l. (let q = f (current l w) in (q.0, record (q.1) { mode = a.set.mode }))) (sym is)
        ∙ ap (λ q. (q.0, record (q.1) { mode = a.set.mode })) (p.does s t w (subst (Agrees w) (ap (λ (t : ReadsAndWrites). t.reads) is') agrees))
        ∙ ap (λ l. (s, current l w)) (sym is');
  }

pub ruleset steps = (then_does, stop_does, give_does)
