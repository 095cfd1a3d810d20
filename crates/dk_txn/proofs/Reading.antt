-- What a read of the view keeps, and what a write keeps.
use Rattle.std.proofs.Common.{◌≡◌, ℕ, Option, Some, None, List, [], ◌∷◌, ◌++◌, Result, sym, ap, subst, ◌∙◌, append-nil}
use Rattle.std.specs.Option.{ok_or}
use Rattle.std.specs.List.{AllByRecursion}
use Rattle.dk_types.specs.declared.number.TaskKey.{TaskKey}
use Rattle.dk_types.specs.declared.item.Item.{Item}
use Rattle.dk_types.specs.declared.item.Read.{Read}
use Rattle.dk_types.specs.declared.fault.AppFault.{AppFault}
use Rattle.dk_types.specs.declared.fault.AppFault.TheVariants.{Refused}
use Rattle.dk_model.specs.DurableWorlds.{DurableWorld, Agrees, answer}
use Rattle.dk_model.specs.Runs.{found}
use Rattle.dk_overlay.specs.Asked.{IsAsked}
use Rattle.dk_overlay.specs.ReadsAndWrites.{ReadsAndWrites, reading}
use Rattle.dk_txn.specs.Current.{current}
use Rattle.dk_txn.specs.Knowing.{IsSound, MovesAlone}
use Rattle.dk_txn.proofs.Sound.{sound_reading}
use Rattle.dk_overlay.proofs.Tests.{Some_injective}
use Rattle.dk_overlay.proofs.Asking.{WasRead-last}
use Rattle.dk_txn.proofs.Agreeing.{agrees_read}
use Rattle.dk_txn.specs.declared.refusal.Refusal.{Refusal}
use Rattle.dk_txn.specs.declared.txn.Txn.{Txn}
use Rattle.dk_txn.specs.Refusals.{refusal_fault}
use Rattle.dk_txn.specs.Does.{KeepsFor, Keeps, SameChanges, failure, outcome_of_result}
use Rattle.dk_txn.specs.Sights.{Sights}
use Rattle.dk_txn.specs.Asks.{AsksAny}
use Rattle.dk_txn.proofs.Asking.{All-weaker, asks_changed}

All-push : {X : Type 0} (P : X → Type 0) (xs : List X) (x : X) → AllByRecursion P xs → P x → AllByRecursion P (xs ++ x ∷ [])
All-push P [] x h p = (p, tt)
All-push P (y ∷ xs) x h p = (h.0, All-push P xs x h.1 p)

module _ {S : Type 0} {sights : Sights S} {a b : Txn S ReadsAndWrites} where
  -- after a read
  pub keeps_read : (item : Item) (read : Read) → b.view.ghost_name ≡ a.view.ghost_name → sights.gave b.view.now item read
      → sights.becomes a.view.now b.view.now → AsksAny sights a b → b.set ≡ reading a.set item read → Keeps sights a b
  keeps_read item read same gives becomes asks e = record {
    same_view = same;
    reads_stay = ((item, read) ∷ [], ap (λ (t : ReadsAndWrites). t.reads) e);
    becomes = becomes;
    asks = asks;
    given = λ h. record {
      given = subst (λ (t : ReadsAndWrites). AllByRecursion (λ r. sights.gave b.view.now r.0 r.1) t.reads) (sym e)
          (All-push (λ r. sights.gave b.view.now r.0 r.1) a.set.reads (item, read) (All-weaker (λ r. sights.gave a.view.now r.0 r.1) (λ r. sights.gave b.view.now r.0 r.1) a.set.reads (λ r. sights.keeps _ _ becomes r.0 r.1) h.given) gives);
    };
    same_run = ap (λ (t : ReadsAndWrites). t.run) e;
    same_at = ap (λ (t : ReadsAndWrites). t.at) e;
    sound = λ s. subst IsSound (sym e) (sound_reading a.set item read s);
    moves = λ key due p m. subst (MovesAlone key due) (sym e) m;
  }

  -- after a read that was refused
  pub keeps_unread : b.view.ghost_name ≡ a.view.ghost_name → sights.becomes a.view.now b.view.now → AsksAny sights a b → b.set ≡ a.set → Keeps sights a b
  keeps_unread same becomes asks e = record {
    same_view = same;
    reads_stay = ([], ap (λ (t : ReadsAndWrites). t.reads) e ∙ sym (append-nil a.set.reads));
    becomes = becomes;
    asks = asks;
    given = λ h. record {
      given = subst (λ (t : ReadsAndWrites). AllByRecursion (λ r. sights.gave b.view.now r.0 r.1) t.reads) (sym e)
          (All-weaker (λ r. sights.gave a.view.now r.0 r.1) (λ r. sights.gave b.view.now r.0 r.1) a.set.reads (λ r. sights.keeps _ _ becomes r.0 r.1) h.given);
    };
    same_run = ap (λ (t : ReadsAndWrites). t.run) e;
    same_at = ap (λ (t : ReadsAndWrites). t.at) e;
    sound = λ s. subst IsSound (sym e) s;
    moves = λ key due p m. subst (MovesAlone key due) (sym e) m;
  }

-- after a read the item was asked, and each agreeing world answers so
pub reading_answers : (t u : ReadsAndWrites) (item : Item) (read : Read) → u ≡ reading t item read → (d : DurableWorld) → Agrees d u.reads → answer d item ≡ read.answer
reading_answers t u item read e d h = agrees_read d (t.reads ++ (item, read) ∷ []) item read (subst (λ (v : ReadsAndWrites). Agrees d v.reads) e h) (WasRead-last t.reads item read)

pub reading_asked : (t u : ReadsAndWrites) (item : Item) (read : Read) → u ≡ reading t item read → IsAsked u.reads item
reading_asked t u item read e = subst (λ (v : ReadsAndWrites). IsAsked v.reads item) (sym e) (read, WasRead-last t.reads item read)

-- reads alone leave the run as it stands
pub same_current : (a b : ReadsAndWrites) (d : DurableWorld) → SameChanges a b → current a d ≡ current b d
same_current a b d e = sym (ap (λ t. current t d) e)

-- what a write keeps, with the view as it was
pub keeps_changed : {P : TaskKey → ℕ → Type 0} {S : Type 0} {sights : Sights S} {a b : Txn S ReadsAndWrites} → KeepsFor P sights a b → (t : ReadsAndWrites)
    → t.reads ≡ b.set.reads → t.run ≡ b.set.run → t.at ≡ b.set.at → (IsSound b.set → IsSound t) → ((key : TaskKey) (due : ℕ) → P key due → MovesAlone key due b.set → MovesAlone key due t)
    → KeepsFor P sights a (record { view = b.view; set = t })
keeps_changed {sights = sights} {b = b} k t reads run at sound moves = record {
  same_view = k.same_view;
  reads_stay = (k.reads_stay.0, reads ∙ k.reads_stay.1);
  becomes = k.becomes;
  asks = asks_changed t k.asks reads;
  given = λ h. record { given = subst (λ rs. AllByRecursion (λ r. sights.gave b.view.now r.0 r.1) rs) (sym reads) (k.given h).given };
  same_run = run ∙ k.same_run;
  same_at = at ∙ k.same_at;
  sound = λ s. sound (k.sound s);
  moves = λ key due p m. moves key due p (k.moves key due p m);
}

pub told_found : {A : Type 0} (n : ℕ) (r : Refusal) → refusal_fault r ≡ Some (Refused n) → (o : Option A) (s : Result A AppFault) → outcome_of_result refusal_fault (ok_or o r) ≡ Some s → found n o ≡ s
told_found n r e None s h = Some_injective _ _ (sym (ap failure e) ∙ h)
told_found n r e (Some x) s h = Some_injective _ _ h
