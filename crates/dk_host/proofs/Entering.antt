-- How the calls of a pass go together.
use Rattle.std.proofs.Common.{◌≡◌, ℕ, ◌<◌, List, [], ◌++◌, sym, ap, subst, ◌∙◌, append_assoc}
use Rattle.std.specs.List.{All}
use Rattle.std.proofs.lemmas.List.{append-nil}
use Rattle.dk_types.specs.declared.event.Event.{Event}
use Rattle.dk_model.specs.Legal.{Opened, pass_of}
use Rattle.dk_turn.specs.Fronts.{own}
use Rattle.dk_host.specs.Calls.{Entered}
use Rattle.dk_host.specs.Passes.{Enters}

module _ (o : Opened) (count pass : ℕ) where
  -- nothing was called
  pub enters_none : (front : List Event) → Enters o count pass [] front front
  enters_none front = record { begins = ([], append-nil front); own_events = sym (append-nil (own pass_of pass front)); legal = λ h. h; named = λ h. h }

  -- one call
  pub enters_one : (events old new : List Event) → Entered o pass events old new → All (λ e. pass_of e < count) new → Enters o count pass events old new
  enters_one events old new e named = record {
    begins = (e.continues.later ++ events, sym (append_assoc old e.continues.later events) ∙ ap (λ es. es ++ events) (sym e.continues.all) ∙ sym e.front);
    own_events = e.own_events;
    legal = λ _. e.legal;
    named = λ _. named;
  }

  -- calls, and then others
  pub enters_then : (first second old mid new : List Event) → Enters o count pass first old mid → Enters o count pass second mid new → Enters o count pass (first ++ second) old new
  enters_then first second old mid new a b = record {
    begins = (a.begins.0 ++ b.begins.0, sym (append_assoc old a.begins.0 b.begins.0) ∙ ap (λ es. es ++ b.begins.0) a.begins.1 ∙ b.begins.1);
    own_events = b.own_events ∙ ap (λ es. es ++ second) a.own_events ∙ append_assoc (own pass_of pass old) first second;
    legal = λ h. b.legal (a.legal h);
    named = λ h. b.named (a.named h);
  }

  -- the same events under another spelling
  pub enters_as : (events others old new : List Event) → others ≡ events → Enters o count pass events old new → Enters o count pass others old new
  enters_as events others old new same e = subst (λ es. Enters o count pass es old new) (sym same) e
