-- Events that tell the same.
use Rattle.std.proofs.Common.{◌≡◌, List, [], ◌∷◌, ◌++◌, refl, sym, ap, ◌∙◌}
use Rattle.std.proofs.lemmas.List.{append_assoc}
use Rattle.dk_types.specs.declared.event.Event.{Event}
use Rattle.dk_model.specs.Transcripts.{Known, knowing, event_lines, lines_of_events, known_after}

-- events that tell the same, whoever reads
pub record SameTold (e f : Event) : Type 0 where
  pub lines : (known : Known) → event_lines known e ≡ event_lines known f
  pub known : (known : Known) → knowing known e ≡ knowing known f

-- and so do lists of them
pub record SameLines (es fs : List Event) : Type 0 where
  pub lines : (known : Known) → lines_of_events known es ≡ lines_of_events known fs
  pub known : (known : Known) → known_after known es ≡ known_after known fs

-- where they are these events
pub same_by : (e f g h : Event) → e ≡ g → f ≡ h → SameTold g h → SameTold e f
same_by e f g h p q s = record {
  lines = λ known. ap (event_lines known) p ∙ s.lines known ∙ sym (ap (event_lines known) q);
  known = λ known. ap (knowing known) p ∙ s.known known ∙ sym (ap (knowing known) q);
}

-- none tell nothing
pub same_none : SameLines [] []
same_none = record { lines = λ known. refl; known = λ known. refl }

-- one more before others
pub same_more : (e f : Event) (es fs : List Event) → SameTold e f → SameLines es fs → SameLines (e ∷ es) (f ∷ fs)
same_more e f es fs s t = record {
  lines = λ known.
      ap (λ ls. ls ++ lines_of_events (knowing known e) es) (s.lines known) ∙ ap (λ k. event_lines known f ++ lines_of_events k es) (s.known known)
      ∙ ap (λ ls. event_lines known f ++ ls) (t.lines (knowing known f));
  known = λ known. ap (λ k. known_after k es) (s.known known) ∙ t.known (knowing known f);
}

-- the lines of events in two parts
lines-append : (known : Known) (es fs : List Event) → lines_of_events known (es ++ fs) ≡ lines_of_events known es ++ lines_of_events (known_after known es) fs
lines-append known [] fs = refl
lines-append known (e ∷ es) fs =
    ap (λ ls. event_lines known e ++ ls) (lines-append (knowing known e) es fs) ∙ sym (append_assoc (event_lines known e) (lines_of_events (knowing known e) es) (lines_of_events (known_after (knowing known e) es) fs))

-- what is known behind them
known-append : (known : Known) (es fs : List Event) → known_after known (es ++ fs) ≡ known_after (known_after known es) fs
known-append known [] fs = refl
known-append known (e ∷ es) fs = known-append (knowing known e) es fs

-- both parts tell the same
pub same_both : (es fs gs hs : List Event) → SameLines es fs → SameLines gs hs → SameLines (es ++ gs) (fs ++ hs)
same_both es fs gs hs s t = record {
  lines = λ known.
      lines-append known es gs ∙ ap (λ ls. ls ++ lines_of_events (known_after known es) gs) (s.lines known) ∙ ap (λ k. lines_of_events known fs ++ lines_of_events k gs) (s.known known)
      ∙ ap (λ ls. lines_of_events known fs ++ ls) (t.lines (known_after known fs)) ∙ sym (lines-append known fs hs);
  known = λ known. known-append known es gs ∙ ap (λ k. known_after k gs) (s.known known) ∙ t.known (known_after known fs) ∙ sym (known-append known fs hs);
}
