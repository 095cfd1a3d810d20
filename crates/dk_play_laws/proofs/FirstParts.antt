-- First parts of what is entered for lines and for hands.
use Rattle.std.proofs.Common.{◌≡◌, ◌⊎◌, inl, inr, ℕ, List, [], ◌∷◌, ◌++◌, refl, sym, ap, subst, ◌∙◌, append_assoc}
use Rattle.dk_types.specs.declared.number.ConnNo.{ConnNo}
use Rattle.dk_types.specs.declared.event.Event.{Event}
use Rattle.dk_types.specs.declared.event.Event.TheVariants as event
use Rattle.dk_types.specs.declared.event.ConnectReply.TheVariants as connected
use Rattle.dk_model.specs.declared.script.Line.{Line}
use Rattle.dk_model.specs.declared.script.Line.TheVariants as line
use Rattle.dk_play_laws.specs.FirstParts.{scripted_of, IsRefusedLogin, AreFirstLines, AreFirstHands}
use Rattle.dk_play_laws.specs.LineEvents.{Said, IsLineEvent, AreLineEvents}
use Rattle.dk_play_laws.proofs.Begun.{scripted_append, lines_scripted, hands_scripted}

-- nothing was entered of the lines
pub first_none : (pass : ℕ) (s : Said) (lines : List Line) → AreFirstLines pass s lines []
first_none pass s lines = record { done = []; left = lines; parts = refl; said = s; entered = []; refused = []; all = refl; are_lines = refl; is_refused = inl refl }

-- a whole line was
pub first_one : (pass : ℕ) (s : Said) (l : Line) (e : Event) (t : Said) → IsLineEvent pass s l e t → AreFirstLines pass s (l ∷ []) (e ∷ [])
first_one pass s l e t is = record { done = l ∷ []; left = []; parts = refl; said = t; entered = e ∷ []; refused = []; all = refl; are_lines = (t, is, refl); is_refused = inl refl }

-- a login was refused
pub first_refused : (pass : ℕ) (s : Said) (name : List ℕ) (next : ℕ) → AreFirstLines pass s (line.Login name ∷ []) (event.Connect pass name (connected.Exhausted next) ∷ [])
first_refused pass s name next = record {
  done = [];
  left = line.Login name ∷ [];
  parts = refl;
  said = s;
  entered = [];
  refused = event.Connect pass name (connected.Exhausted next) ∷ [];
  all = refl;
  are_lines = refl;
  is_refused = inr record { name = name; next = next; later = []; is_next = refl; refused = refl };
}

-- lines, and then others
lines_append : (pass : ℕ) (s t u : Said) (lines : List Line) (events : List Event) (more : List Line) (others : List Event) → AreLineEvents pass s lines events t → AreLineEvents pass t more others u
    → AreLineEvents pass s (lines ++ more) (events ++ others) u
lines_append pass s t u [] [] more others f g = subst (λ (x : Said). AreLineEvents pass x more others u) f g
lines_append pass s t u (l ∷ lines) (e ∷ events) more others f g = (f.0, f.1, lines_append pass f.0 t u lines events more others f.2 g)
lines_append pass s t u [] (e ∷ events) more others f g = absurd f
lines_append pass s t u (l ∷ lines) [] more others f g = absurd f

-- the next line is the same where more lines follow
refused_before : (pass : ℕ) (left more : List Line) (refused : List Event) → (refused ≡ []) ⊎ IsRefusedLogin pass left refused → (refused ≡ []) ⊎ IsRefusedLogin pass (left ++ more) refused
refused_before pass left more refused (inl none) = inl none
refused_before pass left more refused (inr r) = inr record { name = r.name; next = r.next; later = r.later ++ more; is_next = ap (λ (ls : List Line). ls ++ more) r.is_next; refused = r.refused }

-- lines, and then a first part of others
pub first_then : (pass : ℕ) (s t : Said) (lines : List Line) (events : List Event) (next more : List Line) (others : List Event) → AreLineEvents pass s lines events t → AreFirstLines pass t next others
    → AreFirstLines pass s (lines ++ (next ++ more)) (events ++ others)
first_then pass s t lines events next more others f g = record {
  done = lines ++ g.done;
  left = g.left ++ more;
  parts = ap (λ (ls : List Line). lines ++ (ls ++ more)) g.parts ∙ ap (λ (ls : List Line). lines ++ ls) (append_assoc g.done g.left more) ∙ sym (append_assoc lines g.done (g.left ++ more));
  said = g.said;
  entered = events ++ g.entered;
  refused = g.refused;
  all = ap (λ (es : List Event). events ++ es) g.all ∙ sym (append_assoc events g.entered g.refused);
  are_lines = lines_append pass s t g.said lines events g.done g.entered f g.are_lines;
  is_refused = refused_before pass g.left more g.refused g.is_refused;
}

-- a script makes all of them
refused_scripted : (pass : ℕ) (left : List Line) (refused : List Event) → (refused ≡ []) ⊎ IsRefusedLogin pass left refused → scripted_of refused ≡ refused
refused_scripted pass left refused (inl none) = ap scripted_of none ∙ sym none
refused_scripted pass left refused (inr r) = ap scripted_of r.refused ∙ sym r.refused

pub first_scripted : (pass : ℕ) (s : Said) (lines : List Line) (events : List Event) → AreFirstLines pass s lines events → scripted_of events ≡ events
first_scripted pass s lines events f =
    ap scripted_of f.all ∙ scripted_append f.entered f.refused ∙ ap (λ (es : List Event). es ++ scripted_of f.refused) (lines_scripted pass s f.done f.entered f.said f.are_lines)
    ∙ ap (λ (es : List Event). f.entered ++ es) (refused_scripted pass f.left f.refused f.is_refused) ∙ sym f.all

-- no connection was handed anything
pub no_hands : (pass : ℕ) (conns : List ConnNo) → AreFirstHands pass conns []
no_hands pass conns = record { done = []; left = conns; parts = refl; are_hands = tt }

pub first_hands_scripted : (pass : ℕ) (conns : List ConnNo) (events : List Event) → AreFirstHands pass conns events → scripted_of events ≡ events
first_hands_scripted pass conns events f = hands_scripted pass f.done events f.are_hands
