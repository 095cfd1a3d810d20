-- Lawful acts, and how they compose. A game's rules are shown lawful by the lemmas here and in `Operations`, one for each step, in the shape that the rules have.
use Rattle.std.proofs.Common.{◌≡◌, ℕ, ◌<◌, List, All, Bool, true, false, if◌then◌else◌, Result, Ok, Err, refl}
use Rattle.dk_types.specs.declared.fault.AppFault.{AppFault}
use Rattle.dk_types.specs.declared.fault.AppFault.TheVariants.{Refused}
use Rattle.dk_types.specs.declared.job.Job.{Job}
use Rattle.dk_types.specs.declared.number.ObjectId.{ObjectId}
use Rattle.dk_types.specs.declared.number.TaskKey.{TaskKey}
use Rattle.dk_types.specs.declared.mode.Mode.{Mode}
use Rattle.dk_model.specs.Validity.{IsNumbered}
use Rattle.dk_model.specs.Runs.{Run, Act, give, and_then, within, carry_on, refuse}
use Rattle.dk_model.specs.Lawful.{GoesOn, IsFit, LeavesTasks, AlwaysGoesOn, KeepsFit, IsForGame, AreLawful}
use Rattle.dk_model.proofs.Goings.{goes_nowhere, goes_then, goes_within}
use Rattle.dk_model.proofs.Fits.{fit_with, leaves_all, leaves_then}

-- nothing is said of an answer
abbrev pub Anything : {A : Type 0} → A → Type 0
Anything x = Unit {0}

-- bytes, each below 256
abbrev pub AreBytes : List ℕ → Type 0
AreBytes bytes = All (λ b. b < 256) bytes

-- the id has a run's number and a place
abbrev pub IsId : ObjectId → Type 0
IsId id = IsNumbered id.run id.k

abbrev pub IsKey : TaskKey → Type 0
IsKey key = IsNumbered key.run key.k

-- an answer that is no refusal has the property
abbrev pub HasIfOk : {A : Type 0} → (A → Type 0) → Result A AppFault → Type 0
HasIfOk Has (Ok x) = Has x
HasIfOk Has (Err fault) = Unit {0}

-- What an act did with this run. It went on. Where the needs are met and the run was fit, it is fit still, no task that stands was changed, and the answer has the property.
pub record LawfulAt {A : Type 0} (Needs : Type 0) (Has : A → Type 0) (s : Run) (p : Result A AppFault × Run) : Type 0 where
  pub goes : GoesOn s p.1
  pub fit : Needs → IsFit s → IsFit p.1
  pub leaves : Needs → IsFit s → LeavesTasks s p.1
  pub has : Needs → IsFit s → HasIfOk Has p.0

-- An act that goes on whatever the run, and keeps a fit run fit where its needs are met. Its answer has then the property.
pub record IsLawful {A : Type 0} (Needs : Type 0) (Has : A → Type 0) (act : Act A) : Type 0 where
  pub at : (s : Run) → LawfulAt Needs Has s (act s)

-- a lawful act goes on, as the rules of a game have to
pub goes_on_of : {A Needs : Type 0} {Has : A → Type 0} {act : Act A} → IsLawful Needs Has act → AlwaysGoesOn act
goes_on_of p s = (p.at s).goes

-- a lawful act whose needs are met keeps a run fit, as the rules of a game have to
pub keeps_of : {A Needs : Type 0} {Has : A → Type 0} {act : Act A} → IsLawful Needs Has act → Needs → KeepsFit act
keeps_of p n = record { fits = λ s f. (p.at s).fit n f; leaves = λ s f. (p.at s).leaves n f }

-- the run is as it was
pub stays : {A Needs : Type 0} {Has : A → Type 0} (s : Run) (r : Result A AppFault) → (Needs → IsFit s → HasIfOk Has r) → LawfulAt Needs Has s (r, s)
stays s r h = record { goes = goes_nowhere s; fit = λ n f. f; leaves = λ n f. leaves_all s s (λ key. refl); has = h }

-- a refusal
pub refused : {A Needs : Type 0} {Has : A → Type 0} (s : Run) (fault : AppFault) → LawfulAt {A = A} Needs Has s (Err fault, s)
refused s fault = stays s (Err fault) (λ _ _. tt)

-- either way of a test
pub at_if : {A Needs : Type 0} {Has : A → Type 0} {s : Run} (b : Bool) {x y : Result A AppFault × Run} → (b ≡ true → LawfulAt Needs Has s x) → (b ≡ false → LawfulAt Needs Has s y) → LawfulAt Needs Has s (if b then x else y)
at_if true p q = p refl
at_if false p q = q refl

at_then : {A B Needs : Type 0} {P : A → Type 0} {Q : B → Type 0} (s : Run) (r : Result A AppFault) (t : Run) (g : A → Act B)
    → LawfulAt Needs P s (r, t) → ((x : A) → IsLawful (Needs × P x) Q (g x)) → LawfulAt Needs Q s (carry_on r g t)
at_then s (Ok x) t g p h =
    let q = (h x).at t in record {
      goes = goes_then p.goes q.goes;
      fit = λ n f. q.fit (n, p.has n f) (p.fit n f);
      leaves = λ n f. leaves_then s t ((g x t).1) f p.goes q.goes (p.leaves n f) (q.leaves (n, p.has n f) (p.fit n f));
      has = λ n f. q.has (n, p.has n f) (p.fit n f);
    }
at_then s (Err fault) t g p h = record { goes = p.goes; fit = p.fit; leaves = p.leaves; has = λ n f. tt }

-- `and_then`: the second step may count on what the first one's answer has
pub lawful_then : {A B Needs : Type 0} {P : A → Type 0} {Q : B → Type 0} {f : Act A} {g : A → Act B}
    → IsLawful Needs P f → ((x : A) → IsLawful (Needs × P x) Q (g x)) → IsLawful Needs Q (and_then f g)
unfolding and_then
lawful_then {f = f} {g = g} p h = record { at = λ s. at_then s ((f s).0) ((f s).1) g (p.at s) h }

-- `within`: a lawful act in another mode
pub lawful_within : {A Needs : Type 0} {Has : A → Type 0} {f : Act A} (mode : Mode) → IsLawful Needs Has f → IsLawful Needs Has (within mode f)
unfolding within
lawful_within {f = f} mode p = record {
  at = λ s.
      let q = p.at (record s { mode = mode }) in record {
        goes = goes_within s mode ((f (record s { mode = mode })).1) q.goes;
        fit = λ n h. let g = q.fit n (fit_with s h mode s.outs h.few_messages h.bodies) in fit_with _ g s.mode ((f (record s { mode = mode })).1.outs) g.few_messages g.bodies;
        leaves = λ n h. q.leaves n (fit_with s h mode s.outs h.few_messages h.bodies);
        has = λ n h. q.has n (fit_with s h mode s.outs h.few_messages h.bodies);
      };
}

-- `give` of a value
pub lawful_give : {A Needs : Type 0} {Has : A → Type 0} (x : A) → (Needs → Has x) → IsLawful Needs Has (give (Ok x))
unfolding give
lawful_give x h = record { at = λ s. stays s (Ok x) (λ n f. h n) }

-- `give` of a value of which nothing is said, as `give (Ok tt)`
pub lawful_done : {A Needs : Type 0} (x : A) → IsLawful Needs Anything (give (Ok x))
lawful_done x = lawful_give x (λ _. tt)

-- `give` of a fault
pub lawful_fail : {A Needs : Type 0} {Has : A → Type 0} (fault : AppFault) → IsLawful {A = A} Needs Has (give (Err fault))
unfolding give
lawful_fail fault = record { at = λ s. refused s fault }

-- `refuse`
pub lawful_refuse : {A Needs : Type 0} {Has : A → Type 0} (n : ℕ) → IsLawful {A = A} Needs Has (refuse n)
lawful_refuse n = record { at = λ s. refused s (Refused n) }

-- what needs less is lawful where more is met
pub lawful_needs : {A Needs Less : Type 0} {Has : A → Type 0} {act : Act A} → (Needs → Less) → IsLawful Less Has act → IsLawful Needs Has act
lawful_needs h p = record { at = λ s. let q = p.at s in record { goes = q.goes; fit = λ n. q.fit (h n); leaves = λ n. q.leaves (h n); has = λ n. q.has (h n) } }

-- an `if` between two acts; each may count on the test's answer
pub lawful_if : {A Needs : Type 0} {Has : A → Type 0} {f g : Act A} (b : Bool) → IsLawful (Needs × (b ≡ true)) Has f → IsLawful (Needs × (b ≡ false)) Has g → IsLawful Needs Has (if b then f else g)
lawful_if true p q = lawful_needs (λ n. (n, refl)) p
lawful_if false p q = lawful_needs (λ n. (n, refl)) q

-- the same where the acts are written with the run
pub lawful_if_at : {A Needs : Type 0} {Has : A → Type 0} {f g : Act A} (b : Bool) → IsLawful (Needs × (b ≡ true)) Has f → IsLawful (Needs × (b ≡ false)) Has g → IsLawful Needs Has (λ s. if b then f s else g s)
lawful_if_at true p q = lawful_needs (λ n. (n, refl)) p
lawful_if_at false p q = lawful_needs (λ n. (n, refl)) q

-- an act that goes by something of the run, of which the fit run says something
pub lawful_looks : {A X Needs : Type 0} {Has : A → Type 0} (look : Run → X) (go : X → Act A) (Says : X → Type 0) → ((s : Run) → IsFit s → Says (look s))
    → ((x : X) → IsLawful (Needs × Says x) Has (go x)) → IsLawful Needs Has (λ s. go (look s) s)
lawful_looks look go Says h p = record {
  at = λ s.
      let q = (p (look s)).at s in record {
        goes = q.goes;
        fit = λ n f. q.fit (n, h s f) f;
        leaves = λ n f. q.leaves (n, h s f) f;
        has = λ n f. q.has (n, h s f) f;
      };
}

-- rules are lawful whose every job is an act that is lawful where a game may be given the job
pub lawful_rules : {rules : Job → Act (Unit {0})} → ((job : Job) → IsLawful (IsForGame job) Anything (rules job)) → AreLawful rules
lawful_rules h = record { goes_on = λ job. goes_on_of (h job); keeps = λ job is. keeps_of (h job) is }
