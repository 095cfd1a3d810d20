-- A script, read line by line.
use Rattle.std.proofs.Common.{◌≡◌, ◌⊎◌, inl, inr, ℕ, ◌+◌, ◌<◌, ◌≤◌, List, [], ◌∷◌, ◌++◌, length, refl, sym, ap, ◌∙◌, subst, arith, append_assoc, length-append}
use Rattle.std.specs.FinSet as sets
use Rattle.std.specs.List.{AllByRecursion, onto_first, sum_by}
use Rattle.std.proofs.lemmas.List.Sums.{sum_by-cons}
use Rattle.std.proofs.lemmas.List.{append-nil, length_push}
use Rattle.dk_types.specs.declared.limits.TheConstants.{SCRIPT_MOST_BYTES}
use Rattle.dk_model.specs.declared.script.Line.{Line}
use Rattle.dk_model.specs.Lines.{lines_of, text_of}
use Rattle.dk_model.specs.Scripts.{Spoken, PassedOver, Does, Sync, Says, IsLine, LineNames, MayStand, MaySay, names_after, names_said, names_at, AreWithin, phases_said, IsScript, IsUnended, AllStand}
use Rattle.dk_script.specs.Reading.{IsCut, Follows}
use Rattle.dk_script.proofs.Written.{text_of-push}
use Rattle.dk_script.proofs.LinesTold.{AllByRecursion-append}
use Rattle.dk_script.proofs.Cuts.{cut_shorter}

-- phases with more behind them: the first of these goes on with the last of those
abbrev pub glued : List (List Line) → List Line → List (List Line) → List (List Line)
glued ended lines [] = ended ++ lines ∷ []
glued ended lines (first ∷ phases) = ended ++ (lines ++ first) ∷ phases

-- a text that was read up to a place: the lines before it, what they say, and what follows
pub record IsReadTo (bytes rest : List ℕ) (number : ℕ) (ended : List (List Line)) (lines : List Line) (names : LineNames) : Type 0 where
  pub before : List (List ℕ)
  pub spoken : List Spoken
  pub within : AreWithin sets.empty before spoken
  pub all : lines_of bytes ≡ before ++ lines_of rest
  pub unended : AllByRecursion IsUnended before
  pub counted : number ≡ length before
  pub names_are : names ≡ names_at sets.empty spoken
  pub front : (bytes ≡ text_of before ++ rest) ⊎ (rest ≡ [])
  pub reached : length bytes ≤ SCRIPT_MOST_BYTES + length rest
  pub few : number + length rest ≤ length bytes
  pub phases : (later : List Spoken) → phases_said (spoken ++ later) ≡ glued ended lines (phases_said later)

-- one line more is within
within-push : (names : LineNames) (texts : List (List ℕ)) (spoken : List Spoken) (text : List ℕ) (s : Spoken) → AreWithin names texts spoken → Says text s → MaySay (names_at names spoken) s → AreWithin names (texts ++ text ∷ []) (spoken ++ s ∷ [])
within-push names [] [] text s w says may = (says, may, tt)
within-push names (t ∷ texts) (x ∷ spoken) text s w says may = (w.0, w.1, within-push (names_said names x) texts spoken text s w.2 says may)
within-push names [] (x ∷ spoken) text s w says may = absurd w
within-push names (t ∷ texts) [] text s w says may = absurd w

-- the names after one more
names_at-push : (names : LineNames) (spoken : List Spoken) (s : Spoken) → names_at names (spoken ++ s ∷ []) ≡ names_said (names_at names spoken) s
names_at-push names [] s = refl
names_at-push names (x ∷ spoken) s = names_at-push (names_said names x) spoken s

-- what is said has a phase
phases-some : (spoken : List Spoken) → (first : List Line) × (others : List (List Line)) × (phases_said spoken ≡ first ∷ others)
phases-some [] = ([], [], refl)
phases-some (PassedOver ∷ spoken) = phases-some spoken
phases-some (Sync ∷ spoken) = ([], phases_said spoken, refl)
phases-some (Does l ∷ spoken) = let p = phases-some spoken in (l ∷ p.0, p.1, ap (onto_first l) p.2)

-- a line goes to the end of the lines before it
glued-line : (ended : List (List Line)) (lines : List Line) (l : Line) (phases : List (List Line)) → glued ended lines (onto_first l phases) ≡ glued ended (lines ++ l ∷ []) phases
glued-line ended lines l [] = refl
glued-line ended lines l (first ∷ phases) = ap (λ (p : List Line). ended ++ p ∷ phases) (sym (append_assoc lines (l ∷ []) first))

-- a `sync` ends them
glued-sync : (ended : List (List Line)) (lines first : List Line) (others : List (List Line)) → glued ended lines ([] ∷ (first ∷ others)) ≡ glued (ended ++ lines ∷ []) [] (first ∷ others)
glued-sync ended lines first others = ap (λ (p : List Line). ended ++ p ∷ (first ∷ others)) (append-nil lines) ∙ sym (append_assoc ended (lines ∷ []) (first ∷ others))

-- the phases with one more that is said
glued-said : (ended ended' : List (List Line)) (lines lines' : List Line) (s : Spoken) (later : List Spoken) → Follows ended lines s ended' lines' → glued ended lines (phases_said (s ∷ later)) ≡ glued ended' lines' (phases_said later)
glued-said ended ended' lines lines' PassedOver later f = ap (λ (e : List (List Line)). glued e lines (phases_said later)) (sym f.0) ∙ ap (λ (l : List Line). glued ended' l (phases_said later)) (sym f.1)
glued-said ended ended' lines lines' (Does l) later f =
    glued-line ended lines l (phases_said later) ∙ ap (λ (e : List (List Line)). glued e (lines ++ l ∷ []) (phases_said later)) (sym f.0) ∙ ap (λ (x : List Line). glued ended' x (phases_said later)) (sym f.1)
glued-said ended ended' lines lines' Sync later f =
    let p = phases-some later in
    ap (λ (x : List (List Line)). glued ended lines ([] ∷ x)) p.2 ∙ glued-sync ended lines p.0 p.1 ∙ ap (glued (ended ++ lines ∷ []) []) (sym p.2)
    ∙ ap (λ (e : List (List Line)). glued e [] (phases_said later)) (sym f.0) ∙ ap (λ (x : List Line). glued ended' x (phases_said later)) (sym f.1)

-- nothing is read yet
pub IsReadTo-nothing : (bytes : List ℕ) → IsReadTo bytes bytes 0 [] [] sets.empty
IsReadTo-nothing bytes = record {
  before = [];
  spoken = [];
  within = tt;
  all = refl;
  unended = tt;
  counted = refl;
  names_are = refl;
  front = inl refl;
  reached = omega arith;
  few = omega arith;
  phases = λ later. let p = phases-some later in p.2 ∙ ap (glued [] []) (sym p.2);
}

module _ {bytes rest : List ℕ} {number : ℕ} {ended : List (List Line)} {lines : List Line} {names : LineNames} (r : IsReadTo bytes rest number ended lines names) (line after : List ℕ) (some : 0 < length rest) (cut : IsCut rest line after) where
  -- the bytes before the place
  front_is : bytes ≡ text_of r.before ++ rest
  front_is = by r.front where
    by : ((bytes ≡ text_of r.before ++ rest) ⊎ (rest ≡ [])) → bytes ≡ text_of r.before ++ rest
    by (inl e) = e
    by (inr e) = absurd (omega (arith, some, ap length e))

  -- as many as that
  front_length : length bytes ≡ length (text_of r.before) + length rest
  front_length = ap length front_is ∙ length-append (text_of r.before) rest

  -- one more line is read
  pub IsReadTo-more : (s : Spoken) (ended' : List (List Line)) (lines' : List Line) (names' : LineNames) → Says line s → MaySay names s → Follows ended lines s ended' lines' → names' ≡ names_said names s
      → length bytes ≤ SCRIPT_MOST_BYTES + length after → IsReadTo bytes after (number + 1) ended' lines' names'
  IsReadTo-more s ended' lines' names' says may follows same short = record {
    before = r.before ++ line ∷ [];
    spoken = r.spoken ++ s ∷ [];
    within = within-push sets.empty r.before r.spoken line s r.within says (subst (λ n. MaySay n s) r.names_are may);
    all = r.all ∙ ap (λ (ls : List (List ℕ)). r.before ++ ls) cut.lines ∙ sym (append_assoc r.before (line ∷ []) (lines_of after));
    unended = AllByRecursion-append IsUnended r.before (line ∷ []) r.unended (cut.unended, tt);
    counted = ap (λ n. n + 1) r.counted ∙ sym (length_push r.before line);
    names_are = same ∙ ap (λ n. names_said n s) r.names_are ∙ sym (names_at-push sets.empty r.spoken s);
    front = by cut.parted;
    reached = short;
    few = let less = cut_shorter rest line after some cut in omega (arith, r.few, less);
    phases = λ later. ap phases_said (append_assoc r.spoken (s ∷ []) later) ∙ r.phases (s ∷ later) ∙ glued-said ended ended' lines lines' s later follows;
  } where
    by : ((rest ≡ line ++ 10 ∷ after) ⊎ ((rest ≡ line) × (after ≡ []))) → ((bytes ≡ text_of (r.before ++ line ∷ []) ++ after) ⊎ (after ≡ []))
    by (inl e) = inl (front_is ∙ ap (λ (t : List ℕ). text_of r.before ++ t) e ∙ sym (ap (λ (t : List ℕ). t ++ after) (text_of-push r.before line) ∙ append_assoc (text_of r.before) (line ++ 10 ∷ []) after ∙ ap (λ (t : List ℕ). text_of r.before ++ t) (append_assoc line (10 ∷ []) after)))
    by (inr e) = inr e.1

  reached : length (text_of r.before) ≤ SCRIPT_MOST_BYTES
  reached = omega (arith, r.reached, front_length)

-- the lines that are said are within
said_lines : (names : LineNames) (l : Line) (phases : List (List Line)) → IsLine l → MayStand names l → AllStand (names_after names l) phases → AllStand names (onto_first l phases)
said_lines names l [] is may stand = ((is, may, tt), tt)
said_lines names l (lines ∷ phases) is may stand = ((is, may, stand.0), stand.1)

-- phase after phase
stand-said : (names : LineNames) (texts : List (List ℕ)) (spoken : List Spoken) → AreWithin names texts spoken → AllStand names (phases_said spoken)
stand-said names [] [] w = (tt, tt)
stand-said names (t ∷ texts) (PassedOver ∷ spoken) w = stand-said names texts spoken w.2
stand-said names (t ∷ texts) (Does l ∷ spoken) w = said_lines names l (phases_said spoken) w.0.1 w.1 (stand-said (names_after names l) texts spoken w.2)
stand-said names (t ∷ texts) (Sync ∷ spoken) w = (tt, stand-said names texts spoken w.2)
stand-said names [] (s ∷ spoken) w = absurd w
stand-said names (t ∷ texts) [] w = absurd w

-- the lines of a script stand
pub IsScript-stands : (bytes : List ℕ) (phases : List (List Line)) → IsScript bytes phases → AllStand sets.empty phases
IsScript-stands bytes phases script = subst (AllStand sets.empty) (sym script.said) (stand-said sets.empty (lines_of bytes) script.spoken script.within)

-- one line more
count-line : (l : Line) (phases : List (List Line)) → sum_by length (onto_first l phases) ≡ sum_by length phases + 1
count-line l [] = refl
count-line l (lines ∷ phases) = omega (arith, sum_by-cons {X = List Line} length (l ∷ lines) phases, sum_by-cons {X = List Line} length lines phases)

-- each line is one of the text's
count-said : (names : LineNames) (texts : List (List ℕ)) (spoken : List Spoken) → AreWithin names texts spoken → sum_by length (phases_said spoken) ≤ length texts
count-said names [] [] w = omega arith
count-said names (t ∷ texts) (PassedOver ∷ spoken) w = omega (arith, count-said names texts spoken w.2)
count-said names (t ∷ texts) (Does l ∷ spoken) w = omega (arith, count-line l (phases_said spoken), count-said (names_after names l) texts spoken w.2)
count-said names (t ∷ texts) (Sync ∷ spoken) w = omega (arith, sum_by-cons {X = List Line} length [] (phases_said spoken), count-said names texts spoken w.2)
count-said names [] (s ∷ spoken) w = absurd w
count-said names (t ∷ texts) [] w = absurd w

module _ {bytes rest : List ℕ} {number : ℕ} {ended : List (List Line)} {lines : List Line} {names : LineNames} (r : IsReadTo bytes rest number ended lines names) (none : length rest ≡ 0) where
  all_lines : lines_of bytes ≡ r.before
  all_lines = by rest none r.all where
    by : (left : List ℕ) → length left ≡ 0 → lines_of bytes ≡ r.before ++ lines_of left → lines_of bytes ≡ r.before
    by [] empty all = all ∙ append-nil r.before
    by (b ∷ left) empty all = absurd (omega (arith, empty))

  -- these are its phases
  whole_said : ended ++ lines ∷ [] ≡ phases_said r.spoken
  whole_said = sym (ap phases_said (sym (append-nil r.spoken)) ∙ r.phases [] ∙ ap (λ (l : List Line). ended ++ l ∷ []) (append-nil lines))

  -- where nothing is left, the lines are the script
  pub IsScript-read : IsScript bytes (ended ++ lines ∷ [])
  IsScript-read = record {
    short = omega (arith, r.reached, none);
    spoken = r.spoken;
    within = subst (λ (ls : List (List ℕ)). AreWithin sets.empty ls r.spoken) (sym all_lines) r.within;
    said = whole_said;
  }

  -- at most as many as a script may have bytes
  pub lines_most : sum_by length (ended ++ lines ∷ []) ≤ SCRIPT_MOST_BYTES
  lines_most =
      let few = count-said sets.empty r.before r.spoken r.within in
      let same : sum_by length (ended ++ lines ∷ []) ≡ sum_by length (phases_said r.spoken) = ap (λ (p : List (List Line)). sum_by length p) whole_said in
      omega (arith, same, few, r.counted, r.few, r.reached, none)
