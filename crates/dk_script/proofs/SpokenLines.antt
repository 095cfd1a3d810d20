-- What a line says is one thing, and can be told from its text.
use Rattle.std.proofs.Common.{◌≡◌, ℕ, true, cond, not, Bool, eqb, List, ◌∷◌, ◌++◌, get_or, drop, refl, sym, ap, ◌∙◌, arith}
use Rattle.std.specs.Str.Parse.{digits_value}
use Rattle.std.proofs.lemmas.Fmt.{decimal_is_IsNumeral}
use Rattle.std.proofs.lemmas.Bool.Decides.{nat_tests}
use Rattle.std.proofs.lemmas.List.Sums.{AllPass-from_list_all, list_all-from_AllPass}
use Rattle.dk_model.specs.declared.script.Line.{Line}
use Rattle.dk_model.specs.declared.script.Line.TheVariants as line
use Rattle.dk_model.specs.Lines.{first_word, after_word}
use Rattle.dk_model.specs.Scripts.{Spoken, PassedOver, Does, Sync, Says, IsLine, IsLineName, is_name_byte, is_passed_over, line_text}
use Rattle.dk_script.proofs.Lacking.{lacks}
use Rattle.dk_script.proofs.FirstWords.{first_word-space, after_word-space}

-- a byte of a name is no space
is_name_byte-no_space : (b : ℕ) → is_name_byte b ≡ true → not (eqb b 32) ≡ true
is_name_byte-no_space b h = grind (arith, nat_tests)

-- a name has no space
pub lacks-name : (name : List ℕ) → IsLineName name → lacks 32 name ≡ true
lacks-name name h =
    list_all-from_AllPass (λ b. not (eqb b 32)) name (λ k d l. is_name_byte-no_space _ (AllPass-from_list_all is_name_byte name h.visible k d l))

-- a name ends at the first space
pub first_word-name : (named name text : List ℕ) → named ≡ name ++ 32 ∷ text → IsLineName name → first_word named ≡ name
first_word-name named name text e is = ap first_word e ∙ first_word-space name text (lacks-name name is)

-- and the text stands behind it
pub after_word-name : (named name text : List ℕ) → named ≡ name ++ 32 ∷ text → IsLineName name → after_word named ≡ text
after_word-name named name text e is = ap after_word e ∙ after_word-space name text (lacks-name name is)

-- the line whose fourth byte is this, with what stands behind its word
abbrev line_of : ℕ → List ℕ → Spoken
line_of mark text =
    cond (eqb mark 99) Sync
    (cond (eqb mark 105) (Does (line.Login (drop 6 text)))
    (cond (eqb mark 111) (Does (line.Logout (drop 7 text)))
    (cond (eqb mark 112) (Does (line.Drop (drop 5 text)))
    (cond (eqb mark 100) (Does (line.Send (first_word (drop 5 text)) (after_word (drop 5 text))))
    (cond (eqb mark 110) (Does (line.Channel (first_word (drop 8 text)) (first_word (after_word (drop 8 text))) (after_word (after_word (drop 8 text)))))
    (Does (line.Tick (digits_value 10 (drop 5 text)))))))))

-- what a text says, if it says anything
abbrev spoken_of : List ℕ → Spoken
spoken_of text = cond (is_passed_over text) PassedOver (line_of (get_or text 3 0) text)

-- the words of a message on a channel
channel-words : (name channel text : List ℕ) → IsLineName name → IsLineName channel
    → Does (line.Channel (first_word (name ++ 32 ∷ (channel ++ 32 ∷ text))) (first_word (after_word (name ++ 32 ∷ (channel ++ 32 ∷ text)))) (after_word (after_word (name ++ 32 ∷ (channel ++ 32 ∷ text)))))
    ≡ Does (line.Channel name channel text)
channel-words name channel text p q =
    let rest = channel ++ 32 ∷ text in
    let all = name ++ 32 ∷ rest in
    ap (λ (n : List ℕ). Does (line.Channel n (first_word (after_word all)) (after_word (after_word all)))) (first_word-space name rest (lacks-name name p))
    ∙ ap (λ (r : List ℕ). Does (line.Channel name (first_word r) (after_word r))) (after_word-space name rest (lacks-name name p))
    ∙ ap (λ (c : List ℕ). Does (line.Channel name c (after_word rest))) (first_word-space channel text (lacks-name channel q))
    ∙ ap (λ (t : List ℕ). Does (line.Channel name channel t)) (after_word-space channel text (lacks-name channel q))

-- a line is told from its text
spoken_of-line_text : (l : Line) → IsLine l → spoken_of (line_text l) ≡ Does l
spoken_of-line_text (line.Login name) is = refl
spoken_of-line_text (line.Send name text) is =
    let all = name ++ 32 ∷ text in
    ap (λ (n : List ℕ). Does (line.Send n (after_word all))) (first_word-space name text (lacks-name name is.0))
    ∙ ap (λ (t : List ℕ). Does (line.Send name t)) (after_word-space name text (lacks-name name is.0))
spoken_of-line_text (line.Channel name channel text) is = channel-words name channel text is.0 is.1
spoken_of-line_text (line.Logout name) is = refl
spoken_of-line_text (line.Drop name) is = refl
spoken_of-line_text (line.Tick moment) is = ap (λ (m : ℕ). Does (line.Tick m)) (decimal_is_IsNumeral moment (omega (arith, is))).1

-- what a text says is told from it
Says-told : (text : List ℕ) (s : Spoken) → Says text s → spoken_of text ≡ s
Says-told text PassedOver says = ap (λ (b : Bool). cond b PassedOver (line_of (get_or text 3 0) text)) says
Says-told text (Does l) says = ap spoken_of says.0 ∙ spoken_of-line_text l says.1
Says-told text Sync says = ap spoken_of says

-- so a line says one thing
pub Says-once : (text : List ℕ) (a b : Spoken) → Says text a → Says text b → a ≡ b
Says-once text a b p q = sym (Says-told text a p) ∙ Says-told text b q
