-- What the getters of the matches answer, by the rows.
use Rattle.std.proofs.Common.{◌≡◌, ◌∙◌, ℕ, Bool, true, false, Option, Some, None, is_some, refl, sym, ap, codes}
use Rattle.std.specs.Prelude.{Result, Ok, Err, unwrap_or}
use Rattle.std.specs.Option.{IfSome, option_map_or}
use Rattle.std.specs.Str.{bytes_eq}
use Rattle.std.specs.Str.Parse.{ParsesUnsigned}
use Rattle.std.proofs.lemmas.Slice.Eq.{bytes_eq-Decides}
use Rattle.clap.specs.Words.{IsUnsignedIn, ReadsOne, Text}
use Rattle.clap.specs.Values.{Accepts}
use Rattle.clap.specs.declared.builder.value_parser.ValueParser.TheVariants as vp
use Rattle.dk_command.specs.Matches.{spelled_number}

-- a flag whose value is `true` or `false`
pub flag_value : (o one : Option Text) → one ≡ o → IfSome o (Accepts false vp.Bool) → (r : Bool) → (one ≡ None → r ≡ false)
    → (one ≡ Some (codes "true") → r ≡ true) → (one ≡ Some (codes "false") → r ≡ false)
    → r ≡ option_map_or (bytes_eq (codes "true")) o false
flag_value None one e h r none given other = none e
flag_value (Some x) one e h r none given other = go (bytes_eq x (codes "true")) refl
  where
    go : (b : Bool) → bytes_eq x (codes "true") ≡ b → r ≡ bytes_eq (codes "true") x
    go true b =
        let is : x ≡ codes "true" = (bytes_eq-Decides x (codes "true")).0 b in
        given (e ∙ ap (λ (t : Text). Some t) is) ∙ sym (ap (bytes_eq (codes "true")) is)
    go false b =
        let spells : bytes_eq x (codes "false") ≡ true = rw b at h in
        let is : x ≡ codes "false" = (bytes_eq-Decides x (codes "false")).0 spells in
        other (e ∙ ap (λ (t : Text). Some t) is) ∙ sym (ap (bytes_eq (codes "true")) is)

-- a number that its parser let through
pub number_value : (E : Type 0) (G : Text → Result ℕ E → Type 0) (o one : Option Text) (least most other : ℕ) → one ≡ o
    → IfSome o (IsUnsignedIn least most) → ((u : Text) (x : Result ℕ E) → G u x → ParsesUnsigned 64 10 u x) → (r : Option ℕ)
    → (one ≡ None → r ≡ None) → ((t : Text) → one ≡ Some t → ReadsOne G t r)
    → unwrap_or r other ≡ option_map_or spelled_number o other
number_value E G None one least most other e h only r none value = rw (none e) refl
number_value E G (Some t) one least most other e h only r none value = go r (value t e)
  where
    go : (a : Option ℕ) → ReadsOne G t a → unwrap_or a other ≡ spelled_number t
    go (Some v) g = (only t (Ok v) g).1
    go None g = absurd (only t (Err g.0) g.1 (h.0, h.1))

-- none is not some
pub none_not_some : {X : Type 0} (o : Option X) → None ≡ o → is_some o ≡ true → ⊥
none_not_some None e h = cc
none_not_some (Some x) e h = cc
