-- The message is sent to all members at once.
use Rattle.std.proofs.Common.{◌≡◌, ℕ, suc, ◌+◌, ◌<◌, true, false, nat_lt, Option, Some, None, List, [], ◌∷◌, ◌++◌, length, map, take, get_or, Result, Ok, Err, refl, sym, ap, subst, ◌∙◌}
use Rattle.std.specs.List.{AllByRecursion}
use Rattle.std.proofs.lemmas.List.{take_more}
use Rattle.dk_types.specs.declared.number.ConnNo.{ConnNo}
use Rattle.dk_types.specs.declared.item.Item.{Item}
use Rattle.dk_types.specs.declared.item.Read.{Read}
use Rattle.dk_types.specs.declared.job.Out.{Out}
use Rattle.dk_types.specs.declared.job.Session.{Session}
use Rattle.dk_types.specs.declared.limits.TheConstants.{MESSAGES_MOST_COUNT}
use Rattle.dk_types.specs.declared.fault.AppFault.TheVariants.{Refused}
use Rattle.dk_model.specs.Runs as act
use Rattle.dk_model.specs.Runs.{refuse, is_too_long, body_of, TOO_LONG}
use Rattle.dk_model.specs.Platforms.{send_each}
use Rattle.dk_overlay.specs.ReadsAndWrites.{ReadsAndWrites}
use Rattle.dk_txn.specs.declared.refusal.Refusal.{Refusal}
use Rattle.dk_txn.specs.declared.refusal.Refusal.TheVariants as refusal
use Rattle.dk_txn.specs.declared.txn.Txn.{Txn}
use Rattle.dk_txn.specs.Pairs.{send_all}
use Rattle.dk_txn.specs.Refusals.{refusal_fault}
use Rattle.dk_txn.specs.Does.{Does}
use Rattle.dk_txn.proofs.ObjectCalls.{refused_here}
use Rattle.dk_channels.specs.Sendings.{letters_of}
use Rattle.dk_txn.specs.Sights.{Sights}

map_last : {A B : Type 0} (f : A → B) (xs : List A) (x : A) → map f (xs ++ x ∷ []) ≡ map f xs ++ f x ∷ []
map_last f [] x = refl
map_last f (y ∷ xs) x = ap (λ l. f y ∷ l) (map_last f xs x)

-- as many messages as members
pub letters_len : (message : Out) (members : List Session) → length (letters_of message members) ≡ length members
letters_len message [] = refl
letters_len message (m ∷ members) = ap suc (letters_len message members)

-- each of a body within the limit
pub letters_short : (message : Out) → is_too_long (body_of message) ≡ false → (members : List Session) → AllByRecursion (λ (m : ConnNo × Out). is_too_long (body_of m.1) ≡ false) (letters_of message members)
letters_short message short [] = tt
letters_short message short (m ∷ members) = (short, letters_short message short members)

-- one member more
pub letters_more : (message : Out) (members : List Session) (i : ℕ) (m : Session) (letters : List (ConnNo × Out)) → i < length members → m ≡ get_or members i m → letters ≡ letters_of message (take i members)
    → letters ++ (m.conn, message) ∷ [] ≡ letters_of message (take (i + 1) members)
letters_more message members i m letters h is so_far =
    ap (λ l. l ++ (m.conn, message) ∷ []) so_far
    ∙ sym (map_last (λ (m : Session). (m.conn, message)) (take i members) m)
    ∙ ap (λ (y : Session). letters_of message (take i members ++ y ∷ [])) is
    ∙ ap (letters_of message) (sym (take_more members i m h))

-- a body is too long
pub refuses_long : {S A : Type 0} {sights : Sights S} {a : Txn S ReadsAndWrites} {e : Refusal} → refusal_fault e ≡ Some (Refused TOO_LONG) → Does sights refusal_fault a a (refuse {A = A} TOO_LONG) (Err e)
refuses_long {A = A} told = refused_here {f = refuse {A = A} TOO_LONG} (Refused TOO_LONG) told (λ d. refl)

module _ {S : Type 0} {sights : Sights S} (members : List Session) (message : Out) where
  -- where there is no room for all, it is refused
  pub each_full : {a : Txn S ReadsAndWrites} → nat_lt MESSAGES_MOST_COUNT (length a.set.outs + length members) ≡ true → Does sights refusal_fault a a (send_each members message) (Err refusal.TooMany)
  each_full full = refused_here (Refused 8) refl (λ d. rw full refl)

  -- all were sent it
  pub each_does : {a b : Txn S ReadsAndWrites} {r : Result (Unit {0}) Refusal} (letters : List (ConnNo × Out)) → letters ≡ letters_of message members → nat_lt MESSAGES_MOST_COUNT (length a.set.outs + length members) ≡ false
      → Does sights refusal_fault a b (send_all letters) r → Does sights refusal_fault a b (send_each members message) r
  unfolding send_all
  each_does {a = a} {b = b} {r = r} letters is fits p =
      let q : Does sights refusal_fault a b (send_all (letters_of message members)) r = subst (λ l. Does sights refusal_fault a b (send_all l) r) is p in
      record { keeps = q.keeps; does = λ s t d agrees. rw fits (q.does s t d agrees) }
