-- The members one after another.
use Rattle.std.proofs.Common.{◌≡◌, ℕ, ◌==◌, true, false, ◌+◌, ◌<◌, ◌≤◌, Option, Some, None, option_to_list, List, [], ◌∷◌, ◌++◌, length, drop, get_or, Result, Ok, Err, refl, sym, ap, subst, ◌∙◌, arith, add-one, drop-cons}
use Rattle.std.specs.Result.{IsErrAnd}
use Rattle.std.proofs.lemmas.Bool.Decides.{nat_tests}
use Rattle.std.specs.List.{cons_option}
use Rattle.std.proofs.lemmas.List.{drop_all, append-nil, append_assoc}
use Rattle.dk_types.specs.declared.job.Session.{Session}
use Rattle.dk_types.specs.declared.item.Item.{Item}
use Rattle.dk_types.specs.declared.item.Read.{Read}
use Rattle.dk_types.specs.declared.number.ObjectId.{ObjectId}
use Rattle.dk_model.specs.declared.records.ChannelRecord.{ChannelRecord}
use Rattle.dk_model.specs.Records.{channel_bytes}
use Rattle.dk_types.specs.declared.fault.AppFault.{AppFault}
use Rattle.dk_model.specs.Runs.{Run, Act, give, and_then, carry_on}
use Rattle.dk_model.specs.Platforms.{save_each, record_without, records_without, leave_members}
use Rattle.dk_txn.specs.Current.{current}
use Rattle.dk_overlay.specs.ReadsAndWrites.{ReadsAndWrites}
use Rattle.dk_txn.specs.declared.txn.Txn.{Txn}
use Rattle.dk_txn.specs.declared.refusal.Refusal.{Refusal}
use Rattle.dk_txn.specs.Refusals.{refusal_fault}
use Rattle.dk_txn.specs.Does.{Does, Resumes}
use Rattle.dk_txn.proofs.Kit.{keeps_all, then_does, stops, give_does}
use Rattle.dk_txn.specs.Sights.{Sights}

-- what is left begins with the next member
pub rest_is : {A : Type 0} (xs : List A) (i : ℕ) (x : A) → i < length xs → x ≡ get_or xs i x → drop i xs ≡ x ∷ drop (i + 1) xs
rest_is xs i x h is = drop-cons xs i x h ∙ ap (λ k. get_or xs i x ∷ drop k xs) (sym (add-one i)) ∙ ap (λ y. y ∷ drop (i + 1) xs) (sym is)

-- a step, and what is behind it, and what is behind that
then_then : {A B C : Type 0} (f : Act A) (g : A → Act B) (h : B → Act C) (s : Run) → and_then (and_then f g) h s ≡ and_then f (λ x. and_then (g x) h) s
unfolding and_then
then_then {A} {B} {C} f g h s = by (f s).0 (f s).1
  where
    by : (r : Result A AppFault) (t : Run) → (let p = carry_on r g t in carry_on p.0 h p.1) ≡ carry_on r (λ x u. let p = g x u in carry_on p.0 h p.1) t
    by (Ok x) t = refl
    by (Err e) t = refl

-- what is behind a step may be said in other words
then_same : {A B : Type 0} (f : Act A) (g h : A → Act B) → ((x : A) (t : Run) → g x t ≡ h x t) → (s : Run) → and_then f g s ≡ and_then f h s
unfolding and_then
then_same {A} {B} f g h same s = by (f s).0 (f s).1
  where
    by : (r : Result A AppFault) (t : Run) → carry_on r g t ≡ carry_on r h t
    by (Ok x) t = same x t
    by (Err e) t = refl

-- a step, and its answer as it is
then_give : {A : Type 0} (f : Act A) (s : Run) → f s ≡ and_then f (λ x. give (Ok x)) s
unfolding and_then give
then_give {A} f s = by (f s).0 (f s).1
  where
    by : (r : Result A AppFault) (t : Run) → (r, t) ≡ carry_on r (λ x u. (Ok x, u)) t
    by (Ok x) t = refl
    by (Err e) t = refl

joined : {A : Type 0} (found : List A) (one : Option A) (rest : List A) → found ++ cons_option one rest ≡ (found ++ option_to_list one) ++ rest
joined found None rest = ap (λ l. l ++ rest) (sym (append-nil found))
joined found (Some x) rest = sym (append_assoc found (x ∷ []) rest)

-- the records so far, and those of the members that are left
abbrev pub with_rest : List ℕ → List (ObjectId × List ℕ) → List Session → Act (List (ObjectId × List ℕ))
with_rest name found members = and_then (records_without name members) (λ rest. give (Ok (found ++ rest)))

one_more : (name : List ℕ) (found : List (ObjectId × List ℕ)) (m : Session) (members : List Session) (s : Run)
    → with_rest name found (m ∷ members) s ≡ and_then (record_without name m) (λ one. with_rest name (found ++ option_to_list one) members) s
unfolding and_then give
one_more name found m members s =
    then_then (record_without name m) (λ first. and_then (records_without name members) (λ rest. give (Ok (cons_option first rest)))) (λ rest. give (Ok (found ++ rest))) s
    ∙ then_same (record_without name m) _ (λ one. with_rest name (found ++ option_to_list one) members) (λ one t.
    then_then (records_without name members) (λ rest. give (Ok (cons_option one rest))) (λ rest. give (Ok (found ++ rest))) t
    ∙ then_same (records_without name members) _ (λ rest. give (Ok ((found ++ option_to_list one) ++ rest))) (λ rest u. ap (λ l. (Ok l, u)) (joined found one rest)) t) s

none_more : (name : List ℕ) (found : List (ObjectId × List ℕ)) (s : Run) → with_rest name found [] s ≡ give (Ok found) s
unfolding and_then give
none_more name found s = ap (λ l. (Ok l, s)) (append-nil found)

-- at first all are left
pub at_start : {S : Type 0} {sights : Sights S} {a : Txn S ReadsAndWrites} (name : List ℕ) (members : List Session) (found : List (ObjectId × List ℕ)) → found ≡ [] → Resumes sights a a (records_without name members) (with_rest name found members)
at_start {sights = sights} {a = a} name members found none =
    subst (λ l. Resumes sights a a (records_without name members) (with_rest name l members)) (sym none) (record { keeps = keeps_all; leads = λ d agrees. then_give (records_without name members) (current a.set d) })

module _ {S : Type 0} {sights : Sights S} {a b : Txn S ReadsAndWrites} (name : List ℕ) (members : List Session) (i : ℕ) (found : List (ObjectId × List ℕ)) {f : Act (List (ObjectId × List ℕ))} where
  -- what is left at a turn begins with the next member
  pub at_member : (member : Session) → i < length members → member ≡ get_or members i member
      → Resumes sights a b f (with_rest name found (drop i members)) → Resumes sights a b f (and_then (record_without name member) (λ one. with_rest name (found ++ option_to_list one) (drop (i + 1) members)))
  at_member member h is p = record {
    keeps = p.keeps;
    leads = λ d agrees. p.leads d agrees ∙ ap (λ ms. with_rest name found ms (current b.set d)) (rest_is members i member h is) ∙ one_more name found member (drop (i + 1) members) (current b.set d);
  }

  -- nothing is left
  pub at_end : length members ≤ i → Resumes sights a b f (with_rest name found (drop i members)) → Resumes sights a b f (give (Ok found))
  at_end h p = record {
    keeps = p.keeps;
    leads = λ d agrees. p.leads d agrees ∙ ap (λ ms. with_rest name found ms (current b.set d)) (drop_all i members h) ∙ none_more name found (current b.set d);
  }

pub no_members : (members : List Session) → (length members == 0) ≡ true → members ≡ []
no_members [] h = refl
no_members (m ∷ members) h = let e : length (m ∷ members) ≡ 0 = grind (arith, nat_tests, h) in absurd (omega (arith, e))

pub some_members : (members : List Session) → (length members == 0) ≡ false → members ≡ [] → ⊥
some_members [] h e = cc
some_members (m ∷ members) h e = cc

module _ {S : Type 0} {sights : Sights S} (name : List ℕ) (c : ObjectId × ChannelRecord) where
  -- a channel without members is left as it is
  pub leave_none : {a : Txn S ReadsAndWrites} (members : List Session) → members ≡ [] → Does sights refusal_fault a a (leave_members name c members) (Ok tt)
  leave_none {a = a} members e = subst (λ ms. Does sights refusal_fault a a (leave_members name c ms) (Ok tt)) (sym e) give_does

  -- a member's record is refused
  pub leave_stops : {a b : Txn S ReadsAndWrites} {e : Refusal} {r : Result (Unit {0}) Refusal} (members : List Session) → (members ≡ [] → ⊥)
      → Does sights refusal_fault a b (records_without name members) (Err e) → IsErrAnd r (λ h. h ≡ e) → Does sights refusal_fault a b (leave_members name c members) r
  leave_stops [] some p is = absurd (some refl)
  leave_stops (m ∷ ms) some p is = stops _ p is

  -- the records were found, and are saved behind the channel's, which is without members
  pub leave_does : {a b d : Txn S ReadsAndWrites} {r : Result (Unit {0}) Refusal} (members : List Session) (others records : List (ObjectId × List ℕ)) → (members ≡ [] → ⊥)
      → Does sights refusal_fault a b (records_without name members) (Ok others) → records ≡ (c.0, channel_bytes (record (c.1) { members = [] })) ∷ others → Does sights refusal_fault b d (save_each records) r
      → Does sights refusal_fault a d (leave_members name c members) r
  leave_does [] others records some p is q = absurd (some refl)
  leave_does {b = b} {d = d} {r = r} (m ∷ ms) others records some p is q =
      then_does (λ records. save_each ((c.0, channel_bytes (record (c.1) { members = [] })) ∷ records)) p (subst (λ l. Does sights refusal_fault b d (save_each l) r) is q)
