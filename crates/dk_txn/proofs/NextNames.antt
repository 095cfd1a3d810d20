-- The next name after a name, over the changes of a run.
use Rattle.std.proofs.Common.{◌≡◌, ℕ, ◌+◌, ◌<◌, ◌≤◌, Bool, true, false, cond, not, ◌&&◌, ◌||◌, ◌⊎◌, inl, inr, Option, Some, None, is_some, List, [], ◌∷◌, Ok, refl, sym, ap, subst, ◌∙◌, arith}
use Rattle.std.specs.declared.cmp.Ordering.TheVariants.{Less, Equal, Greater}
use Rattle.std.specs.Ordering.{is_eq, is_gt}
use Rattle.std.specs.Cmp.{tied_itself}
use Rattle.std.specs.FinMap as map
use Rattle.std.specs.FinMap.{find}
use Rattle.dk_types.specs.declared.number.ObjectId.{ObjectId}
use Rattle.dk_types.specs.declared.item.Item.TheVariants as item
use Rattle.dk_types.specs.declared.item.Answer.{Answer}
use Rattle.dk_types.specs.Names.{bytes_cmp}
use Rattle.dk_model.specs.DurableWorlds.{DurableWorld, Agrees, answer, next_name, is_above}
use Rattle.dk_model.specs.Runs as act
use Rattle.dk_overlay.specs.declared.change.Change.{Change}
use Rattle.dk_overlay.specs.Answers.{next_in}
use Rattle.dk_overlay.specs.Binding.{is_binding, is_bound_after}
use Rattle.dk_overlay.specs.Changes.{value_now}
use Rattle.dk_txn.specs.Layers.{layered, newest}
use Rattle.dk_overlay.specs.Least.{passes, Least, lesser}
use Rattle.dk_overlay.specs.ReadsAndWrites.{ReadsAndWrites}
use Rattle.dk_txn.specs.Current.{current}
use Rattle.dk_overlay.proofs.Keys.{names_total, names_same}
use Rattle.dk_txn.proofs.Layers.{get-layered}
use Rattle.dk_overlay.proofs.Least.{pass_at, pass_some, pass, ordered, Least-same, Least-or, Least-unique, first_key-least}
use Rattle.dk_overlay.proofs.NextBound.{above_after, after_above}
use Rattle.dk_overlay.proofs.Tests.{Some_injective, and_left, and_right, and_true, not_false, contrary, false_unless}
use Rattle.dk_txn.specs.declared.txn.Txn.{Txn}
use Rattle.dk_txn.specs.Refusals.{refusal_fault}
use Rattle.dk_txn.specs.Does.{Keeps, Does, SameChanges, NextStanding, is_standing}
use Rattle.dk_txn.proofs.Kit.{keeps_all, keeps_then, agreed}
use Rattle.dk_txn.proofs.Reading.{same_current}
use Rattle.dk_txn.specs.Sights.{Sights}
use Rattle.dk_txn.specs.Asks.{Asks, AsksOf, IsNext}
use Rattle.dk_txn.proofs.Asking.{asks_nothing, asks_then, asks_weaker}

-- how many names of entries are above one
abbrev pub names_above : {X : Type 0} → Option (List ℕ) → List (List ℕ × X) → ℕ
names_above cursor [] = 0
names_above cursor (e ∷ es) = cond (is_above cursor e.0) 1 0 + names_above cursor es

above_mono : (cursor : Option (List ℕ)) (n x : List ℕ) → is_above cursor n ≡ true → is_above (Some n) x ≡ true → is_above cursor x ≡ true
above_mono None n x h l = refl
above_mono (Some p) n x h l = after_above (Some p) x (names_total.trans p n x (above_after (Some p) n h) (above_after (Some n) x l))

fewer : (cursor : Option (List ℕ)) (n x : List ℕ) (a b : ℕ) → is_above cursor n ≡ true → a ≤ b → cond (is_above (Some n) x) 1 0 + a ≤ cond (is_above cursor x) 1 0 + b
fewer cursor n x a b h le = elim (is_above (Some n) x) as (λ t. is_above (Some n) x ≡ t → cond t 1 0 + a ≤ cond (is_above cursor x) 1 0 + b) [
  | true ↦ λ t. rw (above_mono cursor n x h t) (omega arith)
  | false ↦ λ t. omega arith
] refl

one_fewer : (cursor : Option (List ℕ)) (n x : List ℕ) (a b : ℕ) → is_above cursor n ≡ true → a < b → cond (is_above (Some n) x) 1 0 + a < cond (is_above cursor x) 1 0 + b
one_fewer cursor n x a b h le = let m = fewer cursor n x (a + 1) b h (omega arith) in omega arith

not_more : {X : Type 0} (cursor : Option (List ℕ)) (n : List ℕ) (es : List (List ℕ × X)) → is_above cursor n ≡ true → names_above (Some n) es ≤ names_above cursor es
not_more cursor n [] h = omega arith
not_more cursor n (e ∷ es) h = fewer cursor n e.0 _ _ h (not_more cursor n es h)

not_above_itself : (n : List ℕ) → is_above (Some n) n ≡ false
not_above_itself n = ap is_gt (tied_itself names_total n)

-- fewer names are above a name than above what it is above
above_falls : {X : Type 0} (cursor : Option (List ℕ)) (n : List ℕ) (es : List (List ℕ × X)) → is_above cursor n ≡ true → is_some (find bytes_cmp n es) ≡ true → names_above (Some n) es < names_above cursor es
above_falls cursor n [] h f = cc
above_falls {X = X} cursor n (e ∷ es) h f =
    elim (bytes_cmp n e.0) as (λ o. bytes_cmp n e.0 ≡ o → is_some (cond (is_eq o) (Some e.1) (find bytes_cmp n es)) ≡ true
    → cond (is_above (Some n) e.0) 1 0 + names_above (Some n) es < cond (is_above cursor e.0) 1 0 + names_above cursor es) [
      | Less ↦ λ _ g. one_fewer cursor n e.0 _ _ h (above_falls cursor n es h g)
      | Equal ↦ λ is _.
          let same : e.0 ≡ n = sym (names_same n e.0 is) in
          rw (ap (is_above (Some n)) same ∙ not_above_itself n, ap (is_above cursor) same ∙ h) (let m = not_more cursor n es h in omega arith)
      | Greater ↦ λ _ g. one_fewer cursor n e.0 _ _ h (above_falls cursor n es h g)
    ] refl f

-- the names yet to pass are fewer
pub fewer_left : (names : map.FinMap bytes_cmp (Change ObjectId)) (cursor : Option (List ℕ)) (n : List ℕ) → is_above cursor n ≡ true → is_some (map.get names n) ≡ true
    → names_above (Some n) (map.entries names) < names_above cursor (map.entries names)
fewer_left names cursor n h there = above_falls cursor n (map.entries names) h (ap is_some (sym (map.get-entries names n)) ∙ there)

-- the next name is the least that is bound
next_name-least : (names : map.FinMap bytes_cmp ObjectId) (after : Option (List ℕ)) → Least bytes_cmp (λ q. passes (is_above after) (λ _. true) q (map.get names q)) (next_name names after)
unfolding next_name
next_name-least names after = first_key-least bytes_cmp names_total names_same (is_above after) names

-- what the world says of the name after the cursor
next_is : (d : DurableWorld) (cursor : Option (List ℕ)) (said : Answer) (r : Option (List ℕ)) → answer d (item.NextAfter cursor) ≡ said → r ≡ next_in said
    → Least bytes_cmp (λ q. passes (is_above cursor) (λ _. true) q (map.get d.names q)) r
next_is d cursor said r e f = subst (Least bytes_cmp (λ q. passes (is_above cursor) (λ _. true) q (map.get d.names q))) (ap next_in e ∙ sym f) (next_name-least d.names cursor)

-- the loop has passed each standing name that is not above the cursor
pub record Passed {S : Type 0} (sights : Sights S) (a b : Txn S ReadsAndWrites) (after cursor : Option (List ℕ)) : Type 0 where
  pub keeps : Keeps sights a b
  pub same_changes : SameChanges a.set b.set
  pub passed : (d : DurableWorld) → Agrees d b.set.reads → (q : List ℕ) → is_standing b.set d after q ≡ true → is_above cursor q ≡ true
  pub further : (d : DurableWorld) → Agrees d b.set.reads → (q : List ℕ) → is_above cursor q ≡ true → is_above after q ≡ true
  pub asks : AsksOf (IsNext a.set after) sights a b
  pub next : IsNext a.set after (item.NextAfter cursor)

module _ {S : Type 0} {sights : Sights S} where
  pub passed_start : {a : Txn S ReadsAndWrites} (after cursor : Option (List ℕ)) → cursor ≡ after → Passed sights a a after cursor
  passed_start {a = a} after cursor e = record {
    keeps = keeps_all;
    same_changes = refl;
    passed = λ d agrees q h. ap (λ c. is_above c q) e ∙ pass_at (is_above after) q (map.get d.names q) (and_left _ _ h);
    further = λ d agrees q h. ap (λ c. is_above c q) (sym e) ∙ h;
    asks = asks_nothing (record { same_view = refl; same_reads = refl });
    next = inl (ap item.NextAfter e);
  }

  -- one more read changes nothing of it
  pub passed_asked : {a b c : Txn S ReadsAndWrites} {after cursor : Option (List ℕ)} → Passed sights a b after cursor → Keeps sights b c → SameChanges b.set c.set → Asks (item.NextAfter cursor) sights b c → Passed sights a c after cursor
  passed_asked {a = a} {b = b} {c = c} {after = after} p k same asks = record {
    keeps = keeps_then p.keeps k;
    same_changes = same ∙ ap (λ (t : ReadsAndWrites). record t { reads = c.set.reads }) p.same_changes;
    passed = λ d agrees q h. p.passed d (agreed k d agrees) q (ap (λ (t : ReadsAndWrites). is_standing t d after q) (sym same) ∙ h);
    further = λ d agrees. p.further d (agreed k d agrees);
    asks = asks_then p.asks (asks_weaker (λ q is. subst (IsNext a.set after) (sym is) p.next) asks);
    next = p.next;
  }

  module _ {a c : Txn S ReadsAndWrites} {after cursor : Option (List ℕ)} (p : Passed sights a c after cursor) (said : Answer)
      (tells : (d : DurableWorld) → Agrees d c.set.reads → answer d (item.NextAfter cursor) ≡ said) where
    pub passed_none : None ≡ next_in said → NextStanding c.set after None
    passed_none e = record {
      least = λ d agrees q. false_unless _ (λ h.
          contrary _
          (pass (is_above cursor) q (map.get d.names q) (p.passed d agrees q h) (pass_some (is_above after) q (map.get d.names q) (and_left _ _ h)))
          (next_is d cursor said None (tells d agrees) e q));
    }

    pub passed_some : (n : List ℕ) → Some n ≡ next_in said → (is_above cursor n ≡ false) ⊎ (is_some (map.get c.set.names n) ≡ false) → NextStanding c.set after (Some n)
    passed_some n e stays = record {
      least = λ d agrees.
          let l : Least bytes_cmp (λ q. passes (is_above cursor) (λ _. true) q (map.get d.names q)) (Some n) = next_is d cursor said (Some n) (tells d agrees) e in
          let over : is_above cursor n ≡ true = pass_at (is_above cursor) n (map.get d.names n) l.0 in
          let there : is_some (map.get c.set.names n) ≡ false = elim stays [ inl low ↦ contrary _ over low | inr is ↦ is ] in (
            and_true _ _ (pass (is_above after) n (map.get d.names n) (p.further d agrees n over) (pass_some (is_above cursor) n (map.get d.names n) l.0)) (ap not there),
            λ q less. false_unless _ (λ h.
                contrary _
                (pass (is_above cursor) q (map.get d.names q) (p.passed d agrees q h) (pass_some (is_above after) q (map.get d.names q) (and_left _ _ h)))
                (l.1 q less)),
          );
    }

    pub passed_on : (n : List ℕ) → Some n ≡ next_in said → is_some (map.get c.set.names n) ≡ true → Passed sights a c after (Some n)
    passed_on n e changed = record {
      keeps = p.keeps;
      same_changes = p.same_changes;
      passed = λ d agrees q h.
          let l : Least bytes_cmp (λ q. passes (is_above cursor) (λ _. true) q (map.get d.names q)) (Some n) = next_is d cursor said (Some n) (tells d agrees) e in
          ordered bytes_cmp names_total names_same n q
          (λ less. after_above (Some n) q less)
          (λ same. contrary (is_some (map.get c.set.names q)) (subst (λ x. is_some (map.get c.set.names x) ≡ true) same changed) (not_false _ (and_right _ _ h)))
          (λ less. contrary _
          (pass (is_above cursor) q (map.get d.names q) (p.passed d agrees q h) (pass_some (is_above after) q (map.get d.names q) (and_left _ _ h)))
          (l.1 q less));
      further = λ d agrees q h.
          let l : Least bytes_cmp (λ q. passes (is_above cursor) (λ _. true) q (map.get d.names q)) (Some n) = next_is d cursor said (Some n) (tells d agrees) e in
          p.further d agrees q (above_mono cursor n q (pass_at (is_above cursor) n (map.get d.names n) l.0) h);
      asks = p.asks;
      next = inr (n, refl, ap (λ (t : ReadsAndWrites). is_some (map.get t.names n)) (sym p.same_changes) ∙ changed);
    }

changed : {X : Type 0} (at : List ℕ → Bool) (q : List ℕ) (now : Option X) (o : Option X) → ((passes at (λ _. true) q o && false) || (at q && is_some now)) ≡ passes at (λ _. true) q now
changed at q None None = elim (at q) as (λ t. (false || (t && false)) ≡ false) [ true ↦ refl | false ↦ refl ]
changed at q None (Some y) = elim (at q) as (λ t. (((t && true) && false) || (t && false)) ≡ false) [ true ↦ refl | false ↦ refl ]
changed at q (Some x) None = elim (at q) as (λ t. (false || (t && true)) ≡ (t && true)) [ true ↦ refl | false ↦ refl ]
changed at q (Some x) (Some y) = elim (at q) as (λ t. (((t && true) && false) || (t && true)) ≡ (t && true)) [ true ↦ refl | false ↦ refl ]

-- a name is bound where it stands untouched, or was bound by the run
bound_where : {X : Type 0} (at : List ℕ → Bool) (q : List ℕ) (c : Option (Change X)) (o : Option X)
    → ((passes at (λ _. true) q o && not (is_some c)) || (at q && is_binding c)) ≡ passes at (λ _. true) q (newest value_now c o)
bound_where at q None None = elim (at q) as (λ t. (false || (t && false)) ≡ false) [ true ↦ refl | false ↦ refl ]
bound_where at q None (Some x) = elim (at q) as (λ t. (((t && true) && true) || (t && false)) ≡ (t && true)) [ true ↦ refl | false ↦ refl ]
bound_where at q (Some c) o = changed at q c.after o

next_over : (t : ReadsAndWrites) (after r own : Option (List ℕ)) → NextStanding t after r → Least bytes_cmp (is_bound_after t.names after) own → (d : DurableWorld) → Agrees d t.reads
    → next_name (layered value_now t.names d.names) after ≡ lesser bytes_cmp r own
next_over t after r own s least d agrees =
    Least-unique bytes_cmp names_total names_same
    (λ q. passes (is_above after) (λ _. true) q (map.get (layered value_now t.names d.names) q)) _ _
    (next_name-least (layered value_now t.names d.names) after)
    (Least-same bytes_cmp
    (λ q. is_standing t d after q || is_bound_after t.names after q)
    (λ q. passes (is_above after) (λ _. true) q (map.get (layered value_now t.names d.names) q))
    (λ q. bound_where (is_above after) q (map.get t.names q) (map.get d.names q)
    ∙ ap (passes (is_above after) (λ _. true) q) (sym (get-layered names_total names_same value_now t.names d.names q)))
    _
    (Least-or bytes_cmp names_total names_same (is_standing t d after) (is_bound_after t.names after) r own (s.least d agrees) least))

pub next_does : {S : Type 0} {sights : Sights S} {a b : Txn S ReadsAndWrites} (after r own least : Option (List ℕ))
    → Keeps sights a b → SameChanges a.set b.set → NextStanding b.set after r → Least bytes_cmp (is_bound_after b.set.names after) own → least ≡ lesser bytes_cmp r own
    → Does sights refusal_fault a b (act.next_bound after) (Ok least)
unfolding act.next_bound
next_does {a = a} {b = b} after r own least k same s e f = record {
  keeps = k;
  does = λ o told d agrees.
      ap (act.next_bound after) (same_current a.set b.set d same)
      ∙ ap (λ n. (Ok n, current b.set d)) (next_over b.set after r own s e d agrees ∙ sym f)
      ∙ ap (λ x. (x, current b.set d)) (Some_injective _ _ told);
}
