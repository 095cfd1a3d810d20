-- The counters that were read, and the totals.
use Rattle.std.proofs.Common.{◌≡◌, ℕ, ◌+◌, ◌<◌, zero, suc, Some, Result, Ok, Err, IfOk, inl, inr, List, [], ◌∷◌, ◌++◌, length, get_or, refl, sym, ap, subst, ◌∙◌, arith}
use Rattle.std.specs.FinMap.{get}
use Rattle.std.proofs.lemmas.List.{length-append, get_or_append_left}
use Rattle.std.proofs.Math.Seq.{get_or-append_seam}
use Rattle.std.proofs.lemmas.Bool.{cases_lt}
use Rattle.dk_types.specs.declared.number.ObjectId.{ObjectId}
use Rattle.dk_types.specs.declared.item.Answer.{Answer}
use Rattle.dk_types.specs.declared.item.Item.TheVariants as ask
use Rattle.dk_types.specs.declared.event.Event.{Event}
use Rattle.dk_model.specs.DurableWorlds.{DurableWorld, answer, name_answer, object_answer}
use Rattle.dk_model.specs.Legal.{Opened, IsLegal, world_after}
use Rattle.dk_overlay.specs.Answers.{id_in, object_in}
use Rattle.dk_demos.specs.CountersRules.{counter_name}
use Rattle.dk_demos.specs.CountersTotals.{HasCounter, AreTotals, AreOfCounters, plain_count}
use Rattle.dk_demos.proofs.CountersCounting.{plain_most}
use Rattle.dk_demos.proofs.CountersRaise.{counter_again}
use Rattle.dk_demos.proofs.CountersHistory.{come_to_totals}
use Rattle.darkstar.specs.StressText.{plain_counts_from, plain_counts}
use Rattle.darkstar.specs.Tallies.{count_in, count_of, IsCountIn, AreCountsIn, IsTally}

some_same : {A : Type 0} (x y : A) → Some x ≡ Some y → x ≡ y
some_same x y e = cc

-- what holds of an answer that is no refusal
pub of_ok : {A E : Type 0} (P : A → Type 0) (r : Result A E) (x : A) → r ≡ Ok x → IfOk r P → P x
of_ok P (Ok y) x e h = subst P (ok_same y x e) h where
  ok_same : {A E : Type 0} (y x : A) → ◌≡◌ {A = Result A E} (Ok y) (Ok x) → y ≡ x
  ok_same y x e = cc
of_ok P (Err e) x is h = absurd cc

-- what was answered to a counter's name
abbrev pub IsNamedIn : ℕ → Answer → DurableWorld → Type 0
IsNamedIn number named d = named ≡ answer d (ask.Bound (counter_name number))

-- and to an id
abbrev pub IsObjectIn : ObjectId → Answer → DurableWorld → Type 0
IsObjectIn id found d = found ≡ answer d (ask.Object id)

-- the name of a counter that is there names its id
named_id : (d : DurableWorld) (number count : ℕ) (named : Answer) → IsNamedIn number named d → (h : HasCounter d number count) → id_in named ≡ Some h.id
named_id d number count named is h = ap id_in (is ∙ ap name_answer h.bound)

-- the count of the object that it names is its count
pub named_count : (d : DurableWorld) (number read : ℕ) (id : ObjectId) (named found : Answer) → id_in named ≡ Some id → read ≡ count_in (object_in found) → IsNamedIn number named d → IsObjectIn id found d → IsCountIn d number read
named_count d number read id named found some told is at count fits h =
    let same : h.id ≡ id = some_same h.id id (sym (named_id d number count named is h) ∙ some) in
    let there : get d.objects id ≡ Some _ = ap (get d.objects) (sym same) ∙ h.object in
    told ∙ ap (λ (a : Answer). count_in (object_in a)) (at ∙ ap object_answer there) ∙ ap count_of (counter_again count fits)

-- one counter more
pub counts_push : (d : DurableWorld) (n count : ℕ) (counts : List ℕ) → AreCountsIn d n counts → IsCountIn d n count → AreCountsIn d (n + 1) (counts ++ count ∷ [])
counts_push d n count counts all one =
    let size = all.0 in
    let longer = length-append counts (count ∷ []) in (
      omega (arith, size, longer),
      λ number lt. elim (cases_lt number n) [
        | inl below ↦ subst (IsCountIn d number) (sym (get_or_append_left counts (count ∷ []) 0 number (omega (arith, below, size)))) (all.1 number below)
        | inr above ↦
            let is : number ≡ n = omega (arith, lt, above) in
            let here : get_or (counts ++ count ∷ []) number 0 ≡ count = ap (λ (k : ℕ). get_or (counts ++ count ∷ []) k 0) (is ∙ sym size) ∙ get_or-append_seam counts count [] 0 in
            subst (IsCountIn d number) (sym here) (subst (λ (k : ℕ). IsCountIn d k count) (sym is) one)
      ],
    )

-- the counts of a world that has come to the totals are the plain counts
plain_from : (d : DurableWorld) (seed tasks first n : ℕ) (counts : List ℕ) → length counts ≡ n → ((k : ℕ) → k < n → get_or counts k 0 ≡ plain_count seed tasks (first + k)) → counts ≡ plain_counts_from seed tasks first n
unfolding plain_counts_from
plain_from d seed tasks first zero [] size each = refl
plain_from d seed tasks first zero (c ∷ counts) size each = absurd (omega (arith, size))
plain_from d seed tasks first (suc n) [] size each = absurd (omega (arith, size))
plain_from d seed tasks first (suc n) (c ∷ counts) size each =
    let here : c ≡ plain_count seed tasks first = each 0 (omega arith) ∙ ap (plain_count seed tasks) (omega arith) in
    let rest = plain_from d seed tasks (first + 1) n counts (omega (arith, size)) (λ k lt. each (suc k) (omega (arith, lt)) ∙ ap (plain_count seed tasks) (omega arith)) in
    λ i. here i ∷ rest i

module _ (o : Opened) (seed tasks : ℕ) (is : AreOfCounters seed tasks o) (log : List Event) (legal : IsLegal o log) (counts : List ℕ) (t : IsTally o log counts) where
  totals : AreTotals seed tasks (world_after o log).durable
  totals = come_to_totals o seed tasks log is legal t.rested.unconnected t.rested.rest

  -- each task is a commit, and so is the first run
  pub tally_commits : (world_after o log).durable.commits ≡ tasks + 1
  tally_commits = totals.commits

  -- and the counters are the plain counts
  pub tally_counts : counts ≡ plain_counts seed tasks
  tally_counts = plain_from (world_after o log).durable seed tasks 0 16 counts t.read.0 (λ k lt.
      let few = is.few in
      let most = plain_most seed tasks k in
      let zero_more : k ≡ 0 + k = omega arith in
      t.read.1 k lt (plain_count seed tasks k) (omega (arith, few, most)) (totals.counters k lt) ∙ ap (plain_count seed tasks) zero_more)
