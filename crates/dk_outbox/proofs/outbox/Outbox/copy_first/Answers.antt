use Rattle.std.proofs.Common.{◌≡◌, ℕ, suc, zero, ◌+◌, ◌<◌, List, [], ◌∷◌, ◌++◌, take, sym, ap, ◌∙◌, append_assoc, add-one, arith, refl}
use Rattle.std.proofs.lemmas.List.{append-nil}
use Rattle.std.proofs.Math.Seq.{take-nil}
use Rattle.dk_outbox.proofs.outbox.Outbox.copy_first.Goals as goal

-- one more is copied
one_more : {A : Type 0} (copies copied iter rest all : List A) (x : A) (n m : ℕ) → copied ≡ copies ++ x ∷ [] → iter ≡ x ∷ rest → m + 1 ≡ n → copies ++ take n iter ≡ all → copied ++ take m rest ≡ all
one_more {A} copies copied iter rest all x n m pushed found less whole =
    let at : take n iter ≡ x ∷ take m rest = λ i. take ((sym less ∙ add-one m) i) (found i) in
    ap (λ (l : List A). l ++ take m rest) pushed ∙ append_assoc copies (x ∷ []) (take m rest) ∙ ap (λ (l : List A). copies ++ l) (sym at) ∙ whole

-- none is left
none_left : {A : Type 0} (iter : List A) (n : ℕ) → (0 < n → iter ≡ []) → take n iter ≡ []
none_left iter zero none = refl
none_left {A} iter (suc n) none = ap (take (suc n)) (none (omega arith)) ∙ take-nil (suc n)

pub loop-out-preserved : goal.loop-out-preserved
loop-out-preserved c =
    let h = c.in-Some.ensures.steps in
    one_more c.loop-out.copies.items c.push.new.self.items c.loop-out.out-iterator.iter c.next.new.self.iter _ c.in-Some.out.now _ _ (c.in_ok-push.ensures.items ∙ ap (λ x. c.loop-out.copies.items ++ x ∷ []) c.in_ok-copy_of.ensures) h.0 h.1 c.loop-out.invariant

pub returns : goal.returns
returns c =
    let h = c.in-None.ensures.steps in
    c.from_vec.ensures ∙ sym (append-nil c.loop-out.copies.items) ∙ ap (λ l. c.loop-out.copies.items ++ l) (sym (none_left c.loop-out.out-iterator.iter c.loop-out.out-iterator.n (λ some. (h some).0))) ∙ c.loop-out.invariant
