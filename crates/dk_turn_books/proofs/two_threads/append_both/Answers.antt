use Rattle.std.proofs.Common.{refl, ap, ◌∙◌}
use Rattle.dk_turn_books.proofs.Places.{has_line_on, line_read}
use Rattle.dk_turn_books.proofs.Passes.{first_of_two, second_of_two}
use Rattle.dk_turn_books.proofs.two_threads.append_both.Goals as goal

pub returns-clause-first : goal.returns-clause-first
returns-clause-first g c =
    let dealt = ap (λ k. k.number) c.in_ok-turn.ensures.0 in
    let told = c.in_ok-one.ensures in
    let number = told.numbers.0 ∙ dealt in
    let met = has_line_on 0 _ _ _ _ _ _ told.first dealt number c.meet.ensures.one in
    has_line_on 0 _ _ _ _ _ _ met refl (c.meet.ensures.numbers.0 ∙ number) (first_of_two (λ l. l.by) _ _ _ c.in_ok-lines.ensures.fronts)

pub returns-clause-second : goal.returns-clause-second
returns-clause-second g c =
    let dealt = ap (λ k. k.number) c.in_ok-turn.ensures.1 in
    let told = c.in_ok-one.ensures in
    let number = told.numbers.1 ∙ dealt in
    let met = has_line_on 1 _ _ _ _ _ _ told.second dealt number c.meet.ensures.other in
    let number' = c.meet.ensures.numbers.1 ∙ number in
    let read = has_line_on 1 _ _ _ _ _ _ met refl number' c.recall-line.ensures.seen in
    has_line_on 1 _ _ _ _ _ _ read refl (c.recall-line.ensures.number ∙ number') (second_of_two (λ l. l.by) _ _ _ c.in_ok-lines.ensures.fronts)

pub returns-clause-read : goal.returns-clause-read
returns-clause-read g c =
    let dealt = ap (λ k. k.number) c.in_ok-turn.ensures.0 in
    let told = c.in_ok-one.ensures in
    let met = has_line_on 0 _ _ _ _ _ _ told.first dealt (told.numbers.0 ∙ dealt) c.meet.ensures.one in
    line_read _ _ _ _ _ _ met c.meet.ensures.same c.recall-line.ensures.line
