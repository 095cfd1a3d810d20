use Rattle.std.proofs.Common.{◌≡◌, rules, sym, subst, ◌∙◌}
use Rattle.std.proofs.lemmas.Bool.{false≢true}
use Rattle.dk_model.specs.Scripts.{IsLineName}
use Rattle.dk_script.proofs.SpokenLines.{first_word-name, after_word-name}
use Rattle.dk_script.proofs.lines.name_and_rest.Goals as goal

pub returns-then-is_line_name-clause-found : goal.returns-then-is_line_name-clause-found
returns-then-is_line_name-clause-found c =
    let bytes = c.args.bytes.now in
    let found = c.in_ok-name.ensures.found in
    record {
      is = found.0;
      named = search rules;
      only = λ other more e named. (sym (first_word-name bytes other more e named) ∙ sym found.1, sym (after_word-name bytes other more e named) ∙ sym found.2);
    }

pub returns-else-is_line_name-clause-none : goal.returns-else-is_line_name-clause-none
returns-else-is_line_name-clause-none c = λ name rest e named.
    let found = c.in_ok-name.ensures.found in
    let same : name ≡ c.in_ok-name.name.now = sym (first_word-name c.args.bytes.now name rest e named) ∙ sym found.1 in
    false≢true (c.if-is_line_name.ensures.1 (subst IsLineName same named))
