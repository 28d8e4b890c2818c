use Rattle.std.proofs.Common.{◌≡◌, ◌∙◌, ap, sym, rules}
use Rattle.serde_json.specs.Data.{null, boolean, number, string}
use Rattle.serde_json.specs.View.{number_view, view}
use Rattle.serde_json.specs.declared.value.Value.{Bool, Null, Number, String, the_lemmas}
use Rattle.apply_json.specs.ShallowView.{shallow_view}
use Rattle.apply_json_tree.proofs.Scalars.{none_is, number_is, text_is, truth_is}
use Rattle.apply_json_tree.proofs.trimming.value_of.Goals as goal

pub returns-in-Absent-clause-ok : goal.returns-in-Absent-clause-ok
returns-in-Absent-clause-ok c = λ d is same.
    let seen : view Null ≡ null = search (rules, the_lemmas) in
    seen ∙ none_is c.args.shallow c.in-Absent.is d is same

pub returns-in-Bool-clause-ok : goal.returns-in-Bool-clause-ok
returns-in-Bool-clause-ok c = λ d is same.
    let seen : view (Bool c.in-Bool.b) ≡ boolean c.in-Bool.b = search (rules, the_lemmas) in
    seen ∙ truth_is c.in-Bool.b d is (ap shallow_view (sym c.in-Bool.is) ∙ same)

pub returns-in-Number-clause-ok : goal.returns-in-Number-clause-ok
returns-in-Number-clause-ok c = λ d is same.
    let seen : view (Number c.in-Number.number) ≡ number (number_view c.in-Number.number) = search (rules, the_lemmas) in
    seen ∙ number_is (number_view c.in-Number.number) d is (ap shallow_view (sym c.in-Number.is) ∙ same)

pub returns-in_ok-from_str-in-Text-clause-ok : goal.returns-in_ok-from_str-in-Text-clause-ok
returns-in_ok-from_str-in-Text-clause-ok c = λ d is same.
    let seen : view (String c.in_ok-from_str-in-Text.field-0) ≡ string c.in-Text.text.now = search (rules, the_lemmas) in
    seen ∙ text_is c.in-Text.text.now d is (ap shallow_view (sym c.in-Text.is) ∙ same)
