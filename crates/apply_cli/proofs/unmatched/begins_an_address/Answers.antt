use Rattle.std.proofs.Common.{◌≡◌, ◌<◌, ◌||◌, ℕ, List, Bool, Some, length, get_or, nat_eq, sym, ap, ◌∙◌, rules}
use Rattle.std.specs.Prelude.{slice_get}
use Rattle.std.specs.List.{starts_with}
use Rattle.std.proofs.lemmas.List.Folds.{list_any_at, list_any_more}
use Rattle.std.proofs.lemmas.Option.{get_or_from_slice_get}
use Rattle.apply_model.specs.Plan.ResourceChange.{ResourceChange}
use Rattle.apply_cli.proofs.unmatched.begins_an_address.Goals as goal

-- what the change of that number answers
answer_at : (changes : List ResourceChange) (n : ℕ) (change : ResourceChange) (prefix : List ℕ) (answer : Bool) → Some change ≡ slice_get changes n → answer ≡ starts_with nat_eq change.address prefix
    → starts_with nat_eq (get_or changes n change).address prefix ≡ answer
answer_at changes n change prefix answer is begins =
    ap (λ (one : ResourceChange). starts_with nat_eq one.address prefix) (get_or_from_slice_get changes n change change (sym is)) ∙ sym begins

pub returns-then-address_begins : goal.returns-then-address_begins
returns-then-address_begins c =
    let changes = c.args.plan.now.changes in
    let within : c.loop-number.number < length changes = search rules in
    sym (list_any_at (λ (one : ResourceChange). starts_with nat_eq one.address c.args.prefix.now) changes c.loop-number.number c.change.result.now within
    (answer_at changes c.loop-number.number c.change.result.now c.args.prefix.now c.address_begins.result c.change.ensures c.address_begins.ensures ∙ c.if-address_begins.true))

pub loop-number-preserved : goal.loop-number-preserved
loop-number-preserved c =
    let changes = c.args.plan.now.changes in
    let within : c.loop-number.number < length changes = search rules in
    let test : ResourceChange → Bool = λ one. starts_with nat_eq one.address c.args.prefix.now in
    list_any_more test changes c.loop-number.number c.change.result.now within
    ∙ ap (λ before. before || test (get_or changes c.loop-number.number c.change.result.now)) c.loop-number.invariant
    ∙ answer_at changes c.loop-number.number c.change.result.now c.args.prefix.now c.address_begins.result c.change.ensures c.address_begins.ensures ∙ c.if-address_begins.false
