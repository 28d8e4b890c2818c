use Rattle.std.proofs.Common.{rules, ◌≡◌, ◌≤◌, ◌-◌, ℕ, suc, List, length, true, false, not, ◌&&◌, Option, Some, refl, sym, ap, ◌∙◌, arith}
use Rattle.serde_json.specs.Data.{Data, Members, member}
use Rattle.serde_json.specs.View.{members_view, view}
use Rattle.input_validate.specs.Doubts.{first_valueless, is_unknown, states_output}
use Rattle.input_validate.proofs.doubts.outputs.first_valueless.Goals as goal

-- the first output is passed over
passed : (script d : Data) (n m : ℕ) (ms rest : Members) (text : List ℕ) (whole : Option ℕ) → ms ≡ member text d rest → m ≡ suc n
    → (is_unknown d && not (states_output script text)) ≡ false → first_valueless script n ms ≡ whole → first_valueless script m rest ≡ whole
passed script d n m ms rest text whole is next not_so so_far =
    let step : first_valueless script n (member text d rest) ≡ first_valueless script (suc n) rest = rw not_so refl in
    ap (λ (k : ℕ). first_valueless script k rest) next ∙ sym step ∙ ap (first_valueless script n) (sym is) ∙ so_far

-- the first output is the one
reached : (script d : Data) (n : ℕ) (ms rest : Members) (text : List ℕ) (whole : Option ℕ) → ms ≡ member text d rest
    → (is_unknown d && not (states_output script text)) ≡ true → first_valueless script n ms ≡ whole → Some n ≡ whole
reached script d n ms rest text whole is is_so so_far =
    let step : first_valueless script n (member text d rest) ≡ Some n = rw is_so refl in
    sym step ∙ ap (first_valueless script n) (sym is) ∙ so_far

pub loop-name-preserved : goal.loop-name-preserved
loop-name-preserved c =
    let l = c.loop-name in
    let i = l.invariant in
    let n : ℕ = c.len-count.result - l.left in
    let steps : members_view l.name-iterator ≡ member c.as_str.result.now (view c.in-Some.change.now) (members_view c.next.new.self) = search rules in
    let longer : length l.name-iterator ≡ suc (length c.next.new.self) = search rules in
    let left : l.left ≡ suc (length c.next.new.self) = i.0 ∙ longer in
    let few : l.left ≤ c.len-count.result = i.1 in (
      omega (arith, left),
      omega (arith, few),
      passed (view c.args.script.now) (view c.in-Some.change.now) n (c.len-count.result - (l.left - 1)) (members_view l.name-iterator) (members_view c.next.new.self) c.as_str.result.now _ steps
          (omega (arith, left, few)) (sym c.is_valueless.ensures ∙ c.if-is_valueless.false) i.2,
    )

pub returns-then-is_valueless : goal.returns-then-is_valueless
returns-then-is_valueless c =
    let l = c.loop-name in
    let i = l.invariant in
    let steps : members_view l.name-iterator ≡ member c.as_str.result.now (view c.in-Some.change.now) (members_view c.next.new.self) = search rules in
    reached (view c.args.script.now) (view c.in-Some.change.now) (c.len-count.result - l.left) (members_view l.name-iterator) (members_view c.next.new.self) c.as_str.result.now _ steps
    (sym c.is_valueless.ensures ∙ c.if-is_valueless.true) i.2
