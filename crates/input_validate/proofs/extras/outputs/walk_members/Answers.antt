use Rattle.std.proofs.Common.{rules, ◌≡◌, ◌≤◌, ◌-◌, ◌++◌, ℕ, suc, List, length, map, option_map, sym, ap, ◌∙◌, append_assoc, arith}
use Rattle.std.specs.Option.{option_copied}
use Rattle.serde_json.specs.Data.{Data, Members, member}
use Rattle.serde_json.specs.View.{members_view, view}
use Rattle.apply_plan_terraform.specs.Outputs.{outputs_view}
use Rattle.input_validate.specs.declared.findings.finding.Finding.{Finding}
use Rattle.input_validate.specs.declared.findings.path.Segment.TheVariants.{Other}
use Rattle.input_validate.specs.Extras.{in_plan_output, members_from}
use Rattle.input_validate.specs.Findings.{under}
use Rattle.input_validate.proofs.extras.outputs.walk_members.Goals as goal

-- the findings of one more member follow those so far
one_more : (findings : List ℕ → Data → List Finding) (xs : List Finding) (n m : ℕ) (ms rest : Members) (text : List ℕ) (d : Data) (whole : List Finding)
    → ms ≡ member text d rest → m ≡ suc n → xs ++ members_from findings n ms ≡ whole
    → (xs ++ map (under (Other n)) (findings text d)) ++ members_from findings m rest ≡ whole
one_more findings xs n m ms rest text d whole is next so_far =
    ap (λ (k : ℕ). (xs ++ map (under (Other n)) (findings text d)) ++ members_from findings k rest) next
    ∙ append_assoc xs (map (under (Other n)) (findings text d)) (members_from findings (suc n) rest)
    ∙ ap (λ (more : Members). xs ++ members_from findings n more) (sym is)
    ∙ so_far

pub loop-name-preserved : goal.loop-name-preserved
loop-name-preserved c =
    let l = c.loop-name in
    let i = l.invariant in
    let findings = in_plan_output (option_map outputs_view (option_copied c.args.planned)) in
    let n : ℕ = c.len-count.result - l.left in
    let own : List Finding = findings c.as_str.result.now (view c.in-Some.output.now) in
    let steps : members_view l.name-iterator ≡ member c.as_str.result.now (view c.in-Some.output.now) (members_view c.next.new.self) = search rules in
    let longer : length l.name-iterator ≡ suc (length c.next.new.self) = search rules in
    let left : l.left ≡ suc (length c.next.new.self) = i.2 ∙ longer in
    let few : l.left ≤ c.len-count.result = i.3 in (
      i.0 ++ map (under (Other n)) own,
      c.in_ok-all.ensures i.0 (map (under (Other n)) own) (c.all.view_is ∙ i.1) (c.in_ok-under.ensures own c.in_ok-findings.ensures),
      omega (arith, left),
      omega (arith, few),
      one_more findings i.0 n (c.len-count.result - (l.left - 1)) (members_view l.name-iterator) (members_view c.next.new.self) c.as_str.result.now (view c.in-Some.output.now) _ steps
          (omega (arith, left, few)) i.4,
    )
