use Rattle.std.proofs.Common.{◌≡◌, ◌∷◌, ℕ, [], List, Bool, false, not, ◌&&◌, length, nat_lt, unwrap_or, Option, Some, ap, sym, ◌∙◌, refl}
use Rattle.std.specs.Option.{option_copied, option_map_or}
use Rattle.serde_json.specs.View.{view}
use Rattle.apply_model.specs.declared.plan.step_kind.StepKind.{StepKind}
use Rattle.apply_model.specs.declared.plan.step_kind.StepKind.TheVariants.{Create, Read}
use Rattle.apply_model.specs.Plan.StepKind.{is_kind}
use Rattle.apply_plan.specs.Script.Refusals.{takes_provisioners}
use Rattle.input_validate.specs.declared.findings.name.Name.TheVariants as name
use Rattle.input_validate.specs.declared.findings.problem.Problem.TheVariants as problem
use Rattle.input_validate.specs.declared.rules.violation.Violation.{Violation}
use Rattle.input_validate.specs.AgainstPlan.{is_deposed, only_warns}
use Rattle.input_validate.specs.Rules.{items_at}
use Rattle.input_validate.proofs.Options.{and_comm}
use Rattle.input_validate.proofs.against_plan.violations.kind_violations.Goals as goal
use Rattle.input_validate.proofs.against_plan.violations.kind_violations.Goals.{in-Some, in-None, then-takes_none, else-takes_none, then-is_no_read, else-is_no_read}

abbrev two : Bool → Bool → StepKind → List Violation
two none warns kind =
    record { holds = none; at = Some name.Provisioners; problem = problem.TakesNone kind }
    ∷ record { holds = warns; at = Some name.Failed; problem = problem.OnlyWarns kind }
    ∷ []

same_two : (a b : Bool) (k : StepKind) (a' b' : Bool) (k' : StepKind) → a ≡ a' → b ≡ b' → k ≡ k' → two a b k ≡ two a' b' k'
same_two a b k a' b' k' same_a same_b same_k = rw (same_a, same_b, same_k) refl

-- the tests for a kind, which the step may not have
abbrev two_at : (some warns deposed : Bool) (number : ℕ) → Option StepKind → List Violation
two_at some warns deposed number kind =
    two (option_map_or (λ k. some && not (takes_provisioners deposed (number, k))) kind false)
    (option_map_or (λ k. warns && not (is_kind Read k)) kind false)
    (unwrap_or kind Create)

pub returns : goal.returns
returns c =
    let d = view c.args.step.now in
    let number = c.args.number in
    let deposed : Bool = is_deposed (option_copied c.args.change) in
    let some : Bool = nat_lt 0 (length (items_at name.Provisioners d)) in
    let here : c.if-takes_none.result ≡ (c.match-kind.takes_none.0 && some) =
    elim c.if-takes_none.branch [
      | then-takes_none v ↦ v.result-is ∙ ap (nat_lt 0) v.count_at.ensures ∙ sym (ap (λ (b : Bool). b && some) v.if-takes_none.true)
      | else-takes_none v ↦ v.result-is ∙ v.if-takes_none.false ∙ sym (ap (λ (b : Bool). b && some) v.if-takes_none.false)
    ] in
    let warns : c.if-is_no_read.result ≡ (c.match-kind.takes_none.1 && only_warns d) =
    elim c.if-is_no_read.branch [
      | then-is_no_read v ↦ v.result-is ∙ v.only_warns.ensures ∙ sym (ap (λ (b : Bool). b && only_warns d) v.if-is_no_read.true)
      | else-is_no_read v ↦ v.result-is ∙ v.if-is_no_read.false ∙ sym (ap (λ (b : Bool). b && only_warns d) v.if-is_no_read.false)
    ] in
    elim c.match-kind.branch [
      | in-Some w ↦
          same_two c.if-takes_none.result c.if-is_no_read.result c.unwrap_or-kind.result
          (some && not (takes_provisioners deposed (number, w.in-Some.kind))) (only_warns d && not (is_kind Read w.in-Some.kind)) w.in-Some.kind
          (here ∙ ap (λ (p : Bool × Bool). p.0 && some) w.takes_none-is ∙ and_comm (not w.takes_provisioners.result) some
          ∙ ap (λ (b : Bool). some && not b) (w.takes_provisioners.ensures ∙ ap (λ (b : Bool). takes_provisioners b (number, w.in-Some.kind)) w.is_deposed.ensures))
          (warns ∙ ap (λ (p : Bool × Bool). p.1 && only_warns d) w.takes_none-is ∙ and_comm (not w.is_read.result) (only_warns d)
          ∙ ap (λ (b : Bool). only_warns d && not b) w.is_read.ensures)
          (c.unwrap_or-kind.ensures ∙ ap (λ (k : Option StepKind). unwrap_or k Create) w.kind-is)
          ∙ ap (two_at some (only_warns d) deposed number) (sym w.in-Some.is ∙ c.kind_of-kind.ensures)
      | in-None w ↦
          same_two c.if-takes_none.result c.if-is_no_read.result c.unwrap_or-kind.result false false Create
          (here ∙ ap (λ (p : Bool × Bool). p.0 && some) w.takes_none-is) (warns ∙ ap (λ (p : Bool × Bool). p.1 && only_warns d) w.takes_none-is)
          (c.unwrap_or-kind.ensures ∙ ap (λ (k : Option StepKind). unwrap_or k Create) (w.kind-is ∙ w.in-None.is))
          ∙ ap (two_at some (only_warns d) deposed number) (sym w.in-None.is ∙ c.kind_of-kind.ensures)
    ]
