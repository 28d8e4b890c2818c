use Rattle.std.proofs.Common.{◌∙◌, ◌++◌, Global, Option, Vec, append-nil, ap, sym}
use Rattle.std.specs.Prelude.{option_to_list}
use Rattle.apply_model.specs.declared.script.script_step.ScriptStep.{ScriptStep}
use Rattle.stream_record_script.proofs.ChangeSteps.{first_more, others_more}
use Rattle.stream_record_script.proofs.steps.first_steps.Goals as goal
use Rattle.stream_record_script.proofs.steps.first_steps.Goals.{in-Some+in_ok-push, in_default}

pub loop-kind-preserved : goal.loop-kind-preserved
loop-kind-preserved c =
    let kinds = c.args.kinds.now in
    let i = c.loop-kind._kind-index in
    let before = c.loop-kind.first.items in
    let steps = c.loop-kind.steps.items in
    let after = c.pop_front.new.self.items in
    let taken = c.pop_front.result in
    let more = first_more kinds i c.loop-kind-test.true steps after taken c.pop_front.ensures.items c.pop_front.ensures.rest before c.match-flatten.first.items _ in
    record {
      first = elim c.match-flatten.branch [
        | in-Some+in_ok-push w ↦ more
            (ap (λ (first : Vec ScriptStep Global). first.items) w.first-is ∙ w.in_ok-push.ensures.items
            ∙ ap (λ (own : Option ScriptStep). before ++ option_to_list own) w.in-Some.ensures) c.loop-kind.invariant.first
        | in_default w ↦ more
            (ap (λ (first : Vec ScriptStep Global). first.items) w.first-is ∙ sym (append-nil before)
            ∙ ap (λ (own : Option ScriptStep). before ++ option_to_list own) w.in_default.ensures) c.loop-kind.invariant.first
      ];
      others = others_more kinds i c.loop-kind-test.true steps after taken c.pop_front.ensures.items c.pop_front.ensures.rest _ c.loop-kind.invariant.others;
    }
