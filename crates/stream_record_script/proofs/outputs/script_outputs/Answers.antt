use Rattle.std.proofs.Common.{◌≡◌, ◌∙◌, ◌+◌, ◌++◌, ◌∷◌, [], Global, List, Vec, ap, drop, sym}
use Rattle.apply_model.specs.declared.details.output.Output.{Output}
use Rattle.stream_record.specs.declared.output as script
use Rattle.stream_record.proofs.EvenSteps.{pushed_more}
use Rattle.stream_record_script.specs.Outputs.{is_told, script_output}
use Rattle.stream_record_script.proofs.LeftOutputs.{stated, stated_next, stated_same}
use Rattle.stream_record_script.proofs.outputs.script_outputs.Goals as goal
use Rattle.stream_record_script.proofs.outputs.script_outputs.Goals.{then-not-is_told+in_ok-script_output+in_ok-push, else-not-is_told}

pub loop-output-preserved : goal.loop-output-preserved
loop-output-preserved c =
    let told = c.args.told.now in
    let known = c.args.known.now in
    let i = c.loop-output.output-index in
    let before = c.loop-output.outputs.items in
    let output = c.output-item.result in
    let rest = stated told (drop (i + 1) known) in
    let found : is_told told output.now ≡ c.is_told.result =
    sym (c.is_told.ensures ∙ ap (λ (os : List Output). is_told os output.now) c.in_ok-told.ensures) in
    elim c.if-not-is_told.branch [
      | then-not-is_told+in_ok-script_output+in_ok-push w ↦
          pushed_more before c.if-not-is_told.outputs.items (script_output output.now) (stated told (drop i known)) rest (stated told known)
          (stated_next told known i output c.loop-output-test.true c.output-item.is (found ∙ w.if-not-is_told.true))
          (ap (λ (outputs : Vec script.Output.Output Global). outputs.items) w.outputs-is ∙ w.in_ok-push.ensures.items
          ∙ ap (λ (own : script.Output.Output). before ++ own ∷ []) w.in_ok-script_output.ensures)
          c.loop-output.invariant
      | else-not-is_told w ↦
          ap (λ (outputs : Vec script.Output.Output Global). outputs.items ++ rest) w.outputs-is
          ∙ ap (λ (left : List script.Output.Output). before ++ left)
          (sym (stated_same told known i output c.loop-output-test.true c.output-item.is (found ∙ w.if-not-is_told.false)))
          ∙ c.loop-output.invariant
    ]
