use Rattle.std.proofs.Common.{◌∙◌, arith, sym, drop}
use Rattle.std.specs.List.{filter_map}
use Rattle.apply_model.specs.Script.Limits.{max_outputs}
use Rattle.stream_record_outcomes.specs.Provisioners.{timed_output}
use Rattle.stream_record_outcomes.proofs.Places.{outputs_all, outputs_full}
use Rattle.stream_record_outcomes.proofs.provisioners.first_outputs.Goals as goal
use Rattle.stream_record_outcomes.proofs.provisioners.first_outputs.Goals.{else-loop-fact-test, then-loop-fact-test+then-len-eq-MAX_OUTPUTS}

pub returns : goal.returns
returns c =
    let texts = c.loop-fact.texts.items in
    let facts = c.args.facts.now in
    let h = timed_output c.args.begin c.args.seconds in
    elim c.loop-fact-test.branch [
      | else-loop-fact-test w ↦
          c.new.ensures
          ∙ (sym (outputs_all max_outputs c.loop-fact.fact-index h texts facts (omega arith) (omega arith)) ∙ c.loop-fact.invariant.so_far)
      | then-loop-fact-test+then-len-eq-MAX_OUTPUTS w ↦
          c.new.ensures
          ∙ (sym (outputs_full max_outputs texts (filter_map h (drop c.loop-fact.fact-index facts)) (omega arith)) ∙ c.loop-fact.invariant.so_far)
    ]
