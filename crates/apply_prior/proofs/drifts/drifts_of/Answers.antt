use Rattle.std.proofs.Common.{◌<◌, length, sym, ap, ◌∙◌, arith}
use Rattle.std.specs.List.{filter_map}
use Rattle.serde_json.specs.View.{view}
use Rattle.serde_json.specs.declared.value.Value.{Value}
use Rattle.apply_prior.specs.Drifts.{drift_of}
use Rattle.apply_prior.proofs.Lists.{kept_all_seen, passed, pushed}
use Rattle.apply_prior.proofs.drifts.drifts_of.Goals as goal
use Rattle.apply_prior.proofs.drifts.drifts_of.Goals.{in-Some+in_ok-push, in_default}

pub loop-element-preserved : goal.loop-element-preserved
loop-element-preserved c =
    let l = c.loop-element in
    let elements = c.items_at-elements.result.now in
    let below : l.element-index < length elements = omega arith in
    elim c.match-branch-2.branch [
      | in-Some+in_ok-push w ↦
          rw w.drifts-is
          (pushed (λ (v : Value). drift_of (view v)) elements l.element-index c.element-item.result w.in-Some.drift l.drifts.items _ below c.element-item.is (sym c.in_ok-drift.ensures ∙ w.in-Some.is) l.invariant w.in_ok-push.ensures.items)
      | in_default w ↦
          rw w.drifts-is
          (passed (λ (v : Value). drift_of (view v)) elements l.element-index c.element-item.result l.drifts.items below c.element-item.is (sym c.in_ok-drift.ensures ∙ w.in_default.is) l.invariant)
    ]

pub returns : goal.returns
returns c =
    c.loop-element.invariant ∙ kept_all_seen view drift_of c.items_at-elements.result.now c.loop-element.element-index c.loop-element-test.false
    ∙ ap (filter_map drift_of) c.items_at-elements.ensures
