use Rattle.std.proofs.Common.{◌<◌, ℕ, List, Some, length, sym, ap, ◌∙◌, arith}
use Rattle.serde_json.specs.Find.{as_str}
use Rattle.serde_json.specs.View.{view}
use Rattle.serde_json.specs.declared.value.Value.{Value}
use Rattle.apply_prior.proofs.Lists.{kept_all_seen, passed, pushed}
use Rattle.apply_prior.proofs.objects.texts_of.Goals as goal
use Rattle.apply_prior.proofs.objects.texts_of.Goals.{in-Some+in_ok-new+in_ok-push, in_default}

pub loop-value-preserved : goal.loop-value-preserved
loop-value-preserved c =
    let l = c.loop-value in
    let values = c.args.values.now in
    let below : l.value-index < length values = omega arith in
    elim c.match-as_str.branch [
      | in-Some+in_ok-new+in_ok-push w ↦
          rw w.texts-is
          (pushed (λ (v : Value). as_str (view v)) values l.value-index c.value-item.result _ l.texts.items _ below c.value-item.is (sym w.in-Some.ensures ∙ ap (λ (text : List ℕ). Some text) (sym w.in_ok-new.ensures)) l.invariant w.in_ok-push.ensures.items)
      | in_default w ↦
          rw w.texts-is
          (passed (λ (v : Value). as_str (view v)) values l.value-index c.value-item.result l.texts.items below c.value-item.is (sym w.in_default.ensures) l.invariant)
    ]

pub returns : goal.returns
returns c = c.loop-value.invariant ∙ kept_all_seen view as_str c.args.values.now c.loop-value.value-index c.loop-value-test.false
