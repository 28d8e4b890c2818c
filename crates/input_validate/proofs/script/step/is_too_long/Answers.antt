use Rattle.std.proofs.Common.{◌≡◌, ◌+◌, ◌≤◌, ℕ, ap, sym, ◌∙◌, take, get_or, arith}
use Rattle.std.specs.List.{sum_by}
use Rattle.std.proofs.lemmas.Bool.{le-ltb, lt-ltb}
use Rattle.std.proofs.lemmas.List.{take_all}
use Rattle.std.proofs.lemmas.List.Sums.{sum_by_more_le}
use Rattle.serde_json.specs.View.{view}
use Rattle.serde_json.specs.declared.value.Value.{Value}
use Rattle.apply_model.specs.Script.Limits.{max_seconds}
use Rattle.input_validate.specs.ScriptFindings.{seconds_in, seconds_in_all}
use Rattle.input_validate.proofs.Trees.{sum_listed}
use Rattle.input_validate.proofs.script.step.is_too_long.Goals as goal

pub returns-then-taken-left : goal.returns-then-taken-left
returns-then-taken-left c =
    let items = c.items_at-provisioner-items.result.now in
    let whole : seconds_in_all (view c.args.value.now) ≡ seconds_in (view c.args.value.now) + sum_by (λ v. seconds_in (view v)) items =
    ap (λ (n : ℕ). seconds_in (view c.args.value.now) + n) (ap (sum_by seconds_in) (sym c.items_at-provisioner-items.ensures) ∙ sum_listed seconds_in items) in
    let more : sum_by (λ v. seconds_in (view v)) (take c.loop-provisioner.provisioner-index items) + seconds_in (view (get_or items c.loop-provisioner.provisioner-index c.provisioner-item.result)) ≤ sum_by (λ v. seconds_in (view v)) items =
    sum_by_more_le (λ v. seconds_in (view v)) items c.loop-provisioner.provisioner-index c.provisioner-item.result c.loop-provisioner-test.true in
    let taken : c.seconds-taken.result ≡ seconds_in (view (get_or items c.loop-provisioner.provisioner-index c.provisioner-item.result)) =
    c.seconds-taken.ensures ∙ ap (λ (v : Value). seconds_in (view v)) c.provisioner-item.is in
    let left : c.loop-provisioner.left + (seconds_in (view c.args.value.now) + sum_by (λ v. seconds_in (view v)) (take c.loop-provisioner.provisioner-index items)) ≡ max_seconds = c.loop-provisioner.invariant in
    sym (lt-ltb max_seconds (seconds_in_all (view c.args.value.now)) (omega arith))

pub returns : goal.returns
returns c =
    let items = c.items_at-provisioner-items.result.now in
    let whole : seconds_in_all (view c.args.value.now) ≡ seconds_in (view c.args.value.now) + sum_by (λ v. seconds_in (view v)) items =
    ap (λ (n : ℕ). seconds_in (view c.args.value.now) + n) (ap (sum_by seconds_in) (sym c.items_at-provisioner-items.ensures) ∙ sum_listed seconds_in items) in
    let all : sum_by (λ v. seconds_in (view v)) (take c.loop-provisioner.provisioner-index items) ≡ sum_by (λ v. seconds_in (view v)) items =
    ap (sum_by (λ (v : Value). seconds_in (view v))) (take_all c.loop-provisioner.provisioner-index items (omega arith)) in
    sym (le-ltb max_seconds (seconds_in_all (view c.args.value.now)) (omega (arith, whole, all, c.loop-provisioner.invariant)))
