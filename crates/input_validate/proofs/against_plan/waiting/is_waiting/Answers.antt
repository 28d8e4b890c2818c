use Rattle.std.proofs.Common.{◌≡◌, List, Bool, false, not, ◌&&◌, ap, sym, ◌∙◌}
use Rattle.std.specs.List.{list_any}
use Rattle.std.specs.Option.{option_copied}
use Rattle.serde_json.specs.Data.{Data}
use Rattle.serde_json.specs.View.{view}
use Rattle.input_validate.specs.declared.findings.name.Name.TheVariants as name
use Rattle.input_validate.specs.AgainstPlan.{is_waited_for}
use Rattle.input_validate.specs.Skipped.{is_skipped}
use Rattle.input_validate.specs.Rules.{items_at}
use Rattle.input_validate.proofs.Trees.{listed}
use Rattle.input_validate.proofs.against_plan.waiting.is_waiting.Goals as goal

not_skipped : (test skipped any waits : Bool) → test ≡ skipped → test ≡ false → any ≡ waits → any ≡ (not skipped && waits)
not_skipped test skipped any waits is not_so same = rw (sym is, not_so) same

pub returns-then-not-is_skipped : goal.returns-then-not-is_skipped
returns-then-not-is_skipped c =
    let d = view c.args.step.now in
    let test : Data → Bool = is_waited_for (option_copied c.args.planned) in
    let any : c.is_any_waited_for.result ≡ list_any test (items_at name.After d) =
    c.is_any_waited_for.ensures ∙ ap (λ (ds : List Data). list_any test ds) (sym (listed c.items_at.result.now) ∙ c.items_at.ensures) in
    not_skipped c.is_skipped.result (is_skipped d) c.is_any_waited_for.result (list_any test (items_at name.After d))
    c.is_skipped.ensures c.if-not-is_skipped.true any
