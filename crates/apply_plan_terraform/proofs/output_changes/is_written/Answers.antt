use Rattle.std.proofs.Common.{◌≡◌, ℕ, List, Option, option_map, sym, ap, ◌∙◌}
use Rattle.std.specs.Prelude.{Bool, true, not, ◌&&◌, ◌||◌}
use Rattle.std.specs.Option.{option_copied}
use Rattle.serde_json.specs.Data.{Data}
use Rattle.serde_json.specs.View.{view}
use Rattle.apply_plan_terraform.specs.RawOutput.{change_of, is_deleted, is_kind, is_unknown, is_written_with}
use Rattle.apply_plan_terraform.proofs.output_changes.is_written.Goals as goal
use Rattle.apply_plan_terraform.proofs.output_changes.is_written.Goals.{then-is_unknown, else-is_unknown}

-- an output with a type is written, unless its planned change leaves it out
written_by : (changes : Option Data) (name : List ℕ) (kind : Option (List ℕ)) (change : Option Data) (left_out : Bool) → change ≡ change_of changes name → is_kind kind ≡ true
    → left_out ≡ (is_unknown change || is_deleted change) → not left_out ≡ is_written_with changes name kind
written_by changes name kind change left_out is typed out =
    ap not out ∙ ap (λ c. not (is_unknown c || is_deleted c)) is ∙ sym (ap (λ t. t && not (is_unknown (change_of changes name) || is_deleted (change_of changes name))) typed)

pub returns-after-is_unknown : goal.returns-after-is_unknown
returns-after-is_unknown c =
    let changes = option_map (λ value. view value.now) c.args.changes in
    let change = option_map (λ value. view value.now) c.change_of-change.result in
    let left_out : c.if-is_unknown.result ≡ (is_unknown change || is_deleted change) = elim c.if-is_unknown.branch [
      | then-is_unknown w ↦ w.result-is ∙ w.if-is_unknown.true ∙ sym (ap (λ b. b || is_deleted change) (sym c.is_unknown.ensures ∙ w.if-is_unknown.true))
      | else-is_unknown w ↦ w.result-is ∙ w.is_deleted.ensures ∙ sym (ap (λ b. b || is_deleted change) (sym c.is_unknown.ensures ∙ w.if-is_unknown.false))
    ] in
    written_by changes c.args.name.now (option_copied c.args.kind) change _ c.change_of-change.ensures (sym c.is_kind.ensures ∙ c.if-is_kind.true) left_out
