use Rattle.std.proofs.Common.{◌≡◌, ◌∙◌, Bool, Option, Some, true, false, refl, subst, sym}
use Rattle.std.specs.Prelude.{◌||◌}
use Rattle.clap.specs.Matches.{found_of}
use Rattle.clap.specs.Walk.{rows_of}
use Rattle.stream_runs.specs.Arguments.{is_run_wrong}
use Rattle.stream_tool.specs.Refused.{IsConflict, IsRefusal}
use Rattle.stream_tool.specs.declared.usage.Usage.{Usage}
use Rattle.stream_view.specs.CommandLine.{are_exclusive}
use Rattle.stream_view.proofs.command.conflicts.conflict.Goals as goal

exclusive : (a b : Bool) (why : Usage) → a ≡ true → IsRefusal why → IsConflict (a || b) (Some why)
exclusive a b why is refused = subst (λ (v : Bool). IsConflict (v || b) (Some why)) (sym is) (refl, refused)

passed : (a b : Bool) (answer : Option Usage) → a ≡ false → IsConflict b answer → IsConflict (a || b) answer
passed a b answer is run = subst (λ (v : Bool). IsConflict (v || b) answer) (sym is) run

pub returns-then-are_exclusive : goal.returns-then-are_exclusive
returns-then-are_exclusive c =
    let rows = rows_of (found_of c.args.matches.now) in
    exclusive (are_exclusive rows) (is_run_wrong rows) c.conflict_usage.result (sym c.are_exclusive.ensures ∙ c.if-are_exclusive.true) c.conflict_usage.ensures

pub returns-else-are_exclusive : goal.returns-else-are_exclusive
returns-else-are_exclusive c =
    let rows = rows_of (found_of c.args.matches.now) in
    passed (are_exclusive rows) (is_run_wrong rows) c.run_refusal.result (sym c.are_exclusive.ensures ∙ c.if-are_exclusive.false) c.run_refusal.ensures
