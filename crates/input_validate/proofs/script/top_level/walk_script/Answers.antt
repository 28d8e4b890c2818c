use Rattle.std.proofs.Common.{◌≡◌, [], List, true, is_some, ap, sym, ◌∙◌}
use Rattle.std.specs.Option.{option_copied}
use Rattle.serde_json.specs.Data.{Data}
use Rattle.serde_json.specs.Find.{as_object}
use Rattle.serde_json.specs.View.{view}
use Rattle.input_validate.specs.Findings.{reported}
use Rattle.input_validate.specs.ScriptFindings.{in_entry_after, in_script}
use Rattle.input_validate.specs.Rules.{items_after}
use Rattle.input_validate.proofs.script.top_level.walk_script.Goals as goal

pub returns : goal.returns
unfolding in_script
returns c =
    let there : is_some (as_object (view c.args.script.now)) ≡ true = sym c.suits.ensures ∙ c.if-not-suits.false in
    rw there
    (c.in_ok-all-3.ensures _ _
    (c.in_ok-all-2.ensures _ _ c.in_ok-all.ensures
    (c.in_ok-under.ensures _ (c.in_ok-entries.ensures
    ∙ ap (λ (ds : List Data). reported (items_after (in_entry_after (option_copied c.args.planned)) [] ds)) c.items_at.ensures)))
    c.in_ok-walk_ignored.ensures)
