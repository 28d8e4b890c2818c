use Rattle.std.proofs.Common.{◌≡◌, ◌+◌, ◌++◌, ◌∷◌, [], length, map, sym, ap, ◌∙◌, arith, length-append}
use Rattle.serde_json.specs.View.{view}
use Rattle.apply_plan_terraform.specs.Notes.{notes_from}
use Rattle.apply_plan_terraform.proofs.Noted.{one_more}
use Rattle.apply_plan_terraform.proofs.script_notes.notes_of.Goals as goal

pub loop-item-preserved : goal.loop-item-preserved
loop-item-preserved c =
    let l = c.loop-item in
    let note = c.in-Some.note in
    let pushed : c.push.new.self.items ≡ l.notes.items ++ note ∷ [] = grind arith in
    let size : length c.push.new.self.items ≡ length l.notes.items + 1 = ap length pushed ∙ length-append l.notes.items (note ∷ []) in (
      omega (arith, size, l.invariant.0),
      one_more c.args.items.now l.item-index l.notes.items (notes_from 0 (map view c.args.items.now)) l.invariant.1 c.item-item.result c.loop-item-test.true c.item-item.is note c.push.new.self.items (sym c.in_ok-note.ensures ∙ c.in-Some.is) pushed,
    )
