use Rattle.std.proofs.Common.{◌≡◌, false, Some, sym, ◌∙◌}
use Rattle.apply_resolve.specs.ObjectSet.{has_object}
use Rattle.apply_planning_script.specs.Items.{Item}
use Rattle.apply_planning_script.specs.ItemSlots.{item_view}
use Rattle.apply_planning_script.specs.Planning.{misfits, mode_of_object}
use Rattle.apply_planning_script.proofs.Checks.{is_seen, no_fault, not_seen, repeated, seen_more, was_seen}
use Rattle.apply_planning_script.proofs.checking.fault_of.Goals as goal

pub returns-then-branch : goal.returns-then-branch
returns-then-branch c =
    let item : Item = item_view c.args.item.now in
    let mode : mode_of_object c.args.known item ≡ Some c.in-Some.mode = sym c.in_ok-mode.ensures ∙ c.in-Some.is in
    let fits : misfits item c.in-Some.mode ≡ false = sym c.misfits.ensures ∙ c.if-misfits.false in
    record {
      fault = λ earlier has count.
          no_fault earlier item c.args.number count (mode_of_object c.args.known item) c.in-Some.mode mode fits
          (sym (is_seen c.args.seen.now c.insert.new.self c.id.result earlier item c.id.ensures has)
          ∙ not_seen (has_object c.args.seen.now c.id.result) c.in_ok-insert.field-0 c.in_ok-insert.ensures.fresh c.if-branch.true);
      seen = λ earlier has none. seen_more c.args.seen.now c.insert.new.self c.id.result earlier item c.id.ensures has c.in_ok-insert.ensures.added;
    }

pub returns-else-branch : goal.returns-else-branch
returns-else-branch c =
    let item : Item = item_view c.args.item.now in
    let mode : mode_of_object c.args.known item ≡ Some c.in-Some.mode = sym c.in_ok-mode.ensures ∙ c.in-Some.is in
    let fits : misfits item c.in-Some.mode ≡ false = sym c.misfits.ensures ∙ c.if-misfits.false in
    record {
      fault = λ earlier has count.
          repeated earlier item c.args.number count (mode_of_object c.args.known item) c.in-Some.mode mode fits
          (sym (is_seen c.args.seen.now c.insert.new.self c.id.result earlier item c.id.ensures has)
          ∙ was_seen (has_object c.args.seen.now c.id.result) c.in_ok-insert.field-0 c.in_ok-insert.ensures.fresh c.if-branch.false);
      seen = λ earlier has none. absurd cc;
    }
