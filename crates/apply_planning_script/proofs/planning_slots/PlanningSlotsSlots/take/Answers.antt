use Rattle.std.proofs.Common.{◌≡◌, codes, false, sym, true, ◌∙◌}
use Rattle.std.specs.Str.{bytes_eq}
use Rattle.json.specs.Json.{value}
use Rattle.apply_json.proofs.Held.{left, taken}
use Rattle.apply_plan.specs.Script.EntriesView.{kind_of}
use Rattle.apply_plan.proofs.Scripts.VerbatimParts.{as_that, other_member, passed_read}
use Rattle.apply_planning_script.proofs.ReadItems.{said_items}
use Rattle.apply_planning_script.proofs.planning_slots.PlanningSlotsSlots.take.Goals as goal

pub returns-in_ok-self-clause-ok : goal.returns-in_ok-self-clause-ok
returns-in_ok-self-clause-ok c =
    let k = c.args.name.now in
    let done = c.in_ok-self.ensures.ok in
    let d = done.0 in
    let here : bytes_eq k (codes "planning") ≡ true = sym c.is_text.ensures ∙ c.if-is_text.true in (
      d,
      other_member k (value c.args.depth c.args.reader.now) d _ (as_that k (codes "planning") here) done.1,
      λ start ms holds. record {
        kind = taken kind_of (codes "planning") k d ms _ here done.2;
        items = taken said_items (codes "planning") k d ms _ here done.3;
      },
    )

pub returns-else-is_text-clause-ok : goal.returns-else-is_text-clause-ok
returns-else-is_text-clause-ok c =
    let k = c.args.name.now in
    let other : bytes_eq k (codes "planning") ≡ false = sym c.is_text.ensures ∙ c.if-is_text.false in
    passed_read c.skip_member.result k (value c.args.depth c.args.reader.now) c.skip_member.new.reader
    (λ d start ms holds. record {
      kind = left kind_of (codes "planning") k d ms _ other holds.kind;
      items = left said_items (codes "planning") k d ms _ other holds.items;
    })
    c.skip_member.ensures.ok
