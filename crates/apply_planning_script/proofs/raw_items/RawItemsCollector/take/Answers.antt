use Rattle.std.proofs.Common.{◌≡◌, ◌<◌, ◌≤◌, length, map, None, Some, option_map, sym, ap, ◌∙◌, arith}
use Rattle.std.proofs.lemmas.List.{length-map}
use Rattle.json.specs.Json.{value}
use Rattle.apply_json.proofs.Copied.{if_ok}
use Rattle.apply_plan.proofs.Scripts.VerbatimParts.{passed_item}
use Rattle.apply_planning_script.specs.Items.{item_of}
use Rattle.apply_planning_script.specs.ItemSlots.{item_view}
use Rattle.apply_planning_script.specs.Planning.{max_items}
use Rattle.apply_planning_script.proofs.ReadItems.{after, full, grown, malformed, more, past, same_place}
use Rattle.apply_planning_script.proofs.raw_items.RawItemsCollector.take.Goals as goal

pub returns-then-is_some-clause-ok : goal.returns-then-is_some-clause-ok
returns-then-is_some-clause-ok c =
    if_ok c.skip_member.result
    (λ done.
    let there = passed_item (value c.args.depth c.args.reader.now) done.0 _ done.1 in
    (there.0, there.1, λ start ds holds. after _ _ ds there.0 (past (map item_view c.args.self.now.items.items) there.0 c.args.self.now.fault (sym c.if-is_some.ensures)) holds))
    c.skip_member.ensures.ok

pub returns-then-len-ge-MAX_ITEMS-clause-ok : goal.returns-then-len-ge-MAX_ITEMS-clause-ok
returns-then-len-ge-MAX_ITEMS-clause-ok c =
    let many : max_items ≤ length (map item_view c.args.self.now.items.items) = omega (arith, length-map c.args.self.now.items.items item_view, c.len.ensures, c.args.self.now.items.ok.0, c.if-len-ge-MAX_ITEMS.true) in
    if_ok c.skip_member-then-len-ge-MAX_ITEMS.result
    (λ done.
    let there = passed_item (value c.args.depth c.args.reader.now) done.0 _ done.1 in
    (there.0, there.1, λ start ds holds. after _ _ ds there.0 (full (map item_view c.args.self.now.items.items) there.0 c.args.self.now.fault (sym c.if-is_some.ensures) many) holds))
    c.skip_member-then-len-ge-MAX_ITEMS.ensures.ok

pub returns-in_ok-push-in-Some-clause-ok : goal.returns-in_ok-push-in-Some-clause-ok
returns-in_ok-push-in-Some-clause-ok c =
    let done = c.in_ok-item.ensures.ok in
    let few : length (map item_view c.args.self.now.items.items) < max_items = omega (arith, length-map c.args.self.now.items.items item_view, c.len.ensures, c.args.self.now.items.ok.0, c.if-len-ge-MAX_ITEMS.false) in
    let is : item_of done.0 ≡ Some (item_view c.in-Some.item) = sym done.2 ∙ ap (option_map item_view) c.in-Some.is in (
      done.0,
      done.1,
      λ start ds holds. after _ _ ds done.0
          (grown c.args.self.now.items.items c.push.new.self.items c.in-Some.item c.args.self.now.fault c.in_ok-push-in-Some.ensures.items
          ∙ more (map item_view c.args.self.now.items.items) done.0 c.args.self.now.fault (item_view c.in-Some.item) (sym c.if-is_some.ensures) few is)
          holds,
    )

pub returns-in-None-clause-ok : goal.returns-in-None-clause-ok
returns-in-None-clause-ok c =
    let done = c.in_ok-item.ensures.ok in
    let size = length-map c.args.self.now.items.items item_view in
    let few : length (map item_view c.args.self.now.items.items) < max_items = omega (arith, size, c.len.ensures, c.args.self.now.items.ok.0, c.if-len-ge-MAX_ITEMS.false) in
    let long : c.len-in-None.result ≡ length (map item_view c.args.self.now.items.items) = omega (arith, size, c.len-in-None.ensures, c.args.self.now.items.ok.0) in
    let is : item_of done.0 ≡ None = sym done.2 ∙ ap (option_map item_view) c.in-None.is in (
      done.0,
      done.1,
      λ start ds holds. after _ _ ds done.0
          (same_place (map item_view c.args.self.now.items.items) _ _ long ∙ malformed (map item_view c.args.self.now.items.items) done.0 c.args.self.now.fault (sym c.if-is_some.ensures) few is)
          holds,
    )
