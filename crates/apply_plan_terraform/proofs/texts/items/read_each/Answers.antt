use Rattle.std.proofs.Common.{◌≡◌, ◌-◌, ◌<◌, ◌++◌, ◌∷◌, [], length, map, None, Some, sym, ap, ◌∙◌, arith, append-nil}
use Rattle.json.specs.Json.{after_end_array, item, no_items, parse_map, value}
use Rattle.json.proofs.Grammar.{items_end, items_fail, items_more}
use Rattle.serde_json.specs.View.{view}
use Rattle.apply_plan_terraform.specs.Notes.{items_of}
use Rattle.apply_plan_terraform.specs.Texts.{with_texts}
use Rattle.apply_plan_terraform.specs.declared.texts.part.Part.TheVariants as part
use Rattle.apply_plan_terraform.proofs.Arrays.{grown}
use Rattle.apply_plan_terraform.proofs.Copying.{fused, unchanged}
use Rattle.apply_plan_terraform.proofs.texts.items.read_each.Goals as goal

pub items-init : goal.items-init
items-init c =
    (length c.args.reader.now, omega arith, (λ js. js), unchanged _, (λ js. ap (λ vs. map view vs ++ items_of js) (sym c.new-collected.ensures.items)), omega arith)

pub items-preserved : goal.items-preserved
items-preserved c =
    let p = value c.args.depth in
    let l = c.items in
    let n = l.invariant.0 in
    let front = l.invariant.2 in
    let going : (after_end_array l.reader ≡ None) × (c.take_end_array.new.self ≡ l.reader) = c.items-test.ensures in
    let done = c.in_ok-item.ensures in
    let v = c.in_ok-item.item in
    let j = done.ok.0 in
    let r = c.read.new.reader in
    let less : length r < length l.reader = rw (← going.1) done.shorter in
    let read : p l.reader ≡ Some (j, r) = rw (← going.1) done.ok.1 in
    let pushed : c.push.new.self.items ≡ l.collected.items ++ v ∷ [] = grind arith in (
      n - 1,
      omega (arith, l.invariant.1),
      (λ js. front (item j js)),
      l.invariant.3 ∙ ap (parse_map front) (items_more p n l.reader r j (omega (arith, l.invariant.1)) going.0 read) ∙ fused front (item j) _,
      (λ js. l.invariant.4 (item j js) ∙ grown l.collected.items c.push.new.self.items v (with_texts part.Diagnostic j) (items_of js) pushed done.ok.2),
      omega (arith, l.invariant.5),
    )

pub returns-in_err-item-clause-err : goal.returns-in_err-item-clause-err
returns-in_err-item-clause-err c =
    let p = value c.args.depth in
    let l = c.items in
    let going : (after_end_array l.reader ≡ None) × (c.take_end_array.new.self ≡ l.reader) = c.items-test.ensures in
    λ refused.
    let none : p l.reader ≡ None = rw (← going.1) (c.read.ensures.err (grind arith)) in
    l.invariant.3 ∙ ap (parse_map l.invariant.2) (items_fail p l.invariant.0 l.reader going.0 none)

pub returns-clause-ok : goal.returns-clause-ok
returns-clause-ok c =
    let p = value c.args.depth in
    let l = c.items in
    let r = c.take_end_array.new.self in (
      l.invariant.2 no_items,
      l.invariant.3 ∙ ap (parse_map l.invariant.2) (items_end p l.invariant.0 l.reader r l.invariant.1 c.items-test.ensures),
      sym (l.invariant.4 no_items ∙ append-nil (map view l.collected.items)),
    )
