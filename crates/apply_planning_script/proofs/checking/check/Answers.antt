use Rattle.std.proofs.Common.{◌≡◌, ◌≤◌, List, length, map, option_map, take, sym, ap, subst, ◌∙◌, arith}
use Rattle.std.specs.Prelude.{slice_get}
use Rattle.std.specs.Option.{option_and_then}
use Rattle.std.proofs.lemmas.List.{length-map, length-take-le}
use Rattle.apply_planning_script.specs.Items.{Item}
use Rattle.apply_planning_script.specs.ItemSlots.{item_view, object_of_raw}
use Rattle.apply_planning_script.specs.Objects.{ObjectName, number_in}
use Rattle.apply_planning_script.specs.Planning.{known_mode, object_of_prior}
use Rattle.apply_planning_script.specs.SeenItems.{HaveSeen}
use Rattle.apply_planning_script.proofs.Checks.{all_known, fault_is, known_more, next_before, none_first, one_faulty, some_first}
use Rattle.apply_planning_script.proofs.checking.check.Goals as goal

pub returns-in-Some : goal.returns-in-Some
returns-in-Some c =
    let objects = c.args.objects.now in
    let items = c.args.items.now in
    let n = c.loop-number.number in
    let item = c.index-items-number.result in
    let few = c.loop-number-test.true in
    let is = c.index-items-number.is in
    let before : List Item = map item_view (take n items) in
    let within : n ≤ length items = omega arith in
    let count : n ≡ length before = omega (arith, length-map (take n items) item_view, length-take-le n items within) in
    let known : c.known_mode-mode.result ≡ known_mode objects (object_of_raw item) =
    c.known_mode-mode.ensures ∙ ap (λ o. option_map (λ prior. prior.object.mode) (option_and_then (slice_get objects) o)) (c.get-object.ensures ∙ c.in_ok-index.ensures c.id.result ∙ ap (λ (o : ObjectName). number_in object_of_prior objects o) c.id.ensures) in
    λ refused.
    one_faulty objects items _ c.in-Some.fault
    (c.loop-number.invariant.so_far
    ∙ some_first objects items n item few is c.in-Some.fault
    (sym c.in-Some.is ∙ fault_is objects items n item few is c.in_ok-fault.field-0 c.known_mode-mode.result (c.in_ok-fault.ensures.fault before c.loop-number.invariant.seen_are count) known))

pub loop-number-preserved : goal.loop-number-preserved
loop-number-preserved c =
    let objects = c.args.objects.now in
    let items = c.args.items.now in
    let n = c.loop-number.number in
    let item = c.index-items-number.result in
    let few = c.loop-number-test.true in
    let is = c.index-items-number.is in
    let before : List Item = map item_view (take n items) in
    let within : n ≤ length items = omega arith in
    let count : n ≡ length before = omega (arith, length-map (take n items) item_view, length-take-le n items within) in
    let number : c.get-object.result ≡ number_in object_of_prior objects (object_of_raw item) =
    c.get-object.ensures ∙ c.in_ok-index.ensures c.id.result ∙ ap (λ (o : ObjectName). number_in object_of_prior objects o) c.id.ensures in
    let known : c.known_mode-mode.result ≡ known_mode objects (object_of_raw item) =
    c.known_mode-mode.ensures ∙ ap (λ o. option_map (λ prior. prior.object.mode) (option_and_then (slice_get objects) o)) number in
    record {
      known_are = known_more objects items n item few is c.loop-number.known.items c.push.new.self.items c.is_some.result c.in_ok-push.ensures.items c.loop-number.invariant.known_are
          (rw number at c.is_some.ensures);
      seen_are = subst (λ xs. HaveSeen c.fault_of.new.seen xs) (sym (next_before objects items n item few is)) (c.in_ok-fault.ensures.seen before c.loop-number.invariant.seen_are c.in_default.is);
      so_far = c.loop-number.invariant.so_far
          ∙ none_first objects items n item few is
          (sym c.in_default.is ∙ fault_is objects items n item few is c.in_ok-fault.field-0 c.known_mode-mode.result (c.in_ok-fault.ensures.fault before c.loop-number.invariant.seen_are count) known);
    }

pub returns : goal.returns
returns c =
    all_known c.args.objects.now c.args.items.now c.loop-number.number c.loop-number.known.items c.loop-number-test.false c.loop-number.invariant.so_far c.loop-number.invariant.known_are
