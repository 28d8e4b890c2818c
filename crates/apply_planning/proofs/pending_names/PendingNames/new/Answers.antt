use Rattle.std.proofs.Common.{◌+◌, ap, arith, refl, subst, sym, ◌∙◌}
use Rattle.std.specs.Option.{IsSome}
use Rattle.std.specs.Vec.{with_item}
use Rattle.apply_events.specs.Waits.LaneTime.{first_lane_time}
use Rattle.apply_events.proofs.Waits.Standing.{any_default}
use Rattle.apply_planning.specs.declared.pending_names.PendingNames.{PendingNames}
use Rattle.apply_planning.specs.declared.pending_names.PendingName.{PendingName}
use Rattle.apply_planning.specs.Names.{first_named}
use Rattle.apply_planning.proofs.Filling.{few, one_filled}
use Rattle.apply_planning.proofs.Numbered.{first_exists, first_is, name_read}
use Rattle.apply_planning.proofs.pending_names.PendingNames.new.Goals as goal

pub unwrap-number-requires : goal.unwrap-number-requires
unwrap-number-requires c =
    let named = name_read c.args.told.now c.loop-one.one-index c.one-item.result c.as_str.result.now c.loop-one-test.true c.one-item.is c.as_str.ensures in
    let exists = first_exists c.args.told.now c.loop-one.one-index c.loop-one-test.true in
    subst IsSome (sym (c.get.ensures ∙ c.requires.names c.as_str.result.now ∙ ap (first_named c.args.told.now) named ∙ exists.1)) refl

pub index_mut-requires : goal.index_mut-requires
index_mut-requires c =
    let is = sym (c.requires.names c.as_str.result.now) ∙ sym c.get.ensures ∙ c.unwrap-number.ensures in
    let fits = (first_is c.args.told.now c.as_str.result.now c.unwrap-number.result is).0 in
    let size = c.loop-one.invariant.size in omega arith

pub overflow_add-index_mut : goal.overflow_add-index_mut
overflow_add-index_mut c =
    let named = name_read c.args.told.now c.loop-one.one-index c.one-item.result c.as_str.result.now c.loop-one-test.true c.one-item.is c.as_str.ensures in
    let is = sym (c.requires.names c.as_str.result.now) ∙ sym c.get.ensures ∙ c.unwrap-number.ensures in
    let fits = (first_is c.args.told.now c.as_str.result.now c.unwrap-number.result is).0 in
    let size = c.loop-one.invariant.size in
    let read = c.index_mut.ensures.value ∙ any_default c.loop-one.pending.names.items c.unwrap-number.result c.index_mut.result.now (record { pending = 0; at = first_lane_time }) (omega arith) in
    let same = ap (λ (x : PendingName). x.pending) read in
    let low = few c.args.told.now c.loop-one.one-index c.loop-one.pending c.loop-one.invariant c.loop-one-test.true c.unwrap-number.result fits (ap (first_named c.args.told.now) (sym named) ∙ is) in
    let top = c.loop-one-test.true in
    let limit = c.requires.few in
    record { fits = omega arith }

pub loop-one-preserved : goal.loop-one-preserved
loop-one-preserved c =
    let named = name_read c.args.told.now c.loop-one.one-index c.one-item.result c.as_str.result.now c.loop-one-test.true c.one-item.is c.as_str.ensures in
    let is = sym (c.requires.names c.as_str.result.now) ∙ sym c.get.ensures ∙ c.unwrap-number.ensures in
    let fits = (first_is c.args.told.now c.as_str.result.now c.unwrap-number.result is).0 in
    let size = c.loop-one.invariant.size in
    let read = c.index_mut.ensures.value ∙ any_default c.loop-one.pending.names.items c.unwrap-number.result c.index_mut.result.now (record { pending = 0; at = first_lane_time }) (omega arith) in
    let after : PendingNames = record { owners = c.push.new.self; names = with_item c.loop-one.pending.names c.unwrap-number.result (record { pending = c.index_mut.result.now.pending + 1; at = c.index_mut.result.now.at }) } in
    one_filled c.args.told.now c.loop-one.one-index c.loop-one.pending c.loop-one.invariant c.loop-one-test.true c.unwrap-number.result fits (ap (first_named c.args.told.now) (sym named) ∙ is)
    after c.index_mut.result.now read c.in_ok-push.ensures.items refl
