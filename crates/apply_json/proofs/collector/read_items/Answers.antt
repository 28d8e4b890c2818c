use Rattle.std.proofs.Common.{◌≡◌, ◌-◌, ◌<◌, ◌++◌, ◌∷◌, [], length, None, refl, subst, sym, ◌∙◌, arith}
use Rattle.json.specs.Json.{after_end_array, value}
use Rattle.serde_json.specs.Data.{no_items}
use Rattle.apply_json.proofs.Gathered.{before, list_of-before, nothing_before, one_before}
use Rattle.apply_json.proofs.KeepingTurns.{item_behind, over_behind, refused_behind}
use Rattle.apply_json.proofs.collector.read_items.Goals as goal

pub items-init : goal.items-init
items-init g c = (length c.args.reader.now, omega arith, [], c.requires, nothing_before _, omega arith)

pub items-preserved : goal.items-preserved
items-preserved g c =
    let p = value c.args.depth in
    let l = c.items in
    let n = l.invariant.0 in
    let ds = l.invariant.2 in
    let going : (after_end_array l.reader ≡ None) × (c.take_end_array.new.self ≡ l.reader) = c.items-test.ensures in
    let done = c.in_ok-take.ensures in
    let d = done.ok.0 in
    let r = c.take.new.reader in
    let less : length r < length l.reader = rw (← going.1) done.shorter in
    let turn = item_behind g.C.Collector.is_verbatim p _ (before ds) n l.reader l.invariant.4 r d (omega (arith, l.invariant.1)) going.0 (rw (← going.1) done.ok.1) in (
      n - 1,
      omega (arith, l.invariant.1),
      ds ++ d ∷ [],
      done.ok.2 c.args.collector.now ds l.invariant.3,
      turn ∙ one_before ds d _,
      omega (arith, l.invariant.5),
    )

pub returns-in_err-take-clause-err : goal.returns-in_err-take-clause-err
returns-in_err-take-clause-err g c refused =
    let p = value c.args.depth in
    let l = c.items in
    let n = l.invariant.0 in
    let going : (after_end_array l.reader ≡ None) × (c.take_end_array.new.self ≡ l.reader) = c.items-test.ensures in
    refused_behind g.C.Collector.is_verbatim p _ (before l.invariant.2) n l.reader l.invariant.4 going.0 (rw (← going.1) (c.take.ensures.err (grind arith)))

pub take-requires : goal.take-requires
take-requires g c = λ k. ((refl, tt), (c.args.collector.now, c.items.invariant.2, c.items.invariant.3))

pub returns-clause-ok : goal.returns-clause-ok
returns-clause-ok g c =
    let p = value c.args.depth in
    let l = c.items in
    let n = l.invariant.0 in
    let r = c.take_end_array.new.self in (
      before l.invariant.2 no_items,
      over_behind g.C.Collector.is_verbatim p _ (before l.invariant.2) n l.reader l.invariant.4 r l.invariant.1 c.items-test.ensures,
      subst (λ ds. g.C.Collector.holds c.args.collector.now l.collector ds) (sym (list_of-before l.invariant.2)) l.invariant.3,
    )
