use Rattle.std.proofs.Common.{◌≡◌, ◌<◌, ◌++◌, Bool, [], ◌∷◌, append-nil, get_or, if◌then◌else◌, length, map, refl, sym, ap, ◌∙◌, arith}
use Rattle.std.proofs.lemmas.List.{get_or-map, length-map}
use Rattle.std.proofs.lemmas.Option.{slice_get_read}
use Rattle.apply_prior.specs.declared.drift.Drift.{Drift}
use Rattle.apply_planning_failures.proofs.ToldChanges.{kept_all, numbers_after}
use Rattle.apply_planning_failures.proofs.kept.kept_drifts.Goals as goal
use Rattle.apply_planning_failures.proofs.kept.kept_drifts.Goals.{then-is_kept+in_ok-push, else-is_kept}

pub loop-number-preserved : goal.loop-number-preserved
loop-number-preserved c failed planning has =
    let n = c.loop-number.number in
    let numbers = c.loop-number.numbers.items in
    let changes = map (λ (d : Drift). d.change) c.args.drifts.now in
    let one = (get_or c.args.drifts.now n c.index-drifts-number.result).change in
    let few : n < length changes = omega (arith, length-map c.args.drifts.now (λ (d : Drift). d.change), c.loop-number-test.true) in
    let same : one ≡ get_or changes n one = sym (get_or-map (λ (d : Drift). d.change) c.args.drifts.now n c.index-drifts-number.result one c.loop-number-test.true) in
    let at = slice_get_read changes (length changes) n one refl few same in
    let next = numbers_after failed planning changes n one c.is_kept.result numbers c.if-is_kept.numbers.items few at (c.is_kept.ensures failed planning has) (c.loop-number.invariant failed planning has) in
    let grown = λ (b : Bool). numbers ++ (if b then n ∷ [] else []) in
    elim c.if-is_kept.branch [
      | then-is_kept+in_ok-push w ↦ next (ap (λ v. v.items) w.numbers-is ∙ w.in_ok-push.ensures.items ∙ ap grown (sym w.if-is_kept.true))
      | else-is_kept w ↦ next (ap (λ v. v.items) w.numbers-is ∙ sym (append-nil numbers) ∙ ap grown (sym w.if-is_kept.false))
    ]

pub returns : goal.returns
returns c failed planning has =
    c.loop-number.invariant failed planning has
    ∙ kept_all failed planning (map (λ (d : Drift). d.change) c.args.drifts.now) c.loop-number.number (omega (arith, length-map c.args.drifts.now (λ (d : Drift). d.change), c.loop-number-test.false))
