use Rattle.std.proofs.Common.{◌≡◌, Bool, FitsSigned, List, Some, ℤ, ap, ap₂, length, map, of_z, refl, rules, sym, to_z, w64, ◌∙◌}
use Rattle.std.specs.Int.{int_max}
use Rattle.std.specs.Vec.{with_items}
use Rattle.std.proofs.lemmas.Int.{to_z-of_z}
use Rattle.std.proofs.lemmas.List.{length-map, with_items_is}
use Rattle.stream_timeline.specs.Steps.{ProvisionerRead, StepRead, ended, ended_with_step}
use Rattle.stream_timeline.specs.contracts.reading.step.Step.{the_view}
use Rattle.stream_timeline.proofs.reading.step.Step.end_at.Goals as goal

ends_there : (step : StepRead) (time end : ℤ) (failed : Bool) (provisioners : List ProvisionerRead) → end ≡ int_max step.begin time
    → provisioners ≡ map (ended_with_step end) step.provisioners → record step { end = Some end; failed = failed; provisioners = provisioners } ≡ ended time failed step
ends_there step time end failed provisioners at with_it = rw (with_it, at) refl

pub returns : goal.returns
returns c =
    let old = c.self.inside in
    let end = to_z w64 (of_z w64 c.max-end.result) in
    let fits : FitsSigned w64 old.begin = search rules in
    let at : end ≡ int_max old.begin c.args.time =
    to_z-of_z w64 c.max-end.result (record { sfits = c.max-end.type_inv })
    ∙ (c.max-end.ensures.value ∙ ap₂ int_max (to_z-of_z w64 old.begin fits) (to_z-of_z w64 c.args.time c.ranges.time)) in
    let made : c.end_all.new.provisioners ≡ map (ended_with_step end) old.provisioners.items =
    c.end_all.ensures ∙ ap (map (ended_with_step end)) c.deref_mut.ensures.value in
    let count : length c.end_all.new.provisioners ≡ old.provisioners.len =
    ap length made ∙ (length-map old.provisioners.items (ended_with_step end) ∙ sym old.provisioners.ok.0) in
    ends_there (the_view old) c.args.time end c.args.failed (with_items old.provisioners c.end_all.new.provisioners).items
    at (with_items_is old.provisioners c.end_all.new.provisioners count ∙ made) ∙ ap (ended c.args.time c.args.failed) c.self.view_is
