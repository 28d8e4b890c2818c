use Rattle.std.proofs.Common.{◌≡◌, ◌∙◌, ◌<◌, ◌++◌, All, Global, List, Option, Vec, arith, length, subst, sym, ℕ}
use Rattle.std.specs.Prelude.{option_to_list}
use Rattle.std.proofs.lemmas.List.{length-map}
use Rattle.stream_record_waits.specs.Basis.{basis_of}
use Rattle.stream_record_waits.specs.Course.{behind_at}
use Rattle.stream_record_waits.specs.Graph.{waits_at}
use Rattle.stream_record_waits.specs.Steps.{lists_in, step_before}
use Rattle.stream_record_waits.specs.Waiters.{Joins}
use Rattle.stream_record_waits.proofs.Joining.{joins_on}
use Rattle.stream_record_waits.proofs.Rows.{row_got}
use Rattle.stream_record_waits.proofs.waiters.add_all_waits.Goals as goal

pub add_to_all-requires : goal.add_to_all-requires
add_to_all-requires c =
    let items : Vec ℕ Global → List ℕ = λ vector. vector.items in
    let count = length c.args.basis.now.steps.now in
    let first = c.in_ok-add_to_one.ensures.each in
    let second = c.in_ok-add_to_one-2.ensures.each in
    let old = length-map c.args.waiters.now.items items in
    let new = length-map c.add_to_one-2.new.waiters.items items in
    let size = c.requires.waiters in
    let same : length c.add_to_one-2.new.waiters.items ≡ count = omega (arith, first, second, old, new, size) in
    let waits : c.as_slice.result.now ≡ waits_at (basis_of c.args.basis.now).after c.args.step =
    c.as_slice.ensures.value ∙ row_got c.args.basis.now.after.now count c.args.step c.index-basis-step.result c.requires.sound.after c.requires.step in
    subst (λ (n : ℕ). All (λ wait. wait < n) c.as_slice.result.now) (sym same)
    (subst (All (λ wait. wait < count)) (sym waits) (c.requires.sound.after.known c.args.step c.requires.step))

pub returns : goal.returns
returns c =
    let basis = basis_of c.args.basis.now in
    let step = c.args.step in
    let waits : c.as_slice.result.now ≡ waits_at basis.after step =
    c.as_slice.ensures.value ∙ row_got c.args.basis.now.after.now (length c.args.basis.now.steps.now) step c.index-basis-step.result c.requires.sound.after c.requires.step in
    let first = lists_in c.args.waiters.now.items in
    let second = lists_in c.add_to_one.new.waiters.items in
    let third = lists_in c.add_to_one-2.new.waiters.items in
    let last = lists_in c.add_to_all.new.waiters.items in
    joins_on step (option_to_list (behind_at basis step)) (option_to_list (step_before basis.steps step) ++ waits_at basis.after step) first second last c.in_ok-add_to_one.ensures
    (joins_on step (option_to_list (step_before basis.steps step)) (waits_at basis.after step) second third last
    (subst (λ (wait : Option ℕ). Joins step (option_to_list wait) second third) c.step_before.ensures c.in_ok-add_to_one-2.ensures)
    (subst (λ (list : List ℕ). Joins step list third last) waits c.in_ok-add_to_all.ensures))
