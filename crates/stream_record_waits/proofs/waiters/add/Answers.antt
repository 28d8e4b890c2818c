use Rattle.std.proofs.Common.{◌∙◌, ◌∷◌, ◌++◌, [], Global, List, Vec, ap, arith, set, ℕ}
use Rattle.std.proofs.lemmas.List.{length-map, map-set}
use Rattle.stream_record_waits.specs.Steps.{lists_in}
use Rattle.stream_record_waits.proofs.Joining.{joins_one}
use Rattle.stream_record_waits.proofs.Rows.{row}
use Rattle.stream_record_waits.proofs.waiters.add.Goals as goal

pub returns : goal.returns
returns c =
    let items : Vec ℕ Global → List ℕ = λ vector. vector.items in
    let rows = c.args.waiters.now.items in
    let lists = lists_in rows in
    let wait = c.args.wait in
    let within = c.requires in
    let size = length-map rows items in
    joins_one c.args.step wait lists (lists_in (set rows wait c.push.new.self)) (omega (arith, size, within))
    (map-set items rows wait c.push.new.self
    ∙ ap (set lists wait) (c.in_ok-push.ensures.items ∙ ap (λ (list : List ℕ). list ++ c.args.step ∷ []) (row rows wait c.index_mut.result.now within c.index_mut.ensures.value)))
