use Rattle.std.proofs.Common.{◌≡◌, ◌<◌, ◌∙◌, All, List, Some, [], sym, ap, arith, length, subst, refl, ℕ}
use Rattle.std.specs.Prelude.{slice_get}
use Rattle.std.proofs.lemmas.List.Elements.{All-get_or, All-nil}
use Rattle.std.proofs.lemmas.Option.{slice_get_read}
use Rattle.stream_record_waits.specs.Graph.{passed_on, waits_at}
use Rattle.stream_record_waits.specs.Reached.{size_of, with_all}
use Rattle.stream_record_waits.specs.Steps.{lists_in}
use Rattle.stream_record_waits.proofs.Members.{only_all}
use Rattle.stream_record_waits.proofs.Rows.{passed_known, row_is, row_known}
use Rattle.stream_record_waits.proofs.Search.{begins, finds_all, goes_by_done, goes_through}
use Rattle.stream_record_waits.proofs.reached.Reached.search.Goals as goal
use Rattle.stream_record_waits.proofs.reached.Reached.search.Goals.{then-not-is_done_before+in_ok-add_passed_on, else-not-is_done_before}

pub add_all-requires-clause-known : goal.add_all-requires-clause-known
add_all-requires-clause-known c =
    row_known c.args.graph.now (length c.args.steps.now) c.args.step c.index-graph-step.result c.requires.known c.requires.step c.index-graph-step.is c.as_slice.result.now (size_of c.restart.new.self)
    c.as_slice.ensures.value (c.restart.ensures.size ∙ c.requires.size)

pub found-init : goal.found-init
found-init c =
    let graph = lists_in c.args.graph.now in
    let count = length c.args.steps.now in
    let is_row : c.as_slice.result.now ≡ waits_at graph c.args.step =
    row_is c.args.graph.now count c.args.step c.index-graph-step.result c.requires.known c.requires.step c.index-graph-step.is c.as_slice.result.now c.as_slice.ensures.value in
    let is : c.add_all.new.self.steps.items ≡ with_all [] (waits_at graph c.args.step) =
    c.in_ok-add_all.ensures.steps ∙ ap (λ (from : List ℕ). with_all from c.as_slice.result.now) c.restart.ensures.none ∙ ap (with_all []) is_row in
    record {
      marked = c.in_ok-add_all.ensures.marked;
      size = c.in_ok-add_all.ensures.size ∙ c.restart.ensures.size ∙ c.requires.size;
      search = c.in_ok-add_all.ensures.search ∙ c.restart.ensures.search;
      known = subst (All (λ other. other < count)) (sym is)
          (only_all (λ other. other < count) (waits_at graph c.args.step) [] (All-nil (λ other. other < count)) (c.requires.known.known c.args.step c.requires.step));
      searched = begins c.args.steps.now graph c.args.step c.args.line c.add_all.new.self.steps.items is;
    }

pub returns-then-place-len-clause-complete : goal.returns-then-place-len-clause-complete
returns-then-place-len-clause-complete c =
    finds_all c.args.steps.now (lists_in c.args.graph.now) c.args.step c.args.line c.found.place c.found.self.steps.items c.found.invariant.searched (omega arith)

pub found-preserved : goal.found-preserved
found-preserved c =
    let graph = lists_in c.args.graph.now in
    let count = length c.args.steps.now in
    let within : c.found.place < length c.found.self.steps.items = omega arith in
    let here : slice_get c.found.self.steps.items c.found.place ≡ Some c.index-found.result.now =
    slice_get_read c.found.self.steps.items (length c.found.self.steps.items) c.found.place c.index-found.result.now refl within c.index-found.ensures in
    let inside : c.index-found.result.now < count =
    subst (λ (n : ℕ). n < count) (sym c.index-found.ensures) (All-get_or (λ other. other < count) c.found.self.steps.items c.found.place c.index-found.result.now within c.found.invariant.known) in
    elim c.if-not-is_done_before.branch [
      | then-not-is_done_before+in_ok-add_passed_on w ↦
          let more = passed_on c.args.steps.now graph c.index-found.result.now in
          rw w.self-is (record {
            marked = w.in_ok-add_passed_on.ensures.marked;
            size = w.in_ok-add_passed_on.ensures.size ∙ c.found.invariant.size;
            search = w.in_ok-add_passed_on.ensures.search ∙ c.found.invariant.search;
            known = subst (All (λ other. other < count)) (sym w.in_ok-add_passed_on.ensures.steps)
                (only_all (λ other. other < count) more c.found.self.steps.items c.found.invariant.known (passed_known c.args.steps.now graph c.index-found.result.now c.requires.known inside));
            searched = goes_through c.args.steps.now graph c.args.step c.args.line c.found.place c.found.self.steps.items _ c.index-found.result.now
                c.found.invariant.searched here (sym c.is_done_before.ensures ∙ w.if-not-is_done_before.true) w.in_ok-add_passed_on.ensures.steps;
          })
      | else-not-is_done_before w ↦
          rw w.self-is (record {
            marked = c.found.invariant.marked;
            size = c.found.invariant.size;
            search = c.found.invariant.search;
            known = c.found.invariant.known;
            searched = goes_by_done c.args.steps.now graph c.args.step c.args.line c.found.place c.found.self.steps.items c.index-found.result.now
                c.found.invariant.searched here (sym c.is_done_before.ensures ∙ w.if-not-is_done_before.false);
          })
    ]
