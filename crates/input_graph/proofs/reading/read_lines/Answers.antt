use Rattle.std.proofs.Common.{◌≡◌, ◌∙◌, ◌+◌, sym, ap, arith, drop, Option}
use Rattle.std.proofs.lemmas.Result.{err_from_is_err_and}
use Rattle.stream_lines.specs.Cut.{cut_lines}
use Rattle.input_graph.specs.declared.graph_fault.GraphFault.{GraphFault}
use Rattle.input_graph.specs.Reading.{graph_of, unless_fault}
use Rattle.input_graph.proofs.Rest.{IsFirstLine, fault_found, next_faults, next_graph, shorter}
use Rattle.input_graph.proofs.reading.read_lines.Goals as goal

pub returns-in_err-add-clause-err : goal.returns-in_err-add-clause-err
returns-in_err-add-clause-err c =
    let first : IsFirstLine c.lines.rest.now c.len_before_feed-len.result = record {
      some = sym c.is_empty.ensures ∙ c.lines-test.true;
      within = c.len_before_feed-len.ensures.bound;
      before = c.len_before_feed-len.ensures.before;
      feed = c.len_before_feed-len.ensures.feed;
    } in
    let p = err_from_is_err_and c.from_residual-in_err-add.result c.from_residual-in_err-add.ensures.1 in
    rw (p.1, p.2) (λ other.
    ap (λ (fault : Option GraphFault). unless_fault fault (graph_of (cut_lines c.args.bytes.now)))
    (c.lines.invariant.faults
    ∙ fault_found c.lines.rest.now c.len_before_feed-len.result (c.lines.number + 1) c.in_ok-read_line.field-0 first c.in_ok-read_line.ensures
    c.in_err-add.field-0.0 (c.in_err-add.ensures.err other)))

pub lines-preserved : goal.lines-preserved
lines-preserved c =
    let first : IsFirstLine c.lines.rest.now c.len_before_feed-len.result = record {
      some = sym c.is_empty.ensures ∙ c.lines-test.true;
      within = c.len_before_feed-len.ensures.bound;
      before = c.len_before_feed-len.ensures.before;
      feed = c.len_before_feed-len.ensures.feed;
    } in
    let after : c.after_feed-rest.result.now ≡ drop (c.len_before_feed-len.result + 1) c.lines.rest.now = c.after_feed-rest.ensures in
    record {
      counted = rw after (omega (arith, shorter c.lines.rest.now c.len_before_feed-len.result first));
      faults = rw after (
          c.lines.invariant.faults
          ∙ next_faults c.lines.rest.now c.len_before_feed-len.result (c.lines.number + 1) c.in_ok-read_line.field-0 first c.in_ok-read_line.ensures
          c.in_ok-add.ensures.ok.0
          );
      grown = rw after (
          c.lines.invariant.grown
          ∙ next_graph c.lines.rest.now c.len_before_feed-len.result (c.lines.number + 1) c.in_ok-read_line.field-0 first c.in_ok-read_line.ensures
          c.lines.graph c.add.new.self c.in_ok-add.ensures.ok.1
          );
    }
