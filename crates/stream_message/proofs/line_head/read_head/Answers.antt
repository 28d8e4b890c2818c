use Rattle.std.proofs.Common.{length, refl, sym, ◌∙◌}
use Rattle.apply_json.proofs.VerbatimValues.{is_no_tree, whole_tree_of}
use Rattle.stream_message.proofs.line_head.read_head.Goals as goal

pub read_slots-requires : goal.read_slots-requires
read_slots-requires c = λ k. ((refl, tt), c.new-head.ensures)

pub returns-in-Ok : goal.returns-in-Ok
returns-in-Ok c =
    let read = c.in-Ok.ensures.ok.1 in
    record {
      ok = (read.0, sym (whole_tree_of c.args.text.now) ∙ read.1, read.2);
      err = tt;
    }

pub returns-in-Err : goal.returns-in-Err
returns-in-Err c = record {
  ok = tt;
  err = is_no_tree (length c.args.text.now) c.in-Err.fault c.args.text.now c.in-Err.ensures.err;
}
