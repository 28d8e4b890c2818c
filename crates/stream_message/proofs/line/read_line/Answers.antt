use Rattle.std.proofs.Common.{length, refl, subst, sym, ◌∙◌}
use Rattle.serde_json.specs.Data.{no_members}
use Rattle.apply_json.specs.ShallowView.{members_in}
use Rattle.apply_json.proofs.VerbatimValues.{is_no_tree, whole_tree_of}
use Rattle.stream_message.specs.declared.selection.Selection.{Selection}
use Rattle.stream_message.specs.Slots.{HoldsLine}
use Rattle.stream_message.proofs.line.read_line.Goals as goal

pub read_slots-requires : goal.read_slots-requires
read_slots-requires c = λ k. ((refl, tt), subst (λ (selection : Selection). HoldsLine selection c.args.line.now no_members) (sym c.requires.1.selection_is) c.requires.1)

pub returns-in-Ok : goal.returns-in-Ok
returns-in-Ok c =
    let read = c.in-Ok.ensures.ok.1 in
    record {
      ok = (read.0, sym (whole_tree_of c.args.text.now) ∙ read.1, λ selection start. subst (λ (selection : Selection). HoldsLine selection c.read_slots.new.slots (members_in read.0)) start.selection_is read.2);
      err = tt;
    }

pub returns-in-Err : goal.returns-in-Err
returns-in-Err c = record {
  ok = tt;
  err = is_no_tree (length c.args.text.now) c.in-Err.fault c.args.text.now c.in-Err.ensures.err;
}
