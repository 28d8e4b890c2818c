use Rattle.std.proofs.Common.{◌≡◌, ap, codes, true, subst, sym, ◌∙◌}
use Rattle.std.specs.Str.{bytes_eq}
use Rattle.apply_json.proofs.Copied.{if_ok}
use Rattle.apply_json.proofs.Held.{left}
use Rattle.apply_json.proofs.VerbatimValues.{as_member}
use Rattle.apply_json.specs.ShallowView.{members_in, shallow_of}
use Rattle.stream_message.specs.declared.selection.Selection.{Selection}
use Rattle.stream_message.specs.Slots.{AreChanges, HoldsDiagnostic, IsDiagnostic, IsHook}
use Rattle.stream_message.proofs.Slots.{all_left, line_after, other_name, selected_name}
use Rattle.stream_message.proofs.line_slots.LineSlotsSlots.take.Goals as goal

pub returns-then-is_selected : goal.returns-then-is_selected
returns-then-is_selected c =
    let k = c.args.name.now in
    let here : bytes_eq k (codes "hook") ≡ true = selected_name c.args.self.now.selection.hook k (codes "hook") (sym c.is_selected.ensures ∙ c.if-is_selected.true) in
    record {
      ok = if_ok c.read.result (λ done. (done.0, as_member c.args.depth c.args.reader.now done.0 c.read.new.reader k done.1, λ start ms holds. line_after k (codes "hook") done.0 ms here start.selection _ holds.selection_is holds.head.type_name holds.head.timestamp holds.terraform (λ selected. (done.2, done.3)) holds.change holds.changes holds.diagnostic)) c.read.ensures.ok;
      shorter = c.read.ensures.shorter;
      err = c.read.ensures.err;
    }

pub returns-then-is_selected-2 : goal.returns-then-is_selected-2
returns-then-is_selected-2 c =
    let k = c.args.name.now in
    let here : bytes_eq k (codes "change") ≡ true = selected_name c.args.self.now.selection.change k (codes "change") (sym c.is_selected-else-is_selected.ensures ∙ c.if-is_selected-2.true) in
    record {
      ok = if_ok c.read-then-is_selected-2.result (λ done. (done.0, as_member c.args.depth c.args.reader.now done.0 c.read-then-is_selected-2.new.reader k done.1, λ start ms holds. line_after k (codes "change") done.0 ms here start.selection _ holds.selection_is holds.head.type_name holds.head.timestamp holds.terraform holds.hook (λ selected. (done.2, done.3)) holds.changes holds.diagnostic)) c.read-then-is_selected-2.ensures.ok;
      shorter = c.read-then-is_selected-2.ensures.shorter;
      err = c.read-then-is_selected-2.ensures.err;
    }

pub returns-then-is_selected-3 : goal.returns-then-is_selected-3
returns-then-is_selected-3 c =
    let k = c.args.name.now in
    let here : bytes_eq k (codes "changes") ≡ true = selected_name c.args.self.now.selection.changes k (codes "changes") (sym c.is_selected-else-is_selected-2.ensures ∙ c.if-is_selected-3.true) in
    record {
      ok = if_ok c.read-then-is_selected-3.result (λ done. (done.0, as_member c.args.depth c.args.reader.now done.0 c.read-then-is_selected-3.new.reader k done.1, λ start ms holds. line_after k (codes "changes") done.0 ms here start.selection _ holds.selection_is holds.head.type_name holds.head.timestamp holds.terraform holds.hook holds.change (λ selected. (done.2, done.3)) holds.diagnostic)) c.read-then-is_selected-3.ensures.ok;
      shorter = c.read-then-is_selected-3.ensures.shorter;
      err = c.read-then-is_selected-3.ensures.err;
    }

pub returns-then-is_selected-4 : goal.returns-then-is_selected-4
returns-then-is_selected-4 c =
    let k = c.args.name.now in
    let here : bytes_eq k (codes "diagnostic") ≡ true = selected_name c.args.self.now.selection.diagnostic k (codes "diagnostic") (sym c.is_selected-else-is_selected-3.ensures ∙ c.if-is_selected-4.true) in
    record {
      ok = if_ok c.read-then-is_selected-4.result (λ done. (done.0, as_member c.args.depth c.args.reader.now done.0 c.read-then-is_selected-4.new.reader k done.1, λ start ms holds. line_after k (codes "diagnostic") done.0 ms here start.selection _ holds.selection_is holds.head.type_name holds.head.timestamp holds.terraform holds.hook holds.change holds.changes (λ selected. (done.2, subst (λ (s : Selection). HoldsDiagnostic s.diagnostic_texts c.read-then-is_selected-4.new.diagnostic (members_in done.0)) holds.selection_is done.3)))) c.read-then-is_selected-4.ensures.ok;
      shorter = c.read-then-is_selected-4.ensures.shorter;
      err = c.read-then-is_selected-4.ensures.err;
    }

pub returns-then-is_selected-5 : goal.returns-then-is_selected-5
returns-then-is_selected-5 c =
    let k = c.args.name.now in
    let here : bytes_eq k (codes "terraform") ≡ true = selected_name c.args.self.now.selection.version k (codes "terraform") (sym c.is_selected-else-is_selected-4.ensures ∙ c.if-is_selected-5.true) in
    record {
      ok = if_ok c.read_shallow_into.result (λ done. (done.0, as_member c.args.depth c.args.reader.now done.0 c.read_shallow_into.new.reader k done.1, λ start ms holds. line_after k (codes "terraform") done.0 ms here start.selection _ holds.selection_is holds.head.type_name holds.head.timestamp (λ selected. done.2) holds.hook holds.change holds.changes holds.diagnostic)) c.read_shallow_into.ensures.ok;
      shorter = c.read_shallow_into.ensures.shorter;
      err = c.read_shallow_into.ensures.err;
    }

pub returns-else-is_selected-5 : goal.returns-else-is_selected-5
returns-else-is_selected-5 c =
    let k = c.args.name.now in
    let selection = c.args.self.now.selection in
    record {
      ok = if_ok c.take.result
          (λ done. (
            done.0,
            done.1,
            λ start ms holds. record {
              selection_is = holds.selection_is;
              head = done.2 c.args.self.now.head ms holds.head;
              hook = λ selected. all_left (IsHook c.args.self.now.hook) (codes "hook") k done.0 ms (other_name selection.hook k (codes "hook") (sym c.is_selected.ensures ∙ c.if-is_selected.false) (ap (λ (s : Selection). s.hook) holds.selection_is ∙ selected)) (holds.hook selected);
              change = λ selected. all_left (IsHook c.args.self.now.change) (codes "change") k done.0 ms (other_name selection.change k (codes "change") (sym c.is_selected-else-is_selected.ensures ∙ c.if-is_selected-2.false) (ap (λ (s : Selection). s.change) holds.selection_is ∙ selected)) (holds.change selected);
              changes = λ selected. all_left (AreChanges c.args.self.now.changes) (codes "changes") k done.0 ms (other_name selection.changes k (codes "changes") (sym c.is_selected-else-is_selected-2.ensures ∙ c.if-is_selected-3.false) (ap (λ (s : Selection). s.changes) holds.selection_is ∙ selected)) (holds.changes selected);
              diagnostic = λ selected. all_left (IsDiagnostic start.selection.diagnostic_texts c.args.self.now.diagnostic) (codes "diagnostic") k done.0 ms (other_name selection.diagnostic k (codes "diagnostic") (sym c.is_selected-else-is_selected-3.ensures ∙ c.if-is_selected-4.false) (ap (λ (s : Selection). s.diagnostic) holds.selection_is ∙ selected)) (holds.diagnostic selected);
              terraform = λ selected. left shallow_of (codes "terraform") k done.0 ms _ (other_name selection.version k (codes "terraform") (sym c.is_selected-else-is_selected-4.ensures ∙ c.if-is_selected-5.false) (ap (λ (s : Selection). s.version) holds.selection_is ∙ selected)) (holds.terraform selected);
            },
          ))
          c.take.ensures.ok;
      shorter = c.take.ensures.shorter;
      err = c.take.ensures.err;
    }
