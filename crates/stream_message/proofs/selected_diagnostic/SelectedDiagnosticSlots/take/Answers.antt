use Rattle.std.proofs.Common.{◌≡◌, codes, true, sym, ◌∙◌}
use Rattle.std.specs.Str.{bytes_eq}
use Rattle.apply_json.proofs.Copied.{if_ok}
use Rattle.apply_json.proofs.Held.{left}
use Rattle.apply_json.proofs.VerbatimValues.{as_member}
use Rattle.apply_json.specs.ShallowView.{shallow_of}
use Rattle.stream_message.specs.Slots.{IsRange, shallow_value}
use Rattle.stream_message.proofs.Slots.{all_left, diagnostic_after, other_name, selected_name}
use Rattle.stream_message.proofs.selected_diagnostic.SelectedDiagnosticSlots.take.Goals as goal

pub returns-then-is_text : goal.returns-then-is_text
returns-then-is_text c =
    let k = c.args.name.now in
    let here : bytes_eq k (codes "severity") ≡ true = sym c.is_text.ensures ∙ c.if-is_text.true in
    record {
      ok = if_ok c.read_into_slot.result (λ done. (done.0, as_member c.args.depth c.args.reader.now done.0 c.read_into_slot.new.reader k done.1, λ start ms holds. record { texts_are = holds.texts_are; holds = diagnostic_after k (codes "severity") done.0 ms here c.args.self.now.texts _ done.2 holds.holds.address holds.holds.summary holds.holds.detail holds.holds.range })) c.read_into_slot.ensures.ok;
      shorter = c.read_into_slot.ensures.shorter;
      err = c.read_into_slot.ensures.err;
    }

pub returns-then-is_text-2 : goal.returns-then-is_text-2
returns-then-is_text-2 c =
    let k = c.args.name.now in
    let here : bytes_eq k (codes "address") ≡ true = sym c.is_text-else-is_text.ensures ∙ c.if-is_text-2.true in
    record {
      ok = if_ok c.read_into_slot-then-is_text-2.result (λ done. (done.0, as_member c.args.depth c.args.reader.now done.0 c.read_into_slot-then-is_text-2.new.reader k done.1, λ start ms holds. record { texts_are = holds.texts_are; holds = diagnostic_after k (codes "address") done.0 ms here c.args.self.now.texts _ holds.holds.severity done.2 holds.holds.summary holds.holds.detail holds.holds.range })) c.read_into_slot-then-is_text-2.ensures.ok;
      shorter = c.read_into_slot-then-is_text-2.ensures.shorter;
      err = c.read_into_slot-then-is_text-2.ensures.err;
    }

pub returns-then-is_selected : goal.returns-then-is_selected
returns-then-is_selected c =
    let k = c.args.name.now in
    let here : bytes_eq k (codes "summary") ≡ true = selected_name c.args.self.now.texts k (codes "summary") (sym c.is_selected.ensures ∙ c.if-is_selected.true) in
    record {
      ok = if_ok c.read_shallow_into.result (λ done. (done.0, as_member c.args.depth c.args.reader.now done.0 c.read_shallow_into.new.reader k done.1, λ start ms holds. record { texts_are = holds.texts_are; holds = diagnostic_after k (codes "summary") done.0 ms here c.args.self.now.texts _ holds.holds.severity holds.holds.address (λ selected. done.2) holds.holds.detail holds.holds.range })) c.read_shallow_into.ensures.ok;
      shorter = c.read_shallow_into.ensures.shorter;
      err = c.read_shallow_into.ensures.err;
    }

pub returns-then-is_selected-2 : goal.returns-then-is_selected-2
returns-then-is_selected-2 c =
    let k = c.args.name.now in
    let here : bytes_eq k (codes "detail") ≡ true = selected_name c.args.self.now.texts k (codes "detail") (sym c.is_selected-else-is_selected.ensures ∙ c.if-is_selected-2.true) in
    record {
      ok = if_ok c.read_shallow_into-then-is_selected-2.result (λ done. (done.0, as_member c.args.depth c.args.reader.now done.0 c.read_shallow_into-then-is_selected-2.new.reader k done.1, λ start ms holds. record { texts_are = holds.texts_are; holds = diagnostic_after k (codes "detail") done.0 ms here c.args.self.now.texts _ holds.holds.severity holds.holds.address holds.holds.summary (λ selected. done.2) holds.holds.range })) c.read_shallow_into-then-is_selected-2.ensures.ok;
      shorter = c.read_shallow_into-then-is_selected-2.ensures.shorter;
      err = c.read_shallow_into-then-is_selected-2.ensures.err;
    }

pub returns-then-is_selected-3 : goal.returns-then-is_selected-3
returns-then-is_selected-3 c =
    let k = c.args.name.now in
    let here : bytes_eq k (codes "range") ≡ true = selected_name c.args.self.now.texts k (codes "range") (sym c.is_selected-else-is_selected-2.ensures ∙ c.if-is_selected-3.true) in
    record {
      ok = if_ok c.read.result (λ done. (done.0, as_member c.args.depth c.args.reader.now done.0 c.read.new.reader k done.1, λ start ms holds. record { texts_are = holds.texts_are; holds = diagnostic_after k (codes "range") done.0 ms here c.args.self.now.texts _ holds.holds.severity holds.holds.address holds.holds.summary holds.holds.detail (λ selected. done.2) })) c.read.ensures.ok;
      shorter = c.read.ensures.shorter;
      err = c.read.ensures.err;
    }

pub returns-else-is_selected-3 : goal.returns-else-is_selected-3
returns-else-is_selected-3 c =
    let k = c.args.name.now in
    record {
      ok = if_ok c.skip_member.result
          (λ done. (
            done.0,
            as_member c.args.depth c.args.reader.now done.0 c.skip_member.new.reader k done.1,
            λ start ms holds. record {
              texts_are = holds.texts_are;
              holds = record {
                severity = left shallow_value (codes "severity") k done.0 ms _ (sym c.is_text.ensures ∙ c.if-is_text.false) holds.holds.severity;
                address = left shallow_value (codes "address") k done.0 ms _ (sym c.is_text-else-is_text.ensures ∙ c.if-is_text-2.false) holds.holds.address;
                summary = λ selected. left shallow_of (codes "summary") k done.0 ms _ (other_name c.args.self.now.texts k (codes "summary") (sym c.is_selected.ensures ∙ c.if-is_selected.false) selected) (holds.holds.summary selected);
                detail = λ selected. left shallow_of (codes "detail") k done.0 ms _ (other_name c.args.self.now.texts k (codes "detail") (sym c.is_selected-else-is_selected.ensures ∙ c.if-is_selected-2.false) selected) (holds.holds.detail selected);
                range = λ selected. all_left (IsRange c.args.self.now.slots.range) (codes "range") k done.0 ms (other_name c.args.self.now.texts k (codes "range") (sym c.is_selected-else-is_selected-2.ensures ∙ c.if-is_selected-3.false) selected) (holds.holds.range selected);
              };
            },
          ))
          c.skip_member.ensures.ok;
      shorter = c.skip_member.ensures.shorter;
      err = c.skip_member.ensures.err;
    }
