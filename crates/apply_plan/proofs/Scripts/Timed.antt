-- Outputs of a provisioner that come in time.
use Rattle.std.proofs.Common.{◌≡◌, ℕ, zero, suc, ◌<◌, ◌≤◌, true, ◌&&◌, nat_le, List, [], ◌∷◌, length, map, get_or, ap, subst, ◌∙◌, arith}
use Rattle.std.proofs.lemmas.Bool.{and_parts, leb-true}
use Rattle.std.proofs.lemmas.List.{get_or-map, length-map}
use Rattle.apply_model.specs.declared.script.timed_text.TimedText.{TimedText}
use Rattle.apply_model.specs.Script.Outcome.{are_in_time}
use Rattle.apply_plan.specs.declared.script.raw_output.RawOutput.{RawOutput}
use Rattle.apply_plan.specs.Script.Entry.{timed}
use Rattle.apply_plan.specs.Script.OutputView.{output_view, outputs_view}

-- each output comes before the end
before_end : (low seconds : ℕ) (texts : List TimedText) (i : ℕ) (d : TimedText) → are_in_time low seconds texts ≡ true → i < length texts → (get_or texts i d).after ≤ seconds
before_end low seconds [] i d all below = absurd (omega (arith, below))
before_end low seconds (text ∷ texts) zero d all below =
    let parts = and_parts (nat_le low text.after && nat_le text.after seconds) (are_in_time text.after seconds texts) all in
    leb-true text.after seconds (and_parts (nat_le low text.after) (nat_le text.after seconds) parts.0).1
before_end low seconds (text ∷ texts) (suc i) d all below =
    let parts = and_parts (nat_le low text.after && nat_le text.after seconds) (are_in_time text.after seconds texts) all in
    before_end text.after seconds texts i d parts.1 (omega (arith, below))

-- each stored output comes before the end, and is within the limits if the end is
pub output_in_limits : (limit seconds : ℕ) (outputs : List RawOutput) (i : ℕ) (d : RawOutput) → are_in_time 0 seconds (map (timed seconds) (outputs_view outputs)) ≡ true → i < length outputs → seconds ≤ limit
    → (timed seconds (output_view (get_or outputs i d))).after ≤ limit
output_in_limits limit seconds outputs i d all below short =
    let items = outputs_view outputs in
    let text = timed seconds (output_view d) in
    let in_items : i < length items = rw (length-map outputs output_view) below in
    let in_texts : i < length (map (timed seconds) items) = rw (length-map items (timed seconds)) in_items in
    let seen : get_or (map (timed seconds) items) i text ≡ timed seconds (output_view (get_or outputs i d)) =
    get_or-map (timed seconds) items i (output_view d) text in_items ∙ ap (timed seconds) (get_or-map output_view outputs i d (output_view d) below) in
    let soon : (timed seconds (output_view (get_or outputs i d))).after ≤ seconds =
    subst (λ (t : TimedText). t.after ≤ seconds) seen (before_end 0 seconds (map (timed seconds) items) i text all in_texts) in
    omega (arith, soon, short)
