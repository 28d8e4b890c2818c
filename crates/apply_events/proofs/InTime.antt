-- Outputs of a provisioner that come in time.
use Rattle.std.proofs.Common.{◌≡◌, ℕ, ◌+◌, ◌≤◌, true, ◌&&◌, nat_le, List, [], ◌∷◌, ◌++◌, refl, ap, subst, ◌∙◌, arith}
use Rattle.std.proofs.lemmas.Bool.{and_parts, leb-true}
use Rattle.apply_model.specs.declared.script.provisioner.Provisioner.{Provisioner}
use Rattle.apply_model.specs.declared.script.timed_text.TimedText.{TimedText}
use Rattle.apply_model.specs.Script.Outcome.{are_in_time}
use Rattle.apply_events.specs.declared.what.What.{What}
use Rattle.apply_events.specs.declared.what.What.TheVariants.{ProvisionOutput}
use Rattle.apply_events.specs.Laws.{emitted_in_time}
use Rattle.apply_events.specs.Provisions.{output_at, progress, provision_end, emitted_by}

each_in_time : (d i j since seconds low : ℕ) (end : What) (outputs : List TimedText) → are_in_time low seconds outputs ≡ true
    → emitted_by d (since + low) i j since (since + seconds) end outputs ≡ emitted_in_time d (since + low) i j since (since + seconds) end outputs
each_in_time d i j since seconds low end [] h = refl
each_in_time d i j since seconds low end (o ∷ os) h =
    let parts = and_parts (nat_le low o.after && nat_le o.after seconds) (are_in_time o.after seconds os) h in
    let bounds = and_parts (nat_le low o.after) (nat_le o.after seconds) parts.0 in
    let first : low ≤ o.after = leb-true low o.after bounds.0 in
    let last : o.after ≤ seconds = leb-true o.after seconds bounds.1 in
    let at : output_at (since + low) since (since + seconds) o ≡ since + o.after = omega arith in
    ap (λ n. progress d (since + low) n ++ (n, ProvisionOutput i j) ∷ emitted_by d n i (j + 1) since (since + seconds) end os) at
    ∙ ap (λ l. progress d (since + low) (since + o.after) ++ (since + o.after, ProvisionOutput i j) ∷ l) (each_in_time d i (j + 1) since seconds o.after end os parts.1)

pub in_time : (d i since : ℕ) (p : Provisioner) → are_in_time 0 p.seconds p.output ≡ true
    → emitted_by d since i 0 since (since + p.seconds) (provision_end i p) p.output ≡ emitted_in_time d since i 0 since (since + p.seconds) (provision_end i p) p.output
in_time d i since p h =
    let none : since + 0 ≡ since = omega arith in
    subst (λ n. emitted_by d n i 0 since (since + p.seconds) (provision_end i p) p.output ≡ emitted_in_time d n i 0 since (since + p.seconds) (provision_end i p) p.output) none
    (each_in_time d i 0 since p.seconds 0 (provision_end i p) p.output h)
