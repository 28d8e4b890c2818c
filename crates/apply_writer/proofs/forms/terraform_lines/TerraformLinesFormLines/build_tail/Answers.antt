use Rattle.std.proofs.Common.{◌≡◌, List, ℕ, [], ◌++◌, OnOk, append-nil, sym, ap, ◌∙◌}
use Rattle.std.specs.Prelude.{Bool, true, false, Result, if◌then◌else◌, flat_map}
use Rattle.std.proofs.lemmas.Result.{on_ok_weaker}
use Rattle.apply_text_terraform.specs.Lines.{note_text, summary_text}
use Rattle.apply_writer.specs.declared.forms.terraform_extras.TerraformExtras.{TerraformExtras}
use Rattle.apply_writer.specs.Stream.Terraform.{imported_in, outputs_of_apply, contains_error}
use Rattle.apply_writer.proofs.forms.terraform_lines.TerraformLinesFormLines.build_tail.Goals as goal

-- nothing follows the diagnostics if an error is reported
notes_alone : (notes sums cleared noted : List ℕ) (error : Bool) → cleared ≡ [] → noted ≡ cleared ++ notes → error ≡ true → noted ≡ notes ++ (if error then [] else sums)
notes_alone notes sums cleared noted error none accepted is =
    accepted ∙ ap (λ before. before ++ notes) none ∙ sym (append-nil notes) ∙ ap (λ e. notes ++ (if e then [] else sums)) (sym is)

-- the summary follows them otherwise
notes_and_sums : {E : Type 0} (r : Result (Unit {0}) E) (notes sums cleared noted new : List ℕ) (error : Bool) → cleared ≡ [] → noted ≡ cleared ++ notes → error ≡ false
    → OnOk r (new ≡ noted ++ sums) → OnOk r (new ≡ notes ++ (if error then [] else sums))
notes_and_sums r notes sums cleared noted new error none accepted is added =
    on_ok_weaker r (λ grown. grown ∙ ap (λ before. before ++ sums) (accepted ∙ ap (λ before. before ++ notes) none) ∙ ap (λ e. notes ++ (if e then [] else sums)) (sym is)) added

pub returns-then-contains_error-clause-ok : goal.returns-then-contains_error-clause-ok
returns-then-contains_error-clause-ok c =
    let s = c.args.self.now in
    let notes = flat_map (note_text s.start c.args.latest) s.extras.notes.now in
    let accepted = c.in_ok-push_notes.ensures in
    let contains = ap (λ (extras : TerraformExtras). contains_error extras.notes.now c.args.counts.now) accepted.same.extras in
    notes_alone notes _ _ _ (contains_error s.extras.notes.now c.args.counts.now) c.clear.ensures accepted.ok (sym contains ∙ sym c.contains_error.ensures ∙ c.if-contains_error.true)

pub returns-else-contains_error-clause-ok : goal.returns-else-contains_error-clause-ok
returns-else-contains_error-clause-ok c =
    let s = c.args.self.now in
    let notes = flat_map (note_text s.start c.args.latest) s.extras.notes.now in
    let sums = summary_text s.start c.args.latest s.operation c.args.counts.now (imported_in s.extras.details.now) ++ outputs_of_apply s.operation s.start c.args.latest s.extras.outputs.now in
    let accepted = c.in_ok-push_notes.ensures in
    let contains = ap (λ (extras : TerraformExtras). contains_error extras.notes.now c.args.counts.now) accepted.same.extras in
    notes_and_sums c.push_totals.result notes sums _ _ _ (contains_error s.extras.notes.now c.args.counts.now) c.clear.ensures accepted.ok (sym contains ∙ sym c.contains_error.ensures ∙ c.if-contains_error.false)
    (rw (accepted.same.start, accepted.same.operation, accepted.same.extras) at c.push_totals.ensures.ok)
