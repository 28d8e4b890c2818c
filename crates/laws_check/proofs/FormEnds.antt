-- What a checker reads back from the first line in Terraform's form, from diagnostics of no step,
-- and from the summary.
use Rattle.std.proofs.Common.{◌≡◌, ℕ, ◌+◌, ◌<◌, ◌≤◌, ◌^◌, ◌==◌, List, [], ◌++◌, codes, cond, decimal, IsUtf8, Bool, true, false, Option, Ok, refl, arith}
use Rattle.std.specs.Prelude.{IfSome}
use Rattle.std.proofs.lemmas.Str.{IsUtf8-nil}
use Rattle.json.specs.Tree as tree
use Rattle.json.proofs.Printed.Utf8.{IsUtf8-are_ascii}
use Rattle.serde_json.specs.Data.{Data}
use Rattle.serde_json.specs.Read.{of_json}
use Rattle.serde_json.specs.Written.{outline}
use Rattle.serde_json.proofs.Numbers.{number_of-decimal}
use Rattle.apply_model.specs.declared.details.note.Note.{Note}
use Rattle.apply_model.specs.declared.details.note.Severity.{Severity}
use Rattle.apply_model.specs.declared.details.note.Severity.TheVariants.{Error, Warning}
use Rattle.apply_model.specs.declared.script.diag.Diag.{Diag}
use Rattle.apply_model.specs.Plan.SavedPlan.{SavedPlan}
use Rattle.stream_check.specs.declared.rules.fault.Fault.TheVariants.{NotJson}
use Rattle.stream_check.specs.Lines.{tree_message}
use Rattle.stream_check.specs.Message.{diagnostic, summary, summary_of, typed_message, version}
use Rattle.stream_check.specs.Results.{◌>>=◌, or_refuse}
use Rattle.apply_events.specs.declared.counts.Counts.{Counts}
use Rattle.apply_text.specs.declared.operation.Operation.{Operation}
use Rattle.apply_text.specs.declared.operation.Operation.TheVariants.{Apply, Destroy}
use Rattle.apply_text.specs.Lines.{message_object, typed}
use Rattle.apply_text_terraform.specs.Lines.{note_text, summary_text, version_members, version_text}
use Rattle.apply_text_terraform.specs.Message.{imported_text, summary_message, summary_words}
use Rattle.apply_text_terraform.specs.UtcTimestamp.{precise_timestamp_text}
use Rattle.apply_text_terraform.specs.Objects.{changes_object}
use Rattle.apply_writer.specs.Stream.Terraform.{is_severe}
use Rattle.laws_check.specs.Accepted.{totals_of_counts}
use Rattle.laws_check.specs.Forms.{AreVerbatim}
use Rattle.laws_check.specs.Objects.{object_at}
use Rattle.laws_check.specs.Sound.{IsSound}
use Rattle.laws_check.specs.Texts.{AreSmall, HasDiagTexts}
use Rattle.laws_check.specs.ReadBackInForm.{HasNoteTexts, IsReadBackAs, diagnostic_read_back}
use Rattle.laws_check.proofs.FormReadBack.{line_reads, diagnostic_is_read_back, says}
use Rattle.laws_check.proofs.FormNotes.{note_read}
use Rattle.laws_check.proofs.FormPlanned.{message_sound}
use Rattle.laws_check.proofs.SoundObjects.{totals_utf8}
use Rattle.laws_check.proofs.SoundParts.{operation_utf8, three, two}
use Rattle.laws_check.proofs.Sounds.{fine_utf8, number_utf8}

-- ---- the version

version_sound : (plan : SavedPlan) (start : ℕ) → IsUtf8 plan.version → IsSound (message_object (codes "info") (codes "Terraform " ++ plan.version) (precise_timestamp_text start) (version_members plan.version))
unfolding message_object
version_sound plan start text = (
  IsUtf8-are_ascii (codes "@level") refl,
  IsUtf8-are_ascii (codes "info") refl,
  (
    IsUtf8-are_ascii (codes "@message") refl,
    two (codes "Terraform ") plan.version (IsUtf8-are_ascii (codes "Terraform ") refl) text,
    (
      IsUtf8-are_ascii (codes "@module") refl,
      IsUtf8-are_ascii (codes "terraform.ui") refl,
      (
        IsUtf8-are_ascii (codes "@timestamp") refl,
        fine_utf8 start,
        (
          IsUtf8-are_ascii (codes "terraform") refl,
          text,
          (IsUtf8-are_ascii (codes "type") refl, IsUtf8-are_ascii (codes "version") refl, (IsUtf8-are_ascii (codes "ui") refl, IsUtf8-are_ascii (codes "1.2") refl, tt)),
        ),
      ),
    ),
  ),
)

version_is_read_back : (given says moment : List ℕ)
    → ((or_refuse NotJson (of_json (outline (message_object (codes "info") says moment (version_members given)))) >>= tree_message false) ≡ Ok version)
    × (tree.depth (outline (message_object (codes "info") says moment (version_members given))) ≤ 3)
unfolding message_object tree_message typed_message
version_is_read_back given says moment = (refl, omega arith)

pub version_line_read_back : (plan : SavedPlan) (start : ℕ) → IsUtf8 plan.version → IsReadBackAs (version_text plan start) version
version_line_read_back plan start text =
    let is_read_back = version_is_read_back plan.version (codes "Terraform " ++ plan.version) (precise_timestamp_text start) in
    line_reads (message_object (codes "info") (codes "Terraform " ++ plan.version) (precise_timestamp_text start) (version_members plan.version)) version (version_sound plan start text) is_read_back.1 is_read_back.0

-- ---- diagnostics of no step

of_severity : (severity : Severity) (diag : Diag) (address : Option (List ℕ)) (range snippet : Option Data) (start latest : ℕ) → HasDiagTexts diag → IfSome address IsUtf8 → AreVerbatim diag range snippet
    → IsReadBackAs (note_text start latest (record { severity = severity; diag = diag; address = address })) (diagnostic (is_severe severity) address)
of_severity Error diag address range snippet start latest has where_is raw_texts =
    let text = codes "Error" ++ codes ": " ++ diag.summary in
    says (note_text start latest (record { severity = Error; diag = diag; address = address })) _ (diagnostic true address)
    (note_read (start + latest) (codes "error") text address (codes "error") diag (IsUtf8-are_ascii (codes "error") refl)
    (three (codes "Error") (codes ": ") diag.summary (IsUtf8-are_ascii (codes "Error") refl) (IsUtf8-are_ascii (codes ": ") refl) has.summary) where_is (IsUtf8-are_ascii (codes "error") refl) has range snippet raw_texts)
    (diagnostic_is_read_back false (precise_timestamp_text (start + latest)) (codes "error") text address (codes "error") diag range snippet)
of_severity Warning diag address range snippet start latest has where_is raw_texts =
    let text = codes "Warning" ++ codes ": " ++ diag.summary in
    says (note_text start latest (record { severity = Warning; diag = diag; address = address })) _ (diagnostic false address)
    (note_read (start + latest) (codes "warn") text address (codes "warning") diag (IsUtf8-are_ascii (codes "warn") refl)
    (three (codes "Warning") (codes ": ") diag.summary (IsUtf8-are_ascii (codes "Warning") refl) (IsUtf8-are_ascii (codes ": ") refl) has.summary) where_is (IsUtf8-are_ascii (codes "warning") refl) has range snippet raw_texts)
    (diagnostic_is_read_back false (precise_timestamp_text (start + latest)) (codes "warn") text address (codes "warning") diag range snippet)

pub diagnostic_line_read_back : (note : Note) (start latest : ℕ) → HasNoteTexts note → IsReadBackAs (note_text start latest note) (diagnostic_read_back note)
diagnostic_line_read_back note start latest has = of_severity note.severity note.diag note.address has.raw_texts.0 has.raw_texts.1 start latest has.diag has.address has.raw_texts.2

-- ---- the summary

changes_sound : (operation : Operation) (counts : Counts) (imported : ℕ) → AreSmall counts → imported < 2 ^ 64 → IsSound (changes_object operation counts imported)
unfolding changes_object
changes_sound operation counts imported small few = (
  IsUtf8-are_ascii (codes "add") refl,
  small.added,
  (
    IsUtf8-are_ascii (codes "change") refl,
    small.changed,
    (
      IsUtf8-are_ascii (codes "import") refl,
      few,
      (IsUtf8-are_ascii (codes "remove") refl, small.removed, (IsUtf8-are_ascii (codes "operation") refl, operation_utf8 operation, tt)),
    ),
  ),
)

imported_utf8 : (imported : ℕ) → imported < 2 ^ 64 → IsUtf8 (imported_text imported)
imported_utf8 imported few = either (imported == 0)
  where
    either : (b : Bool) → IsUtf8 (cond b [] (decimal imported ++ codes " imported, "))
    either true = IsUtf8-nil
    either false = two (decimal imported) (codes " imported, ") (number_utf8 imported few) (IsUtf8-are_ascii (codes " imported, ") refl)

words_utf8 : (operation : Operation) (counts : Counts) (imported : ℕ) → AreSmall counts → imported < 2 ^ 64 → IsUtf8 (summary_words operation counts imported)
words_utf8 Destroy counts imported small few = totals_utf8 Destroy counts small
words_utf8 Apply counts imported small few =
    three (codes "Apply complete! Resources: " ++ imported_text imported ++ decimal counts.added ++ codes " added, " ++ decimal counts.changed ++ codes " changed, ") (decimal counts.removed) (codes " destroyed.")
    (three (codes "Apply complete! Resources: " ++ imported_text imported ++ decimal counts.added ++ codes " added, ") (decimal counts.changed) (codes " changed, ")
    (three (codes "Apply complete! Resources: " ++ imported_text imported) (decimal counts.added) (codes " added, ")
    (two (codes "Apply complete! Resources: ") (imported_text imported) (IsUtf8-are_ascii (codes "Apply complete! Resources: ") refl) (imported_utf8 imported few))
    (number_utf8 counts.added small.added) (IsUtf8-are_ascii (codes " added, ") refl))
    (number_utf8 counts.changed small.changed) (IsUtf8-are_ascii (codes " changed, ") refl))
    (number_utf8 counts.removed small.removed) (IsUtf8-are_ascii (codes " destroyed.") refl)

summary_is_read_back : (operation : Operation) (counts : Counts) (imported : ℕ) (says moment : List ℕ) → AreSmall counts → imported < 2 ^ 64
    → ((or_refuse NotJson (of_json (outline (message_object (codes "info") says moment (typed (codes "changes") (changes_object operation counts imported) (codes "change_summary"))))) >>= tree_message false) ≡ Ok (summary (totals_of_counts counts)))
    × (tree.depth (outline (message_object (codes "info") says moment (typed (codes "changes") (changes_object operation counts imported) (codes "change_summary")))) ≤ 3)
unfolding message_object tree_message typed_message summary_of changes_object
summary_is_read_back Apply counts imported says moment small few =
    (rw (number_of-decimal counts.added small.added, number_of-decimal counts.changed small.changed, number_of-decimal imported few, number_of-decimal counts.removed small.removed) refl, omega arith)
summary_is_read_back Destroy counts imported says moment small few =
    (rw (number_of-decimal counts.added small.added, number_of-decimal counts.changed small.changed, number_of-decimal imported few, number_of-decimal counts.removed small.removed) refl, omega arith)

pub summary_line_read_back : (start latest : ℕ) (operation : Operation) (counts : Counts) (imported : ℕ) → AreSmall counts → imported < 2 ^ 64 → IsReadBackAs (summary_text start latest operation counts imported) (summary (totals_of_counts counts))
summary_line_read_back start latest operation counts imported small few =
    let words = summary_words operation counts imported in
    let is_read_back = summary_is_read_back operation counts imported words (precise_timestamp_text (start + latest)) small few in
    line_reads (object_at (precise_timestamp_text (start + latest)) (summary_message operation counts imported)) (summary (totals_of_counts counts))
    (message_sound (codes "info") words (precise_timestamp_text (start + latest)) (codes "changes") (codes "change_summary") (changes_object operation counts imported) (IsUtf8-are_ascii (codes "info") refl) (words_utf8 operation counts imported small few)
    (fine_utf8 (start + latest)) (IsUtf8-are_ascii (codes "changes") refl) (changes_sound operation counts imported small few) (IsUtf8-are_ascii (codes "change_summary") refl))
    is_read_back.1 is_read_back.0
