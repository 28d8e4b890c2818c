-- What the lines of the version and of the summary state.
use Rattle.std.proofs.Common.{◌≡◌, ℕ, ◌+◌, ◌<◌, ◌≤◌, ◌^◌, ◌==◌, List, [], ◌++◌, codes, cond, decimal, IsUtf8, Bool, true, false, Option, Some, refl, ap, ◌∙◌, arith}
use Rattle.std.proofs.lemmas.Str.{IsUtf8-nil}
use Rattle.json.specs.Tree as tree
use Rattle.json.proofs.Printed.Utf8.{IsUtf8-are_ascii}
use Rattle.serde_json.specs.Data.{Data, Members, member, no_members, number, object, string, unsigned}
use Rattle.serde_json.specs.Read.{of_json}
use Rattle.serde_json.specs.Written.{compact_text, outline}
use Rattle.serde_json.proofs.Numbers.{number_of-decimal}
use Rattle.apply_json.specs.Tree.{◌>>=◌}
use Rattle.apply_model.specs.Plan.SavedPlan.{SavedPlan}
use Rattle.apply_events.specs.declared.counts.Counts.{Counts}
use Rattle.apply_text.specs.declared.operation.Operation.{Operation}
use Rattle.apply_text.specs.declared.operation.Operation.TheVariants.{Apply, Destroy}
use Rattle.apply_text.specs.Lines as plain
use Rattle.apply_text.specs.Lines.{message_object, typed}
use Rattle.apply_text.specs.Message as plain_message
use Rattle.apply_text.specs.Objects as plain_objects
use Rattle.apply_text.specs.Objects.{operation_word}
use Rattle.apply_text.specs.UtcTimestamp.{timestamp_text}
use Rattle.apply_text_terraform.specs.Lines.{summary_text, version_text}
use Rattle.apply_text_terraform.specs.Message.{imported_text, summary_message, summary_words}
use Rattle.apply_text_terraform.specs.Objects.{changes_object}
use Rattle.apply_text_terraform.specs.UtcTimestamp.{precise_timestamp_text}
use Rattle.stream_record_lines.specs.declared.event.Event.TheVariants as event
use Rattle.stream_record_lines.specs.Messages.{message_of}
use Rattle.laws_check.specs.Sound.{IsSound}
use Rattle.laws_check.specs.Texts.{AreSmall}
use Rattle.laws_check.proofs.EscapedTrees.{line_read}
use Rattle.laws_check.proofs.FormFeeds.{plain_feeds}
use Rattle.laws_check.proofs.FormPlanned.{message_sound}
use Rattle.laws_check.proofs.ObjectsBack.{in_place_back}
use Rattle.laws_check.proofs.SoundObjects.{totals_utf8}
use Rattle.laws_check.proofs.SoundParts.{operation_utf8, three, two}
use Rattle.laws_check.proofs.SoundParts as parts
use Rattle.laws_check.proofs.Sounds.{fine_utf8, moment_utf8, number_utf8}
use Rattle.laws_lines.specs.Stated.{summary_of}
use Rattle.laws_lines.proofs.HookMessages.{at, object_at}
use Rattle.laws_lines.proofs.Says.{Says, says_of}

-- ---- the version

abbrev version_members : (version ui : List ℕ) → Members
version_members version ui =
    member (codes "terraform") (string version)
    (member (codes "type") (string (codes "version"))
    (member (codes "ui") (string ui) no_members))

abbrev version_object : (version ui moment : List ℕ) → Data
version_object version ui moment = message_object (codes "info") (codes "Terraform " ++ version) moment (version_members version ui)

version_sound : (version ui moment : List ℕ) → IsUtf8 version → IsUtf8 ui → IsUtf8 moment → IsSound (version_object version ui moment)
unfolding message_object
version_sound version ui moment text of_ui when = (
  IsUtf8-are_ascii (codes "@level") refl,
  IsUtf8-are_ascii (codes "info") refl,
  (
    IsUtf8-are_ascii (codes "@message") refl,
    two (codes "Terraform ") version (IsUtf8-are_ascii (codes "Terraform ") refl) text,
    (
      IsUtf8-are_ascii (codes "@module") refl,
      IsUtf8-are_ascii (codes "terraform.ui") refl,
      (
        IsUtf8-are_ascii (codes "@timestamp") refl,
        when,
        (
          IsUtf8-are_ascii (codes "terraform") refl,
          text,
          (IsUtf8-are_ascii (codes "type") refl, IsUtf8-are_ascii (codes "version") refl, (IsUtf8-are_ascii (codes "ui") refl, of_ui, tt)),
        ),
      ),
    ),
  ),
)

version_read : (version ui moment : List ℕ) → (of_json (outline (version_object version ui moment)) ≡ Some (version_object version ui moment)) × (tree.depth (outline (version_object version ui moment)) ≤ 3)
unfolding message_object
version_read version ui moment = (refl, omega arith)

version_says : (raw version ui moment : List ℕ) → message_of raw (version_object version ui moment) ≡ Some (at moment (event.Version (Some ui)))
unfolding message_object
version_says raw version ui moment = refl

pub plain_version : (plan : SavedPlan) (start : ℕ) → IsUtf8 plan.version → Says (plain.version_text plan start) (timestamp_text start) (event.Version (Some (codes "1.0")))
plain_version plan start text =
    let moment = timestamp_text start in
    let d = version_object plan.version (codes "1.0") moment in
    record {
      text = compact_text d;
      line_is = refl;
      no_feed = plain_feeds d;
      says = ap (λ (o : Option Data). o >>= message_of (compact_text d))
          (in_place_back d (version_sound plan.version (codes "1.0") moment text (IsUtf8-are_ascii (codes "1.0") refl) (moment_utf8 start)) (version_read plan.version (codes "1.0") moment))
          ∙ version_says (compact_text d) plan.version (codes "1.0") moment;
    }

pub form_version : (plan : SavedPlan) (start : ℕ) → IsUtf8 plan.version → Says (version_text plan start) (precise_timestamp_text start) (event.Version (Some (codes "1.2")))
form_version plan start text =
    let moment = precise_timestamp_text start in
    let d = version_object plan.version (codes "1.2") moment in
    says_of (version_text plan start) moment d (event.Version (Some (codes "1.2")))
    (line_read d d (version_sound plan.version (codes "1.2") moment text (IsUtf8-are_ascii (codes "1.2") refl) (fine_utf8 start)) (version_read plan.version (codes "1.2") moment))
    (λ raw. version_says raw plan.version (codes "1.2") moment)

-- ---- the summary in the default form

plain_read : (operation : Operation) (counts : Counts) (moment : List ℕ) → AreSmall counts
    → (of_json (outline (object_at moment (plain_message.summary_message operation counts))) ≡ Some (object_at moment (plain_message.summary_message operation counts)))
    × (tree.depth (outline (object_at moment (plain_message.summary_message operation counts))) ≤ 3)
unfolding message_object plain_objects.changes_object
plain_read operation counts moment small =
    (rw (number_of-decimal counts.added small.added, number_of-decimal counts.changed small.changed, number_of-decimal counts.removed small.removed) refl, omega arith)

plain_summary_says : (raw : List ℕ) (operation : Operation) (counts : Counts) (moment : List ℕ)
    → message_of raw (object_at moment (plain_message.summary_message operation counts)) ≡ Some (at moment (event.Summary (summary_of operation)))
unfolding message_object plain_objects.changes_object
plain_summary_says raw Apply counts moment = refl
plain_summary_says raw Destroy counts moment = refl

pub plain_summary : (start clock : ℕ) (operation : Operation) (counts : Counts) → AreSmall counts → Says (plain.summary_text start clock operation counts) (timestamp_text (start + clock)) (event.Summary (summary_of operation))
plain_summary start clock operation counts small =
    let moment = timestamp_text (start + clock) in
    let d = object_at moment (plain_message.summary_message operation counts) in
    record {
      text = compact_text d;
      line_is = refl;
      no_feed = plain_feeds d;
      says = ap (λ (o : Option Data). o >>= message_of (compact_text d))
          (in_place_back d
          (message_sound (codes "info") (plain_message.totals_text operation counts) moment (codes "changes") (codes "change_summary") (plain_objects.changes_object operation counts) (IsUtf8-are_ascii (codes "info") refl) (totals_utf8 operation counts small)
          (moment_utf8 (start + clock)) (IsUtf8-are_ascii (codes "changes") refl) (parts.changes_sound operation counts small) (IsUtf8-are_ascii (codes "change_summary") refl))
          (plain_read operation counts moment small))
          ∙ plain_summary_says (compact_text d) operation counts moment;
    }

-- ---- the summary in Terraform's form

changes_sound : (operation : Operation) (counts : Counts) (imported : ℕ) → AreSmall counts → imported < 2 ^ 64 → IsSound (changes_object operation counts imported)
unfolding changes_object
changes_sound operation counts imported small few = (
  IsUtf8-are_ascii (codes "add") refl,
  small.added,
  (
    IsUtf8-are_ascii (codes "change") refl,
    small.changed,
    (
      IsUtf8-are_ascii (codes "import") refl,
      few,
      (IsUtf8-are_ascii (codes "remove") refl, small.removed, (IsUtf8-are_ascii (codes "operation") refl, operation_utf8 operation, tt)),
    ),
  ),
)

imported_utf8 : (imported : ℕ) → imported < 2 ^ 64 → IsUtf8 (imported_text imported)
imported_utf8 imported few = either (imported == 0)
  where
    either : (b : Bool) → IsUtf8 (cond b [] (decimal imported ++ codes " imported, "))
    either true = IsUtf8-nil
    either false = two (decimal imported) (codes " imported, ") (number_utf8 imported few) (IsUtf8-are_ascii (codes " imported, ") refl)

words_utf8 : (operation : Operation) (counts : Counts) (imported : ℕ) → AreSmall counts → imported < 2 ^ 64 → IsUtf8 (summary_words operation counts imported)
words_utf8 Destroy counts imported small few = totals_utf8 Destroy counts small
words_utf8 Apply counts imported small few =
    three (codes "Apply complete! Resources: " ++ imported_text imported ++ decimal counts.added ++ codes " added, " ++ decimal counts.changed ++ codes " changed, ") (decimal counts.removed) (codes " destroyed.")
    (three (codes "Apply complete! Resources: " ++ imported_text imported ++ decimal counts.added ++ codes " added, ") (decimal counts.changed) (codes " changed, ")
    (three (codes "Apply complete! Resources: " ++ imported_text imported) (decimal counts.added) (codes " added, ")
    (two (codes "Apply complete! Resources: ") (imported_text imported) (IsUtf8-are_ascii (codes "Apply complete! Resources: ") refl) (imported_utf8 imported few))
    (number_utf8 counts.added small.added) (IsUtf8-are_ascii (codes " added, ") refl))
    (number_utf8 counts.changed small.changed) (IsUtf8-are_ascii (codes " changed, ") refl))
    (number_utf8 counts.removed small.removed) (IsUtf8-are_ascii (codes " destroyed.") refl)

-- the counts as they are read, by the names of the members
abbrev changes_tree : Operation → Counts → (imported : ℕ) → Data
changes_tree operation counts imported =
    object
    (member (codes "add") (number (unsigned counts.added))
    (member (codes "change") (number (unsigned counts.changed))
    (member (codes "import") (number (unsigned imported))
    (member (codes "operation") (string (operation_word operation))
    (member (codes "remove") (number (unsigned counts.removed)) no_members)))))

abbrev form_tree : Operation → Counts → (imported : ℕ) → (says moment : List ℕ) → Data
form_tree operation counts imported says moment = message_object (codes "info") says moment (typed (codes "changes") (changes_tree operation counts imported) (codes "change_summary"))

form_read : (operation : Operation) (counts : Counts) (imported : ℕ) (says moment : List ℕ) → AreSmall counts → imported < 2 ^ 64
    → (of_json (outline (message_object (codes "info") says moment (typed (codes "changes") (changes_object operation counts imported) (codes "change_summary")))) ≡ Some (form_tree operation counts imported says moment))
    × (tree.depth (outline (message_object (codes "info") says moment (typed (codes "changes") (changes_object operation counts imported) (codes "change_summary")))) ≤ 3)
unfolding message_object changes_object
form_read operation counts imported says moment small few =
    (rw (number_of-decimal counts.added small.added, number_of-decimal counts.changed small.changed, number_of-decimal imported few, number_of-decimal counts.removed small.removed) refl, omega arith)

form_summary_says : (raw : List ℕ) (operation : Operation) (counts : Counts) (imported : ℕ) (says moment : List ℕ) → message_of raw (form_tree operation counts imported says moment) ≡ Some (at moment (event.Summary (summary_of operation)))
unfolding message_object
form_summary_says raw Apply counts imported says moment = refl
form_summary_says raw Destroy counts imported says moment = refl

pub form_summary : (start clock : ℕ) (operation : Operation) (counts : Counts) (imported : ℕ) → AreSmall counts → imported < 2 ^ 64
    → Says (summary_text start clock operation counts imported) (precise_timestamp_text (start + clock)) (event.Summary (summary_of operation))
form_summary start clock operation counts imported small few =
    let moment = precise_timestamp_text (start + clock) in
    let words = summary_words operation counts imported in
    says_of (summary_text start clock operation counts imported) moment (form_tree operation counts imported words moment) (event.Summary (summary_of operation))
    (line_read (object_at moment (summary_message operation counts imported)) (form_tree operation counts imported words moment)
    (message_sound (codes "info") words moment (codes "changes") (codes "change_summary") (changes_object operation counts imported) (IsUtf8-are_ascii (codes "info") refl) (words_utf8 operation counts imported small few)
    (fine_utf8 (start + clock)) (IsUtf8-are_ascii (codes "changes") refl) (changes_sound operation counts imported small few) (IsUtf8-are_ascii (codes "change_summary") refl))
    (form_read operation counts imported words moment small few))
    (λ raw. form_summary_says raw operation counts imported words moment)
