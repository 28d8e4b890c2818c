-- Which lines of a stream in Terraform's form have the type `planned_change`, by how they end.
use Rattle.std.proofs.Common.{◌≡◌, inl, inr, ℕ, ◌+◌, List, [], ◌∷◌, ◌++◌, append-nil, append_assoc, codes, cond, decimal, length, map, nat_eq, Bool, true, false, Option, Some, None, refl, sym, ap, ap₂, ◌∙◌, subst, slice_get, arith}
use Rattle.std.specs.Prelude.{flat_map, reverse}
use Rattle.std.specs.List.{AllByRecursion, concat, enumerate_from, starts_with}
use Rattle.std.specs.Option.{option_map_or}
use Rattle.std.proofs.lemmas.List.{reverse-append}
use Rattle.std.proofs.lemmas.List.Folds.{concat-append}
use Rattle.json.specs.Print.{escape_byte, quoted}
use Rattle.serde_json.specs.Data.{Data, Members, no_members, member, string}
use Rattle.serde_json.specs.Written.{comma_if, compact_text, members_text}
use Rattle.apply_model.specs.declared.details.change_details.ChangeDetails.{ChangeDetails}
use Rattle.apply_model.specs.declared.details.note.Note.{Note}
use Rattle.apply_model.specs.declared.details.output.Output.{Output}
use Rattle.apply_model.specs.declared.plan.step_kind.StepKind.{StepKind}
use Rattle.apply_model.specs.declared.script.outcome.Outcome.{Outcome}
use Rattle.apply_model.specs.Plan.ResourceChange.{ResourceChange}
use Rattle.apply_model.specs.Plan.SavedPlan.{SavedPlan}
use Rattle.apply_model.specs.Script.OutcomeMap.{OutcomeMap, outcome_of}
use Rattle.apply_events.specs.declared.counts.Counts.{Counts}
use Rattle.apply_events.specs.declared.event.Event.{Event}
use Rattle.apply_events.specs.declared.what.What.{What}
use Rattle.apply_events.specs.declared.what.What.TheVariants.{Start, Progress, Complete, Errored, ErrorNote, WarnNote, Halted, ProvisionStart, ProvisionOutput, ProvisionComplete, ProvisionErrored}
use Rattle.apply_events.specs.Totals.{totals_of}
use Rattle.apply_text.specs.declared.operation.Operation.{Operation}
use Rattle.apply_text.specs.declared.operation.Operation.TheVariants.{Apply, Destroy}
use Rattle.apply_text.specs.Latest.{latest_of}
use Rattle.apply_text.specs.Lines.{message_object, typed}
use Rattle.apply_text.specs.Message.{Message}
use Rattle.apply_text.specs.Order.{as_written}
use Rattle.apply_text_terraform.specs.Escapes.{escaped}
use Rattle.apply_text_terraform.specs.Verbatim.{verbatim_members, diagnostic_end, diagnostic_front, diagnostic_with}
use Rattle.apply_text_terraform.specs.Lines.{event_line, line_of_text, message_line, note_text, summary_text, line_with_verbatim, version_members, version_text}
use Rattle.apply_text_terraform.specs.Message.{event_message, is_silent, verbatim_of, note_message, summary_message}
use Rattle.apply_text_terraform.specs.UtcTimestamp.{precise_timestamp_text}
use Rattle.apply_text_terraform.specs.Outputs.{outputs_from, outputs_message}
use Rattle.apply_text_terraform.proofs.Cuts.{Begins, cut}
use Rattle.apply_writer.specs.Stream.Terraform.{StreamExtras, imported_in, outputs_of_apply, planned_at, planned_id_of, tail_text, contains_error, terraform_form}
use Rattle.laws_run.specs.PlannedChanges.{IsPlannedChangeLine, planned_in}
use Rattle.laws_run.specs.PlannedWords.{IsOtherLine, OnlyPlannedHaveType, is_planned_line, lines_after, lines_of_events, planned_end}
use Rattle.laws_run.proofs.PlannedLines.{each_told, pieces}

-- ---- how a text ends

abbrev EndsWith : (tail text : List ℕ) → Type 0
EndsWith tail text = (front : List ℕ) × (text ≡ front ++ tail)

after : (tail text before : List ℕ) → EndsWith tail text → EndsWith tail (before ++ text)
after tail text before ends = (before ++ ends.0, ap (λ (t : List ℕ). before ++ t) ends.1 ∙ sym (append_assoc before ends.0 tail))

-- the members of an object after others
member_before : (tail key : List ℕ) (d : Data) (later : Bool) (ms : Members) → EndsWith tail (members_text true ms) → EndsWith tail (members_text later (member key d ms))
member_before tail key d later ms ends =
    after tail (quoted key ++ 58 ∷ (compact_text d ++ members_text true ms)) (comma_if later)
    (after tail (58 ∷ (compact_text d ++ members_text true ms)) (quoted key)
    (after tail (compact_text d ++ members_text true ms) (58 ∷ [])
    (after tail (members_text true ms) (compact_text d) ends)))

-- the four members that every message has, before others
message_ends : (tail level text moment : List ℕ) (ms : Members) → EndsWith tail (members_text true ms) → EndsWith tail (compact_text (message_object level text moment ms))
unfolding message_object
message_ends tail level text moment ms ends =
    after tail _ (123 ∷ [])
    (member_before tail (codes "@level") (string level) false (member (codes "@message") (string text) (member (codes "@module") (string (codes "terraform.ui")) (member (codes "@timestamp") (string moment) ms)))
    (member_before tail (codes "@message") (string text) true (member (codes "@module") (string (codes "terraform.ui")) (member (codes "@timestamp") (string moment) ms))
    (member_before tail (codes "@module") (string (codes "terraform.ui")) true (member (codes "@timestamp") (string moment) ms)
    (member_before tail (codes "@timestamp") (string moment) true ms ends))))

-- how a message with that type ends
abbrev type_end : List ℕ → List ℕ
type_end type_name = members_text true (member (codes "type") (string type_name) no_members)

-- ---- the type of a line, by its end

abbrev IsVerdict : (tail : List ℕ) → Bool → Type 0
IsVerdict tail verdict = (front : List ℕ) → starts_with nat_eq (reverse (escaped tail ++ 10 ∷ []) ++ front) (reverse planned_end) ≡ verdict

by_end : (json tail : List ℕ) (verdict : Bool) → EndsWith tail json → Begins tail → IsVerdict tail verdict → is_planned_line (line_of_text json) ≡ verdict
by_end json tail verdict ends begins is =
    ap is_planned_line
    (ap (λ (t : List ℕ). escaped t ++ 10 ∷ []) ends.1 ∙ ap (λ (t : List ℕ). t ++ 10 ∷ []) (cut ends.0 tail begins) ∙ append_assoc (escaped ends.0) (escaped tail) (10 ∷ []))
    ∙ ap (λ (t : List ℕ). starts_with nat_eq t (reverse planned_end)) (reverse-append (escaped ends.0) (escaped tail ++ 10 ∷ []))
    ∙ is (reverse (escaped ends.0))

of_message : (seconds : ℕ) (message : Message) (verdict : Bool) → IsVerdict (type_end message.type_name) verdict → is_planned_line (message_line seconds message) ≡ verdict
of_message seconds message verdict is =
    by_end _ (type_end message.type_name) verdict
    (message_ends (type_end message.type_name) message.level message.text (precise_timestamp_text seconds) (typed message.name message.body message.type_name)
    (member_before (type_end message.type_name) message.name message.body true (member (codes "type") (string message.type_name) no_members) ([], refl)))
    (inl (omega arith)) is

-- ---- the line of a message, of a diagnostic and of an event

json_of_message : (seconds : ℕ) → Message → List ℕ
json_of_message seconds message = compact_text (message_object message.level message.text (precise_timestamp_text seconds) (typed message.name message.body message.type_name))

other_type : (seconds : ℕ) (message : Message) (preserved : List ℕ) → IsVerdict (type_end message.type_name) false → IsOtherLine (line_with_verbatim seconds message preserved)
unfolding json_of_message escape_byte
other_type seconds message [] is = inr (json_of_message seconds message, refl, of_message seconds message false is)
other_type seconds message (byte ∷ bytes) is =
    let front = diagnostic_front (precise_timestamp_text seconds) message in
    inr (
      diagnostic_with (precise_timestamp_text seconds) message (byte ∷ bytes),
      refl,
      by_end (diagnostic_with (precise_timestamp_text seconds) message (byte ∷ bytes)) diagnostic_end false (after diagnostic_end _ front (byte ∷ bytes, refl)) (inl (omega arith)) (λ front. refl),
    )

of_what : (seconds : ℕ) (change : ResourceChange) (step : StepKind) (outcome : Outcome) (planned : Option (List ℕ)) (what : What) → IsOtherLine (event_line seconds change step outcome planned what)
unfolding escape_byte
of_what seconds change step outcome planned Start = other_type seconds (event_message change step outcome planned Start) [] (λ front. refl)
of_what seconds change step outcome planned (Progress n) = other_type seconds (event_message change step outcome planned (Progress n)) [] (λ front. refl)
of_what seconds change step outcome planned (Complete n) = other_type seconds (event_message change step outcome planned (Complete n)) [] (λ front. refl)
of_what seconds change step outcome planned (Errored n) = other_type seconds (event_message change step outcome planned (Errored n)) [] (λ front. refl)
of_what seconds change step outcome planned ErrorNote = other_type seconds (event_message change step outcome planned ErrorNote) (verbatim_of outcome ErrorNote) (λ front. refl)
of_what seconds change step outcome planned WarnNote = other_type seconds (event_message change step outcome planned WarnNote) (verbatim_of outcome WarnNote) (λ front. refl)
of_what seconds change step outcome planned (Halted phase hook) = other_type seconds (event_message change step outcome planned (Halted phase hook)) [] (λ front. refl)
of_what seconds change step outcome planned (ProvisionStart i) = other_type seconds (event_message change step outcome planned (ProvisionStart i)) [] (λ front. refl)
of_what seconds change step outcome planned (ProvisionOutput i line) = other_type seconds (event_message change step outcome planned (ProvisionOutput i line)) [] (λ front. refl)
of_what seconds change step outcome planned (ProvisionComplete i) = other_type seconds (event_message change step outcome planned (ProvisionComplete i)) [] (λ front. refl)
of_what seconds change step outcome planned (ProvisionErrored i) = other_type seconds (event_message change step outcome planned (ProvisionErrored i)) [] (λ front. refl)

module _ (seconds : ℕ) (outcome : Outcome) (planned : Option (List ℕ)) (what : What) where
  abbrev line : ResourceChange → StepKind → List ℕ
  line change step = cond (is_silent step what) [] (event_line seconds change step outcome planned what)

  of_step : (change : ResourceChange) (step : Option StepKind) → IsOtherLine (option_map_or (λ step. line change step) step [])
  of_step change None = inl refl
  of_step change (Some step) = of_test (is_silent step what)
    where
      of_test : (silent : Bool) → IsOtherLine (cond silent [] (event_line seconds change step outcome planned what))
      of_test true = inl refl
      of_test false = of_what seconds change step outcome planned what

  of_change : (k : ℕ) (change : Option ResourceChange) → IsOtherLine (option_map_or (λ change. option_map_or (λ step. line change step) (slice_get change.steps k) []) change [])
  of_change k None = inl refl
  of_change k (Some change) = of_step change (slice_get change.steps k)

of_note : (start latest : ℕ) (note : Note) → IsOtherLine (note_text start latest note)
unfolding escape_byte
of_note start latest note = other_type (start + latest) (note_message note) (verbatim_members note.diag) (λ front. refl)

of_summary : (start latest : ℕ) (operation : Operation) (counts : Counts) (imported : ℕ) → IsOtherLine (summary_text start latest operation counts imported)
unfolding escape_byte
of_summary start latest operation counts imported = other_type (start + latest) (summary_message operation counts imported) [] (λ front. refl)

of_outputs : (operation : Operation) (start latest : ℕ) (outputs : List Output) → IsOtherLine (outputs_of_apply operation start latest outputs)
of_outputs Destroy start latest outputs = inl refl
of_outputs Apply start latest outputs =
    let moment = precise_timestamp_text (start + latest) in
    let tail = codes "},\"type\":\"outputs\"}" in
    inr (
      outputs_message moment outputs,
      refl,
      by_end (outputs_message moment outputs) tail false
          (after tail _ (codes "{\"@level\":\"info\",\"@message\":\"Outputs: ")
          (after tail _ (decimal (length outputs))
          (after tail _ (codes "\",\"@module\":\"terraform.ui\",\"@timestamp\":\"") (after tail _ moment (after tail _ (codes "\",\"outputs\":{") (outputs_from [] outputs, refl))))))
          (inl (omega arith)) (λ front. refl),
    )

-- ---- all lines

abbrev AreOther : List (List ℕ) → Type 0
AreOther texts = AllByRecursion IsOtherLine texts

all_both : (xs ys : List (List ℕ)) → AreOther xs → AreOther ys → AreOther (xs ++ ys)
all_both [] ys all others = others
all_both (x ∷ xs) ys all others = (all.0, all_both xs ys all.1 others)

all_mapped : {X : Type 0} (f : X → List ℕ) → ((x : X) → IsOtherLine (f x)) → (xs : List X) → AreOther (map f xs)
all_mapped f is [] = tt
all_mapped f is (x ∷ xs) = (is x, all_mapped f is xs)

concat_map : {X : Type 0} (f : X → List ℕ) (xs : List X) → concat (map f xs) ≡ flat_map f xs
concat_map f [] = refl
concat_map f (x ∷ xs) = ap (λ (t : List ℕ). f x ++ t) (concat_map f xs)

version_is_other : (plan : SavedPlan) (start : ℕ) → is_planned_line (version_text plan start) ≡ false
unfolding escape_byte
version_is_other plan start =
    let tail = members_text true (member (codes "ui") (string (codes "1.2")) no_members) in
    by_end _ tail false
    (message_ends tail (codes "info") (codes "Terraform " ++ plan.version) (precise_timestamp_text start) (version_members plan.version)
    (member_before tail (codes "terraform") (string plan.version) true (member (codes "type") (string (codes "version")) (member (codes "ui") (string (codes "1.2")) no_members))
    (member_before tail (codes "type") (string (codes "version")) true (member (codes "ui") (string (codes "1.2")) no_members) ([], refl))))
    (inl (omega arith)) (λ front. refl)

planned_is_planned : (start : ℕ) (change : ResourceChange) (line : List ℕ) → IsPlannedChangeLine start change line → is_planned_line line ≡ true
unfolding escape_byte
planned_is_planned start change line written =
    ap is_planned_line written.line_is
    ∙ of_message start written.message true (subst (λ (t : List ℕ). IsVerdict (type_end t) true) (sym written.type_is) (λ front. refl))

each_planned : (start : ℕ) (details : List ChangeDetails) (ps : List (ℕ × ResourceChange)) → AllByRecursion (λ (p : ℕ × ResourceChange). IsPlannedChangeLine start p.1 (planned_at start details p)) ps
    → AllByRecursion (λ (p : ℕ × ResourceChange). is_planned_line (planned_at start details p) ≡ true) ps
each_planned start details [] all = tt
each_planned start details (p ∷ ps) all = (planned_is_planned start p.1 (planned_at start details p) all.0, each_planned start details ps all.1)

module _ (plan : SavedPlan) (script : OutcomeMap) (extras : StreamExtras) (start : ℕ) (operation : Operation) (taken : List Event) where
  latest : ℕ
  latest = latest_of (as_written taken) (length (as_written taken))

  end_lines : (is_error : Bool) → List (List ℕ)
  end_lines is_error =
      cond is_error []
      (summary_text start latest operation (totals_of plan taken) (imported_in extras.details) ∷ outputs_of_apply operation start latest extras.outputs ∷ [])

  end_is : (is_error : Bool) → concat (end_lines is_error)
      ≡ cond is_error [] (summary_text start latest operation (totals_of plan taken) (imported_in extras.details) ++ outputs_of_apply operation start latest extras.outputs)
  unfolding end_lines latest
  end_is true = refl
  end_is false = ap (λ (t : List ℕ). summary_text start latest operation (totals_of plan taken) (imported_in extras.details) ++ t) (append-nil (outputs_of_apply operation start latest extras.outputs))

  end_other : (is_error : Bool) → AreOther (end_lines is_error)
  unfolding end_lines
  end_other true = tt
  end_other false = (of_summary start latest operation (totals_of plan taken) (imported_in extras.details), (of_outputs operation start latest extras.outputs, tt))

  abbrev after_head : List ℕ
  after_head = concat (lines_after plan script extras start operation taken)

  after_is : concat (lines_after plan script extras start operation taken)
      ≡ flat_map (λ p. (terraform_form plan script extras start operation).line (latest_of (as_written taken) (p.0 + 1)) p.1) (enumerate_from 0 (as_written taken))
      ++ tail_text extras start operation (latest_of (as_written taken) (length (as_written taken))) (totals_of plan taken)
  unfolding end_lines latest
  after_is =
      concat-append (lines_of_events (terraform_form plan script extras start operation) (as_written taken)) (map (note_text start latest) extras.notes ++ end_lines (contains_error extras.notes (totals_of plan taken)))
      ∙ ap₂ (λ (a b : List ℕ). a ++ b)
      (concat_map (λ p. (terraform_form plan script extras start operation).line (latest_of (as_written taken) (p.0 + 1)) p.1) (enumerate_from 0 (as_written taken)))
      (concat-append (map (note_text start latest) extras.notes) (end_lines (contains_error extras.notes (totals_of plan taken)))
      ∙ ap₂ (λ (a b : List ℕ). a ++ b) (concat_map (note_text start latest) extras.notes) (end_is (contains_error extras.notes (totals_of plan taken))))

  pub only_planned : OnlyPlannedHaveType plan script extras start operation taken
  unfolding end_lines latest
  only_planned =
      let form = terraform_form plan script extras start operation in
      let written = as_written taken in
      let events = flat_map (λ (p : ℕ × Event). form.line (latest_of written (p.0 + 1)) p.1) (enumerate_from 0 written) in
      let tail = tail_text extras start operation (latest_of written (length written)) (totals_of plan taken) in
      let planned = flat_map (planned_at start extras.details) (planned_in extras.details plan) in
      record {
        stream = ap (λ (head : List ℕ). (head ++ events) ++ tail) (pieces plan extras.details start)
            ∙ append_assoc (version_text plan start ++ planned) events tail
            ∙ append_assoc (version_text plan start) planned (events ++ tail)
            ∙ ap (λ (t : List ℕ). version_text plan start ++ (planned ++ t)) (sym after_is);
        version = version_is_other plan start;
        planned = each_planned start extras.details (planned_in extras.details plan) (each_told plan extras.details start);
        others = all_both (lines_of_events form written) (map (note_text start latest) extras.notes ++ end_lines (contains_error extras.notes (totals_of plan taken)))
            (all_mapped (λ (p : ℕ × Event). form.line (latest_of written (p.0 + 1)) p.1)
            (λ p. of_change (start + latest_of written (p.0 + 1)) (outcome_of script p.1.change p.1.step) (planned_id_of extras.details p.1.change) p.1.what p.1.step (slice_get plan.changes p.1.change))
            (enumerate_from 0 written))
            (all_both (map (note_text start latest) extras.notes) (end_lines (contains_error extras.notes (totals_of plan taken)))
            (all_mapped (note_text start latest) (of_note start latest) extras.notes)
            (end_other (contains_error extras.notes (totals_of plan taken))));
      }
