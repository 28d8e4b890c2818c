-- The texts that a stream of a command contains can be read back.
use Rattle.std.proofs.Common.{◌≡◌, ℕ, suc, ◌<◌, ◌≤◌, ◌^◌, List, [], ◌∷◌, ◌++◌, codes, length, map, flat_map, IsUtf8, Bool, true, false, cond, Option, Some, None, refl, is_some, arith, slice_get}
use Rattle.std.specs.Prelude.{IfSome, ◌&&◌, not}
use Rattle.std.specs.List.{AllByRecursion, cons_option, enumerate_from, filter_map, list_any}
use Rattle.std.specs.Option.{option_map_or}
use Rattle.std.proofs.lemmas.List.FromFn.{length-enumerate_from}
use Rattle.std.proofs.lemmas.List.Sums.{count_by-le-length}
use Rattle.std.proofs.lemmas.List.{length-append}
use Rattle.std.proofs.lemmas.Str.{IsUtf8-append, IsUtf8-nil}
use Rattle.json.proofs.Printed.Utf8.{IsUtf8-are_ascii}
use Rattle.apply_model.specs.declared.details.change_details.ChangeDetails.{ChangeDetails}
use Rattle.apply_model.specs.declared.details.note.Note.{Note}
use Rattle.apply_model.specs.declared.details.note.Severity.{Severity}
use Rattle.apply_model.specs.declared.plan.step_kind.StepKind.TheVariants as kind
use Rattle.apply_model.specs.Plan.ResourceChange.{ResourceChange}
use Rattle.apply_model.specs.Script.OutcomeMap.{outcome_of}
use Rattle.stream_check.specs.Message.{intent_named, planned}
use Rattle.stream_check.specs.Tally.{plans_create, plans_delete, plans_update}
use Rattle.apply_events.specs.declared.event.Event.{Event}
use Rattle.apply_planning.specs.declared.told.Told.{Told}
use Rattle.apply_planning_failures.specs.Planning.{failure_of, is_note, planning_notes}
use Rattle.apply_planning_failures.specs.PlansPart.{details_at, is_kept}
use Rattle.apply_plan_terraform.specs.declared.plan_notes.PlanNote.{PlanNote}
use Rattle.apply_plan_terraform.specs.declared.plan_notes.PlanNote.TheVariants.{Partial}
use Rattle.apply_plan_terraform.specs.Notes.{note_of_plan}
use Rattle.apply_run.specs.Bytes.{Inputs, IsRead}
use Rattle.apply_run.specs.Read.{IsStated, is_unfinished}
use Rattle.apply_text_planning.specs.Notes.{forgotten_at, forgotten_in, forgotten_line, forgotten_lines, forgotten_note_of, note_of_lines, targeting_note, unfinished_note}
use Rattle.apply_text_planning.specs.Totals as plan_sums
use Rattle.apply_text_planning.specs.Words.{command_word}
use Rattle.apply_text_terraform.specs.declared.command.Command.{Command}
use Rattle.apply_command.specs.declared.head_line.HeadLine.{HeadLine}
use Rattle.apply_command.specs.declared.head_line.HeadLine.TheVariants as line
use Rattle.apply_command.specs.Head.{head_lines, plan_lines, sums}
use Rattle.apply_command.specs.Notes.{command_notes, is_partial, note_if, option_list, plan_notes}
use Rattle.apply_command.specs.Reading.{CommandInputs, applied_plan, applied_script, extras, failed, head_inputs, is_applied, kept_changes, planning}
use Rattle.apply_prior.specs.declared.planned_output.PlannedOutput.{PlannedOutput}
use Rattle.apply_writer.specs.Stream.Terraform as form
use Rattle.apply_writer.specs.Stream.Terraform.{StreamExtras, imported_in}
use Rattle.laws_run.specs.Plans.{HasRelativeAddress}
use Rattle.laws_check.specs.FormTexts.{HasFormTexts, HasVerbatimDiagnostics}
use Rattle.laws_check.specs.Plans.{AreStepsOfOne, ChangesAreWhole}
use Rattle.laws_check.specs.ReadBackInForm.{HasDetailTexts, HasNoteTexts}
use Rattle.laws_check.specs.Texts.{HasChangeTexts, HasTexts, IsSmall}
use Rattle.laws_check.proofs.FormRead.{plan_details, script_extras}
use Rattle.laws_check.proofs.FormStream.{by_number}
use Rattle.laws_check.proofs.Given.{held_at}
use Rattle.laws_check.proofs.PlanTexts.{IsReadablePlan}
use Rattle.laws_check.proofs.ReadNotes.{plan_note}
use Rattle.laws_check.proofs.ReadOutputs.{outputs_read_back}
use Rattle.laws_check.proofs.ReadTexts.{read_texts, read_verbatim}
use Rattle.laws_check.proofs.ScriptTexts.{nothing_readable}
use Rattle.laws_check.proofs.SoundObjects.{all_both}
use Rattle.laws_check.proofs.WhatWasRead.{the_plan, the_script}
use Rattle.laws_command_check.specs.HeadReadBack.{command_read_back}
use Rattle.laws_command_check.specs.HeadTexts.{AreSmallTotals, HasHeadTexts, HasPlanningTexts, HasToldTexts, IsSmallLine}
use Rattle.laws_command_check.proofs.HeadTaken.{all_planned_so, counts_as, message_at}

abbrev AreNoted : List Note → Type 0
AreNoted notes = AllByRecursion HasNoteTexts notes

-- ---- diagnostics

-- a diagnostic without an address whose texts are UTF-8
plain_note : (severity : Severity) (summary detail : List ℕ) → IsUtf8 summary → IsUtf8 detail → HasNoteTexts (record { severity = severity; diag = record { summary = summary; detail = detail; range = None; snippet = None }; address = None })
plain_note severity summary detail s d = record {
  diag = record { summary = s; detail = d };
  address = tt;
  raw_texts = (None, None, record { range_is = tt; snippet_is = tt });
}

targeting : HasNoteTexts targeting_note
targeting = plain_note targeting_note.severity targeting_note.diag.summary targeting_note.diag.detail (IsUtf8-are_ascii targeting_note.diag.summary refl) (IsUtf8-are_ascii targeting_note.diag.detail refl)

unfinished : HasNoteTexts unfinished_note
unfinished = plain_note unfinished_note.severity unfinished_note.diag.summary unfinished_note.diag.detail (IsUtf8-are_ascii unfinished_note.diag.summary refl) (IsUtf8-are_ascii unfinished_note.diag.detail refl)

lines_utf8 : (addresses : List (List ℕ)) → AllByRecursion IsUtf8 addresses → IsUtf8 (forgotten_lines addresses)
lines_utf8 [] has = IsUtf8-nil
lines_utf8 (address ∷ addresses) has =
    IsUtf8-append (forgotten_line address) (forgotten_lines addresses)
    (IsUtf8-append (codes " - ") (address ++ codes "\n") (IsUtf8-are_ascii (codes " - ") refl) (IsUtf8-append address (codes "\n") has.0 (IsUtf8-are_ascii (codes "\n") refl))) (lines_utf8 addresses has.1)

abbrev before_lines : List ℕ
before_lines = codes "If you apply this plan, Terraform will discard its tracking information for the following objects, but it will not delete them:\n"

abbrev after_lines : List ℕ
after_lines = codes "\nAfter applying this plan, Terraform will no longer manage these objects. You will need to import them into Terraform to manage them again."

forgotten_texts : (addresses : List (List ℕ)) → AllByRecursion IsUtf8 addresses → IfSome (forgotten_note_of addresses) HasNoteTexts
forgotten_texts [] has = tt
forgotten_texts (address ∷ addresses) has =
    let note = note_of_lines (forgotten_lines (address ∷ addresses)) in
    plain_note note.severity note.diag.summary note.diag.detail (IsUtf8-are_ascii note.diag.summary refl)
    (IsUtf8-append before_lines (forgotten_lines (address ∷ addresses) ++ after_lines) (IsUtf8-are_ascii before_lines refl)
    (IsUtf8-append (forgotten_lines (address ∷ addresses)) after_lines (lines_utf8 (address ∷ addresses) has) (IsUtf8-are_ascii after_lines refl)))

forgotten_utf8 : (changes : List ResourceChange) (details : List ChangeDetails) → AllByRecursion HasChangeTexts changes → AllByRecursion IsUtf8 (forgotten_in changes details)
forgotten_utf8 [] details has = tt
forgotten_utf8 (change ∷ changes) [] has = tt
forgotten_utf8 (change ∷ changes) (d ∷ details) has = all_both IsUtf8 (forgotten_at change (Some d)) (forgotten_in changes details) (of_test d.forgets) (forgotten_utf8 changes details has.1)
  where
    of_test : (b : Bool) → AllByRecursion IsUtf8 (cond b (change.address ∷ []) [])
    of_test true = (has.0.address, tt)
    of_test false = tt

planning_texts : (told : List Told) (events : List Event) → AllByRecursion HasToldTexts told → AreNoted (planning_notes (record { told = told; events = events }))
planning_texts told [] has = tt
planning_texts told (e ∷ es) has =
    all_both HasNoteTexts (cond (is_note e.what) (failure_of (slice_get told e.change)) []) (planning_notes (record { told = told; events = es })) (of_test (is_note e.what)) (planning_texts told es has)
  where
    of_failure : (o : Option Note) → IfSome o HasNoteTexts → AreNoted (option_map_or (λ note. note ∷ []) o [])
    of_failure None h = tt
    of_failure (Some note) h = (h, tt)

    of_found : (o : Option Told) → IfSome o HasToldTexts → AreNoted (failure_of o)
    of_found None h = tt
    of_found (Some t) h = of_failure t.failure h.failure

    of_test : (b : Bool) → AreNoted (cond b (failure_of (slice_get told e.change)) [])
    of_test true = of_found (slice_get told e.change) (held_at HasToldTexts told e.change has)
    of_test false = tt

note_if_texts : (b : Bool) (note : Note) → HasNoteTexts note → AreNoted (note_if b note)
note_if_texts true note h = (h, tt)
note_if_texts false note h = tt

option_texts : (o : Option Note) → IfSome o HasNoteTexts → AreNoted (option_list o)
option_texts None h = tt
option_texts (Some note) h = (h, tt)

plan_notes_texts : (note : Option PlanNote) (forgotten : Option Note) (script : List Note) → IfSome forgotten HasNoteTexts → AreNoted script → AreNoted (plan_notes note forgotten script)
plan_notes_texts note forgotten script f s =
    all_both HasNoteTexts (script ++ note_if (is_partial note) targeting_note) (option_list forgotten) (all_both HasNoteTexts script (note_if (is_partial note) targeting_note) s (note_if_texts (is_partial note) targeting_note targeting)) (option_texts forgotten f)

command_notes_texts : (applies : Bool) (note : Option PlanNote) (forgotten : Option Note) (found script : List Note) → IfSome forgotten HasNoteTexts → AreNoted found → AreNoted script → AreNoted (command_notes applies note forgotten found script)
command_notes_texts true note forgotten found script f p s =
    all_both HasNoteTexts (plan_notes note forgotten script) (note_if (is_partial note) (note_of_plan Partial)) (plan_notes_texts note forgotten script f s) (note_if_texts (is_partial note) (note_of_plan Partial) (plan_note Partial))
command_notes_texts false note forgotten found script f p s =
    let all = found ++ plan_notes note forgotten script in
    all_both HasNoteTexts all (note_if (is_unfinished note && not (list_any form.is_error all)) unfinished_note) (all_both HasNoteTexts found (plan_notes note forgotten script) p (plan_notes_texts note forgotten script f s))
    (note_if_texts (is_unfinished note && not (list_any form.is_error all)) unfinished_note unfinished)

-- ---- small totals

some_of : {X Y : Type 0} (g : X → Option Y) (xs : List X) → length (filter_map g xs) ≤ length xs
some_of g [] = omega arith
some_of g (x ∷ xs) = of_one (g x) (some_of g xs)
  where
    of_one : (o : Option _) → length (filter_map g xs) ≤ length xs → length (cons_option o (filter_map g xs)) ≤ suc (length xs)
    of_one None few = omega arith
    of_one (Some y) few = omega arith

few_messages : (changes : List ResourceChange) (details : List ChangeDetails) (numbers : List ℕ) → length (flat_map (message_at changes details) numbers) ≤ length numbers
few_messages changes details [] = omega arith
few_messages changes details (n ∷ ns) =
    let rest = few_messages changes details ns in
    let both = length-append (message_at changes details n) (flat_map (message_at changes details) ns) in
    let one = of_change (slice_get changes n) (slice_get details n) in
    omega arith
  where
    of_word : (change : ResourceChange) (o : Option (List ℕ)) → length (option_map_or (λ word. planned (intent_named word) (Some change.address) ∷ []) o []) ≤ 1
    of_word change None = omega arith
    of_word change (Some word) = omega arith

    of_change : (o : Option ResourceChange) (p : Option ChangeDetails) → length (option_map_or (λ change. option_map_or (λ d. command_read_back change d) p []) o []) ≤ 1
    of_change None p = omega arith
    of_change (Some change) None = omega arith
    of_change (Some change) (Some d) = of_word change (command_word change.steps d)

small_totals : (changes : List ResourceChange) (details : List ChangeDetails) (numbers : List ℕ) → ((c : ℕ) (change : ResourceChange) → slice_get changes c ≡ Some change → AreStepsOfOne change.steps) → length numbers < 2 ^ 64
    → AreSmallTotals (plan_sums.planned_totals (filter_map (details_at changes details) numbers))
small_totals changes details numbers whole few =
    let ms = flat_map (message_at changes details) numbers in
    let most = few_messages changes details numbers in
    record {
      added = (let same = all_planned_so changes details whole plans_create kind.Create (λ change d one. (counts_as change d change.steps one).0) numbers in let less = count_by-le-length plans_create ms in omega arith);
      changed = (let same = all_planned_so changes details whole plans_update kind.Update (λ change d one. (counts_as change d change.steps one).1) numbers in let less = count_by-le-length plans_update ms in omega arith);
      removed = (let same = all_planned_so changes details whole plans_delete kind.Delete (λ change d one. (counts_as change d change.steps one).2) numbers in let less = count_by-le-length plans_delete ms in omega arith);
      imported = (let less = count_by-le-length (λ (p : ResourceChange × ChangeDetails). is_some p.1.importing) (filter_map (details_at changes details) numbers) in let fewer = some_of (details_at changes details) numbers in omega arith);
    }

-- ---- small lines

pub small_lines : (events : List Event) → AllByRecursion (λ (e : Event). IsSmall e.what) events → (plan : List HeadLine) → AllByRecursion IsSmallLine plan → AllByRecursion IsSmallLine (head_lines events plan)
small_lines events small plan others = (tt, all_both IsSmallLine (map line.Planning events) plan (of_events events small) others)
  where
    of_events : (es : List Event) → AllByRecursion (λ (e : Event). IsSmall e.what) es → AllByRecursion IsSmallLine (map line.Planning es)
    of_events [] h = tt
    of_events (e ∷ es) h = (h.0, of_events es h.1)

pub small_plan : (is_told : Bool) (drifts changes : List ℕ) (outputs : List PlannedOutput) → AllByRecursion IsSmallLine (plan_lines is_told drifts changes outputs)
small_plan false drifts changes outputs = tt
small_plan true drifts changes outputs =
    all_both IsSmallLine (map line.Drift drifts ++ map line.Planned changes) (sums outputs) (all_both IsSmallLine (map line.Drift drifts) (map line.Planned changes) (of_drifts drifts) (of_changes changes)) (of_sums outputs)
  where
    of_drifts : (ns : List ℕ) → AllByRecursion IsSmallLine (map line.Drift ns)
    of_drifts [] = tt
    of_drifts (n ∷ ns) = (tt, of_drifts ns)

    of_changes : (ns : List ℕ) → AllByRecursion IsSmallLine (map line.Planned ns)
    of_changes [] = tt
    of_changes (n ∷ ns) = (tt, of_changes ns)

    of_sums : (os : List PlannedOutput) → AllByRecursion IsSmallLine (sums os)
    of_sums [] = (tt, tt)
    of_sums (o ∷ os) = (tt, (tt, tt))

-- ---- what was read

module _ (command : Command) (lanes : ℕ) (given : Inputs) (read : CommandInputs) (is : IsStated given.plan given.script read.stated) (has : HasPlanningTexts read) (relative : AllByRecursion HasRelativeAddress read.stated.plan.changes)
    (as_many : length read.stated.details.changes ≡ length read.stated.plan.changes) (whole : ChangesAreWhole read.stated.plan) where
  was_read : IsRead given read.stated.plan read.stated.script
  was_read = record { plan_is = is.plan_is; script_is = is.script_is }

  readable : IsReadablePlan read.stated.plan
  readable = the_plan given read.stated.plan read.stated.script was_read

  plan_texts : HasTexts read.stated.plan read.stated.script
  plan_texts = read_texts read.stated.plan read.stated.script readable relative (the_script given read.stated.plan read.stated.script was_read)

  details_texts : AllByRecursion HasDetailTexts read.stated.details.changes
  details_texts = (plan_details given.plan read.stated.details is.details_are).changes

  few_imports : imported_in read.stated.details.changes < 2 ^ 64
  few_imports =
      let most = readable.few in
      let counted = count_by-le-length (λ (d : ChangeDetails). is_some d.importing) read.stated.details.changes in
      omega (arith, as_many)

  few_kept : length (kept_changes command lanes read) < 2 ^ 64
  few_kept =
      let most = readable.few in
      let fewer : length (kept_changes command lanes read) ≤ length (enumerate_from 0 read.stated.plan.changes) =
      some_of (λ (p : ℕ × ResourceChange). cond (is_kept (failed command lanes read) (planning command lanes read) p.1) (Some p.0) None) (enumerate_from 0 read.stated.plan.changes) in
      let count = length-enumerate_from 0 read.stated.plan.changes in
      omega arith

  pub head_texts : (start : ℕ) → HasHeadTexts (head_inputs command lanes read start)
  head_texts start = record {
    version = readable.version;
    told = has.told;
    drifts = has.drifts;
    changes = plan_texts.changes;
    details = details_texts;
    outputs = has.outputs;
    totals = small_totals read.stated.plan.changes read.stated.details.changes (kept_changes command lanes read) whole few_kept;
  }

  pub form_texts : HasFormTexts (applied_plan command lanes read) (applied_script command lanes read) (extras command lanes read)
  form_texts =
      let extras_are = script_extras read.stated.plan read.stated.details.outputs given.script read.stated.script read.stated.extras is.script_is is.extras_are in
      record {
        texts = of_applied (is_applied command lanes read);
        raw_texts = of_script (is_applied command lanes read);
        details = details_texts;
        notes = command_notes_texts (is_applied command lanes read) read.stated.details.note (forgotten_note_of (forgotten_in read.stated.plan.changes read.stated.details.changes)) (planning_notes (planning command lanes read)) read.stated.extras.notes
            (forgotten_texts (forgotten_in read.stated.plan.changes read.stated.details.changes) (forgotten_utf8 read.stated.plan.changes read.stated.details.changes (by_number HasChangeTexts read.stated.plan.changes plan_texts.changes)))
            (planning_texts read.told (planning command lanes read).events has.told) extras_are.notes;
        outputs = outputs_read_back read.stated.details.outputs read.stated.extras.outputs (plan_details given.plan read.stated.details is.details_are).known extras_are.outputs;
        few_imports = few_imports;
      }
    where
      of_applied : (b : Bool) → HasTexts (cond b read.stated.plan (record { version = read.stated.plan.version; changes = [] })) (cond b read.stated.script [])
      of_applied true = plan_texts
      of_applied false = read_texts (record { version = read.stated.plan.version; changes = [] }) [] (record { version = readable.version; changes = tt; few = omega arith }) tt nothing_readable

      of_script : (b : Bool) (c k : ℕ) → HasVerbatimDiagnostics (outcome_of (cond b read.stated.script []) c k)
      of_script true = read_verbatim read.stated.script (the_script given read.stated.plan read.stated.script was_read)
      of_script false = read_verbatim [] nothing_readable
