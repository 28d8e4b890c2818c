-- No diagnostic has an empty address, so each address is read as it is.
use Rattle.std.proofs.Common.{◌≡◌, ◌≢◌, ℕ, cond, Bool, true, false, List, [], ◌∷◌, map, not, Option, Some, None, Ok, refl, ap₂, slice_get}
use Rattle.std.specs.Prelude.{Ok, ◌&&◌, IfSome, codes, filter_map, is_some}
use Rattle.std.specs.List.{AllByRecursion, cons_option}
use Rattle.serde_json.specs.Data.{Data}
use Rattle.apply_json.specs.Tree.{◌>>=◌, unless_empty}
use Rattle.apply_model.specs.declared.details.note.Note.{Note}
use Rattle.apply_model.specs.declared.plan.step_kind.StepKind.{StepKind}
use Rattle.apply_model.specs.declared.plan.step_kind.StepKind.TheVariants.{Delete}
use Rattle.apply_model.specs.declared.script.outcome.Outcome.{Outcome}
use Rattle.apply_model.specs.Plan.ResourceChange.{ResourceChange}
use Rattle.apply_model.specs.Plan.SavedPlan.{SavedPlan}
use Rattle.apply_model.specs.Plan.StepKind.{is_kind}
use Rattle.apply_model.specs.Script.Outcome.{first_diag}
use Rattle.apply_model.specs.Script.OutcomeMap.{OutcomeMap, outcome_of}
use Rattle.apply_plan_terraform.specs.Notes.{decoded_or_empty, diag_in, note_in, raw_member, severity_in}
use Rattle.apply_events.specs.declared.event.Event.{Event}
use Rattle.apply_events.specs.declared.what.What.{What}
use Rattle.apply_events.specs.declared.what.What.TheVariants.{Start, Progress, Complete, Errored, ErrorNote, WarnNote, Halted, ProvisionStart, ProvisionOutput, ProvisionComplete, ProvisionErrored}
use Rattle.apply_run.specs.Read.{StatedInputs, extras_of, given_extras}
use Rattle.apply_text_terraform.specs.Message.{diagnostic_address}
use Rattle.laws_own_streams.proofs.LooseNotes.{written_hold}
use Rattle.laws_check.proofs.Given.{any_given, gone_on, held_at, next_of}
use Rattle.laws_lines.specs.Notes.{diag_in_form, note_in_form}
use Rattle.laws_own_streams.specs.Runs.{shown_in_form}
use Rattle.laws_own_streams.proofs.OwnNotes.{HaveAddresses, filled}
use Rattle.laws_texts.specs.Streams.{diagnostic_of, told_by}

-- the address of the diagnostic is read as it is
abbrev pub HasFilled : Note → Type 0
HasFilled note = (note.address >>= unless_empty) ≡ note.address

abbrev pub HaveFilled : List Note → Type 0
HaveFilled notes = AllByRecursion HasFilled notes

pub all_kept : (notes : List Note) → HaveFilled notes → map note_in_form notes ≡ map shown_in_form notes
all_kept [] kept = refl
all_kept (note ∷ notes) kept =
    ap₂ (λ (address : Option (List ℕ)) (l : List Note). (let one : Note = record { severity = note.severity; diag = diag_in_form note.diag; address = address } in one) ∷ l) kept.0 (all_kept notes kept.1)

-- ---- those of steps

module _ (change : ResourceChange) (some : change.address ≢ []) where
  or_none : (left_out : Bool) → (cond left_out None (Some change.address) >>= unless_empty) ≡ cond left_out None (Some change.address)
  or_none true = refl
  or_none false = filled change.address some

  told_filled : (kind : StepKind) (outcome : Outcome) (what : What) → IfSome (diagnostic_of diagnostic_address change kind outcome what) HasFilled
  told_filled kind outcome ErrorNote = or_none (is_kind Delete kind && not (is_some (first_diag outcome.provisioners)))
  told_filled kind outcome WarnNote = or_none (is_kind Delete kind && not (is_some (first_diag outcome.provisioners)))
  told_filled kind outcome (Halted phase hook) = filled change.address some
  told_filled kind outcome Start = tt
  told_filled kind outcome (Progress seconds) = tt
  told_filled kind outcome (Complete seconds) = tt
  told_filled kind outcome (Errored seconds) = tt
  told_filled kind outcome (ProvisionStart i) = tt
  told_filled kind outcome (ProvisionOutput i line) = tt
  told_filled kind outcome (ProvisionComplete i) = tt
  told_filled kind outcome (ProvisionErrored i) = tt

next_filled : (one : Option Note) (notes : List Note) → IfSome one HasFilled → HaveFilled notes → HaveFilled (cons_option one notes)
next_filled None notes one others = others
next_filled (Some note) notes one others = (one, others)

module _ (plan : SavedPlan) (script : OutcomeMap) (addresses : HaveAddresses plan) where
  event_filled : (e : Event) → IfSome (told_by diagnostic_address plan script e) HasFilled
  event_filled e =
      let HasAddress : ResourceChange → Type 0 = λ change. change.address ≢ [] in
      let outcome = outcome_of script e.change e.step in
      gone_on HasAddress HasFilled _ (slice_get plan.changes e.change)
      (λ change some. gone_on (λ _. Unit {0}) HasFilled _ (slice_get change.steps e.step) (λ kind u. told_filled change some kind outcome e.what) (any_given (slice_get change.steps e.step)))
      (held_at HasAddress plan.changes e.change addresses)

  pub events_filled : (events : List Event) → HaveFilled (filter_map (told_by diagnostic_address plan script) events)
  events_filled [] = tt
  events_filled (e ∷ events) = next_filled (told_by diagnostic_address plan script e) (filter_map (told_by diagnostic_address plan script) events) (event_filled e) (events_filled events)

-- ---- those of no step

read_filled : (text : List ℕ) → (unless_empty text >>= unless_empty) ≡ unless_empty text
read_filled [] = refl
read_filled (byte ∷ bytes) = refl

note_filled : (d : Data) → IfSome (note_in d) HasFilled
note_filled d =
    next_of (λ _. Unit {0}) HasFilled (severity_in d) _ (any_given (severity_in d))
    (λ severity u. next_of (λ _. Unit {0}) HasFilled (diag_in d) _ (any_given (diag_in d))
    (λ diag u. next_of (λ _. Unit {0}) HasFilled (decoded_or_empty (raw_member (codes "address") d)) _ (any_given (decoded_or_empty (raw_member (codes "address") d)))
    (λ address u. read_filled address)))

pub loose_filled : (script : Option (List ℕ)) (stated : StatedInputs) → given_extras stated.details.outputs script ≡ Ok stated.extras → HaveFilled (extras_of stated).notes
loose_filled script stated are = written_hold HasFilled note_filled refl refl script stated are
