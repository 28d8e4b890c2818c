-- What is written and answered.
use Rattle.std.proofs.Common.{◌≡◌, ◌∙◌, ℕ, List, length, Option, Result, Ok, Err, ap, arith, refl, subst, sym, take}
use Rattle.std.specs.Prelude.{IfErr, IfOk, OnErr}
use Rattle.std.specs.Io.KnownBytes.{Appends, Keeps}
use Rattle.std.proofs.KnownBytes.{Appends-kept}
use Rattle.std.proofs.lemmas.List.{take_all}
use Rattle.stream_tool.specs.declared.writing.WriteFault.{WriteFault}
use Rattle.stream_tool.specs.declared.writing.WriteFault.TheVariants as write
use Rattle.term_words.specs.MessageTexts.{text_bytes}
use Rattle.stream_record_cli.specs.Causes.{IsStatusOf, as_record_fault}
use Rattle.stream_record_cli.specs.Outcomes.{HasOutcome, IsUnwritten, WasWritten}
use Rattle.stream_record_cli.specs.declared.command.writing.Texts.{Texts}
use Rattle.stream_record_cli.specs.declared.record_fault.RecordFault.{RecordFault}
use Rattle.stream_record_cli.specs.declared.record_fault.RecordFault.TheVariants as fault
use Rattle.stream_record_cli.specs.declared.refusal.Refusal.{Refusal}

-- the whole text was written, then flushed
pub flushed : {A E : Type 0} (made : Result A E) (before written after : Option (List ℕ)) (text : List ℕ) → Appends before written text → Keeps written after
    → OnErr made ((n : ℕ) × Appends before after (take n text))
flushed (Ok done) before written after text appended kept = tt
flushed (Err failed) before written after text appended kept =
    (length text, subst (Appends before after) (sym (take_all (length text) text (omega arith))) (Appends-kept before written after text appended kept))

-- these texts
abbrev pub AreTexts : Texts → (text warnings : List ℕ) → Type 0
AreTexts texts text warnings = (text ≡ text_bytes texts.script) × (warnings ≡ text_bytes texts.warnings)

-- a write failed, after a beginning of the script
pub begun : (texts : Texts) (failed : WriteFault) (why : RecordFault) (before after : Option (List ℕ)) (status : ℕ) (answer : Result (Unit {0}) RecordFault)
    → why ≡ as_record_fault failed → answer ≡ Err why → IsStatusOf why status → (n : ℕ) × Appends before after (take n (text_bytes texts.script))
    → WasWritten (Ok texts) before after status answer
begun texts write.Gone why before after status answer is answers stands part =
    let known : IsStatusOf fault.Gone status = subst (λ (f : RecordFault). IsStatusOf f status) is stands in
    subst (WasWritten (Ok texts) before after status) (sym (answers ∙ ap Err is))
    (known, record { text = text_bytes texts.script; warnings = text_bytes texts.warnings; is = (refl, refl); count = part.0; written = part.1 })
begun texts write.Unwritten why before after status answer is answers stands part =
    let known : IsStatusOf fault.Unwritten status = subst (λ (f : RecordFault). IsStatusOf f status) is stands in
    subst (WasWritten (Ok texts) before after status) (sym (answers ∙ ap Err is))
    (known, record { text = text_bytes texts.script; warnings = text_bytes texts.warnings; is = (refl, refl); count = part.0; written = part.1 })

-- ---- what the texts are, and why there are none

module _ (IsScript : (text warnings : List ℕ) → Type 0) (IsCause : RecordFault → Type 0) (before after : Option (List ℕ)) (status : ℕ) where
  scripted : (texts : Texts) (answer : Result (Unit {0}) RecordFault) → IsScript (text_bytes texts.script) (text_bytes texts.warnings)
      → HasOutcome (AreTexts texts) (λ why. ⊥) before after status answer → HasOutcome IsScript IsCause before after status answer
  scripted texts (Ok done) is came = record {
    text = came.text;
    warnings = came.warnings;
    is = rw (came.is.0, came.is.1) is;
    written = came.written;
    status_is = came.status_is;
  }
  scripted texts (Err (fault.Input why)) is came = absurd came
  scripted texts (Err (fault.Plan why)) is came = absurd came.1
  scripted texts (Err (fault.Graph why)) is came = absurd came.1
  scripted texts (Err (fault.Stream why)) is came = absurd came.1
  scripted texts (Err (fault.NoRun missing)) is came = absurd came.1
  scripted texts (Err fault.TooLarge) is came = absurd came.1
  scripted texts (Err fault.Memory) is came = came
  scripted texts (Err fault.Gone) is came = (
    came.0,
    record {
      text = came.1.text;
      warnings = came.1.warnings;
      is = rw (came.1.is.0, came.1.is.1) is;
      count = came.1.count;
      written = came.1.written;
    },
  )
  scripted texts (Err fault.Unwritten) is came = (
    came.0,
    record {
      text = came.1.text;
      warnings = came.1.warnings;
      is = rw (came.1.is.0, came.1.is.1) is;
      count = came.1.count;
      written = came.1.written;
    },
  )

  caused : (why : RecordFault) → (IsCause fault.Gone → ⊥) → (IsCause fault.Unwritten → ⊥) → ((input : _) → IsCause (fault.Input input) → ⊥) → IsCause why
      → IsUnwritten before after status why → HasOutcome IsScript IsCause before after status (Err why)
  caused (fault.Input why) no_output no_failure no_input is came = absurd (no_input why is)
  caused (fault.Plan why) no_output no_failure no_input is came = (came, is)
  caused (fault.Graph why) no_output no_failure no_input is came = (came, is)
  caused (fault.Stream why) no_output no_failure no_input is came = (came, is)
  caused (fault.NoRun missing) no_output no_failure no_input is came = (came, is)
  caused fault.TooLarge no_output no_failure no_input is came = (came, is)
  caused fault.Memory no_output no_failure no_input is came = came
  caused fault.Gone no_output no_failure no_input is came = absurd (no_output is)
  caused fault.Unwritten no_output no_failure no_input is came = absurd (no_failure is)

  -- what became of them
  pub came_of : (made : Result Texts Refusal) (answer : Result (Unit {0}) RecordFault)
      → (IsCause fault.Gone → ⊥) → (IsCause fault.Unwritten → ⊥) → ((input : _) → IsCause (fault.Input input) → ⊥)
      → IfOk made (λ texts. IsScript (text_bytes texts.script) (text_bytes texts.warnings)) → IfErr made (λ refusal. IsCause refusal.fault)
      → WasWritten made before after status answer → HasOutcome IsScript IsCause before after status answer
  came_of (Ok texts) answer no_output no_failure no_input is cause came = scripted texts answer is came
  came_of (Err refusal) answer no_output no_failure no_input is cause came =
      subst (HasOutcome IsScript IsCause before after status) (sym came.0) (caused refusal.fault no_output no_failure no_input cause came.1)
