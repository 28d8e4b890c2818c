-- The outcome of a validation.
use Rattle.std.proofs.Common.{◌≡◌, ◌∙◌, ◌+◌, ℕ, List, [], length, Bool, true, false, Bor, Option, None, Some, Result, Ok, Err, arith, refl, subst, sym, take}
use Rattle.std.specs.Prelude.{IsErrAnd, OnErr, if◌then◌else◌, is_some}
use Rattle.std.specs.Io.KnownBytes.{Appends, Keeps}
use Rattle.std.specs.Option.{option_copied}
use Rattle.std.proofs.KnownBytes.{Appends-kept}
use Rattle.std.proofs.lemmas.List.{take_all}
use Rattle.input_validate.specs.Findings.{Reported, reported}
use Rattle.input_validate.specs.InForm.{findings_in, is_refused}
use Rattle.input_validate.specs.Whole.{plan_findings}
use Rattle.input_validate.specs.declared.findings.finding.Finding.{Finding}
use Rattle.input_validate.specs.declared.form.Form.{Form}
use Rattle.stream_tool.specs.declared.writing.WriteFault.{WriteFault}
use Rattle.stream_tool.specs.declared.writing.WriteFault.TheVariants as write
use Rattle.input_validate_cli.specs.Causes.{as_validate_fault}
use Rattle.input_validate_cli.specs.Lines.{line_count, lines_for}
use Rattle.input_validate_cli.specs.Validated.{IsReport, ReportsOn, WasReported}
use Rattle.input_validate_cli.specs.declared.command.validate_fault.ValidateFault.{ValidateFault}

none_either : (b : Bool) → (let all : List Finding = if b then [] else [] in all) ≡ []
none_either true = refl
none_either false = refl

-- without a script there are no findings
none_without : (form : Form) (lanes : Bool) (plan : List ℕ) (script : Option (List ℕ)) → is_some script ≡ false → findings_in form lanes plan script ≡ []
none_without form lanes plan None absent = none_either (is_refused form lanes plan None)
none_without form lanes plan (Some bytes) absent = absurd cc

-- the text for stored findings is a report on a plan and a script with these findings
pub is_report : (form : Form) (lanes : Bool) (plan : List ℕ) (script : Option (List ℕ)) (of_plan of_script : Reported) (given : Bool) (text : List ℕ)
    → given ≡ is_some script → of_plan ≡ reported (plan_findings plan) → of_script ≡ reported (findings_in form lanes plan script) → ReportsOn of_plan of_script given text
    → ((all more : List Finding) → of_plan ≡ reported all → of_script ≡ reported more → (given ≡ false → more ≡ [])
    → line_count text ≡ lines_for (length all + length more))
    → IsReport form lanes plan script text
is_report form lanes plan script of_plan of_script given text is_given is_plan is_script reports lines = record {
  reports = subst (λ (b : Bool). ReportsOn (reported (plan_findings plan)) (reported (findings_in form lanes plan script)) b text) is_given
      (subst (λ (t : Reported). ReportsOn t (reported (findings_in form lanes plan script)) given text) is_plan
      (subst (λ (t : Reported). ReportsOn of_plan t given text) is_script reports));
  lines = lines (plan_findings plan) (findings_in form lanes plan script) is_plan is_script (λ absent. none_without form lanes plan script (sym is_given ∙ absent));
}

-- an optional value and its reference agree
pub given_copied : {A : Type 0} (given : Option (Bor A)) → is_some given ≡ is_some (option_copied given)
given_copied None = refl
given_copied (Some a) = refl

-- the whole text was written, then flushed
pub flushed : {A E : Type 0} (made : Result A E) (before written after : Option (List ℕ)) (text : List ℕ) → Appends before written text → Keeps written after
    → OnErr made ((n : ℕ) × Appends before after (take n text))
flushed (Ok done) before written after text appended kept = tt
flushed (Err failed) before written after text appended kept =
    (length text, subst (Appends before after) (sym (take_all (length text) text (omega arith))) (Appends-kept before written after text appended kept))

module _ (form : Form) (lanes : Bool) (plan : List ℕ) (script : Option (List ℕ)) where
  -- a write failed, after a beginning of the report
  pub begun : (failed : WriteFault) (made : Result ℕ ValidateFault) (text : List ℕ) (before after : Option (List ℕ)) → IsErrAnd made (λ why. why ≡ as_validate_fault failed)
      → IsReport form lanes plan script text → (n : ℕ) × Appends before after (take n text) → WasReported form lanes plan script before after made
  begun failed (Ok status) text before after is reports part = absurd is
  begun write.Gone (Err why) text before after is reports part =
      subst (λ (f : ValidateFault). WasReported form lanes plan script before after (Err f)) (sym is) (refl, record { text = text; reports = reports; count = part.0; written = part.1 })
  begun write.Unwritten (Err why) text before after is reports part =
      subst (λ (f : ValidateFault). WasReported form lanes plan script before after (Err f)) (sym is) (refl, record { text = text; reports = reports; count = part.0; written = part.1 })
