-- What `record` reads back of a run in the default form.
use Rattle.std.specs.Prelude.{ℕ, pos, true}
use Rattle.apply_model.specs.Plan.SavedPlan.{SavedPlan}
use Rattle.apply_model.specs.Script.OutcomeMap.{OutcomeMap}
use Rattle.laws_lines.specs.Notes.{plain_diag}
use Rattle.laws_lines.specs.Stated.{told_by}
use Rattle.laws_steps_again.specs.Again.{Look}
use Rattle.laws_steps_again.specs.ReadBack.{Reading}
use Rattle.laws_texts.specs.Streams.{plain_address}

-- How the default form shows diagnostics: at the address of the change, without range and snippet.
abbrev pub plain_look : Look
plain_look = record { address = plain_address; shown = plain_diag }

abbrev pub plain_reading : SavedPlan → OutcomeMap → (start : ℕ) → Reading
plain_reading plan script start = record {
  telling = told_by plan script;
  start = pos start;
  first = 2;
  look = plain_look;
  is_default_form = true;
}
