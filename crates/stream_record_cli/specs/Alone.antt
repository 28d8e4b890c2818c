-- The script of a plan alone.
use Rattle.std.specs.Prelude.{◌≡◌, ⊤, ℕ, List, [], Option, Result, Ok, Err, unwrap_or}
use Rattle.apply_model.specs.Plan.ResourceChange.{ResourceChange}
use Rattle.apply_model.specs.Plan.SavedPlan.{SavedPlan}
use Rattle.apply_plan.specs.Plan.SavedPlan.{plan_of}
use Rattle.stream_record.specs.EvenScript.{even_script}
use Rattle.stream_record.specs.ScriptText.{script_within}
use Rattle.stream_record.specs.declared.script_fault.ScriptFault.{ScriptFault}
use Rattle.stream_record.specs.declared.script_fault.ScriptFault.TheVariants as script
use Rattle.stream_record_cli.specs.Graphs.{AreWaitsIn, IsGraphRefused}
use Rattle.stream_record_cli.specs.declared.record_fault.RecordFault.{RecordFault}
use Rattle.stream_record_cli.specs.declared.record_fault.RecordFault.TheVariants as fault

-- The text of the script in which each step takes a second, with these waits, or why there is none.
abbrev pub plan_script : List ResourceChange → (waits : List (List ℕ)) → Result (List ℕ) ScriptFault
plan_script changes waits = script_within changes (even_script changes waits) [] []

-- The script of the plan that the bytes state, with the waits that the graph states, is this one;
-- or it would be too large.
pub record IsMade (plan : List ℕ) (graph : Option (List ℕ)) (made : Result (List ℕ) ScriptFault) : Type 0 where
  pub saved : SavedPlan
  pub read : plan_of plan ≡ Ok saved
  pub waits : Option (List (List ℕ))
  pub stated : AreWaitsIn saved.changes graph waits
  pub is : plan_script saved.changes (unwrap_or waits []) ≡ made

abbrev pub IsScriptOf : (plan : List ℕ) → (graph : Option (List ℕ)) → (text : List ℕ) → Type 0
IsScriptOf plan graph text = IsMade plan graph (Ok text)

-- The script, and no warnings.
abbrev pub IsScript : (plan : List ℕ) → (graph : Option (List ℕ)) → (text warnings : List ℕ) → Type 0
IsScript plan graph text warnings = IsScriptOf plan graph text × (warnings ≡ [])

-- The plan and the graph give no script for this cause, or memory was refused. The plan comes
-- first.
abbrev pub IsRefused : (plan : List ℕ) → (graph : Option (List ℕ)) → RecordFault → Type 0
IsRefused plan graph (fault.Input why) = ⊥
IsRefused plan graph (fault.Plan why) = plan_of plan ≡ Err why
IsRefused plan graph (fault.Graph why) = (saved : SavedPlan) × (plan_of plan ≡ Ok saved) × IsGraphRefused saved.changes graph why
IsRefused plan graph (fault.Stream why) = ⊥
IsRefused plan graph (fault.NoRun missing) = ⊥
IsRefused plan graph fault.TooLarge = IsMade plan graph (Err script.TooLarge)
IsRefused plan graph fault.Memory = ⊤
IsRefused plan graph fault.Gone = ⊥
IsRefused plan graph fault.Unwritten = ⊥
