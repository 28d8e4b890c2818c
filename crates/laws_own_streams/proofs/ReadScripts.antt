-- What holds of a plan and a script that were read, where a run asks for it.
use Rattle.std.proofs.Common.{◌<◌, All, ◌≡◌, ◌≢◌, ℕ, Bool, true, false, cond, List, [], ◌∷◌, Option, Some, None, Ok, sym, ◌∙◌, subst}
use Rattle.std.specs.List.{AllByRecursion}
use Rattle.apply_model.specs.Plan.ResourceChange.{ResourceChange, resource_of}
use Rattle.apply_model.specs.Plan.SavedPlan.{SavedPlan}
use Rattle.apply_model.specs.Script.OutcomeMap.{OutcomeMap}
use Rattle.apply_run.specs.Bytes.{given_script}
use Rattle.apply_run.specs.Read.{StatedInputs, applied_plan, applied_script, is_unfinished}
use Rattle.apply_events.specs.declared.event.Event.{Event}
use Rattle.apply_events.specs.Fits.{Fits}
use Rattle.apply_text.specs.Start.{end_of_starts}
use Rattle.laws_lines.specs.Streams.{AreTold}
use Rattle.laws_lines.proofs.Names.{IsNamedScript, nothing_named, script_named}
use Rattle.laws_lines.proofs.TimeLines.{are_told}
use Rattle.laws_own_streams.proofs.OwnNotes.{HaveAddresses}
use Rattle.laws_run.specs.Plans.{HasRelativeAddress, IsJoined}

-- ---- addresses

joined_some : (module_address relative address : List ℕ) → relative ≢ [] → IsJoined module_address relative address → address ≢ []
joined_some [] relative address some is none = some (sym is ∙ none)
joined_some (byte ∷ bytes) relative address some is none = absurd cc

pub all_addressed : (changes : List ResourceChange) → AllByRecursion HasRelativeAddress changes → AllByRecursion (λ (change : ResourceChange). change.address ≢ []) changes
all_addressed [] relative = tt
all_addressed (change ∷ changes) relative =
    (joined_some change.module_address (resource_of change) change.address relative.0.0 relative.0.1, all_addressed changes relative.1)

-- ---- provisioners

given_named : (plan : SavedPlan) (bytes : Option (List ℕ)) (script : OutcomeMap) → given_script plan bytes ≡ Ok script → IsNamedScript script
given_named plan None script is = subst IsNamedScript (let same : [] ≡ script = cc in same) nothing_named
given_named plan (Some bytes) script is = script_named plan bytes script is

pub given_told : (plan : SavedPlan) (bytes : Option (List ℕ)) (script : OutcomeMap) → given_script plan bytes ≡ Ok script → (start : ℕ) (events : List Event) → start < end_of_starts → All (Fits plan script) events
    → AreTold script start events
given_told plan bytes script is start events early fit = are_told plan script start events (given_named plan bytes script is) early fit

-- ---- as they are applied

pub applied_addressed : (stated : StatedInputs) → AllByRecursion (λ (change : ResourceChange). change.address ≢ []) stated.plan.changes
    → AllByRecursion (λ (change : ResourceChange). change.address ≢ []) (applied_plan stated).changes
applied_addressed stated all = of_note (is_unfinished stated.details.note)
  where
    of_note : (b : Bool) → HaveAddresses (cond b (record { version = stated.plan.version; changes = [] }) stated.plan)
    of_note true = tt
    of_note false = all

applied_named : (stated : StatedInputs) → IsNamedScript stated.script → IsNamedScript (applied_script stated)
applied_named stated named = of_note (is_unfinished stated.details.note)
  where
    of_note : (b : Bool) → IsNamedScript (cond b [] stated.script)
    of_note true = nothing_named
    of_note false = named

pub applied_told : (stated : StatedInputs) (bytes : Option (List ℕ)) → given_script stated.plan bytes ≡ Ok stated.script → (start : ℕ) (events : List Event) → start < end_of_starts
    → All (Fits (applied_plan stated) (applied_script stated)) events → AreTold (applied_script stated) start events
applied_told stated bytes is start events early fit =
    are_told (applied_plan stated) (applied_script stated) start events (applied_named stated (given_named stated.plan bytes stated.script is)) early fit
