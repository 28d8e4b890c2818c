-- The words of messages for the kinds of steps and the phases of hooks (Machine-Readable UI,
-- "Operation Messages").
use Rattle.std.specs.Prelude.{ℕ, List, codes}
use Rattle.apply_model.specs.declared.plan.step_kind.StepKind.{StepKind}
use Rattle.apply_model.specs.declared.plan.step_kind.StepKind.TheVariants.{Create, Update, Delete, Read}
use Rattle.apply_hooks.specs.declared.phase.Phase.{Phase}
use Rattle.apply_hooks.specs.declared.phase.Phase.TheVariants.{Pre, PostDone, PostFailed}

-- the member `action` of a hook
abbrev pub action_word : StepKind → List ℕ
action_word Create = codes "create"
action_word Update = codes "update"
action_word Delete = codes "delete"
action_word Read = codes "read"

-- what a step does when it starts
abbrev pub start_word : StepKind → List ℕ
start_word Create = codes "Creating"
start_word Update = codes "Modifying"
start_word Delete = codes "Destroying"
start_word Read = codes "Refreshing"

-- what a step is still doing
abbrev pub still_word : StepKind → List ℕ
still_word Create = codes "creating"
still_word Update = codes "modifying"
still_word Delete = codes "destroying"
still_word Read = codes "refreshing"

-- what completes or fails when a step ends
abbrev pub noun_word : StepKind → List ℕ
noun_word Create = codes "Creation"
noun_word Update = codes "Modifications"
noun_word Delete = codes "Destruction"
noun_word Read = codes "Refresh"

-- when the hook was asked, relative to the step
abbrev pub phase_words : Phase → List ℕ
phase_words Pre = codes "before"
phase_words PostDone = codes "after"
phase_words PostFailed = codes "after failed"
