-- The prefixes of `--halt-in` that no address of the plan begins with, and how they are reported.
use Rattle.std.specs.Prelude.{◌≡◌, ◌++◌, ℕ, List, [], ◌∷◌, Bool, if◌then◌else◌, not, Option, None, Some, Result, Ok, Err, IfSome, codes, nat_eq, take}
use Rattle.std.specs.Io.KnownBytes.{Appends}
use Rattle.std.specs.List.{filter, filter_map, flat_map, list_any, starts_with}
use Rattle.std.specs.Str.{bytes_eq}
use Rattle.clap.specs.Walk.{Text}
use Rattle.term_text.specs.Shown.{shown_text}
use Rattle.apply_model.specs.Plan.ResourceChange.{ResourceChange}
use Rattle.apply_plan.specs.declared.plan.plan_error.PlanError.{PlanError}
use Rattle.apply_plan.specs.Plan.SavedPlan.{SavedPlan, plan_of}
use Rattle.apply_cli_args.specs.Invocation.{IsOfWords}
use Rattle.apply_cli_args.specs.declared.halt.Halt.{Halt}
use Rattle.apply_cli_args.specs.declared.halt.Halt.TheVariants.{Before, Inside}
use Rattle.apply_cli_args.specs.declared.invocation.Invocation.{Invocation}
use Rattle.apply_cli.specs.Command.{OfInput}

-- ---- which prefixes

-- the prefix, if the halt has one
abbrev pub prefix_of : Halt → Option Text
prefix_of (Before kind) = None
prefix_of (Inside prefix) = Some prefix

-- each text of the list once, where it stands first
abbrev pub distinct : List Text → List Text
distinct [] = []
distinct (text ∷ texts) = text ∷ filter (λ other. not (bytes_eq text other)) (distinct texts)

-- the texts, and this one at their end unless it is among them
abbrev pub with_new : List Text → Text → List Text
with_new texts text = if list_any (λ other. bytes_eq other text) texts then texts else texts ++ text ∷ []

-- the address of some change begins with the prefix
abbrev pub begins_an_address : List ResourceChange → (prefix : Text) → Bool
begins_an_address changes prefix = list_any (λ change. starts_with nat_eq change.address prefix) changes

-- the prefixes of the halts that no address of the plan begins with, in their order, each once.
-- Bytes that are no plan have none
abbrev pub unmatched_in : Result SavedPlan PlanError → List Halt → List Text
unmatched_in (Ok plan) halts =
    filter (λ prefix. not (begins_an_address plan.changes prefix)) (distinct (filter_map prefix_of halts))
unmatched_in (Err refusal) halts = []

abbrev pub unmatched_of : (plan : List ℕ) → List Halt → List Text
unmatched_of plan halts = unmatched_in (plan_of plan) halts

-- ---- how they are reported

-- the line that reports a prefix
unfoldable pub unmatched_line : Text → List ℕ
unmatched_line prefix =
    codes "applystream: --halt-in " ++ shown_text prefix ++ codes ": no address of the plan begins with it\n"

-- a line for each
abbrev pub unmatched_lines : List Text → List ℕ
unmatched_lines prefixes = flat_map unmatched_line prefixes

-- a front of the lines was reported
abbrev pub AreReported : List Text → (before after : Option (List ℕ)) → Type 0
AreReported prefixes before after = (n : ℕ) × Appends before after (take n (unmatched_lines prefixes))

-- the words state an invocation, and a front of the lines was reported for its halts and the plan of
-- the input
pub record WereReported (words : List Text) (input before after : Option (List ℕ)) : Type 0 where
  pub invocation : Invocation
  pub is_of_words : IsOfWords words invocation
  pub reported : OfInput input (λ plan. AreReported (unmatched_of plan invocation.settings.halts.items) before after)

-- whatever invocation the words state: with each prefix of its halts, some address of the plan of
-- the input begins
abbrev pub AreAllMatched : List Text → (input : Option (List ℕ)) → Type 0
AreAllMatched words input = (invocation : Invocation) (plan : List ℕ) → IsOfWords words invocation
    → IfSome input (λ all. all ≡ plan) → unmatched_of plan invocation.settings.halts.items ≡ []
