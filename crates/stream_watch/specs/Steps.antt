-- The steps that are open, in the order of the lines that began them.
use Rattle.std.specs.Prelude.{ℕ, ℤ, suc, List, [], ◌∷◌, ◌&&◌, Bool, not, Option, Some, None, codes, count_by, find, if◌then◌else◌, is_some, map, option_and_then, option_map, string_bytes}
use Rattle.std.specs.Option.{option_or}
use Rattle.std.specs.Str.{bytes_eq}
use Rattle.stream_watch.specs.Counts.{is_change}
use Rattle.stream_watch.specs.declared.steps.OpenStep.{OpenStep}
use Rattle.stream_watch.specs.declared.steps.OpenSteps.{OpenSteps}
use Rattle.stream_watch.specs.declared.steps.Provisioner.{Provisioner}

-- a provisioner that runs, and the moment of its begin
pub record Running : Type 0 where
  pub name : List ℕ
  pub begin : ℤ

-- an open step
pub record Step : Type 0 where
  pub address : List ℕ
  pub action : List ℕ
  -- the type of the resource
  pub kind : List ℕ
  pub is_refresh : Bool
  pub begin : ℤ
  pub provisioner : Option Running

abbrev pub running_view : Provisioner → Running
running_view provisioner = record { name = string_bytes provisioner.name; begin = provisioner.begin }

abbrev pub step_view : OpenStep → Step
step_view step = record {
  address = string_bytes step.address;
  action = string_bytes step.action;
  kind = string_bytes step.kind;
  is_refresh = step.is_refresh;
  begin = step.begin;
  provisioner = option_map running_view step.provisioner;
}

abbrev pub steps_of : OpenSteps → List Step
steps_of steps = map step_view steps.list.items

-- ---- what messages change

abbrev pub new_running : (name : List ℕ) → (moment : ℤ) → Running
new_running name moment = record { name = name; begin = moment }

abbrev pub new_step : (address action kind : List ℕ) → (is_refresh : Bool) → (moment : ℤ) → Step
new_step address action kind is_refresh moment =
    record { address = address; action = action; kind = kind; is_refresh = is_refresh; begin = moment; provisioner = None }

-- the step is a refresh, or is none
abbrev pub has_role : (is_refresh : Bool) → Step → Bool
has_role is_refresh step = if is_refresh then step.is_refresh else not step.is_refresh

abbrev pub is_step : (address action : List ℕ) → (is_refresh : Bool) → Step → Bool
is_step address action is_refresh step =
    bytes_eq step.address address && bytes_eq step.action action && has_role is_refresh step

-- the begin of the first step that is this one; none if there is none
abbrev pub begin_of_first : (Step → Bool) → List Step → Option ℤ
begin_of_first holds steps = option_map (λ step. step.begin) (find holds steps)

-- the list without the first one of which this holds
abbrev pub without_first : {A : Type 0} → (A → Bool) → List A → List A
without_first holds [] = []
without_first holds (first ∷ rest) = if holds first then rest else first ∷ without_first holds rest

-- a provisioner at the address runs in the step
abbrev pub runs_at : (address : List ℕ) → Step → Bool
runs_at address step = bytes_eq step.address address && not step.is_refresh

-- the last step of which this holds; none if there is none
abbrev pub last_step : (Step → Bool) → List Step → Option Step
last_step holds [] = None
last_step holds (step ∷ steps) = option_or (last_step holds steps) (if holds step then Some step else None)

-- the steps with this provisioner, or none, in the last one of which this holds
abbrev pub with_provisioner : (Step → Bool) → Option Running → List Step → List Step
with_provisioner holds provisioner [] = []
with_provisioner holds provisioner (step ∷ steps) =
    if is_some (last_step holds steps) then step ∷ with_provisioner holds provisioner steps
    else if holds step then record step { provisioner = provisioner } ∷ steps
    else step ∷ steps

-- the begin of the provisioner that runs at the address; none if none does
abbrev pub begin_of_running : (address : List ℕ) → List Step → Option ℤ
begin_of_running address steps =
    option_and_then (λ (step : Step). option_map (λ running. running.begin) step.provisioner) (last_step (runs_at address) steps)

-- the step reads at the address
abbrev pub reads_at : (address : List ℕ) → Step → Bool
reads_at address step = bytes_eq step.address address && bytes_eq step.action (codes "read") && not step.is_refresh

-- the step creates, updates or deletes
abbrev pub changes : Step → Bool
changes step = not step.is_refresh && is_change step.action

abbrev pub changes_in : List Step → ℕ
changes_in steps = count_by changes steps

-- ---- places, for private clauses

-- the place of the last step of which this holds; none if there is none
abbrev pub last_place : (Step → Bool) → List Step → Option ℕ
last_place holds [] = None
last_place holds (step ∷ steps) = option_or (option_map suc (last_place holds steps)) (if holds step then Some 0 else None)
