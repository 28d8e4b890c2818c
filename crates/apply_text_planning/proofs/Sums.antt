-- The totals of a plan are the numbers of its planned lines.
use Rattle.std.proofs.Common.{All, ◌≡◌, ℕ, suc, ◌+◌, List, [], ◌∷◌, codes, Bool, true, false, cond, Some, None, refl, sym, ap, ap₂, ◌∙◌, subst, arith}
use Rattle.std.specs.Prelude.{◌||◌, if◌then◌else◌, is_some}
use Rattle.std.specs.List.{count_by}
use Rattle.std.specs.Option.{option_map_or, option_or}
use Rattle.std.specs.Str.{bytes_eq}
use Rattle.std.proofs.lemmas.List.Sums.{sum_by-cons}
use Rattle.apply_model.specs.declared.details.change_details.ChangeDetails.{ChangeDetails}
use Rattle.apply_model.specs.declared.plan.action.Action.{Action}
use Rattle.apply_model.specs.declared.plan.action.Action.TheVariants as action
use Rattle.apply_model.specs.declared.plan.step_kind.StepKind.{StepKind}
use Rattle.apply_model.specs.declared.plan.step_kind.StepKind.TheVariants.{Create, Update, Delete}
use Rattle.apply_model.specs.Plan.Action.{steps_of_action}
use Rattle.apply_model.specs.Plan.ResourceChange.{ResourceChange}
use Rattle.apply_model.specs.Plan.StepKind.{is_kind}
use Rattle.apply_text_planning.specs.Laws.{CountsLines, HasAction, shows}
use Rattle.apply_text_planning.specs.Totals.{steps_of_kind}
use Rattle.apply_text_planning.specs.Words.{command_word}

-- without a step no line shows a word of a step
quiet : (test : List ℕ → Bool) → test (codes "remove") ≡ false → test (codes "move") ≡ false → test (codes "import") ≡ false → (forgets moved imports : Bool)
    → option_map_or test (option_or (if forgets then Some (codes "remove") else None) (if moved then Some (codes "move") else if imports then Some (codes "import") else None)) false ≡ false
quiet test removes moves imports true moved imported = removes
quiet test removes moves imports false true imported = moves
quiet test removes moves imports false false true = imports
quiet test removes moves imports false false false = refl

-- one or none, where the steps show a word
abbrev shown_in : (first second : List ℕ) → List StepKind → ChangeDetails → ℕ
shown_in first second steps details = cond (option_map_or (λ word. bytes_eq word first || bytes_eq word second) (command_word steps details) false) 1 0

no_steps : (first second : List ℕ) (details : ChangeDetails) → (bytes_eq (codes "remove") first || bytes_eq (codes "remove") second) ≡ false
    → (bytes_eq (codes "move") first || bytes_eq (codes "move") second) ≡ false → (bytes_eq (codes "import") first || bytes_eq (codes "import") second) ≡ false
    → 0 ≡ shown_in first second [] details
no_steps first second details removes moves imports =
    sym (ap (λ b. cond b 1 0) (quiet (λ word. bytes_eq word first || bytes_eq word second) removes moves imports details.forgets (is_some details.previous) (is_some details.importing)))

adds : (a : Action) (details : ChangeDetails) → count_by (is_kind Create) (steps_of_action a) ≡ shown_in (codes "create") (codes "replace") (steps_of_action a) details
adds action.NoOp details = no_steps (codes "create") (codes "replace") details refl refl refl
adds action.Create details = refl
adds action.Read details = refl
adds action.Update details = refl
adds action.Delete details = refl
adds action.DeleteThenCreate details = refl
adds action.CreateThenDelete details = refl
adds action.Forget details = no_steps (codes "create") (codes "replace") details refl refl refl

changes : (a : Action) (details : ChangeDetails) → count_by (is_kind Update) (steps_of_action a) ≡ shown_in (codes "update") (codes "update") (steps_of_action a) details
changes action.NoOp details = no_steps (codes "update") (codes "update") details refl refl refl
changes action.Create details = refl
changes action.Read details = refl
changes action.Update details = refl
changes action.Delete details = refl
changes action.DeleteThenCreate details = refl
changes action.CreateThenDelete details = refl
changes action.Forget details = no_steps (codes "update") (codes "update") details refl refl refl

removes : (a : Action) (details : ChangeDetails) → count_by (is_kind Delete) (steps_of_action a) ≡ shown_in (codes "delete") (codes "replace") (steps_of_action a) details
removes action.NoOp details = no_steps (codes "delete") (codes "replace") details refl refl refl
removes action.Create details = refl
removes action.Read details = refl
removes action.Update details = refl
removes action.Delete details = refl
removes action.DeleteThenCreate details = refl
removes action.CreateThenDelete details = refl
removes action.Forget details = no_steps (codes "delete") (codes "replace") details refl refl refl

-- what holds of each action holds of all planned changes
of_all : (kind : StepKind) (first second : List ℕ) → ((a : Action) (details : ChangeDetails) → count_by (is_kind kind) (steps_of_action a) ≡ shown_in first second (steps_of_action a) details)
    → (planned : List (ResourceChange × ChangeDetails)) → All HasAction planned → steps_of_kind kind planned ≡ count_by (shows first second) planned
of_all kind first second each [] all = refl
of_all kind first second each (p ∷ planned) all =
    let own : ResourceChange × ChangeDetails → ℕ = λ p. count_by (is_kind kind) p.0.steps in
    let line : ResourceChange × ChangeDetails → ℕ = λ p. cond (shows first second p) 1 0 in
    let has : HasAction p = all 0 p (omega arith) in
    let here : own p ≡ line p = subst (λ steps. count_by (is_kind kind) steps ≡ shown_in first second steps p.1) (sym has.1) (each has.0 p.1) in
    sum_by-cons own p planned ∙ ap₂ (λ a b. a + b) here (of_all kind first second each planned (λ k d below. all (suc k) d (omega (arith, below)))) ∙ sym (sum_by-cons line p planned)

pub counts_lines : (planned : List (ResourceChange × ChangeDetails)) → All HasAction planned → CountsLines planned
counts_lines planned all = record {
  added = of_all Create (codes "create") (codes "replace") adds planned all;
  changed = of_all Update (codes "update") (codes "update") changes planned all;
  removed = of_all Delete (codes "delete") (codes "replace") removes planned all;
}
