-- Texts of a step that is looked up in a plan.
use Rattle.std.proofs.Common.{◌≡◌, ℕ, List, [], ◌∷◌, ◌++◌, All, Option, Some, None, refl, ap, ◌∙◌}
use Rattle.std.specs.Prelude.{filter_map, flat_map, option_and_then, slice_get}
use Rattle.std.specs.List.{cons_option}
use Rattle.std.specs.Option.{option_map_or}
use Rattle.std.proofs.lemmas.List.Elements.{All-head, All-tail}
use Rattle.apply_model.specs.declared.details.note.Note.{Note}
use Rattle.apply_model.specs.declared.plan.step_kind.StepKind.{StepKind}
use Rattle.apply_model.specs.Plan.ResourceChange.{ResourceChange}
use Rattle.apply_model.specs.Plan.SavedPlan.{SavedPlan}
use Rattle.apply_events.specs.declared.event.Event.{Event}
use Rattle.apply_events.specs.Step.{kinds_of}

-- the text of step k of change c; empty where the plan has no such step
abbrev pub text_at : SavedPlan → (c k : ℕ) → (ResourceChange → StepKind → List ℕ) → List ℕ
text_at plan c k text =
    option_map_or (λ change. option_map_or (λ kind. text change kind) (slice_get change.steps k) []) (slice_get plan.changes c) []

same_kind : (kinds : Option StepKind) (f g : StepKind → List ℕ) → ((kind : StepKind) → kinds ≡ Some kind → g kind ≡ f kind)
    → option_map_or g kinds [] ≡ option_map_or f kinds []
same_kind None f g same = refl
same_kind (Some kind) f g same = same kind refl

same_change : (change : Option ResourceChange) (k : ℕ) (f g : ResourceChange → StepKind → List ℕ)
    → ((c : ResourceChange) (kind : StepKind) → slice_get (option_map_or (λ (c : ResourceChange). c.steps) change []) k ≡ Some kind → g c kind ≡ f c kind)
    → option_map_or (λ c. option_map_or (λ kind. g c kind) (slice_get c.steps k) []) change []
    ≡ option_map_or (λ c. option_map_or (λ kind. f c kind) (slice_get c.steps k) []) change []
same_change None k f g same = refl
same_change (Some c) k f g same = same_kind (slice_get c.steps k) (f c) (g c) (same c)

-- the texts are equal if they are for a step of the plan
pub same_text : (plan : SavedPlan) (c k : ℕ) (f g : ResourceChange → StepKind → List ℕ)
    → ((change : ResourceChange) (kind : StepKind) → slice_get (kinds_of plan c) k ≡ Some kind → g change kind ≡ f change kind)
    → text_at plan c k g ≡ text_at plan c k f
same_text plan c k f g same = same_change (slice_get plan.changes c) k f g same

-- ---- the diagnostic that a text shows

found_kind : (kind : Option StepKind) (text : StepKind → List ℕ) (shown : StepKind → Option Note) (line : Note → List ℕ)
    → ((kind : StepKind) → text kind ≡ option_map_or line (shown kind) [])
    → option_map_or text kind [] ≡ option_map_or line (option_and_then shown kind) []
found_kind None text shown line is = refl
found_kind (Some kind) text shown line is = is kind

pub found_text : (found : Option ResourceChange) (k : ℕ) (text : ResourceChange → StepKind → List ℕ) (shown : ResourceChange → StepKind → Option Note) (line : Note → List ℕ)
    → ((change : ResourceChange) (kind : StepKind) → text change kind ≡ option_map_or line (shown change kind) [])
    → option_map_or (λ change. option_map_or (λ kind. text change kind) (slice_get change.steps k) []) found []
    ≡ option_map_or line (option_and_then (λ change. option_and_then (λ kind. shown change kind) (slice_get change.steps k)) found) []
found_text None k text shown line is = refl
found_text (Some change) k text shown line is = found_kind (slice_get change.steps k) (text change) (shown change) line (is change)

shown_next : (line : Note → List ℕ) (shown : Option Note) (notes : List Note) → option_map_or line shown [] ++ flat_map line notes ≡ flat_map line (cons_option shown notes)
shown_next line None notes = refl
shown_next line (Some note) notes = refl

-- the texts of events are the lines of the diagnostics that they show
pub texts_of_notes : (text : Event → List ℕ) (shown : Event → Option Note) (line : Note → List ℕ) (es : List Event)
    → All (λ e. text e ≡ option_map_or line (shown e) []) es → flat_map text es ≡ flat_map line (filter_map shown es)
texts_of_notes text shown line [] is = refl
texts_of_notes text shown line (e ∷ es) is =
    let P : Event → Type 0 = λ e. text e ≡ option_map_or line (shown e) [] in
    ap (λ l. l ++ flat_map text es) (All-head P e es is)
    ∙ ap (λ l. option_map_or line (shown e) [] ++ l) (texts_of_notes text shown line es (All-tail P e es is))
    ∙ shown_next line (shown e) (filter_map shown es)
