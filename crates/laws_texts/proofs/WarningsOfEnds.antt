-- If no step fails, the diagnostics after the ends of steps are warnings.
use Rattle.std.proofs.Common.{◌≡◌, ℕ, Bool, true, false, ◌||◌, cond, List, [], ◌∷◌, ◌++◌, All, Option, Some, None, refl, sym, ap, ◌∙◌, arith}
use Rattle.std.specs.Prelude.{IfSome, count_by, filter_map, option_and_then, slice_get}
use Rattle.std.specs.List.{Contains, cons_option, list_any}
use Rattle.std.proofs.lemmas.List.Elements.{All-cons, All-contains_itself, All-head, All-nil, All-tail, All-weaker}
use Rattle.std.proofs.lemmas.List.Sums.{sum_by-cons}
use Rattle.apply_model.specs.declared.details.note.Note.{Note}
use Rattle.apply_model.specs.declared.plan.step_kind.StepKind.{StepKind}
use Rattle.apply_model.specs.declared.script.outcome.Outcome.{Outcome}
use Rattle.apply_model.specs.Plan.ResourceChange.{ResourceChange}
use Rattle.apply_model.specs.Plan.SavedPlan.{SavedPlan}
use Rattle.apply_model.specs.Script.Outcome.{fails}
use Rattle.apply_model.specs.Script.OutcomeMap.{OutcomeMap, outcome_of}
use Rattle.apply_events.specs.declared.event.Event.{Event}
use Rattle.apply_events.specs.Step.{has_warning}
use Rattle.apply_events.specs.Totals.{is_complete, is_errored}
use Rattle.apply_events.proofs.Waits.Members.{filter_in}
use Rattle.apply_events.proofs.Waits.TurnSteps.{all_at}
use Rattle.apply_writer.specs.Stream.Terraform.{is_error}
use Rattle.laws_texts.specs.Notes.{ends_of, is_end}
use Rattle.laws_texts.specs.Streams.{note_of_step, told_after}

-- ---- which steps fail

pub none_from_count : (p : Event → Bool) (es : List Event) → count_by p es ≡ 0 → All (λ e. p e ≡ false) es
none_from_count p [] none = All-nil (λ e. p e ≡ false)
none_from_count p (e ∷ es) none =
    let all = sum_by-cons (λ (f : Event). cond {A = ℕ} (p f) 1 0) e es in
    let rest : count_by p es ≡ 0 = omega arith in
    let first : cond {A = ℕ} (p e) 1 0 ≡ 0 = omega arith in
    All-cons (λ f. p f ≡ false) e es (no_one (p e) first) (none_from_count p es rest)
  where
    no_one : (t : Bool) → cond {A = ℕ} t 1 0 ≡ 0 → t ≡ false
    no_one true is = absurd (omega arith)
    no_one false is = refl

or_first : (a b : Bool) → (a || b) ≡ true → b ≡ false → a ≡ true
or_first true b is none = refl
or_first false b is none = sym none ∙ is

-- the step of the event succeeds with this script
abbrev pub Succeeds : OutcomeMap → Event → Type 0
Succeeds script e = fails (outcome_of script e.change e.step) ≡ false

pub ends_succeed : (script : OutcomeMap) (es : List Event) → All (λ e. is_errored e.what ≡ false) es → All (λ e. is_complete e.what ≡ true → Succeeds script e) es
    → All (Succeeds script) (ends_of es)
ends_succeed script es none succeed =
    All-weaker (Contains (ends_of es)) (Succeeds script)
    (λ e there.
    let both = filter_in (λ e. is_end e.what) es e there in
    let not_errored = all_at (λ (e : Event). is_errored e.what ≡ false) es e none both.0 in
    all_at (λ e. is_complete e.what ≡ true → Succeeds script e) es e succeed both.0 (or_first (is_complete e.what) (is_errored e.what) both.1 not_errored))
    (ends_of es) (All-contains_itself (ends_of es))

-- ---- what they show

abbrev IsMild : Note → Type 0
IsMild note = is_error note ≡ false

of_answer : (address : Option (List ℕ)) (outcome : Outcome) (f w : Bool) → fails outcome ≡ f → has_warning outcome.result ≡ w → f ≡ false
    → IfSome (note_of_step address outcome) IsMild
of_answer address outcome true w fails warns none = absurd cc
of_answer address outcome false true fails warns none = rw (fails, warns) refl
of_answer address outcome false false fails warns none = rw (fails, warns) tt

of_kind : (kind : Option StepKind) (note : StepKind → Option Note) → ((kind : StepKind) → IfSome (note kind) IsMild) → IfSome (option_and_then note kind) IsMild
of_kind None note mild = tt
of_kind (Some kind) note mild = mild kind

of_change : (change : Option ResourceChange) (k : ℕ) (note : ResourceChange → StepKind → Option Note)
    → ((c : ResourceChange) (kind : StepKind) → IfSome (note c kind) IsMild)
    → IfSome (option_and_then (λ (c : ResourceChange). option_and_then (λ kind. note c kind) (slice_get c.steps k)) change) IsMild
of_change None k note mild = tt
of_change (Some c) k note mild = of_kind (slice_get c.steps k) (note c) (mild c)

put_mild : (note : Option Note) (notes : List Note) → IfSome note IsMild → list_any is_error notes ≡ false → list_any is_error (cons_option note notes) ≡ false
put_mild None notes mild rest = rest
put_mild (Some note) notes mild rest = ap (λ t. t || list_any is_error notes) mild ∙ rest

module _ (address : ResourceChange → StepKind → Outcome → Option (List ℕ)) (plan : SavedPlan) (script : OutcomeMap) where
  told_mild : (e : Event) → Succeeds script e → IfSome (told_after address plan script e) IsMild
  told_mild e succeeds =
      let outcome = outcome_of script e.change e.step in
      of_change (slice_get plan.changes e.change) e.step (λ c kind. note_of_step (address c kind outcome) outcome)
      (λ c kind. of_answer (address c kind outcome) outcome (fails outcome) (has_warning outcome.result) refl refl succeeds)

  pub none_severe : (es : List Event) → All (Succeeds script) es → list_any is_error (filter_map (told_after address plan script) es) ≡ false
  none_severe [] succeed = refl
  none_severe (e ∷ es) succeed =
      put_mild (told_after address plan script e) (filter_map (told_after address plan script) es)
      (told_mild e (All-head (Succeeds script) e es succeed)) (none_severe es (All-tail (Succeeds script) e es succeed))

-- diagnostics after others of which none is an error
pub any-append_mild : (xs ys : List Note) → list_any is_error xs ≡ false → list_any is_error (xs ++ ys) ≡ list_any is_error ys
any-append_mild [] ys none = refl
any-append_mild (x ∷ xs) ys none =
    let first : is_error x ≡ false = or_none (is_error x) (list_any is_error xs) none in
    let rest : list_any is_error xs ≡ false = sym (ap (λ t. t || list_any is_error xs) first) ∙ none in
    ap (λ t. t || list_any is_error (xs ++ ys)) first ∙ any-append_mild xs ys rest
  where
    or_none : (a b : Bool) → (a || b) ≡ false → a ≡ false
    or_none true b is = is
    or_none false b is = refl
