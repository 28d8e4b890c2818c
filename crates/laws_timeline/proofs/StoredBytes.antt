-- How many bytes of a stream are stored at most, and which lines change that.
use Rattle.std.proofs.Common.{◌≡◌, ℕ, ◌+◌, ◌≤◌, ℤ, List, [], ◌∷◌, Bool, true, false, fold, map, Option, Some, None, suc, zero, refl, sym, ap, ap₂, ◌∙◌, subst, ⊎_elim, arith}
use Rattle.std.specs.Prelude.{codes, is_none}
use Rattle.std.specs.List.{sum_by}
use Rattle.std.specs.Option.{option_map_or}
use Rattle.std.specs.Str.{bytes_eq}
use Rattle.std.proofs.lemmas.Bool.{cases_Bool}
use Rattle.std.proofs.lemmas.List.Sums.{sum_by-cons}
use Rattle.std.proofs.lemmas.Slice.Eq.{bytes_eq-Decides}
use Rattle.serde_json.specs.Data.{Data}
use Rattle.apply_json.specs.Tree.{◌>>=◌, text_of, tree_of}
use Rattle.stream_message.specs.Members.{time_of}
use Rattle.stream_timeline.specs.Memory.{stored_bytes, provisioner_bytes, step_bytes}
use Rattle.laws_timeline.specs.Memory.{allowed_bytes, is_stored, is_stored_line, is_progress, is_progress_line, is_progress_type}
use Rattle.stream_timeline.specs.Messages.{Message, Content, begins, ends, begins_provisioner, ends_provisioner, error, warning, version, plan_summary, summary, other, unusable, message_at, message_of, content_of, tree_message}
use Rattle.stream_timeline.specs.OpenPlaces.{text_bytes}
use Rattle.stream_timeline.specs.Steps.{ProvisionerRead, StepRead, at_place, ended, ended_with_step, first_of, is_open_at, is_open_with, last_of, passes_at, places, has_open_provisioner, with_last_ended, with_provisioner_ended}
use Rattle.stream_timeline.specs.TimelineRead.{TimelineRead, is_blank_line, empty_timeline, timeline_of, with_line, with_message_or_passed_over, with_passed_over, with_provisioner_end_at, with_content}
use Rattle.laws_timeline.proofs.DiagnosticBytes.{AreFew, Fits, one_more_fits, content_fits}
use Rattle.stream_timeline.proofs.Holding.{placed_index}

-- ---- how much it is at most

record AreBounded (t : TimelineRead) : Type 0 where
  errors : AreFew t.errors
  warnings : AreFew t.warnings

bounded_where : (more : ℕ → TimelineRead) (o : Option ℕ) (none : TimelineRead) → ((place : ℕ) → AreBounded (more place)) → AreBounded none → AreBounded (option_map_or more o none)
bounded_where more None none h k = k
bounded_where more (Some place) none h k = h place

same_bounded : (t u : TimelineRead) → u.errors ≡ t.errors → u.warnings ≡ t.warnings → AreBounded t → AreBounded u
same_bounded t u errors warnings h = record { errors = subst AreFew (sym errors) h.errors; warnings = subst AreFew (sym warnings) h.warnings }

provisioner_end_bounded : (place : ℕ) (failed : Bool) (m : ℤ) (t : TimelineRead) → AreBounded t → AreBounded (with_provisioner_end_at place failed m t)
provisioner_end_bounded place failed m t h =
    ⊎_elim
    (λ (yes : passes_at place has_open_provisioner t.steps ≡ true). rw yes (same_bounded t _ refl refl h))
    (λ (no : passes_at place has_open_provisioner t.steps ≡ false). rw no (same_bounded t _ refl refl h))
    (cases_Bool (passes_at place has_open_provisioner t.steps))

content_bounded : (m : ℤ) (content : Content) (t : TimelineRead) → Fits content → AreBounded t → AreBounded (with_content m content t)
content_bounded m (begins address action) t f h = same_bounded t _ refl refl h
content_bounded m (ends address action failed) t f h =
    bounded_where _ (first_of (places (is_open_with address action) t.steps)) (with_passed_over t) (λ place. same_bounded t _ refl refl h) (same_bounded t _ refl refl h)
content_bounded m (begins_provisioner address name) t f h =
    bounded_where _ (last_of (places (is_open_at address) t.steps)) (with_passed_over t) (λ place. same_bounded t _ refl refl h) (same_bounded t _ refl refl h)
content_bounded m (ends_provisioner address failed) t f h =
    bounded_where _ (last_of (places (is_open_at address) t.steps)) (with_passed_over t) (λ place. provisioner_end_bounded place failed m t h) (same_bounded t _ refl refl h)
content_bounded m (error address d) t f h = record { errors = one_more_fits d t.errors f.is h.errors; warnings = h.warnings }
content_bounded m (warning d) t f h = record { errors = h.errors; warnings = one_more_fits d t.warnings f.is h.warnings }
content_bounded m (version text) t f h = same_bounded t _ refl refl h
content_bounded m (plan_summary totals) t f h = same_bounded t _ refl refl h
content_bounded m (summary totals) t f h = same_bounded t _ refl refl h
content_bounded m other t f h = h
content_bounded m unusable t f h = same_bounded t _ refl refl h

message_bounded : (message : Option Message) (t : TimelineRead) → ((m : Message) → message ≡ Some m → Fits m.content) → AreBounded t → AreBounded (with_message_or_passed_over message t)
message_bounded None t f h = same_bounded t _ refl refl h
message_bounded (Some message) t f h = content_bounded message.time message.content _ (f message refl) (same_bounded t _ refl refl h)

typed_fits : (d : Data) (n : Option (List ℕ)) (time : Option ℤ) (m : Message) → (n >>= λ name. (time >>= λ at. Some (message_at name d at))) ≡ Some m → Fits m.content
typed_fits d None time m e = absurd cc
typed_fits d (Some name) None m e = absurd cc
typed_fits d (Some name) (Some at) m e =
    let same : message_at name d at ≡ m = cc in
    subst (λ (x : Message). Fits x.content) same (content_fits name d)

tree_fits : (o : Option Data) (m : Message) → (o >>= tree_message) ≡ Some m → Fits m.content
tree_fits None m e = absurd cc
tree_fits (Some d) m e = typed_fits d (text_of (codes "type") d) (time_of d) m e

line_bounded : (line : List ℕ) (t : TimelineRead) → AreBounded t → AreBounded (with_line line t)
line_bounded line t h =
    ⊎_elim
    (λ (yes : is_blank_line line ≡ true). rw yes (same_bounded t _ refl refl h))
    (λ (no : is_blank_line line ≡ false). rw no (message_bounded (message_of line) _ (λ m e. tree_fits (tree_of line) m e) (same_bounded t _ refl refl h)))
    (cases_Bool (is_blank_line line))

all_bounded : (lines : List (List ℕ)) (t : TimelineRead) → AreBounded t → AreBounded (fold (λ t line. with_line line t) t lines)
all_bounded [] t h = h
all_bounded (line ∷ lines) t h = all_bounded lines (with_line line t) (line_bounded line t h)

none_few : AreFew empty_timeline.errors
none_few = record { count = omega arith; bytes = omega arith }

pub bytes_allowed : (lines : List (List ℕ)) → stored_bytes (timeline_of lines) ≤ allowed_bytes (timeline_of lines)
bytes_allowed lines =
    let few = all_bounded lines empty_timeline (record { errors = none_few; warnings = none_few }) in
    let errors = few.errors.count in
    let warnings = few.warnings.count in
    let error_bytes = few.errors.bytes in
    let warning_bytes = few.warnings.bytes in
    omega (arith, errors, warnings, error_bytes, warning_bytes)

-- ---- which lines change it

with_step_name : (e : ℤ) (p : ProvisionerRead) → (ended_with_step e p).name ≡ p.name
with_step_name e p =
    ⊎_elim (λ (yes : is_none p.end ≡ true). rw yes refl) (λ (no : is_none p.end ≡ false). rw no refl) (cases_Bool (is_none p.end))

with_step_bytes : (e : ℤ) (ps : List ProvisionerRead) → sum_by provisioner_bytes (map (ended_with_step e) ps) ≡ sum_by provisioner_bytes ps
with_step_bytes e [] = refl
with_step_bytes e (p ∷ ps) =
    sum_by-cons provisioner_bytes (ended_with_step e p) (map (ended_with_step e) ps)
    ∙ (ap₂ (λ (name : List ℕ) (n : ℕ). text_bytes name + 32 + n) (with_step_name e p) (with_step_bytes e ps) ∙ sym (sum_by-cons provisioner_bytes p ps))

last_bytes : (m : ℤ) (failed : Bool) (ps : List ProvisionerRead) → sum_by provisioner_bytes (with_last_ended m failed ps) ≡ sum_by provisioner_bytes ps
last_bytes m failed [] = refl
last_bytes m failed (p ∷ []) = refl
last_bytes m failed (p ∷ (q ∷ ps)) =
    sum_by-cons provisioner_bytes p (with_last_ended m failed (q ∷ ps))
    ∙ (ap (λ (n : ℕ). provisioner_bytes p + n) (last_bytes m failed (q ∷ ps)) ∙ sym (sum_by-cons provisioner_bytes p (q ∷ ps)))

placed_bytes : (k : ℕ) (f : StepRead → StepRead) (steps : List StepRead) → ((s : StepRead) → step_bytes (f s) ≡ step_bytes s)
    → sum_by step_bytes (at_place k f steps) ≡ sum_by step_bytes steps
placed_bytes k f [] same = refl
placed_bytes zero f (s ∷ ss) same =
    sum_by-cons step_bytes (f s) ss ∙ (ap (λ (n : ℕ). n + sum_by step_bytes ss) (same s) ∙ sym (sum_by-cons step_bytes s ss))
placed_bytes (suc k) f (s ∷ ss) same =
    sum_by-cons step_bytes s (at_place k f ss) ∙ (ap (λ (n : ℕ). step_bytes s + n) (placed_bytes k f ss same) ∙ sym (sum_by-cons step_bytes s ss))

abbrev Same : TimelineRead → TimelineRead → Type 0
Same t u = stored_bytes u ≡ stored_bytes t

-- a step changes, and its texts don't
step_same : (k : ℕ) (f : StepRead → StepRead) (t : TimelineRead) → ((s : StepRead) → step_bytes (f s) ≡ step_bytes s) → ((s : StepRead) → (f s).address ≡ s.address)
    → Same t (record t { steps = at_place k f t.steps })
step_same k f t bytes address = let steps = placed_bytes k f t.steps bytes in let index = placed_index k f t.steps address in omega (arith, steps, index)

same_where : (more : ℕ → TimelineRead) (o : Option ℕ) (none t : TimelineRead) → ((place : ℕ) → Same t (more place)) → Same t none → Same t (option_map_or more o none)
same_where more None none t h k = k
same_where more (Some place) none t h k = h place

ended_bytes : (m : ℤ) (failed : Bool) (s : StepRead) → step_bytes (ended m failed s) ≡ step_bytes s
ended_bytes m failed s = let names = with_step_bytes _ s.provisioners in ap (λ (n : ℕ). text_bytes s.address + text_bytes s.action + 64 + n) names

provisioner_end_same : (place : ℕ) (failed : Bool) (m : ℤ) (t : TimelineRead) → Same t (with_provisioner_end_at place failed m t)
provisioner_end_same place failed m t =
    ⊎_elim
    (λ (yes : passes_at place has_open_provisioner t.steps ≡ true).
    rw yes (step_same place (with_provisioner_ended m failed) t (λ s. ap (λ (n : ℕ). text_bytes s.address + text_bytes s.action + 64 + n) (last_bytes m failed s.provisioners)) (λ s. refl)))
    (λ (no : passes_at place has_open_provisioner t.steps ≡ false). rw no refl)
    (cases_Bool (passes_at place has_open_provisioner t.steps))

content_same : (m : ℤ) (content : Content) (t : TimelineRead) → is_stored content ≡ false → Same t (with_content m content t)
content_same m (begins address action) t e = absurd cc
content_same m (ends address action failed) t e =
    same_where _ (first_of (places (is_open_with address action) t.steps)) (with_passed_over t) t
    (λ place. step_same place (ended m failed) t (ended_bytes m failed) (λ s. refl)) refl
content_same m (begins_provisioner address name) t e = absurd cc
content_same m (ends_provisioner address failed) t e =
    same_where _ (last_of (places (is_open_at address) t.steps)) (with_passed_over t) t (λ place. provisioner_end_same place failed m t) refl
content_same m (error address d) t e = absurd cc
content_same m (warning d) t e = absurd cc
content_same m (version text) t e = absurd cc
content_same m (plan_summary totals) t e = refl
content_same m (summary totals) t e = refl
content_same m other t e = refl
content_same m unusable t e = refl

message_same : (message : Option Message) (t : TimelineRead) → option_map_or (λ (x : Message). is_stored x.content) message false ≡ false → Same t (with_message_or_passed_over message t)
message_same None t e = refl
message_same (Some message) t e = content_same message.time message.content _ e

pub line_same : (line : List ℕ) (t : TimelineRead) → is_stored_line line ≡ false → stored_bytes (with_line line t) ≡ stored_bytes t
line_same line t e =
    ⊎_elim
    (λ (yes : is_blank_line line ≡ true). rw yes refl)
    (λ (no : is_blank_line line ≡ false). rw no (message_same (message_of line) _ (rw no at e)))
    (cases_Bool (is_blank_line line))

-- ---- a line of progress

abbrev is_stored_message : Message → Bool
is_stored_message message = is_stored message.content

typed_progress : (name : List ℕ) (d : Data) → is_progress_type name ≡ true → is_stored (content_of name d) ≡ false
typed_progress name d e =
    ⊎_elim
    (λ (apply : bytes_eq name (codes "apply_progress") ≡ true).
    let same : name ≡ codes "apply_progress" = (bytes_eq-Decides name (codes "apply_progress")).0 apply in
    rw same refl)
    (λ (no : bytes_eq name (codes "apply_progress") ≡ false).
    let same : name ≡ codes "provision_progress" = (bytes_eq-Decides name (codes "provision_progress")).0 (rw no at e) in
    rw same refl)
    (cases_Bool (bytes_eq name (codes "apply_progress")))

message_progress : (d : Data) (n : Option (List ℕ)) (time : Option ℤ) → option_map_or is_progress_type n false ≡ true
    → option_map_or is_stored_message (n >>= λ name. (time >>= λ at. Some (message_at name d at))) false ≡ false
message_progress d None time e = refl
message_progress d (Some name) None e = refl
message_progress d (Some name) (Some at) e = typed_progress name d e

tree_progress : (o : Option Data) → option_map_or is_progress o false ≡ true → option_map_or is_stored_message (o >>= tree_message) false ≡ false
tree_progress None e = refl
tree_progress (Some d) e = message_progress d (text_of (codes "type") d) (time_of d) e

pub progress_is_not_stored : (line : List ℕ) → is_progress_line line ≡ true → is_stored_line line ≡ false
progress_is_not_stored line e =
    ⊎_elim
    (λ (yes : is_blank_line line ≡ true). rw yes refl)
    (λ (no : is_blank_line line ≡ false). rw no (tree_progress (tree_of line) e))
    (cases_Bool (is_blank_line line))
