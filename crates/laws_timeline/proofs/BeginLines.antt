-- Each line that begins a step gives one, and no other line does.
use Rattle.std.proofs.Common.{◌≡◌, ℕ, ◌+◌, ℤ, List, [], ◌∷◌, ◌++◌, Bool, true, false, cond, map, Option, Some, None, fold, suc, zero, refl, sym, ap, ◌∙◌, ⊎_elim}
use Rattle.std.specs.Option.{option_map_or}
use Rattle.std.proofs.lemmas.Bool.{cases_Bool}
use Rattle.std.proofs.lemmas.List.{append-nil, append_assoc, map_push}
use Rattle.laws_timeline.specs.Messages.{begin_lines, starts_step, is_begin}
use Rattle.stream_timeline.specs.Messages.{Message, Content, begins, ends, begins_provisioner, ends_provisioner, error, warning, version, plan_summary, summary, other, unusable, message_of}
use Rattle.stream_timeline.specs.Steps.{StepRead, at_place, begun_step, ended, first_of, is_open_at, is_open_with, last_of, marked_by_error, passes_at, places, places_from, has_open_provisioner, with_provisioner, with_provisioner_ended}
use Rattle.stream_timeline.specs.TimelineRead.{TimelineRead, counted_line, is_blank_line, empty_timeline, timeline_of, with_line, with_message_or_passed_over, with_passed_over, with_provisioner_end_at, with_content}
use Rattle.stream_timeline.proofs.Counted.{one_counted}

abbrev lines_of : List StepRead → List ℕ
lines_of steps = map (λ (s : StepRead). s.line) steps

-- ---- what becomes of steps leaves their lines

placed : (k : ℕ) (f : StepRead → StepRead) (steps : List StepRead) → ((s : StepRead) → (f s).line ≡ s.line) → lines_of (at_place k f steps) ≡ lines_of steps
placed k f [] same = refl
placed zero f (s ∷ ss) same = ap (λ n. n ∷ lines_of ss) (same s)
placed (suc k) f (s ∷ ss) same = ap (λ ns. s.line ∷ ns) (placed k f ss same)

marked_line : (address : Option (List ℕ)) (s : StepRead) → (marked_by_error address s).line ≡ s.line
marked_line None s = refl
marked_line (Some a) s =
    ⊎_elim (λ (yes : is_open_at a s ≡ true). rw yes refl) (λ (no : is_open_at a s ≡ false). rw no refl) (cases_Bool (is_open_at a s))

all_marked : (address : Option (List ℕ)) (steps : List StepRead) → lines_of (map (marked_by_error address) steps) ≡ lines_of steps
all_marked address [] = refl
all_marked address (s ∷ ss) = rw (marked_line address s) (ap (λ ns. s.line ∷ ns) (all_marked address ss))

-- ---- what a message says

abbrev Stay : TimelineRead → TimelineRead → Type 0
Stay t u = lines_of u.steps ≡ lines_of t.steps

stay_where : (more : ℕ → TimelineRead) (o : Option ℕ) (none t : TimelineRead) → ((place : ℕ) → Stay t (more place)) → Stay t none → Stay t (option_map_or more o none)
stay_where more None none t h k = k
stay_where more (Some place) none t h k = h place

provisioner_end_stays : (place : ℕ) (failed : Bool) (m : ℤ) (t : TimelineRead) → Stay t (with_provisioner_end_at place failed m t)
provisioner_end_stays place failed m t =
    ⊎_elim
    (λ (yes : passes_at place has_open_provisioner t.steps ≡ true). rw yes (placed place (with_provisioner_ended m failed) t.steps (λ s. refl)))
    (λ (no : passes_at place has_open_provisioner t.steps ≡ false). rw no refl)
    (cases_Bool (passes_at place has_open_provisioner t.steps))

abbrev one_where : Bool → ℕ → List ℕ
one_where b n = cond b (n ∷ []) []

no_more : (before after : List ℕ) → after ≡ before → after ≡ before ++ []
no_more before after h = h ∙ sym (append-nil before)

content_lines : (m : ℤ) (content : Content) (t : TimelineRead) → lines_of (with_content m content t).steps ≡ lines_of t.steps ++ one_where (is_begin content) t.lines
content_lines m (begins address action) t = map_push (λ (s : StepRead). s.line) t.steps (begun_step t.lines address action m)
content_lines m (ends address action failed) t =
    no_more _ _ (stay_where _ (first_of (places (is_open_with address action) t.steps)) (with_passed_over t) t (λ place. placed place (ended m failed) t.steps (λ s. refl)) refl)
content_lines m (begins_provisioner address name) t =
    no_more _ _ (stay_where _ (last_of (places (is_open_at address) t.steps)) (with_passed_over t) t (λ place. placed place (with_provisioner name m) t.steps (λ s. refl)) refl)
content_lines m (ends_provisioner address failed) t =
    no_more _ _ (stay_where _ (last_of (places (is_open_at address) t.steps)) (with_passed_over t) t (λ place. provisioner_end_stays place failed m t) refl)
content_lines m (error address d) t = no_more _ _ (all_marked address t.steps)
content_lines m (warning d) t = no_more _ _ refl
content_lines m (version text) t = no_more _ _ refl
content_lines m (plan_summary totals) t = no_more _ _ refl
content_lines m (summary totals) t = no_more _ _ refl
content_lines m other t = no_more _ _ refl
content_lines m unusable t = no_more _ _ refl

-- ---- a line

message_lines : (message : Option Message) (t : TimelineRead)
    → lines_of (with_message_or_passed_over message t).steps ≡ lines_of t.steps ++ one_where (option_map_or (λ (x : Message). is_begin x.content) message false) t.lines
message_lines None t = no_more _ _ refl
message_lines (Some message) t = content_lines message.time message.content _

line_lines : (line : List ℕ) (t : TimelineRead) → lines_of (with_line line t).steps ≡ lines_of t.steps ++ one_where (starts_step line) (t.lines + 1)
line_lines line t =
    ⊎_elim
    (λ (yes : is_blank_line line ≡ true). rw yes (sym (append-nil (lines_of t.steps))))
    (λ (no : is_blank_line line ≡ false). rw no (message_lines (message_of line) (counted_line line t)))
    (cases_Bool (is_blank_line line))

one_on : (b : Bool) (n : ℕ) (ns : List ℕ) → one_where b n ++ ns ≡ cond b (n ∷ ns) ns
one_on true n ns = refl
one_on false n ns = refl

all_lines : (lines : List (List ℕ)) (t : TimelineRead) → lines_of (fold (λ t line. with_line line t) t lines).steps ≡ lines_of t.steps ++ places_from (t.lines + 1) starts_step lines
all_lines [] t = sym (append-nil (lines_of t.steps))
all_lines (line ∷ lines) t =
    all_lines lines (with_line line t)
    ∙ (ap (λ ns. ns ++ places_from ((with_line line t).lines + 1) starts_step lines) (line_lines line t)
    ∙ (append_assoc (lines_of t.steps) (one_where (starts_step line) (t.lines + 1)) (places_from ((with_line line t).lines + 1) starts_step lines)
    ∙ ap (λ ns. lines_of t.steps ++ ns)
    (one_on (starts_step line) (t.lines + 1) (places_from ((with_line line t).lines + 1) starts_step lines)
    ∙ ap (λ (n : ℕ). cond (starts_step line) ((t.lines + 1) ∷ places_from (n + 1) starts_step lines) (places_from (n + 1) starts_step lines)) (one_counted line t))))

pub step_lines : (lines : List (List ℕ)) → map (λ (s : StepRead). s.line) (timeline_of lines).steps ≡ begin_lines lines
step_lines lines = all_lines lines empty_timeline
