-- How many lines are counted, and what one more line adds.
use Rattle.std.proofs.Common.{◌≡◌, ℕ, ◌+◌, ◌<◌, ℤ, List, [], ◌∷◌, Bool, true, false, cond, length, get_or, take, Option, Some, None, fold, refl, ◌∙◌, ⊎_elim, arith}
use Rattle.std.specs.Option.{option_map_or}
use Rattle.std.proofs.lemmas.Bool.{cases_Bool}
use Rattle.std.proofs.lemmas.List.Sums.{fold_more}
use Rattle.stream_message.specs.Runs.{is_version_text}
use Rattle.stream_timeline.specs.Messages.{Message, Content, begins, ends, begins_provisioner, ends_provisioner, error, warning, version, plan_summary, summary, other, unusable, message_of}
use Rattle.stream_timeline.specs.Steps.{first_of, is_open_at, is_open_with, last_of, passes_at, places, has_open_provisioner}
use Rattle.stream_timeline.specs.TimelineRead.{TimelineRead, counted_line, is_blank_line, empty_timeline, timeline_of, with_line, with_line_content, with_message_or_passed_over, with_passed_over, with_provisioner_end_at, with_content}

-- ---- what a message says counts no line and no run

-- of two ways on each of which the lines and the runs stay
abbrev Stays : TimelineRead → TimelineRead → Type 0
Stays t u = (u.lines ≡ t.lines) × (u.runs ≡ t.runs)

stays_where : (more : ℕ → TimelineRead) (o : Option ℕ) (none t : TimelineRead) → ((place : ℕ) → Stays t (more place)) → Stays t none → Stays t (option_map_or more o none)
stays_where more None none t h k = k
stays_where more (Some place) none t h k = h place

provisioner_end_stays : (place : ℕ) (failed : Bool) (m : ℤ) (t : TimelineRead) → Stays t (with_provisioner_end_at place failed m t)
provisioner_end_stays place failed m t =
    ⊎_elim
    (λ (yes : passes_at place has_open_provisioner t.steps ≡ true). rw yes (refl, refl))
    (λ (no : passes_at place has_open_provisioner t.steps ≡ false). rw no (refl, refl))
    (cases_Bool (passes_at place has_open_provisioner t.steps))

content_stays : (m : ℤ) (content : Content) (t : TimelineRead) → Stays t (with_content m content t)
content_stays m (begins address action) t = (refl, refl)
content_stays m (ends address action failed) t = stays_where _ (first_of (places (is_open_with address action) t.steps)) (with_passed_over t) t (λ place. (refl, refl)) (refl, refl)
content_stays m (begins_provisioner address name) t = stays_where _ (last_of (places (is_open_at address) t.steps)) (with_passed_over t) t (λ place. (refl, refl)) (refl, refl)
content_stays m (ends_provisioner address failed) t =
    stays_where _ (last_of (places (is_open_at address) t.steps)) (with_passed_over t) t (λ place. provisioner_end_stays place failed m t) (refl, refl)
content_stays m (error address d) t = (refl, refl)
content_stays m (warning d) t = (refl, refl)
content_stays m (version text) t = (refl, refl)
content_stays m (plan_summary totals) t = (refl, refl)
content_stays m (summary totals) t = (refl, refl)
content_stays m other t = (refl, refl)
content_stays m unusable t = (refl, refl)

message_stays : (message : Option Message) (t : TimelineRead) → Stays t (with_message_or_passed_over message t)
message_stays None t = (refl, refl)
message_stays (Some message) t = content_stays message.time message.content _

line_content_stays : (line : List ℕ) (t : TimelineRead) → Stays t (with_line_content line t)
line_content_stays line t =
    ⊎_elim
    (λ (yes : is_blank_line line ≡ true). rw yes (refl, refl))
    (λ (no : is_blank_line line ≡ false). rw no (message_stays (message_of line) t))
    (cases_Bool (is_blank_line line))

-- ---- a line counts one

pub one_counted : (line : List ℕ) (t : TimelineRead) → (with_line line t).lines ≡ t.lines + 1
one_counted line t = (line_content_stays line (counted_line line t)).0

pub run_counted : (line : List ℕ) (t : TimelineRead) → (with_line line t).runs ≡ cond (is_version_text line) (t.runs + 1) t.runs
run_counted line t = (line_content_stays line (counted_line line t)).1

pub read_more : (lines : List (List ℕ)) (n : ℕ) → n < length lines → timeline_of (take (n + 1) lines) ≡ with_line (get_or lines n []) (timeline_of (take n lines))
read_more lines n l = fold_more (λ t line. with_line line t) empty_timeline lines n [] l

all_counted : (lines : List (List ℕ)) (t : TimelineRead) → (fold (λ t line. with_line line t) t lines).lines ≡ t.lines + length lines
all_counted [] t = omega arith
all_counted (line ∷ lines) t =
    let rest = all_counted lines (with_line line t) in
    let one = one_counted line t in
    omega (arith, rest, one)

pub lines_read : (lines : List (List ℕ)) → (timeline_of lines).lines ≡ length lines
lines_read lines = let none_before : 0 + length lines ≡ length lines = omega arith in all_counted lines empty_timeline ∙ none_before
