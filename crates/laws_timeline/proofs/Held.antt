-- No more steps and provisioners are held than have begun.
use Rattle.std.proofs.Common.{◌≡◌, ℕ, ◌+◌, ◌≤◌, ℤ, List, [], ◌∷◌, Bool, true, false, length, map, Option, Some, None, fold, suc, zero, refl, ap, ⊎_elim, arith, length-append}
use Rattle.std.specs.List.{sum_by}
use Rattle.std.specs.Option.{option_map_or}
use Rattle.std.proofs.lemmas.Bool.{cases_Bool}
use Rattle.std.proofs.lemmas.List.{length-map}
use Rattle.std.proofs.lemmas.List.Sums.{sum_by-cons, sum_by_push}
use Rattle.stream_timeline.specs.Messages.{Message, Content, begins, ends, begins_provisioner, ends_provisioner, error, warning, version, plan_summary, summary, other, unusable, message_of}
use Rattle.stream_timeline.specs.Steps.{ProvisionerRead, StepRead, at_place, begun_provisioner, begun_step, ended, ended_with_step, first_of, is_open_at, is_open_with, last_of, marked_by_error, passes_at, places, has_open_provisioner, with_last_ended, with_provisioner, with_provisioner_ended}
use Rattle.stream_timeline.specs.TimelineRead.{TimelineRead, is_blank_line, empty_timeline, timeline_of, with_line, with_message_or_passed_over, with_passed_over, with_provisioner_end_at, with_content}

abbrev pub provisioner_count : StepRead → ℕ
provisioner_count s = length s.provisioners

abbrev HoldsBounds : TimelineRead → Type 0
HoldsBounds t = length t.steps + sum_by provisioner_count t.steps ≤ t.begun

-- ---- what becomes of a step

placed_length : (k : ℕ) (f : StepRead → StepRead) (steps : List StepRead) → length (at_place k f steps) ≡ length steps
placed_length k f [] = refl
placed_length zero f (s ∷ ss) = refl
placed_length (suc k) f (s ∷ ss) = ap suc (placed_length k f ss)

placed_sum : (k n : ℕ) (f : StepRead → StepRead) (steps : List StepRead) → ((s : StepRead) → provisioner_count (f s) ≤ provisioner_count s + n)
    → sum_by provisioner_count (at_place k f steps) ≤ sum_by provisioner_count steps + n
placed_sum k n f [] more = omega arith
placed_sum zero n f (s ∷ ss) more = omega (arith, more s, sum_by-cons provisioner_count (f s) ss, sum_by-cons provisioner_count s ss)
placed_sum (suc k) n f (s ∷ ss) more =
    omega (arith, placed_sum k n f ss more, sum_by-cons provisioner_count s (at_place k f ss), sum_by-cons provisioner_count s ss)

last_length : (m : ℤ) (failed : Bool) (ps : List ProvisionerRead) → length (with_last_ended m failed ps) ≡ length ps
last_length m failed [] = refl
last_length m failed (p ∷ []) = refl
last_length m failed (p ∷ (q ∷ ps)) = ap suc (last_length m failed (q ∷ ps))

marked_count : (address : Option (List ℕ)) (s : StepRead) → provisioner_count (marked_by_error address s) ≡ provisioner_count s
marked_count None s = refl
marked_count (Some a) s =
    ⊎_elim (λ (yes : is_open_at a s ≡ true). rw yes refl) (λ (out : is_open_at a s ≡ false). rw out refl) (cases_Bool (is_open_at a s))

marked_sum : (address : Option (List ℕ)) (steps : List StepRead) → sum_by provisioner_count (map (marked_by_error address) steps) ≡ sum_by provisioner_count steps
marked_sum address [] = refl
marked_sum address (s ∷ ss) =
    omega (arith, marked_count address s, marked_sum address ss, sum_by-cons provisioner_count (marked_by_error address s) (map (marked_by_error address) ss), sum_by-cons provisioner_count s ss)

-- ---- what a message says

held_where : (more : ℕ → TimelineRead) (o : Option ℕ) (none : TimelineRead) → ((place : ℕ) → HoldsBounds (more place)) → HoldsBounds none → HoldsBounds (option_map_or more o none)
held_where more None none h k = k
held_where more (Some place) none h k = h place

-- a step is changed, and as many provisioners more are held as have begun
placed_held : (k n : ℕ) (f : StepRead → StepRead) (t : TimelineRead) → ((s : StepRead) → provisioner_count (f s) ≤ provisioner_count s + n) → HoldsBounds t
    → HoldsBounds (record t { steps = at_place k f t.steps; begun = t.begun + n })
placed_held k n f t more h = omega (arith, h, placed_length k f t.steps, placed_sum k n f t.steps more)

changed_held : (k : ℕ) (f : StepRead → StepRead) (t : TimelineRead) → ((s : StepRead) → provisioner_count (f s) ≡ provisioner_count s) → HoldsBounds t
    → HoldsBounds (record t { steps = at_place k f t.steps })
changed_held k f t same h =
    let sum = placed_sum k 0 f t.steps (λ s. omega (arith, same s)) in
    omega (arith, h, placed_length k f t.steps, sum)

one_begun : (name : List ℕ) (m : ℤ) (s : StepRead) → provisioner_count (with_provisioner name m s) ≤ provisioner_count s + 1
one_begun name m s = omega (arith, length-append s.provisioners (begun_provisioner name m ∷ []))

provisioner_end_held : (place : ℕ) (failed : Bool) (m : ℤ) (t : TimelineRead) → HoldsBounds t → HoldsBounds (with_provisioner_end_at place failed m t)
provisioner_end_held place failed m t h =
    ⊎_elim
    (λ (yes : passes_at place has_open_provisioner t.steps ≡ true). rw yes (changed_held place (with_provisioner_ended m failed) t (λ s. last_length m failed s.provisioners) h))
    (λ (out : passes_at place has_open_provisioner t.steps ≡ false). rw out h)
    (cases_Bool (passes_at place has_open_provisioner t.steps))

content_preserves : (m : ℤ) (content : Content) (t : TimelineRead) → HoldsBounds t → HoldsBounds (with_content m content t)
content_preserves m (begins address action) t h =
    omega (arith, h, length-append t.steps (begun_step t.lines address action m ∷ []), sum_by_push provisioner_count t.steps (begun_step t.lines address action m))
content_preserves m (ends address action failed) t h =
    held_where _ (first_of (places (is_open_with address action) t.steps)) (with_passed_over t)
    (λ place. changed_held place (ended m failed) t (λ s. length-map s.provisioners (ended_with_step _)) h) h
content_preserves m (begins_provisioner address name) t h =
    held_where _ (last_of (places (is_open_at address) t.steps)) (with_passed_over t) (λ place. placed_held place 1 (with_provisioner name m) t (one_begun name m) h) h
content_preserves m (ends_provisioner address failed) t h =
    held_where _ (last_of (places (is_open_at address) t.steps)) (with_passed_over t) (λ place. provisioner_end_held place failed m t h) h
content_preserves m (error address d) t h = omega (arith, h, marked_sum address t.steps, length-map t.steps (marked_by_error address))
content_preserves m (warning d) t h = h
content_preserves m (version text) t h = h
content_preserves m (plan_summary totals) t h = h
content_preserves m (summary totals) t h = h
content_preserves m other t h = h
content_preserves m unusable t h = h

-- ---- a line

message_held : (message : Option Message) (t : TimelineRead) → HoldsBounds t → HoldsBounds (with_message_or_passed_over message t)
message_held None t h = h
message_held (Some message) t h = content_preserves message.time message.content _ h

line_held : (line : List ℕ) (t : TimelineRead) → HoldsBounds t → HoldsBounds (with_line line t)
line_held line t h =
    ⊎_elim
    (λ (yes : is_blank_line line ≡ true). rw yes h)
    (λ (out : is_blank_line line ≡ false). rw out (message_held (message_of line) _ h))
    (cases_Bool (is_blank_line line))

all_held : (lines : List (List ℕ)) (t : TimelineRead) → HoldsBounds t → HoldsBounds (fold (λ t line. with_line line t) t lines)
all_held [] t h = h
all_held (line ∷ lines) t h = all_held lines (with_line line t) (line_held line t h)

pub held_have_begun : (lines : List (List ℕ)) → length (timeline_of lines).steps + sum_by provisioner_count (timeline_of lines).steps ≤ (timeline_of lines).begun
held_have_begun lines = all_held lines empty_timeline (omega arith)
