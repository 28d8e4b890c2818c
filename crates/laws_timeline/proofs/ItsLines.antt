-- The begin and the end of a step are the times of its lines.
use Rattle.std.proofs.Common.{◌≡◌, ℕ, ◌+◌, ◌-◌, ◌≤◌, ℤ, List, [], ◌∷◌, ◌++◌, Bool, true, false, length, get_or, map, take, Option, Some, None, suc, zero, refl, sym, ap, ap₂, ◌∙◌, subst, ⊎_elim, arith, All}
use Rattle.std.specs.Prelude.{IfSome, is_none}
use Rattle.std.specs.List.{AllByRecursion}
use Rattle.std.specs.Option.{option_map_or}
use Rattle.std.specs.Str.{bytes_eq}
use Rattle.std.proofs.lemmas.Bool.{and_parts, cases_Bool}
use Rattle.std.proofs.lemmas.List.{length-take-le, take_all}
use Rattle.std.proofs.lemmas.List.Elements.{All-from_recursion}
use Rattle.std.proofs.lemmas.Slice.Eq.{bytes_eq-Decides}
use Rattle.laws_timeline.specs.Messages.{IsOfItsLines, message_at, message_in, says}
use Rattle.stream_timeline.specs.Messages.{Message, Content, begins, ends, begins_provisioner, ends_provisioner, error, warning, version, plan_summary, summary, other, unusable, message_of}
use Rattle.stream_timeline.specs.Steps.{StepRead, at_place, begun_step, ended, first_of, is_open_at, is_open_with, last_of, marked_by_error, passes_at, places, has_open_provisioner, with_provisioner, with_provisioner_ended}
use Rattle.stream_timeline.specs.TimelineRead.{TimelineRead, counted_line, is_blank_line, timeline_of, with_line, with_message_or_passed_over, with_passed_over, with_provisioner_end_at, with_content}
use Rattle.stream_timeline.proofs.Counted.{lines_read, read_more}
use Rattle.stream_timeline.proofs.Holding.{first_passes}

-- it is of its lines, which are among the first n
record Known (lines : List (List ℕ)) (n : ℕ) (s : StepRead) : Type 0 where
  is : IsOfItsLines lines s
  within : s.line ≤ n

abbrev AllKnown : List (List ℕ) → ℕ → List StepRead → Type 0
AllKnown lines n steps = AllByRecursion (Known lines n) steps

later : (lines : List (List ℕ)) (n : ℕ) (steps : List StepRead) → AllKnown lines n steps → AllKnown lines (n + 1) steps
later lines n [] h = tt
later lines n (s ∷ ss) h = (record { is = h.0.is; within = let few = h.0.within in omega arith }, later lines n ss h.1)

-- ---- what becomes of steps

placed : (lines : List (List ℕ)) (n k : ℕ) (f : StepRead → StepRead) (steps : List StepRead) → ((s : StepRead) → Known lines n s → Known lines n (f s))
    → AllKnown lines n steps → AllKnown lines n (at_place k f steps)
placed lines n k f [] more h = tt
placed lines n zero f (s ∷ ss) more h = (more s h.0, h.1)
placed lines n (suc k) f (s ∷ ss) more h = (h.0, placed lines n k f ss more h.1)

pushed : (lines : List (List ℕ)) (n : ℕ) (steps : List StepRead) (s : StepRead) → AllKnown lines n steps → Known lines n s → AllKnown lines n (steps ++ s ∷ [])
pushed lines n [] s h k = (k, tt)
pushed lines n (x ∷ xs) s h k = (h.0, pushed lines n xs s h.1 k)

-- an error changes none that has an end
none_read : (o : Option ℤ) (P : ℤ → Type 0) → is_none o ≡ true → IfSome o P
none_read None P e = tt
none_read (Some end) P e = absurd cc

marked_known : (lines : List (List ℕ)) (n : ℕ) (address : Option (List ℕ)) (s : StepRead) → Known lines n s → Known lines n (marked_by_error address s)
marked_known lines n None s h = h
marked_known lines n (Some a) s h =
    ⊎_elim
    (λ (yes : is_open_at a s ≡ true).
    let open_there : is_none s.end ≡ true = (and_parts (is_none s.end) (bytes_eq s.address a) yes).0 in
    rw yes (record { is = record { begin = h.is.begin; end = none_read s.end _ open_there }; within = h.within }))
    (λ (no : is_open_at a s ≡ false). rw no h)
    (cases_Bool (is_open_at a s))

all_marked : (lines : List (List ℕ)) (n : ℕ) (address : Option (List ℕ)) (steps : List StepRead) → AllKnown lines n steps → AllKnown lines n (map (marked_by_error address) steps)
all_marked lines n address [] h = tt
all_marked lines n address (s ∷ ss) h = (marked_known lines n address s h.0, all_marked lines n address ss h.1)

-- ---- a step ends on the line of number n + 1

ended_known : (lines : List (List ℕ)) (n : ℕ) (address action : List ℕ) (failed : Bool) (m : ℤ) (s : StepRead) → message_at lines (n + 1) ≡ says m (ends address action failed)
    → is_open_with address action s ≡ true → s.line ≤ n → Known lines (n + 1) s → Known lines (n + 1) (ended m failed s)
ended_known lines n address action failed m s content passes few h =
    let parts = and_parts (is_open_at address s) (bytes_eq s.action action) passes in
    let there = and_parts (is_none s.end) (bytes_eq s.address address) parts.0 in
    let same_address : s.address ≡ address = (bytes_eq-Decides s.address address).0 there.1 in
    let same_action : s.action ≡ action = (bytes_eq-Decides s.action action).0 parts.1 in
    record {
      is = record {
        begin = h.is.begin;
        end = (
          n + 1,
          m,
          omega (arith, few),
          content ∙ ap₂ (λ (a b : List ℕ). says m (ends a b failed)) (sym same_address) (sym same_action),
          refl,
        );
      };
      within = h.within;
    }

end_placed : (lines : List (List ℕ)) (n k : ℕ) (address action : List ℕ) (failed : Bool) (m : ℤ) (steps : List StepRead) → message_at lines (n + 1) ≡ says m (ends address action failed)
    → passes_at k (is_open_with address action) steps ≡ true → AllKnown lines n steps → AllKnown lines (n + 1) (at_place k (ended m failed) steps)
end_placed lines n k address action failed m [] content passes h = tt
end_placed lines n zero address action failed m (s ∷ ss) content passes h =
    (ended_known lines n address action failed m s content passes h.0.within (record { is = h.0.is; within = let few = h.0.within in omega arith }), later lines n ss h.1)
end_placed lines n (suc k) address action failed m (s ∷ ss) content passes h =
    (record { is = h.0.is; within = let few = h.0.within in omega arith }, end_placed lines n k address action failed m ss content passes h.1)

end_known : (lines : List (List ℕ)) (n : ℕ) (address action : List ℕ) (failed : Bool) (m : ℤ) (t : TimelineRead) → message_at lines (n + 1) ≡ says m (ends address action failed)
    → AllKnown lines n t.steps → (o : Option ℕ) → first_of (places (is_open_with address action) t.steps) ≡ o
    → AllKnown lines (n + 1) (option_map_or (λ place. record t { steps = at_place place (ended m failed) t.steps }) o (with_passed_over t)).steps
end_known lines n address action failed m t content h None e = later lines n t.steps h
end_known lines n address action failed m t content h (Some k) e =
    let there = first_passes (is_open_with address action) 0 k t.steps e in
    let same : there.0 ≡ k = omega (arith, there.1) in
    end_placed lines n k address action failed m t.steps content (subst (λ (j : ℕ). passes_at j (is_open_with address action) t.steps ≡ true) same there.2) h

-- ---- one line more

abbrev MoreKnown : List (List ℕ) → ℕ → TimelineRead → Type 0
MoreKnown lines n t = AllKnown lines (n + 1) t.steps

where_known : (lines : List (List ℕ)) (n : ℕ) (more : ℕ → TimelineRead) (o : Option ℕ) (none : TimelineRead) → ((place : ℕ) → MoreKnown lines n (more place)) → MoreKnown lines n none
    → MoreKnown lines n (option_map_or more o none)
where_known lines n more None none h k = k
where_known lines n more (Some place) none h k = h place

provisioner_end_known : (lines : List (List ℕ)) (n place : ℕ) (failed : Bool) (m : ℤ) (t : TimelineRead) → AllKnown lines (n + 1) t.steps → MoreKnown lines n (with_provisioner_end_at place failed m t)
provisioner_end_known lines n place failed m t h =
    ⊎_elim
    (λ (yes : passes_at place has_open_provisioner t.steps ≡ true). rw yes (placed lines (n + 1) place (with_provisioner_ended m failed) t.steps (λ s k. record { is = record { begin = k.is.begin; end = k.is.end }; within = k.within }) h))
    (λ (no : passes_at place has_open_provisioner t.steps ≡ false). rw no h)
    (cases_Bool (passes_at place has_open_provisioner t.steps))

content_known : (lines : List (List ℕ)) (n : ℕ) (m : ℤ) (content : Content) (t : TimelineRead) → message_at lines (n + 1) ≡ says m content → t.lines ≡ n + 1 → AllKnown lines n t.steps → MoreKnown lines n (with_content m content t)
content_known lines n m (begins address action) t is count h =
    pushed lines (n + 1) t.steps (begun_step t.lines address action m) (later lines n t.steps h)
    (record { is = record { begin = ap (message_at lines) count ∙ is; end = tt }; within = omega (arith, count) })
content_known lines n m (ends address action failed) t is count h = end_known lines n address action failed m t is h (first_of (places (is_open_with address action) t.steps)) refl
content_known lines n m (begins_provisioner address name) t is count h =
    where_known lines n _ (last_of (places (is_open_at address) t.steps)) (with_passed_over t)
    (λ place. placed lines (n + 1) place (with_provisioner name m) t.steps (λ s k. record { is = record { begin = k.is.begin; end = k.is.end }; within = k.within }) (later lines n t.steps h)) (later lines n t.steps h)
content_known lines n m (ends_provisioner address failed) t is count h =
    where_known lines n _ (last_of (places (is_open_at address) t.steps)) (with_passed_over t) (λ place. provisioner_end_known lines n place failed m t (later lines n t.steps h)) (later lines n t.steps h)
content_known lines n m (error address d) t is count h = all_marked lines (n + 1) address t.steps (later lines n t.steps h)
content_known lines n m (warning d) t is count h = later lines n t.steps h
content_known lines n m (version text) t is count h = later lines n t.steps h
content_known lines n m (plan_summary totals) t is count h = later lines n t.steps h
content_known lines n m (summary totals) t is count h = later lines n t.steps h
content_known lines n m other t is count h = later lines n t.steps h
content_known lines n m unusable t is count h = later lines n t.steps h

message_known : (lines : List (List ℕ)) (n : ℕ) (message : Option Message) (t : TimelineRead) → message_at lines (n + 1) ≡ message → t.lines ≡ n + 1 → AllKnown lines n t.steps → MoreKnown lines n (with_message_or_passed_over message t)
message_known lines n None t is count h = later lines n t.steps h
message_known lines n (Some message) t is count h = content_known lines n message.time message.content _ is count h

line_known : (lines : List (List ℕ)) (n : ℕ) (line : List ℕ) (t : TimelineRead) → message_at lines (n + 1) ≡ message_in line → t.lines ≡ n → AllKnown lines n t.steps → MoreKnown lines n (with_line line t)
line_known lines n line t is count h =
    ⊎_elim
    (λ (yes : is_blank_line line ≡ true). rw yes (later lines n t.steps h))
    (λ (no : is_blank_line line ≡ false).
    let timeline : message_at lines (n + 1) ≡ message_of line = rw no at is in
    rw no (message_known lines n (message_of line) (counted_line line t) timeline (omega (arith, count)) h))
    (cases_Bool (is_blank_line line))

all_known : (lines : List (List ℕ)) (n : ℕ) → n ≤ length lines → AllKnown lines n (timeline_of (take n lines)).steps
all_known lines zero l = tt
all_known lines (suc n) l =
    let before = all_known lines n (omega arith) in
    let count : (timeline_of (take n lines)).lines ≡ n = lines_read (take n lines) ∙ length-take-le n lines (omega arith) in
    let same : n + 1 ≡ suc n = omega arith in
    let number : n + 1 - 1 ≡ n = omega arith in
    let one = line_known lines n (get_or lines n []) (timeline_of (take n lines)) (ap (λ (j : ℕ). message_in (get_or lines j [])) number) count before in
    subst (λ (k : ℕ). AllKnown lines k (timeline_of (take k lines)).steps) same (subst (λ (u : TimelineRead). AllKnown lines (n + 1) u.steps) (sym (read_more lines n (omega arith))) one)

only_is : (lines : List (List ℕ)) (n : ℕ) (steps : List StepRead) → AllKnown lines n steps → AllByRecursion (IsOfItsLines lines) steps
only_is lines n [] h = tt
only_is lines n (s ∷ ss) h = (h.0.is, only_is lines n ss h.1)

pub steps_known : (lines : List (List ℕ)) → All (IsOfItsLines lines) (timeline_of lines).steps
steps_known lines =
    All-from_recursion (IsOfItsLines lines) (timeline_of lines).steps
    (only_is lines (length lines) (timeline_of lines).steps
    (subst (λ (xs : List (List ℕ)). AllKnown lines (length lines) (timeline_of xs).steps) (take_all (length lines) lines (omega arith)) (all_known lines (length lines) (omega arith))))
