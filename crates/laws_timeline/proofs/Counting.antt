-- Steps that are open and completed, counted, one message after another.
use Rattle.std.proofs.Common.{◌≡◌, ℕ, ◌+◌, ◌≤◌, ℤ, List, [], ◌∷◌, ◌++◌, Bool, true, false, Option, Some, None, refl, sym, ap, ◌∙◌, subst, ⊎_elim, arith, count_by}
use Rattle.std.specs.Prelude.{◌&&◌, is_none, is_some, not}
use Rattle.std.specs.Option.{option_map_or}
use Rattle.std.specs.Str.{bytes_eq}
use Rattle.std.proofs.lemmas.Bool.{and_parts, cases_Bool}
use Rattle.std.proofs.lemmas.Slice.Eq.{bytes_eq-Decides}
use Rattle.stream_check.specs.declared.messages.action.Action.{Action}
use Rattle.stream_check.specs.declared.messages.action.Action.TheVariants.{Create, Update, Delete, Read, Refresh}
use Rattle.stream_check.specs.declared.messages.timed_stage.TimedStage.{TimedStage}
use Rattle.stream_check.specs.declared.messages.timed_stage.TimedStage.TheVariants.{Start, Progress, Complete, Errored}
use Rattle.stream_check.specs.Laws.{is_end, is_start, tells}
use Rattle.stream_check.specs.Message as check
use Rattle.stream_check.specs.Tally.{completes}
use Rattle.stream_check.specs.Words.{action_word, same_action}
use Rattle.stream_timeline.specs.Messages as view
use Rattle.stream_timeline.specs.Numbers.{is_completed}
use Rattle.stream_timeline.specs.Steps.{StepRead, at_place, begun_step, ended, first_of, is_open_at, is_open_with, last_of, marked_by_error, passes_at, places, has_open_provisioner, with_provisioner, with_provisioner_ended}
use Rattle.stream_timeline.specs.TimelineRead.{TimelineRead, with_passed_over, with_provisioner_end_at, with_content}
use Rattle.stream_timeline.proofs.Holding.{first_passes}
use Rattle.laws_timeline.proofs.Counts.{one_if, words_apart, other_action, and_false, and_true, count_cons, count_push, preserved_at, preserved_all, changed_at, first_some}
use Rattle.laws_timeline.proofs.Matching.{Harmless, Matches, is_change}

abbrev pub open_with : List ℕ → Action → StepRead → Bool
open_with a k step = is_open_with a (action_word k) step

abbrev pub completed_with : Action → StepRead → Bool
completed_with k step = is_completed (action_word k) step

-- what stands open began and has not ended, and what is completed was completed
pub record Agrees (ms : List check.Message) (steps : List StepRead) : Type 0 where
  pub unended : (a : List ℕ) (k : Action) → is_change k ≡ true → count_by (open_with a k) steps + count_by (tells is_end a k) ms ≡ count_by (tells is_start a k) ms
  pub completed : (k : Action) → is_change k ≡ true → count_by (completed_with k) steps ≡ count_by (completes k) ms

-- ---- what leaves all counts

record SweptSoFar (old new : List StepRead) : Type 0 where
  unended : (a : List ℕ) (k : Action) → is_change k ≡ true → count_by (open_with a k) new ≡ count_by (open_with a k) old
  completed : (k : Action) → is_change k ≡ true → count_by (completed_with k) new ≡ count_by (completed_with k) old

as_before : (steps : List StepRead) → SweptSoFar steps steps
as_before steps = record { unended = λ a k h. refl; completed = λ k h. refl }

one_preserved : (i : ℕ) (f : StepRead → StepRead) (steps : List StepRead) → ((a : List ℕ) (k : Action) (s : StepRead) → open_with a k (f s) ≡ open_with a k s)
    → ((k : Action) (s : StepRead) → completed_with k (f s) ≡ completed_with k s) → SweptSoFar steps (at_place i f steps)
one_preserved i f steps opens completes = record {
  unended = λ a k h. preserved_at (open_with a k) f (opens a k) i steps;
  completed = λ k h. preserved_at (completed_with k) f (completes k) i steps;
}

-- an error marks only what is open, which is not completed
marked_open : (address : Option (List ℕ)) (a : List ℕ) (k : Action) (s : StepRead) → open_with a k (marked_by_error address s) ≡ open_with a k s
marked_open None a k s = refl
marked_open (Some b) a k s = ⊎_elim (λ (yes : is_open_at b s ≡ true). rw yes refl) (λ (no : is_open_at b s ≡ false). rw no refl) (cases_Bool (is_open_at b s))

open_not_completed : (o : Option ℤ) (b c d : Bool) → is_none o ≡ true → (b && (is_some o && c)) ≡ (b && (is_some o && d))
open_not_completed None b c d e = refl
open_not_completed (Some end) b c d e = absurd cc

marked_completed : (address : Option (List ℕ)) (k : Action) (s : StepRead) → completed_with k (marked_by_error address s) ≡ completed_with k s
marked_completed None k s = refl
marked_completed (Some b) k s =
    ⊎_elim
    (λ (yes : is_open_at b s ≡ true).
    let none : is_none s.end ≡ true = (and_parts (is_none s.end) (bytes_eq s.address b) yes).0 in
    rw yes (open_not_completed s.end (bytes_eq s.action (action_word k)) false (not s.failed) none))
    (λ (no : is_open_at b s ≡ false). rw no refl)
    (cases_Bool (is_open_at b s))

-- ---- a step of another action

other_begins : (a w : List ℕ) (line : ℕ) (m : ℤ) (steps : List StepRead) → ((k : Action) → is_change k ≡ true → bytes_eq w (action_word k) ≡ false) → SweptSoFar steps (steps ++ begun_step line a w m ∷ [])
other_begins a w line m steps apart = record {
  unended = λ b k h.
      let all = count_push (open_with b k) steps (begun_step line a w m) in
      let none : one_if (bytes_eq a b && bytes_eq w (action_word k)) ≡ 0 = rw (apart k h, and_false (bytes_eq a b)) refl in
      omega (arith, all, none);
  completed = λ k h.
      let all = count_push (completed_with k) steps (begun_step line a w m) in
      let none : one_if (bytes_eq w (action_word k) && false) ≡ 0 = rw (and_false (bytes_eq w (action_word k))) refl in
      omega (arith, all, none);
}

-- the step that ends is open, of that address and action
record IsEnding (a w : List ℕ) (s : StepRead) : Type 0 where
  none : is_none s.end ≡ true
  address : s.address ≡ a
  action : s.action ≡ w

ending : (a w : List ℕ) (s : StepRead) → is_open_with a w s ≡ true → IsEnding a w s
ending a w s e =
    let parts = and_parts (is_open_at a s) (bytes_eq s.action w) e in
    let there = and_parts (is_none s.end) (bytes_eq s.address a) parts.0 in
    record { none = there.0; address = (bytes_eq-Decides s.address a).0 there.1; action = (bytes_eq-Decides s.action w).0 parts.1 }

not_some : (o : Option ℤ) (b c : Bool) → is_none o ≡ true → (b && (is_some o && c)) ≡ false
not_some None b c e = and_false b
not_some (Some end) b c e = absurd cc

-- what its end makes of the counts: before and after
opens_by : (a w b v : List ℕ) (failed : Bool) (m : ℤ) (s : StepRead) → is_open_with a w s ≡ true → (is_open_with b v s ≡ (bytes_eq a b && bytes_eq w v)) × (is_open_with b v (ended m failed s) ≡ false)
opens_by a w b v failed m s e =
    let h = ending a w s e in
    (rw (h.none, h.address, h.action) refl, refl)

completes_by : (a w v : List ℕ) (failed : Bool) (m : ℤ) (s : StepRead) → is_open_with a w s ≡ true → (is_completed v s ≡ false) × (is_completed v (ended m failed s) ≡ (bytes_eq w v && not failed))
completes_by a w v failed m s e =
    let h = ending a w s e in
    (not_some s.end (bytes_eq s.action v) (not s.failed) h.none, ap (λ x. bytes_eq x v && not failed) h.action)

passing : (p : StepRead → Bool) (i : ℕ) (steps : List StepRead) → first_of (places p steps) ≡ Some i → passes_at i p steps ≡ true
passing p i steps e =
    let there = first_passes p 0 i steps e in
    let same : there.0 ≡ i = omega (arith, there.1) in
    subst (λ (j : ℕ). passes_at j p steps ≡ true) same there.2

other_ends : (a w : List ℕ) (failed : Bool) (m : ℤ) (t : TimelineRead) (o : Option ℕ) → first_of (places (is_open_with a w) t.steps) ≡ o → ((k : Action) → is_change k ≡ true → bytes_eq w (action_word k) ≡ false)
    → SweptSoFar t.steps (option_map_or (λ place. record t { steps = at_place place (ended m failed) t.steps }) o (with_passed_over t)).steps
other_ends a w failed m t None e apart = as_before t.steps
other_ends a w failed m t (Some i) e apart =
    let passes = passing (is_open_with a w) i t.steps e in
    record {
      unended = λ b k h.
          let is = changed_at (open_with b k) (is_open_with a w) (ended m failed) (bytes_eq a b && bytes_eq w (action_word k)) false (opens_by a w b (action_word k) failed m) i t.steps passes in
          let none : one_if (bytes_eq a b && bytes_eq w (action_word k)) ≡ 0 = rw (apart k h, and_false (bytes_eq a b)) refl in
          omega (arith, is, none);
      completed = λ k h.
          let is = changed_at (completed_with k) (is_open_with a w) (ended m failed) false (bytes_eq w (action_word k) && not failed) (completes_by a w (action_word k) failed m) i t.steps passes in
          let none : one_if (bytes_eq w (action_word k) && not failed) ≡ 0 = rw (apart k h) refl in
          omega (arith, is, none);
    }

preserved_where : (more : ℕ → TimelineRead) (o : Option ℕ) (none t : TimelineRead) → ((place : ℕ) → SweptSoFar t.steps (more place).steps) → SweptSoFar t.steps none.steps → SweptSoFar t.steps (option_map_or more o none).steps
preserved_where more None none t h k = k
preserved_where more (Some place) none t h k = h place

provisioner_end_preserves : (place : ℕ) (failed : Bool) (m : ℤ) (t : TimelineRead) → SweptSoFar t.steps (with_provisioner_end_at place failed m t).steps
provisioner_end_preserves place failed m t =
    ⊎_elim
    (λ (yes : passes_at place has_open_provisioner t.steps ≡ true). rw yes (one_preserved place (with_provisioner_ended m failed) t.steps (λ a k s. refl) (λ k s. refl)))
    (λ (no : passes_at place has_open_provisioner t.steps ≡ false). rw no (as_before t.steps))
    (cases_Bool (passes_at place has_open_provisioner t.steps))

harmless_preserves : (m : ℤ) (content : view.Content) (t : TimelineRead) → Harmless content → SweptSoFar t.steps (with_content m content t).steps
harmless_preserves m (view.begins a w) t h = other_begins a w t.lines m t.steps h
harmless_preserves m (view.ends a w failed) t h = other_ends a w failed m t (first_of (places (is_open_with a w) t.steps)) refl h
harmless_preserves m (view.begins_provisioner a name) t h =
    preserved_where _ (last_of (places (is_open_at a) t.steps)) (with_passed_over t) t (λ place. one_preserved place (with_provisioner name m) t.steps (λ b k s. refl) (λ k s. refl)) (as_before t.steps)
harmless_preserves m (view.ends_provisioner a failed) t h =
    preserved_where _ (last_of (places (is_open_at a) t.steps)) (with_passed_over t) t (λ place. provisioner_end_preserves place failed m t) (as_before t.steps)
harmless_preserves m (view.error address d) t h = record {
  unended = λ a k e. preserved_all (open_with a k) (marked_by_error address) (marked_open address a k) t.steps;
  completed = λ k e. preserved_all (completed_with k) (marked_by_error address) (marked_completed address k) t.steps;
}
harmless_preserves m (view.warning d) t h = as_before t.steps
harmless_preserves m (view.version text) t h = as_before t.steps
harmless_preserves m (view.plan_summary totals) t h = as_before t.steps
harmless_preserves m (view.summary totals) t h = as_before t.steps
harmless_preserves m view.other t h = as_before t.steps
harmless_preserves m view.unusable t h = as_before t.steps

-- ---- one message more that counts nothing

record CountsNothing (m : check.Message) : Type 0 where
  start : (a : List ℕ) (k : Action) → is_change k ≡ true → tells is_start a k m ≡ false
  end : (a : List ℕ) (k : Action) → is_change k ≡ true → tells is_end a k m ≡ false
  complete : (k : Action) → is_change k ≡ true → completes k m ≡ false

silent : (ms : List check.Message) (m : check.Message) (old new : List StepRead) → CountsNothing m → SweptSoFar old new → Agrees ms old → Agrees (m ∷ ms) new
silent ms m old new none preserved h = record {
  unended = λ a k e.
      let before = h.unended a k e in
      let same = preserved.unended a k e in
      let starts = count_cons (tells is_start a k) m ms in
      let ends = count_cons (tells is_end a k) m ms in
      let no_start : one_if (tells is_start a k m) ≡ 0 = ap one_if (none.start a k e) in
      let no_end : one_if (tells is_end a k m) ≡ 0 = ap one_if (none.end a k e) in
      omega (arith, before, same, starts, ends, no_start, no_end);
  completed = λ k e.
      let before = h.completed k e in
      let same = preserved.completed k e in
      let all = count_cons (completes k) m ms in
      let none_here : one_if (completes k m) ≡ 0 = ap one_if (none.complete k e) in
      omega (arith, before, same, all, none_here);
}

-- a step of another action, or on its way
step_nothing : (a : List ℕ) (k : Action) (stage : TimedStage) → is_change k ≡ false → CountsNothing (check.step a k stage)
step_nothing a k stage e = record {
  start = λ b j h. rw (other_action k j e h, and_false (bytes_eq a b)) refl;
  end = λ b j h. rw (other_action k j e h, and_false (bytes_eq a b)) refl;
  complete = λ j h. rw (other_action k j e h) (and_false _);
}

on_its_way : (a : List ℕ) (k : Action) (seconds : ℕ) → CountsNothing (check.step a k (Progress seconds))
on_its_way a k seconds = record { start = λ b j h. and_false _; end = λ b j h. and_false _; complete = λ j h. refl }

-- ---- a change begins

change_begins : (ms : List check.Message) (a : List ℕ) (k : Action) (line : ℕ) (m : ℤ) (steps : List StepRead) → Agrees ms steps
    → Agrees (check.step a k Start ∷ ms) (steps ++ begun_step line a (action_word k) m ∷ [])
change_begins ms a k line m steps h = record {
  unended = λ b j e.
      let before = h.unended b j e in
      let all = count_push (open_with b j) steps (begun_step line a (action_word k) m) in
      let starts = count_cons (tells is_start b j) (check.step a k Start) ms in
      let ends = count_cons (tells is_end b j) (check.step a k Start) ms in
      let here : one_if (bytes_eq a b && bytes_eq (action_word k) (action_word j)) ≡ one_if ((bytes_eq a b && same_action k j) && true) =
      ap one_if (ap (λ x. bytes_eq a b && x) (words_apart k j) ∙ sym (and_true (bytes_eq a b && same_action k j))) in
      let no_end : one_if ((bytes_eq a b && same_action k j) && false) ≡ 0 = ap one_if (and_false (bytes_eq a b && same_action k j)) in
      omega (arith, before, all, starts, ends, here, no_end);
  completed = λ j e.
      let before = h.completed j e in
      let all = count_push (completed_with j) steps (begun_step line a (action_word k) m) in
      let none : one_if (bytes_eq (action_word k) (action_word j) && false) ≡ 0 = ap one_if (and_false (bytes_eq (action_word k) (action_word j))) in
      let counted = count_cons (completes j) (check.step a k Start) ms in
      omega (arith, before, all, none, counted);
}

-- ---- a change ends

-- that stage ends a step, well where it has not failed
record Ends (stage : TimedStage) (failed : Bool) : Type 0 where
  start : is_start stage ≡ false
  end : is_end stage ≡ true
  complete : (k j : Action) → completes j (check.step [] k stage) ≡ (same_action k j && not failed)

well : (seconds : ℕ) → Ends (Complete seconds) false
well seconds = record { start = refl; end = refl; complete = λ k j. sym (and_true (same_action k j)) }

badly : (seconds : ℕ) → Ends (Errored seconds) true
badly seconds = record { start = refl; end = refl; complete = λ k j. sym (and_false (same_action k j)) }

change_ends : (ms : List check.Message) (a : List ℕ) (k : Action) (stage : TimedStage) (failed : Bool) (m : ℤ) (t : TimelineRead) (o : Option ℕ) → Ends stage failed → is_change k ≡ true
    → first_of (places (is_open_with a (action_word k)) t.steps) ≡ o
    → count_by (tells is_end a k) (check.step a k stage ∷ ms) ≤ count_by (tells is_start a k) (check.step a k stage ∷ ms) → Agrees ms t.steps
    → Agrees (check.step a k stage ∷ ms) (option_map_or (λ place. record t { steps = at_place place (ended m failed) t.steps }) o (with_passed_over t)).steps
change_ends ms a k stage failed m t None by change e order h =
    let before = h.unended a k change in
    let starts = count_cons (tells is_start a k) (check.step a k stage) ms in
    let ends = count_cons (tells is_end a k) (check.step a k stage) ms in
    let same_here : (bytes_eq a a && same_action k k) ≡ true = rw ((bytes_eq-Decides a a).1 refl) (itself k) in
    let no_start : one_if (tells is_start a k (check.step a k stage)) ≡ 0 = ap one_if (ap (λ x. (bytes_eq a a && same_action k k) && x) by.start ∙ and_false _) in
    let one_end : one_if (tells is_end a k (check.step a k stage)) ≡ 1 = ap one_if (ap (λ x. (bytes_eq a a && same_action k k) && x) by.end ∙ (and_true _ ∙ same_here)) in
    let some = first_some (is_open_with a (action_word k)) 0 t.steps (omega (arith, before, starts, ends, no_start, one_end, order)) in
    let bad : None ≡ Some some.0 = sym e ∙ some.1 in
    absurd cc
  where
    itself : (k : Action) → same_action k k ≡ true
    itself Create = refl
    itself Update = refl
    itself Delete = refl
    itself Read = refl
    itself Refresh = refl
change_ends ms a k stage failed m t (Some i) by change e order h =
    let w = action_word k in
    let passes = passing (is_open_with a w) i t.steps e in
    record {
      unended = λ b j g.
          let before = h.unended b j g in
          let starts = count_cons (tells is_start b j) (check.step a k stage) ms in
          let ends = count_cons (tells is_end b j) (check.step a k stage) ms in
          let is = changed_at (open_with b j) (is_open_with a w) (ended m failed) (bytes_eq a b && bytes_eq w (action_word j)) false (opens_by a w b (action_word j) failed m) i t.steps passes in
          let no_start : one_if (tells is_start b j (check.step a k stage)) ≡ 0 = ap one_if (ap (λ x. (bytes_eq a b && same_action k j) && x) by.start ∙ and_false _) in
          let end_here : one_if (tells is_end b j (check.step a k stage)) ≡ one_if (bytes_eq a b && bytes_eq w (action_word j)) =
          ap one_if (ap (λ x. (bytes_eq a b && same_action k j) && x) by.end ∙ (and_true _ ∙ ap (λ x. bytes_eq a b && x) (sym (words_apart k j)))) in
          omega (arith, before, starts, ends, is, no_start, end_here);
      completed = λ j g.
          let before = h.completed j g in
          let counted = count_cons (completes j) (check.step a k stage) ms in
          let is = changed_at (completed_with j) (is_open_with a w) (ended m failed) false (bytes_eq w (action_word j) && not failed) (completes_by a w (action_word j) failed m) i t.steps passes in
          let here : one_if (completes j (check.step a k stage)) ≡ one_if (bytes_eq w (action_word j) && not failed) =
          ap one_if (by.complete k j ∙ ap (λ x. x && not failed) (sym (words_apart k j))) in
          omega (arith, before, counted, is, here);
    }

-- ---- one message more

abbrev InOrder : List check.Message → Type 0
InOrder ms = (a : List ℕ) (k : Action) → count_by (tells is_end a k) ms ≤ count_by (tells is_start a k) ms

step_agrees : (ms : List check.Message) (a : List ℕ) (k : Action) (stage : TimedStage) (m : ℤ) (t : TimelineRead) (content : view.Content) → is_change k ≡ true → Matches (check.step a k stage) content
    → InOrder (check.step a k stage ∷ ms) → Agrees ms t.steps → Agrees (check.step a k stage ∷ ms) (with_content m content t).steps
step_agrees ms a k Start m t content change is order h =
    subst (λ s. Agrees (check.step a k Start ∷ ms) (with_content m s t).steps) (sym is) (change_begins ms a k t.lines m t.steps h)
step_agrees ms a k (Progress seconds) m t content change is order h =
    subst (λ s. Agrees (check.step a k (Progress seconds) ∷ ms) (with_content m s t).steps) (sym is) (silent ms _ t.steps t.steps (on_its_way a k seconds) (as_before t.steps) h)
step_agrees ms a k (Complete seconds) m t content change is order h =
    subst (λ s. Agrees (check.step a k (Complete seconds) ∷ ms) (with_content m s t).steps) (sym is)
    (change_ends ms a k (Complete seconds) false m t (first_of (places (is_open_with a (action_word k)) t.steps)) (well seconds) change refl (order a k) h)
step_agrees ms a k (Errored seconds) m t content change is order h =
    subst (λ s. Agrees (check.step a k (Errored seconds) ∷ ms) (with_content m s t).steps) (sym is)
    (change_ends ms a k (Errored seconds) true m t (first_of (places (is_open_with a (action_word k)) t.steps)) (badly seconds) change refl (order a k) h)

-- a step of another action leaves the counts unchanged
other_harmless : (a : List ℕ) (k : Action) (stage : TimedStage) (content : view.Content) → is_change k ≡ false → Matches (check.step a k stage) content → Harmless content
other_harmless a k Start content e is = subst Harmless (sym is) (λ j h. words_apart k j ∙ other_action k j e h)
other_harmless a k (Progress seconds) content e is = subst Harmless (sym is) tt
other_harmless a k (Complete seconds) content e is = subst Harmless (sym is) (λ j h. words_apart k j ∙ other_action k j e h)
other_harmless a k (Errored seconds) content e is = subst Harmless (sym is) (λ j h. words_apart k j ∙ other_action k j e h)

abbrev nothing : (m : check.Message) → ((a : List ℕ) (k : Action) → tells is_start a k m ≡ false) → ((a : List ℕ) (k : Action) → tells is_end a k m ≡ false) → ((k : Action) → completes k m ≡ false) → CountsNothing m
nothing m s e c = record { start = λ a k h. s a k; end = λ a k h. e a k; complete = λ k h. c k }

pub agrees_more : (ms : List check.Message) (m : check.Message) (time : ℤ) (content : view.Content) (t : TimelineRead) → Matches m content → InOrder (m ∷ ms) → Agrees ms t.steps → Agrees (m ∷ ms) (with_content time content t).steps
agrees_more ms check.version time content t is order h = silent ms _ t.steps _ (nothing check.version (λ a k. refl) (λ a k. refl) (λ k. refl)) (harmless_preserves time content t is) h
agrees_more ms (check.step a k stage) time content t is order h =
    ⊎_elim
    (λ (yes : is_change k ≡ true). step_agrees ms a k stage time t content yes is order h)
    (λ (no : is_change k ≡ false). silent ms _ t.steps _ (step_nothing a k stage no) (harmless_preserves time content t (other_harmless a k stage content no is)) h)
    (cases_Bool (is_change k))
agrees_more ms (check.provision a stage) time content t is order h = silent ms _ t.steps _ (nothing (check.provision a stage) (λ b k. refl) (λ b k. refl) (λ k. refl)) (harmless_preserves time content t is) h
agrees_more ms (check.planned intent address) time content t is order h = silent ms _ t.steps _ (nothing (check.planned intent address) (λ b k. refl) (λ b k. refl) (λ k. refl)) (harmless_preserves time content t is) h
agrees_more ms (check.plan_summary totals) time content t is order h = silent ms _ t.steps _ (nothing (check.plan_summary totals) (λ b k. refl) (λ b k. refl) (λ k. refl)) (harmless_preserves time content t is) h
agrees_more ms (check.summary totals) time content t is order h = silent ms _ t.steps _ (nothing (check.summary totals) (λ b k. refl) (λ b k. refl) (λ k. refl)) (harmless_preserves time content t is) h
agrees_more ms (check.diagnostic b a) time content t is order h = silent ms _ t.steps _ (nothing (check.diagnostic b a) (λ c k. refl) (λ c k. refl) (λ k. refl)) (harmless_preserves time content t is) h
agrees_more ms check.outputs time content t is order h = silent ms _ t.steps _ (nothing check.outputs (λ b k. refl) (λ b k. refl) (λ k. refl)) (harmless_preserves time content t is) h
agrees_more ms check.other time content t is order h = silent ms _ t.steps _ (nothing check.other (λ b k. refl) (λ b k. refl) (λ k. refl)) (harmless_preserves time content t is) h
agrees_more ms check.foreign time content t is order h = silent ms _ t.steps _ (nothing check.foreign (λ b k. refl) (λ b k. refl) (λ k. refl)) (harmless_preserves time content t is) h
