-- One line more of a step: starts and ends no longer balance.
use Rattle.std.proofs.Common.{◌≡◌, ◌≢◌, ℕ, ◌+◌, List, [], ◌∷◌, ◌++◌, Bool, true, false, cond, Ok, refl, ap, ◌∙◌, arith}
use Rattle.std.specs.Prelude.{◌||◌, count_by}
use Rattle.std.proofs.lemmas.List.Sums.{sum_by-append, sum_by-cons}
use Rattle.std.proofs.lemmas.Slice.Eq.{bytes_eq-Decides}
use Rattle.stream_check.specs.declared.messages.action.Action.{Action}
use Rattle.stream_check.specs.declared.messages.action.Action.TheVariants.{Create, Update, Delete, Read, Refresh}
use Rattle.stream_check.specs.declared.messages.timed_stage.TimedStage.{TimedStage}
use Rattle.stream_check.specs.declared.messages.timed_stage.TimedStage.TheVariants.{Start, Progress, Complete, Errored}
use Rattle.stream_check.specs.declared.rules.mode.Mode.{Mode}
use Rattle.stream_check.specs.declared.verdict.whole.Whole.{Whole}
use Rattle.stream_check.specs.Laws.{IsWhole, StateMessages, is_end, is_start, says, states_in, tells}
use Rattle.stream_check.specs.Lines.{line_message}
use Rattle.stream_check.specs.Message.{Message, step}
use Rattle.stream_check.specs.Words.{same_action}

-- ---- messages are counted by the lines that state them

abbrev weight : Bool → ℕ
weight b = cond b 1 0

counted_first : {X : Type 0} (q : X → Bool) (x : X) (xs : List X) → count_by q (x ∷ xs) ≡ weight (q x) + count_by q xs
counted_first q x xs = sum_by-cons (λ y. weight (q y)) x xs

counted_both : {X : Type 0} (q : X → Bool) (xs ys : List X) → count_by q (xs ++ ys) ≡ count_by q xs + count_by q ys
counted_both q xs ys = sum_by-append (λ y. weight (q y)) xs ys

on_nothing : (n : ℕ) → n ≡ n + 0
on_nothing n = omega arith

counted_says : (find : Bool) (p : Message → Bool) (earlier messages : List Message) (texts : List (List ℕ)) → StateMessages find earlier messages texts → count_by p messages ≡ count_by p earlier + count_by (says find p) texts
counted_says find p earlier messages [] is = ap (count_by p) is ∙ on_nothing (count_by p earlier)
counted_says find p earlier messages (text ∷ texts) is =
    let rest : count_by p messages ≡ count_by p (is.0 ∷ earlier) + count_by (says find p) texts = counted_says find p (is.0 ∷ earlier) messages texts is.2 in
    let here : count_by p (is.0 ∷ earlier) ≡ weight (p is.0) + count_by p earlier = counted_first p is.0 earlier in
    let there : count_by (says find p) (text ∷ texts) ≡ weight (says find p text) + count_by (says find p) texts = counted_first (says find p) text texts in
    let same : weight (says find p text) ≡ weight (p is.0) = ap weight (ap (states_in p) is.1) in
    sums _ _ _ _ _ _ _ rest here there same
  where
    sums : (all first earlier_ones more_texts texts_left w v : ℕ) → all ≡ first + texts_left → first ≡ v + earlier_ones → more_texts ≡ w + texts_left → w ≡ v → all ≡ earlier_ones + more_texts
    sums all first earlier_ones more_texts texts_left w v a b c d = omega arith

with_one : (q : List ℕ → Bool) (front back : List (List ℕ)) (line : List ℕ) → q line ≡ true → count_by q (front ++ line ∷ back) ≡ count_by q (front ++ back) + 1
with_one q front back line passes =
    sums _ _ _ _ _ _ (counted_both q front (line ∷ back)) (counted_both q front back) (counted_first q line back) (ap weight passes)
  where
    sums : (many few f lb b w : ℕ) → many ≡ f + lb → few ≡ f + b → lb ≡ w + b → w ≡ 1 → many ≡ few + 1
    sums many few f lb b w p q r s = omega arith

none_more : (q : List ℕ → Bool) (front back : List (List ℕ)) (line : List ℕ) → q line ≡ false → count_by q (front ++ line ∷ back) ≡ count_by q (front ++ back)
none_more q front back line fails =
    sums _ _ _ _ _ _ (counted_both q front (line ∷ back)) (counted_both q front back) (counted_first q line back) (ap weight fails)
  where
    sums : (many few f lb b w : ℕ) → many ≡ f + lb → few ≡ f + b → lb ≡ w + b → w ≡ 0 → many ≡ few
    sums many few f lb b w p q r s = omega arith

-- ---- the message of the line

same_as_itself : (k : Action) → same_action k k ≡ true
same_as_itself Create = refl
same_as_itself Update = refl
same_as_itself Delete = refl
same_as_itself Read = refl
same_as_itself Refresh = refl

about_itself : (test : TimedStage → Bool) (a : List ℕ) (k : Action) (stage : TimedStage) → tells test a k (step a k stage) ≡ test stage
about_itself test a k stage = rw ((bytes_eq-Decides a a).1 refl, same_as_itself k) refl

line_states : (find : Bool) (test : TimedStage → Bool) (a : List ℕ) (k : Action) (stage : TimedStage) (line : List ℕ) → line_message find line ≡ Ok (step a k stage) → says find (tells test a k) line ≡ test stage
line_states find test a k stage line is = ap (states_in (tells test a k)) is ∙ about_itself test a k stage

-- ---- both accepted

balanced : (mode : Mode) (a : List ℕ) (k : Action) → k ≢ Read → k ≢ Refresh → (texts : List (List ℕ)) (whole : Whole) (messages : List Message) → IsWhole mode texts whole messages
    → count_by (says mode.find (tells is_start a k)) texts ≡ count_by (says mode.find (tells is_end a k)) texts
balanced mode a k no_read no_refresh texts whole messages is =
    let starts = counted_says mode.find (tells is_start a k) [] messages texts is.lines in
    let ends = counted_says mode.find (tells is_end a k) [] messages texts is.lines in
    let same = is.steps.at_last a k no_read no_refresh in
    omega arith

pub not_both : (mode : Mode) (front back : List (List ℕ)) (line : List ℕ) (a : List ℕ) (k : Action) (stage : TimedStage) (few many : Whole) (messages later : List Message)
    → line_message mode.find line ≡ Ok (step a k stage) → k ≢ Read → k ≢ Refresh → (is_start stage || is_end stage) ≡ true → IsWhole mode (front ++ back) few messages → IsWhole mode (front ++ line ∷ back) many later → ⊥
not_both mode front back line a k Start few many messages later is no_read no_refresh criteria whole whole_too =
    let before = balanced mode a k no_read no_refresh (front ++ back) few messages whole in
    let after = balanced mode a k no_read no_refresh (front ++ line ∷ back) many later whole_too in
    let starts = with_one (says mode.find (tells is_start a k)) front back line (line_states mode.find is_start a k Start line is) in
    let ends = none_more (says mode.find (tells is_end a k)) front back line (line_states mode.find is_end a k Start line is) in
    omega arith
not_both mode front back line a k (Progress seconds) few many messages later is no_read no_refresh criteria whole whole_too = absurd cc
not_both mode front back line a k (Complete seconds) few many messages later is no_read no_refresh criteria whole whole_too =
    let before = balanced mode a k no_read no_refresh (front ++ back) few messages whole in
    let after = balanced mode a k no_read no_refresh (front ++ line ∷ back) many later whole_too in
    let starts = none_more (says mode.find (tells is_start a k)) front back line (line_states mode.find is_start a k (Complete seconds) line is) in
    let ends = with_one (says mode.find (tells is_end a k)) front back line (line_states mode.find is_end a k (Complete seconds) line is) in
    omega arith
not_both mode front back line a k (Errored seconds) few many messages later is no_read no_refresh criteria whole whole_too =
    let before = balanced mode a k no_read no_refresh (front ++ back) few messages whole in
    let after = balanced mode a k no_read no_refresh (front ++ line ∷ back) many later whole_too in
    let starts = none_more (says mode.find (tells is_start a k)) front back line (line_states mode.find is_start a k (Errored seconds) line is) in
    let ends = with_one (says mode.find (tells is_end a k)) front back line (line_states mode.find is_end a k (Errored seconds) line is) in
    omega arith
