-- What is told of outputs, and of lines, that differ only in the values of sensitive outputs.
use Rattle.std.proofs.Common.{◌≡◌, ◌∙◌, ℕ, ◌+◌, ◌∷◌, ◌++◌, [], Bool, List, Option, None, Some, true, false, ⊎_elim, ap, ap₂, codes, map, refl, sym}
use Rattle.std.specs.Str.{bytes_eq}
use Rattle.std.proofs.lemmas.List.Sums.{sum_by-cons}
use Rattle.std.specs.Prelude.{ℤ, count_by, if◌then◌else◌, is_none, is_some, option_and_then, unwrap_or}
use Rattle.std.specs.List.{AllZip}
use Rattle.std.proofs.lemmas.Bool.{cases_Bool, true≢false}
use Rattle.serde_json.specs.Data.{Data}
use Rattle.apply_json.specs.Tree.{text_of}
use Rattle.stream_check.specs.declared.verdict.judge.Verdict.{Verdict}
use Rattle.stream_message.specs.Kinds.{kind_named}
use Rattle.term_text.specs.Fronts.{cut_text}
use Rattle.term_text.specs.Shown.{shown_text}
use Rattle.stream_watch.specs.FurtherLines.{further_lines}
use Rattle.stream_watch.specs.Marks.{planned_mark}
use Rattle.stream_watch.specs.OutputRows.{all_told, count_bytes, has_outputs, is_unplanned, planned_action, planned_bytes, planned_outputs, planned_words, shown_value, unplanned, value_outputs, value_words}
use Rattle.stream_watch.specs.Outputs.{OutputView, outputs_of}
use Rattle.stream_watch.specs.RefreshRow.{reported_told}
use Rattle.stream_watch.specs.State.{State, beginning, line_at, told_then}
use Rattle.stream_watch.specs.Stream.{last_told, lines_told, stream_told}
use Rattle.stream_watch.specs.Telling.{at_moment, kind_told, message_or_line_told, message_told, moment_of, other_told, row_told, text_told, told_at, under_way_told_if}
use Rattle.stream_watch.specs.declared.looks.Looks.{Looks}
use Rattle.stream_watch.specs.declared.mark.Mark.TheVariants as mark
use Rattle.laws_watch.specs.HiddenValues.{AreAlike, AreAlikeLines, IsSameOrAlike}

-- ---- one output

both_none : (x y : Option (List ℕ)) → is_some x ≡ is_some y → is_none x ≡ is_none y
both_none None None same = refl
both_none None (Some y) same = absurd (true≢false (sym same))
both_none (Some x) None same = absurd (true≢false same)
both_none (Some x) (Some y) same = refl

alike_action : (output other : OutputView) → AreAlike output other → planned_action output ≡ planned_action other
alike_action output other alike =
    rw (both_none output.value other.value alike.has_value, alike.action) refl

planned_words-alike : (action : List ℕ) (output other : OutputView) → AreAlike output other → planned_words action output ≡ planned_words action other
planned_words-alike action output other alike =
    ap₂ (λ name sensitive. codes "plan to " ++ shown_text action ++ codes " output " ++ shown_text name ++ (if sensitive then codes " (sensitive)" else [])) alike.name alike.sensitive

planned_bytes-alike : (looks : Looks) (state : State) (output other : OutputView) (action : Option (List ℕ)) → AreAlike output other
    → planned_bytes looks state output action ≡ planned_bytes looks state other action
planned_bytes-alike looks state output other None alike = refl
planned_bytes-alike looks state output other (Some action) alike =
    ap (λ words. if bytes_eq action (codes "noop") then [] else line_at looks state (planned_mark action) words) (planned_words-alike action output other alike)

alike_planned : (looks : Looks) (state : State) (output other : OutputView) → AreAlike output other
    → planned_bytes looks state output (planned_action output) ≡ planned_bytes looks state other (planned_action other)
alike_planned looks state output other alike =
    ap (planned_bytes looks state output) (alike_action output other alike) ∙ planned_bytes-alike looks state output other (planned_action other) alike

alike_shown : (output other : OutputView) → AreAlike output other → shown_value output ≡ shown_value other
alike_shown output other alike =
    ⊎_elim
    (λ (yes : output.is_sensitive ≡ true). rw (yes, sym alike.sensitive ∙ yes) refl)
    (λ (out : output.is_sensitive ≡ false). rw (out, sym alike.sensitive ∙ out, alike.value out) refl)
    (cases_Bool output.is_sensitive)

alike_words : (output other : OutputView) → AreAlike output other → value_words output ≡ value_words other
alike_words output other alike = ap₂ (λ name shown. cut_text 1024 (shown_text (name ++ codes " = " ++ shown))) alike.name (alike_shown output other alike)

alike_unplanned : (output other : OutputView) → AreAlike output other → is_unplanned output ≡ is_unplanned other
alike_unplanned output other alike = ap (λ action. is_none action) (alike_action output other alike)

-- ---- outputs

all_planned : (looks : Looks) (state : State) (outputs others : List OutputView) → AllZip AreAlike outputs others
    → planned_outputs looks state outputs ≡ planned_outputs looks state others
all_planned looks state [] [] alike = refl
all_planned looks state [] (other ∷ others) alike = absurd alike
all_planned looks state (output ∷ outputs) [] alike = absurd alike
all_planned looks state (output ∷ outputs) (other ∷ others) alike =
    ap₂ (λ one more. one ++ more) (alike_planned looks state output other alike.0) (all_planned looks state outputs others alike.1)

all_counted : (outputs others : List OutputView) → AllZip AreAlike outputs others → count_by is_unplanned outputs ≡ count_by is_unplanned others
all_counted [] [] alike = refl
all_counted [] (other ∷ others) alike = absurd alike
all_counted (output ∷ outputs) [] alike = absurd alike
all_counted (output ∷ outputs) (other ∷ others) alike =
    sum_by-cons (λ o. if is_unplanned o then 1 else 0) output outputs
    ∙ ap₂ (λ (test : Bool) (count : ℕ). (if test then 1 else 0) + count) (alike_unplanned output other alike.0) (all_counted outputs others alike.1)
    ∙ sym (sum_by-cons (λ o. if is_unplanned o then 1 else 0) other others)

all_shown : (outputs others : List OutputView) → AllZip AreAlike outputs others → map value_words (unplanned outputs) ≡ map value_words (unplanned others)
all_shown [] [] alike = refl
all_shown [] (other ∷ others) alike = absurd alike
all_shown (output ∷ outputs) [] alike = absurd alike
all_shown (output ∷ outputs) (other ∷ others) alike =
    let same = alike_unplanned output other alike.0 in
    let rest = all_shown outputs others alike.1 in
    ⊎_elim
    (λ (yes : is_unplanned output ≡ true).
    rw (yes, sym same ∙ yes) (ap₂ (λ one more. one ∷ more) (alike_words output other alike.0) rest))
    (λ (out : is_unplanned output ≡ false). rw (out, sym same ∙ out) rest)
    (cases_Bool (is_unplanned output))

pub outputs-alike : (looks : Looks) (state : State) (outputs others : List OutputView) → AllZip AreAlike outputs others
    → all_told looks state outputs ≡ all_told looks state others
outputs-alike looks state outputs others alike =
    let reported = reported_told looks state in
    let values : value_outputs looks reported.state outputs ≡ value_outputs looks reported.state others =
    ap₂ (λ count words. count_bytes looks reported.state count ++ further_lines looks mark.Output words) (all_counted outputs others alike) (all_shown outputs others alike) in
    ap₂ (λ planned shown. record { bytes = reported.bytes ++ planned ++ shown; state = reported.state }) (all_planned looks reported.state outputs others alike) values

-- ---- lines

-- what is told of a message of outputs
row : (looks : Looks) (state : State) (find : Bool) (line : List ℕ) (tree : Data) (moment : ℤ) → text_of (codes "type") tree ≡ Some (codes "outputs") → has_outputs tree ≡ true
    → row_told looks state find line tree moment ≡ Some (all_told looks state (outputs_of find line))
row looks state find line tree moment is_of_type has =
    ap (option_and_then (λ name. kind_told looks state find line name tree moment (kind_named name))) is_of_type
    ∙ ap (λ test. if test then Some (all_told looks state (outputs_of find line)) else None) has

told_at-alike : (looks : Looks) (state : State) (find : Bool) (line other : List ℕ) (tree : Data) (moment : Option ℤ)
    → text_of (codes "type") tree ≡ Some (codes "outputs") → has_outputs tree ≡ true → AllZip AreAlike (outputs_of find line) (outputs_of find other)
    → told_at looks state find line tree moment ≡ told_at looks state find other tree moment
told_at-alike looks state find line other tree moment is_of_type has alike =
    let now = unwrap_or moment state.clock.now in
    ap (λ told. unwrap_or told (other_told looks line tree state)) (row looks state find line tree now is_of_type has)
    ∙ outputs-alike looks state (outputs_of find line) (outputs_of find other) alike
    ∙ ap (λ told. unwrap_or told (other_told looks other tree state)) (sym (row looks state find other tree now is_of_type has))

message-alike : (looks : Looks) (state : State) (find : Bool) (line other : List ℕ) (tree : Data)
    → text_of (codes "type") tree ≡ Some (codes "outputs") → has_outputs tree ≡ true → AllZip AreAlike (outputs_of find line) (outputs_of find other)
    → message_told looks state find line tree ≡ message_told looks state find other tree
message-alike looks state find line other tree is_of_type has alike =
    ap (λ told. told_then told (under_way_told_if (is_some (moment_of tree)) looks))
    (told_at-alike looks (at_moment (moment_of tree) state) find line other tree (moment_of tree) is_of_type has alike)

pub line-alike : (looks : Looks) (state : State) (find : Bool) (line other : List ℕ) → AreAlikeLines find line other
    → text_told looks state find line ≡ text_told looks state find other
unfolding text_told
line-alike looks state find line other alike =
    ap (message_or_line_told looks state find line) alike.first
    ∙ message-alike looks state find line other alike.tree alike.is_of_type alike.has alike.outputs
    ∙ ap (message_or_line_told looks state find other) (sym alike.second)

same_or_alike : (looks : Looks) (state : State) (find : Bool) (line other : List ℕ) → IsSameOrAlike find line other
    → text_told looks state find line ≡ text_told looks state find other
same_or_alike looks state find line other either =
    ⊎_elim (λ (same : line ≡ other). ap (text_told looks state find) same) (λ (alike : AreAlikeLines find line other). line-alike looks state find line other alike) either

pub lines-alike : (looks : Looks) (state : State) (find : Bool) (lines others : List (List ℕ)) → AllZip (IsSameOrAlike find) lines others
    → lines_told looks find lines state ≡ lines_told looks find others state
lines-alike looks state find [] [] alike = refl
lines-alike looks state find [] (other ∷ others) alike = absurd alike
lines-alike looks state find (line ∷ lines) [] alike = absurd alike
lines-alike looks state find (line ∷ lines) (other ∷ others) alike =
    let first = same_or_alike looks state find line other alike.0 in
    ap (λ told. told_then told (lines_told looks find lines)) first
    ∙ ap (λ rest. record { bytes = (text_told looks state find other).bytes ++ rest.bytes; state = rest.state })
    (lines-alike looks (text_told looks state find other).state find lines others alike.1)

pub stream-alike : (looks : Looks) (find : Bool) (lines others : List (List ℕ)) (verdict : Verdict) → AllZip (IsSameOrAlike find) lines others
    → stream_told looks find lines verdict ≡ stream_told looks find others verdict
stream-alike looks find lines others verdict alike = ap (λ told. told_then told (last_told looks verdict)) (lines-alike looks beginning find lines others alike)
