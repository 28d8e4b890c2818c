-- The text of the object of a time line, part by part.
use Rattle.std.proofs.Common.{◌≡◌, ◌∙◌, ℕ, ◌+◌, ◌<◌, ◌≤◌, ◌∷◌, [], ◌++◌, List, Option, Some, Bool, false, true, ap, subst, sym, refl, append_assoc, drop, get_or, length, arith}
use Rattle.std.specs.Prelude.{codes, is_some, nat_lt}
use Rattle.std.specs.Int.{int_gap}
use Rattle.std.specs.Io.KnownBytes.{Appends, Keeps}
use Rattle.std.specs.List.{count_by}
use Rattle.std.proofs.KnownBytes.{Appends-kept, Appends-nil, Appends-trans}
use Rattle.std.proofs.lemmas.Bool.Decides.{nat_tests}
use Rattle.std.proofs.lemmas.List.{drop_all, drop_more}
use Rattle.serde_json.proofs.OnLiterals.{serde_json_on_literals}
use Rattle.serde_json.specs.Data.{Data, boolean, string}
use Rattle.serde_json.specs.Written.{comma_if, compact_text, items_text}
use Rattle.stream_timeline.specs.declared.reading.totals.Totals.{Totals}
use Rattle.stream_timeline.specs.Intervals.{length_of, span_of}
use Rattle.stream_timeline.specs.Steps.{StepRead}
use Rattle.stream_view.specs.Heading.{is_not_ended}
use Rattle.stream_view.specs.Json.{JsonWritten, StepsSoFar, StepsWritten, count_data, figures_text, listed_text, named, number_data, step_data, steps_from, summary_data, timeline_data, version_data}
use Rattle.term_words.specs.MessageTexts.{AppendsText}
use Rattle.stream_view.specs.declared.picture.Picture.{Picture}
use Rattle.term_words.specs.declared.message_text.MessageText.{MessageText}
use Rattle.term_words.proofs.Appended.{text_as, text_then}

-- ---- members

-- a value with its name, and then more words
pub named_then : (a b c : MessageText) (before : List ℕ) (d e : Data) (words : List ℕ) → d ≡ e → AppendsText a b (named before d)
    → AppendsText b c words → AppendsText a c (named before e ++ words)
named_then a b c before d e words is first second =
    text_then a b c (named before e) words (text_as a b (named before d) (named before e) (ap (named before) is) first) second

pub totals_is : (totals : Totals)
    → named (codes "{\"add\":") (count_data totals.added)
    ++ (named (codes ",\"change\":") (count_data totals.changed) ++ (named (codes ",\"remove\":") (count_data totals.removed) ++ codes "}"))
    ≡ compact_text (summary_data (Some totals))
unfolding serde_json_on_literals
totals_is totals = refl

pub step_is : (picture : Picture) (place : ℕ) (step : StepRead)
    → named (codes "{\"address\":") (string step.address)
    ++ (named (codes ",\"action\":") (string step.action)
    ++ (named (codes ",\"line\":") (number_data (picture.lines_before + step.line))
    ++ (named (codes ",\"begin\":") (number_data (int_gap picture.time_range.first step.begin))
    ++ (named (codes ",\"length\":") (number_data (length_of picture.time_range step))
    ++ (named (codes ",\"ended\":") (boolean (is_some step.end))
    ++ (named (codes ",\"failed\":") (boolean step.failed)
    ++ (named (codes ",\"alone\":") (number_data (get_or picture.numbers.alone.items place 0)) ++ codes "}")))))))
    ≡ compact_text (step_data picture place step)
unfolding step_data serde_json_on_literals
step_is picture place step = refl

in_a_row : (a b c d e f g h i j k l m s r : List ℕ) → (a ++ (b ++ (c ++ (d ++ (e ++ (f ++ (g ++ (h ++ (i ++ (j ++ (k ++ (l ++ (m ++ (s)))))))))))))) ++ r
    ≡ a ++ (b ++ (c ++ (d ++ (e ++ (f ++ (g ++ (h ++ (i ++ (j ++ (k ++ (l ++ (m ++ ((s ++ r))))))))))))))
in_a_row a b c d e f g h i j k l m s r = simp append_assoc

-- the front, the steps and the end are the whole object
timeline_is : (picture : Picture)
    → figures_text picture ++ (items_text false (steps_from picture 0 picture.timeline.now.steps) ++ codes "}")
    ≡ compact_text (timeline_data picture)
unfolding figures_text timeline_data serde_json_on_literals
timeline_is picture =
    in_a_row
    (named (codes "{\"added\":") (number_data picture.numbers.created))
    (named (codes ",\"changed\":") (number_data picture.numbers.updated))
    (named (codes ",\"destroyed\":") (number_data picture.numbers.deleted))
    (named (codes ",\"failed\":") (number_data (count_by (λ (step : StepRead). step.failed) picture.timeline.now.steps)))
    (named (codes ",\"unended\":") (number_data (count_by is_not_ended picture.timeline.now.steps)))
    (named (codes ",\"errors\":") (number_data picture.timeline.now.errors.count))
    (named (codes ",\"span\":") (number_data (span_of picture.time_range)))
    (named (codes ",\"busy\":") (number_data picture.numbers.busy))
    (named (codes ",\"work\":") (number_data picture.numbers.work))
    (named (codes ",\"peak\":") (number_data picture.numbers.peak))
    (named (codes ",\"passed\":") (number_data picture.timeline.now.passed_over))
    (named (codes ",\"terraform\":") (version_data picture.timeline.now.version))
    (named (codes ",\"summary\":") (summary_data picture.timeline.now.totals))
    (codes ",\"steps\":[")
    (items_text false (steps_from picture 0 picture.timeline.now.steps) ++ codes "}")

-- ---- steps

pub no_steps : (picture : Picture) (a : Option (List ℕ)) → StepsSoFar picture 0 a a
no_steps picture a = record { text = []; is = refl; written = Appends-nil a }

one_more : (picture : Picture) (place : ℕ) (step : StepRead) → place < length picture.timeline.now.steps
    → step ≡ get_or picture.timeline.now.steps place step
    → listed_text picture place step ++ items_text (nat_lt 0 (place + 1)) (steps_from picture (place + 1) (drop (place + 1) picture.timeline.now.steps))
    ≡ items_text (nat_lt 0 place) (steps_from picture place (drop place picture.timeline.now.steps))
one_more picture place step below is =
    let steps = picture.timeline.now.steps in
    let later : nat_lt 0 (place + 1) ≡ true = grind (arith, nat_tests) in
    let rest : Bool → List ℕ = λ comma. items_text comma (steps_from picture (place + 1) (drop (place + 1) steps)) in
    ap (λ (comma : Bool). listed_text picture place step ++ rest comma) later
    ∙ append_assoc (comma_if (nat_lt 0 place)) (compact_text (step_data picture place step)) (rest true)
    ∙ ap (λ (s : StepRead). items_text (nat_lt 0 place) (steps_from picture place (s ∷ drop (place + 1) steps))) is
    ∙ ap (λ (ss : List StepRead). items_text (nat_lt 0 place) (steps_from picture place ss)) (sym (drop_more steps place step below))

pub step_more : (picture : Picture) (place : ℕ) (step : StepRead) (a b c : Option (List ℕ)) → place < length picture.timeline.now.steps
    → step ≡ get_or picture.timeline.now.steps place step → StepsSoFar picture place a b → Appends b c (listed_text picture place step)
    → StepsSoFar picture (place + 1) a c
step_more picture place step a b c below is before more = record {
  text = before.text ++ listed_text picture place step;
  is = append_assoc before.text (listed_text picture place step) _
      ∙ ap (λ (text : List ℕ). before.text ++ text) (one_more picture place step below is) ∙ before.is;
  written = Appends-trans a b c before.text (listed_text picture place step) before.written more;
}

pub steps_all : (picture : Picture) (place : ℕ) (a b : Option (List ℕ)) → length picture.timeline.now.steps ≤ place
    → StepsSoFar picture place a b → StepsWritten picture a b
steps_all picture place a b ends before = record {
  text = before.text;
  is = ap (λ (ss : List StepRead). before.text ++ items_text (nat_lt 0 place) (steps_from picture place ss))
      (sym (drop_all place picture.timeline.now.steps ends)) ∙ before.is;
  written = before.written;
}

-- ---- the whole object

whole_line : (figures steps : List ℕ) → (figures ++ steps) ++ codes "]}\n" ≡ (figures ++ ((steps ++ codes "]") ++ codes "}")) ++ codes "\n"
whole_line figures steps = simp append_assoc

pub json_written : (picture : Picture) (a b c d e : Option (List ℕ)) → Appends a b (figures_text picture) → StepsWritten picture b c
    → Appends c d (codes "]}\n") → Keeps d e → JsonWritten picture a e
json_written picture a b c d e figures steps end unchanged =
    let whole : (figures_text picture ++ steps.text) ++ codes "]}\n" ≡ compact_text (timeline_data picture) ++ codes "\n" =
    whole_line (figures_text picture) steps.text
    ∙ ap (λ (items : List ℕ). (figures_text picture ++ (items ++ codes "}")) ++ codes "\n") steps.is
    ∙ ap (λ (text : List ℕ). text ++ codes "\n") (timeline_is picture) in
    subst (Appends a e) whole
    (Appends-kept a d e _ (Appends-trans a c d _ _ (Appends-trans a b c _ _ figures steps.written) end) unchanged)
