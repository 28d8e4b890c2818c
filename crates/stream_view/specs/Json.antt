-- The object that describes a time line, for programs.
use Rattle.std.specs.Prelude.{◌≡◌, ◌+◌, ◌++◌, ◌∷◌, [], ℕ, List, Option, None, Some, codes, drop, false, get_or, is_some, nat_lt}
use Rattle.std.specs.Int.{int_gap}
use Rattle.std.specs.Io.KnownBytes.{Appends}
use Rattle.std.specs.List.{count_by}
use Rattle.serde_json.specs.Data.{Data, Items, array, boolean, item, member, no_items, no_members, null, number, object, string, unsigned}
use Rattle.serde_json.specs.Written.{comma_if, compact_text, items_text}
use Rattle.stream_timeline.specs.declared.reading.totals.Totals.{Totals}
use Rattle.stream_timeline.specs.Intervals.{length_of, span_of}
use Rattle.stream_timeline.specs.Steps.{StepRead}
use Rattle.stream_view.specs.Heading.{is_not_ended}
use Rattle.stream_view.specs.declared.picture.Picture.{Picture}

abbrev pub number_data : ℕ → Data
number_data n = number (unsigned n)

-- a number that the stream may lack
abbrev pub count_data : Option ℕ → Data
count_data None = null
count_data (Some n) = number_data n

abbrev pub version_data : Option (List ℕ) → Data
version_data None = null
version_data (Some text) = string text

-- the totals of the last summary of an apply
abbrev pub summary_data : Option Totals → Data
summary_data None = null
summary_data (Some totals) =
    object
    (member (codes "add") (count_data totals.added)
    (member (codes "change") (count_data totals.changed) (member (codes "remove") (count_data totals.removed) no_members)))

-- The step at this place. Its begin is counted from the first timestamp of the stream. Times are in
-- microseconds.
unfoldable pub step_data : Picture → (place : ℕ) → StepRead → Data
step_data picture place step =
    object
    (member (codes "address") (string step.address)
    (member (codes "action") (string step.action)
    (member (codes "line") (number_data (picture.lines_before + step.line))
    (member (codes "begin") (number_data (int_gap picture.time_range.first step.begin))
    (member (codes "length") (number_data (length_of picture.time_range step))
    (member (codes "ended") (boolean (is_some step.end))
    (member (codes "failed") (boolean step.failed)
    (member (codes "alone") (number_data (get_or picture.numbers.alone.items place 0)) no_members))))))))

-- the steps, with places that count from `n`
abbrev pub steps_from : Picture → ℕ → List StepRead → Items
steps_from picture n [] = no_items
steps_from picture n (step ∷ steps) = item (step_data picture n step) (steps_from picture (n + 1) steps)

-- the whole time line: its figures, its version, its summary, and all of its steps
unfoldable pub timeline_data : Picture → Data
timeline_data picture =
    object
    (member (codes "added") (number_data picture.numbers.created)
    (member (codes "changed") (number_data picture.numbers.updated)
    (member (codes "destroyed") (number_data picture.numbers.deleted)
    (member (codes "failed") (number_data (count_by (λ (step : StepRead). step.failed) picture.timeline.now.steps))
    (member (codes "unended") (number_data (count_by is_not_ended picture.timeline.now.steps))
    (member (codes "errors") (number_data picture.timeline.now.errors.count)
    (member (codes "span") (number_data (span_of picture.time_range))
    (member (codes "busy") (number_data picture.numbers.busy)
    (member (codes "work") (number_data picture.numbers.work)
    (member (codes "peak") (number_data picture.numbers.peak)
    (member (codes "passed") (number_data picture.timeline.now.passed_over)
    (member (codes "terraform") (version_data picture.timeline.now.version)
    (member (codes "summary") (summary_data picture.timeline.now.totals)
    (member (codes "steps") (array (steps_from picture 0 picture.timeline.now.steps)) no_members))))))))))))))

-- the object was written on one line, and nothing else
abbrev pub JsonWritten : Picture → (before after : Option (List ℕ)) → Type 0
JsonWritten picture before after = Appends before after (compact_text (timeline_data picture) ++ 10 ∷ [])

-- ---- the parts that are written one after another

-- a name with the signs around it, and a value
abbrev pub named : (before : List ℕ) → Data → List ℕ
named before value = before ++ compact_text value

-- the front of the object: all before its steps
unfoldable pub figures_text : Picture → List ℕ
figures_text picture =
    named (codes "{\"added\":") (number_data picture.numbers.created)
    ++ (named (codes ",\"changed\":") (number_data picture.numbers.updated)
    ++ (named (codes ",\"destroyed\":") (number_data picture.numbers.deleted)
    ++ (named (codes ",\"failed\":") (number_data (count_by (λ (step : StepRead). step.failed) picture.timeline.now.steps))
    ++ (named (codes ",\"unended\":") (number_data (count_by is_not_ended picture.timeline.now.steps))
    ++ (named (codes ",\"errors\":") (number_data picture.timeline.now.errors.count)
    ++ (named (codes ",\"span\":") (number_data (span_of picture.time_range))
    ++ (named (codes ",\"busy\":") (number_data picture.numbers.busy)
    ++ (named (codes ",\"work\":") (number_data picture.numbers.work)
    ++ (named (codes ",\"peak\":") (number_data picture.numbers.peak)
    ++ (named (codes ",\"passed\":") (number_data picture.timeline.now.passed_over)
    ++ (named (codes ",\"terraform\":") (version_data picture.timeline.now.version)
    ++ (named (codes ",\"summary\":") (summary_data picture.timeline.now.totals) ++ codes ",\"steps\":["))))))))))))

-- a step in the list, after a comma unless it is the first
abbrev pub listed_text : Picture → (place : ℕ) → StepRead → List ℕ
listed_text picture place step = comma_if (nat_lt 0 place) ++ compact_text (step_data picture place step)

-- all steps were written, without the bracket that ends the list
pub record StepsWritten (picture : Picture) (before after : Option (List ℕ)) : Type 0 where
  pub text : List ℕ
  pub is : text ++ codes "]" ≡ items_text false (steps_from picture 0 picture.timeline.now.steps)
  pub written : Appends before after text

-- the steps before this place were written; the text of the others follows
pub record StepsSoFar (picture : Picture) (place : ℕ) (before after : Option (List ℕ)) : Type 0 where
  pub text : List ℕ
  pub is : text ++ items_text (nat_lt 0 place) (steps_from picture place (drop place picture.timeline.now.steps))
      ≡ items_text false (steps_from picture 0 picture.timeline.now.steps)
  pub written : Appends before after text
