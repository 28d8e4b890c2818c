-- The texts in the columns of rows, and how wide they are.
use Rattle.std.specs.Prelude.{ℕ, List, max}
use Rattle.std.specs.List.{fold, slice_get}
use Rattle.std.specs.Option.{option_map_or}
use Rattle.stream_timeline.specs.Steps.{StepRead}
use Rattle.term_text.specs.Columns.{columns_of}
use Rattle.term_text.specs.Fitting.{fitted}
use Rattle.term_text.specs.Fitted.{shown_characters}
use Rattle.stream_view.specs.declared.column.Column.{Column}
use Rattle.stream_view.specs.declared.column.Column.TheVariants as column

-- a label has at most 64 columns
abbrev pub column_text : Column → StepRead → List ℕ
column_text column.Action step = shown_characters step.action
column_text column.Address step = shown_characters step.address
column_text column.Label step = fitted 64 (shown_characters step.address)

-- the width of the text of the step at this place; 0 if there is no such step
abbrev pub columns_at : (StepRead → List ℕ) → List StepRead → (place : ℕ) → ℕ
columns_at text steps place = option_map_or (λ step. columns_of (text step)) (slice_get steps place) 0

-- the greatest width for the steps at these places
abbrev pub widest : (StepRead → List ℕ) → List StepRead → (places : List ℕ) → ℕ
widest text steps places = fold (λ most place. max most (columns_at text steps place)) 0 places
