-- The words of what was done.
use Rattle.std.proofs.Common.{◌≡◌, ◌∙◌, ℕ, ◌++◌, None, Some, ap, ap₂}
use Rattle.std.specs.Option.{option_map_or}
use Rattle.stream_timeline.specs.declared.numbers.measures.Numbers.{Numbers}
use Rattle.stream_timeline.specs.declared.reading.totals.Totals.{Totals}
use Rattle.stream_timeline.specs.TimelineRead.{TimelineRead}
use Rattle.stream_view.specs.Heading.{completed_words, done_words, only_plan, plan_words, read_words}

-- of a stream that is only a plan
pub plan_is_done : (a b s t : ℕ) (timeline : TimelineRead) (numbers : Numbers) (totals : Totals) → a ≡ b → s ≡ t → Some totals ≡ only_plan timeline
    → read_words a s ++ plan_words totals ≡ done_words b t timeline numbers
plan_is_done a b s t timeline numbers totals same_steps same_span is =
    ap₂ (λ steps span. read_words steps span ++ plan_words totals) same_steps same_span
    ∙ ap (λ o. option_map_or (λ (plan : Totals). read_words b t ++ plan_words plan) o (completed_words b t numbers)) is

-- of any other
pub completed_is_done : (a b s t : ℕ) (timeline : TimelineRead) (numbers : Numbers) → a ≡ b → s ≡ t → None ≡ only_plan timeline
    → completed_words a s numbers ≡ done_words b t timeline numbers
completed_is_done a b s t timeline numbers same_steps same_span is =
    ap₂ (λ steps span. completed_words steps span numbers) same_steps same_span
    ∙ ap (λ o. option_map_or (λ (plan : Totals). read_words b t ++ plan_words plan) o (completed_words b t numbers)) is
