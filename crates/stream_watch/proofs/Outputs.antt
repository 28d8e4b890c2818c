-- Outputs for which no action is planned, one more at the end.
use Rattle.std.proofs.Common.{◌≡◌, ◌∙◌, ℕ, ◌+◌, ◌<◌, List, [], ◌∷◌, ◌++◌, ap, get_or, length, map, take}
use Rattle.std.proofs.lemmas.List.{map-append}
use Rattle.std.proofs.lemmas.List.Elements.{filter-append}
use Rattle.stream_watch.specs.OutputRows.{is_unplanned, unplanned, value_words}
use Rattle.stream_watch.specs.Outputs.{OutputView, output_view}
use Rattle.stream_watch.specs.declared.message.outputs.output.Output.{Output}
use Rattle.stream_watch.proofs.Items.{map_take-more}

pub values-more : (outputs : List Output) (i : ℕ) (output : Output) → i < length outputs → output ≡ get_or outputs i output
    → map value_words (unplanned (map output_view (take (i + 1) outputs)))
    ≡ map value_words (unplanned (map output_view (take i outputs))) ++ map value_words (unplanned (output_view output ∷ []))
values-more outputs i output below is =
    ap (λ (os : List OutputView). map value_words (unplanned os)) (map_take-more output_view outputs i output below is)
    ∙ ap (map value_words) (filter-append is_unplanned (map output_view (take i outputs)) (output_view output ∷ []))
    ∙ map-append value_words (unplanned (map output_view (take i outputs))) (unplanned (output_view output ∷ []))
