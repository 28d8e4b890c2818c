use Rattle.std.proofs.Common.{◌≡◌, ◌+◌, drop, false, option_map}
use Rattle.input_graph.specs.Quoted.{quote_at}
use Rattle.input_graph.proofs.quoted.closing_quote.Given as goal

abbrev pub invariant-loop-place : goal.invariant-loop-place
invariant-loop-place l =
    quote_at false l.bytes ≡ option_map (λ n. l.place + n) (quote_at l.is_escaped (drop l.place l.bytes))
