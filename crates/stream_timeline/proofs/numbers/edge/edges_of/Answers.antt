use Rattle.std.proofs.Common.{rules}
use Rattle.std.proofs.lemmas.List.Sorted.{IsNonDecreasingBy-from_sort_by_key}
use Rattle.stream_timeline.proofs.SweptSoFar.{time_of}
use Rattle.stream_timeline.proofs.numbers.edge.edges_of.Goals as goal

pub returns-clause-ordered : goal.returns-clause-ordered
returns-clause-ordered c = IsNonDecreasingBy-from_sort_by_key time_of _ c.in_ok-sort_by_key.ensures.sorted (λ a r q k. search rules)
