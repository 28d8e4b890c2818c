use Rattle.std.proofs.Common.{◌≡◌, ◌+◌, ◌<◌, All, length}
use Rattle.stream_record_waits.specs.Reached.{IsMarked, size_of}
use Rattle.stream_record_waits.specs.Steps.{lists_in}
use Rattle.stream_record_waits.proofs.Search.{IsSearched}
use Rattle.stream_record_waits.proofs.reached.Reached.search.Given as goal

abbrev pub invariant-found : goal.invariant-found
invariant-found l = record {
  marked : IsMarked l.self;
  size : size_of l.self ≡ length l.steps;
  search : l.self.search ≡ l.step + 1;
  known : All (λ other. other < length l.steps) l.self.steps.items;
  searched : IsSearched l.steps (lists_in l.graph) l.step l.line l.place l.self.steps.items;
}
