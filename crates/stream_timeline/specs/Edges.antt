-- The begins and ends of intervals, for private clauses.
use Rattle.std.specs.Prelude.{List, [], ◌∷◌, true, false}
use Rattle.std.specs.List.{flat_map}
use Rattle.stream_timeline.specs.declared.numbers.edge.Edge.{Edge}
use Rattle.stream_timeline.specs.declared.numbers.interval.Interval.{Interval}

abbrev pub begin_of : Interval → Edge
begin_of i = record { time = i.begin; place = i.place; is_end = false }

abbrev pub end_of : Interval → Edge
end_of i = record { time = i.end; place = i.place; is_end = true }

abbrev pub edges_of : List Interval → List Edge
edges_of intervals = flat_map (λ (i : Interval). begin_of i ∷ (end_of i ∷ [])) intervals
