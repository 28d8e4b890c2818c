-- The stretches between neighbouring begins and ends of steps, and how many steps run in each.
use Rattle.std.specs.Prelude.{ℕ, ◌<◌, ◌≤◌, ◌^◌, ◌==◌, nat_lt, nat_le, List, [], ◌∷◌, Bool, ◌&&◌, if◌then◌else◌, Option, Some, None}
use Rattle.std.specs.List.{count_by, filter}
use Rattle.std.specs.List.Sorted.{IsNonDecreasingBy}
use Rattle.stream_timeline.specs.declared.numbers.interval.Interval.{Interval}
use Rattle.stream_timeline.specs.declared.numbers.stretch.Stretch.{Stretch}

-- the interval ends no sooner than it begins
abbrev pub IsOrdered : Interval → Type 0
IsOrdered i = i.begin ≤ i.end

-- the numbers of the interval fit into 64 bits
pub record IsSmallInterval (i : Interval) : Type 0 where
  pub place : i.place < 2 ^ 64
  pub end : i.end < 2 ^ 64

-- a number put into an ascending list, unless the list has it
abbrev pub put : ℕ → List ℕ → List ℕ
put m [] = m ∷ []
put m (c ∷ cs) = if nat_lt m c then m ∷ (c ∷ cs) else if m == c then c ∷ cs else c ∷ put m cs

-- the begins and ends, sorted, each once
abbrev pub cuts : List Interval → List ℕ
cuts [] = []
cuts (i ∷ is) = put i.begin (put i.end (cuts is))

-- the interval covers the stretch from `a` to `b`
abbrev pub is_under_way : (a b : ℕ) → Interval → Bool
is_under_way a b i = nat_le i.begin a && nat_le b i.end

-- the place of the interval, if there is exactly one
abbrev pub only_place : List Interval → Option ℕ
only_place [] = None
only_place (i ∷ []) = Some i.place
only_place (i ∷ (j ∷ is)) = None

abbrev pub stretch_of : List Interval → (a b : ℕ) → Stretch
stretch_of is a b = record {
  begin = a;
  end = b;
  number = count_by (is_under_way a b) is;
  alone = only_place (filter (is_under_way a b) is);
}

-- the stretches between neighbouring cuts
abbrev pub stretches_between : List Interval → List ℕ → List Stretch
stretches_between is [] = []
stretches_between is (a ∷ []) = []
stretches_between is (a ∷ (b ∷ cs)) = stretch_of is a b ∷ stretches_between is (b ∷ cs)

abbrev pub stretches_of : List Interval → List Stretch
stretches_of is = stretches_between is (cuts is)

-- no stretch begins before one that it follows
abbrev pub AreInOrder : List Stretch → Type 0
AreInOrder stretches = IsNonDecreasingBy (λ (s : Stretch). s.begin) stretches
