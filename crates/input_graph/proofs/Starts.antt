-- The nodes from which a circle was searched.
use Rattle.std.proofs.Common.{◌≡◌, ◌<◌, ◌≤◌, ◌+◌, ℕ, List, All, Bor, length, take, get_or, subst}
use Rattle.std.specs.List.{Contains}
use Rattle.std.proofs.lemmas.List.{take_all}
use Rattle.std.proofs.lemmas.List.Elements.{All-contains, All-map, All-more, All-weaker}
use Rattle.input_graph.specs.Circles.{AreRanked}
use Rattle.input_graph.specs.CircleSearch.{IsSettled}
use Rattle.input_graph.specs.Targets.{edge_texts}
use Rattle.input_graph.proofs.Ranks.{ranked}

-- the first node of an edge is in a list
abbrev pub BeginsIn : (seen : List (List ℕ)) → Bor (List ℕ) × Bor (List ℕ) → Type 0
BeginsIn seen edge = Contains seen edge.0.now

pub begun_more : (seen new : List (List ℕ)) (edges : List (Bor (List ℕ) × Bor (List ℕ))) (i : ℕ) (d : Bor (List ℕ) × Bor (List ℕ)) → i < length edges
    → All (BeginsIn seen) (take i edges) → ((node : List ℕ) → Contains seen node → Contains new node) → BeginsIn new (get_or edges i d) → All (BeginsIn new) (take (i + 1) edges)
begun_more seen new edges i d within all kept one =
    All-more (BeginsIn new) edges i d within (All-weaker (BeginsIn seen) (BeginsIn new) (λ edge c. kept edge.0.now c) (take i edges) all) one

-- after the last edge
pub all_ranked : (seen done : List (List ℕ)) (edges : List (Bor (List ℕ) × Bor (List ℕ))) (i : ℕ) (view : List (List ℕ × List ℕ)) → edge_texts edges ≡ view → length edges ≤ i
    → All (BeginsIn seen) (take i edges) → IsSettled view seen done → AreRanked view
all_ranked seen done edges i view is all begun s =
    let Finished : List ℕ × List ℕ → Type 0 = λ edge. Contains done edge.0 in
    let whole = subst (All (BeginsIn seen)) (take_all i edges all) begun in
    ranked view done s.in_order
    (subst (All Finished) is
    (All-map Finished (λ (edge : Bor (List ℕ) × Bor (List ℕ)). (edge.0.now, edge.1.now)) edges
    (All-weaker (BeginsIn seen) (λ (edge : Bor (List ℕ) × Bor (List ℕ)). Contains done edge.0.now) (λ edge c. All-contains (Contains done) seen edge.0.now s.finished c) edges whole)))
