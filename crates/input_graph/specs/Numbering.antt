-- The edges between nodes that have numbers, for private clauses.
use Rattle.std.specs.Prelude.{◌≡◌, ◌<◌, ◌≤◌, ◌⊎◌, ℕ, All, List, length, Option, Some, slice_get}
use Rattle.std.specs.List.{Contains}
use Rattle.input_graph.specs.AllWaits.{lists_in}
use Rattle.input_graph.specs.StepNodes.{step_named}
use Rattle.input_graph.specs.Targets.{targets_of, texts}
use Rattle.input_graph.specs.declared.numbered_graph.NumberedGraph.{NumberedGraph}

-- A longer list has the same items at the same places.
abbrev pub Extends : (names new : List (List ℕ)) → Type 0
Extends names new = (number : ℕ) (name : List ℕ) → slice_get names number ≡ Some name → slice_get new number ≡ Some name

-- The numbers are those of nodes, in any order.
pub record AreNumbersOf (names : List (List ℕ)) (numbers : List ℕ) (nodes : List (List ℕ)) : Type 0 where
  pub each : All (λ number. (name : List ℕ) × (slice_get names number ≡ Some name) × Contains nodes name) numbers
  pub all : All (λ node. (number : ℕ) × Contains numbers number × (slice_get names number ≡ Some node)) nodes

-- The list has the numbers of the targets of the node with that number and name.
abbrev pub HasTargetsAt : (edges : List (List ℕ × List ℕ)) → (names : List (List ℕ)) → (lists : List (List ℕ)) → (number : ℕ) → (name : List ℕ) → Type 0
HasTargetsAt edges names lists number name = (numbers : List ℕ) × (slice_get lists number ≡ Some numbers) × AreNumbersOf names numbers (targets_of edges name)

-- The lists have the numbers of the targets of the first nodes, that many.
abbrev pub HaveTargets : (edges : List (List ℕ × List ℕ)) → (names : List (List ℕ)) → (lists : List (List ℕ)) → (count : ℕ) → Type 0
HaveTargets edges names lists count = (number : ℕ) (name : List ℕ) → number < count → slice_get names number ≡ Some name → HasTargetsAt edges names lists number name

-- The starts are the numbers of the nodes of the first steps, that many.
abbrev pub AreStarts : (steps : List (List ℕ)) → (names : List (List ℕ)) → (starts : List ℕ) → (count : ℕ) → Type 0
AreStarts steps names starts count = (step : ℕ) (name : List ℕ) → step < count → slice_get steps step ≡ Some name
    → (number : ℕ) × (slice_get starts step ≡ Some number) × (slice_get names number ≡ Some name)

-- The first nodes, that many, have the numbers of their steps.
abbrev pub HaveSteps : (steps : List (List ℕ)) → (names : List (List ℕ)) → (step_of : List (Option ℕ)) → (count : ℕ) → Type 0
HaveSteps steps names step_of count = (number : ℕ) (name : List ℕ) → number < count → slice_get names number ≡ Some name → slice_get step_of number ≡ Some (step_named steps name)

pub record IsNumbering (steps : List (List ℕ)) (edges : List (List ℕ × List ℕ)) (names : List (List ℕ)) (lists : List (List ℕ)) (step_of : List (Option ℕ)) (starts : List ℕ) : Type 0 where
  pub begins : AreStarts steps names starts (length steps)
  pub leads : HaveTargets edges names lists (length names)
  pub knows : HaveSteps steps names step_of (length names)

-- What the graph has for the steps and edges from which it was made.
abbrev pub IsNumbered : NumberedGraph → Type 0
IsNumbered graph = IsNumbering graph.nodes.now graph.edges (texts graph.names.keys) (lists_in graph.targets.items) graph.step_of.items graph.starts.items

-- A number is seen once it has the stamp. Stamps were never greater.
pub record AreSeen (seen : List ℕ) (stamp : ℕ) (found : List ℕ) (count : ℕ) : Type 0 where
  pub each : length seen ≡ count
  pub marks : (number : ℕ) → slice_get seen number ≡ Some stamp → Contains found number
  pub old : All (λ mark. mark ≤ stamp) seen

-- Numbers have joined those that were found.
pub record HaveJoined (found more new : List ℕ) : Type 0 where
  pub keeps : (number : ℕ) → Contains found number → Contains new number
  pub has : All (Contains new) more
  pub only : All (λ number. Contains found number ⊎ Contains more number) new
  pub grows : length found ≤ length new
  pub stays : (k : ℕ) → k < length found → slice_get new k ≡ slice_get found k
