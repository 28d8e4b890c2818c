-- Which nodes of a graph are the steps of a plan. A step is given by the name of its node.
use Rattle.std.specs.Prelude.{ℕ, ◌+◌, ◌-◌, ◌==◌, ◌&&◌, List, ◌++◌, length, map, take, drop, codes, nat_eq, not, Bool, true, false, is_some, if◌then◌else◌, Option, Some, None}
use Rattle.std.specs.List.{position_from, position_or_len, starts_with, suffix_len}
use Rattle.std.specs.Str.{bytes_eq}
use Rattle.input_graph.specs.declared.step_node.StepNode.{StepNode}

-- The name of the node of a step.
abbrev pub step_name : (address : List ℕ) → (deposed : Option (List ℕ)) → (is_delete : Bool) → List ℕ
step_name address deposed false = address
step_name address None true = address ++ codes " (destroy)"
step_name address (Some key) true = address ++ (codes " (destroy deposed " ++ (key ++ codes ")"))

-- The names of the nodes of steps.
abbrev pub names_of : List StepNode → List (List ℕ)
names_of steps = map (λ step. step.name) steps

-- The number of the first step whose node has that name.
abbrev pub step_named : (steps : List (List ℕ)) → (name : List ℕ) → Option ℕ
step_named steps name = position_from (bytes_eq name) 0 steps

abbrev pub is_step : (steps : List (List ℕ)) → (name : List ℕ) → Bool
is_step steps name = is_some (step_named steps name)

-- Where the last `(` of a name is; 0 where there is none.
abbrev pub last_opening : List ℕ → ℕ
last_opening name = length name - suffix_len (λ byte. not (byte == 40)) name - 1

-- The bytes are `(destroy deposed KEY)`, and KEY has no `)`.
abbrev pub is_deposed_delete : List ℕ → Bool
is_deposed_delete bytes =
    starts_with nat_eq bytes (codes "(destroy deposed ") && position_or_len (λ byte. byte == 41) bytes + 1 == length bytes

-- The name `ADDRESS (destroy)` for a name `ADDRESS (destroy deposed KEY)`, where KEY has no
-- parenthesis; none for any other name.
abbrev pub current_delete : List ℕ → Option (List ℕ)
current_delete name =
    if is_deposed_delete (drop (last_opening name) name) then Some (take (last_opening name) name ++ codes "(destroy)") else None

-- A name that is the second name of a step, in place of the first one.
abbrev pub step_or : (steps : List (List ℕ)) → (name : List ℕ) → Option (List ℕ) → List ℕ
step_or steps name None = name
step_or steps name (Some other) = if is_step steps other then other else name

-- The name under which the steps know a node. A replacement that creates first draws a key for the
-- object that it destroys. No plan has this key, so the node is the delete of the current object.
abbrev pub known_name : (steps : List (List ℕ)) → (name : List ℕ) → List ℕ
known_name steps name = if is_step steps name then name else step_or steps name (current_delete name)
