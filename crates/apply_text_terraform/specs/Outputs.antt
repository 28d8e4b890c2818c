-- The message of the outputs (Machine-Readable UI, "Outputs"). Types and values are JSON texts,
-- copied verbatim.
use Rattle.std.specs.Prelude.{ℕ, List, [], ◌∷◌, ◌++◌, codes, decimal, length, Bool, if◌then◌else◌}
use Rattle.json.specs.Print.{quoted}
use Rattle.apply_model.specs.declared.details.output.Output.{Output}

-- an output after its name; the value of a sensitive output is left out
abbrev pub output_text : Output → List ℕ
output_text output =
    if output.sensitive then codes ":{\"sensitive\":true,\"type\":" ++ (output.kind ++ codes "}")
    else (codes ":{\"sensitive\":false,\"type\":" ++ (output.kind ++ (codes ",\"value\":" ++ (output.value ++ codes "}"))))

-- the text between the name of an output and its type, for private clauses
abbrev pub before_type : (sensitive : Bool) → List ℕ
before_type sensitive = if sensitive then codes ":{\"sensitive\":true,\"type\":" else codes ":{\"sensitive\":false,\"type\":"

-- outputs with their names; `before` stands before the first, and a comma before each other
abbrev pub outputs_from : (before : List ℕ) → List Output → List ℕ
outputs_from before [] = []
outputs_from before (output ∷ outputs) = before ++ (quoted output.name ++ (output_text output ++ outputs_from (codes ",") outputs))

-- the whole message, with the outputs in this order
abbrev pub outputs_message : (timestamp : List ℕ) → List Output → List ℕ
outputs_message timestamp outputs =
    codes "{\"@level\":\"info\",\"@message\":\"Outputs: " ++ (decimal (length outputs)
    ++ (codes "\",\"@module\":\"terraform.ui\",\"@timestamp\":\"" ++ (timestamp
    ++ (codes "\",\"outputs\":{" ++ (outputs_from [] outputs ++ codes "},\"type\":\"outputs\"}")))))
