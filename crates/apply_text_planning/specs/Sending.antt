-- Tokens that are appended to a JSON text, for private clauses.
use Rattle.std.specs.Prelude.{List, [], ◌∷◌, ◌++◌}
use Rattle.json.specs.Token.{Token}
use Rattle.apply_prior.specs.declared.planned_output.PlannedOutput.{PlannedOutput}
use Rattle.apply_text.specs.Sending.{member_tokens}
use Rattle.apply_text_planning.specs.Objects.{output_object}

-- a member for each output
abbrev pub output_tokens : List PlannedOutput → List Token
output_tokens [] = []
output_tokens (output ∷ outputs) = member_tokens output.name (output_object output) ++ output_tokens outputs
