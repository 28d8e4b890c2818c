-- The findings of several parts, in order.
use Rattle.std.proofs.Common.{List, [], ◌∷◌, ◌++◌}
use Rattle.input_validate.specs.declared.findings.finding.Finding.{Finding}

-- some findings, and then the findings of the parts
abbrev pub joined : List Finding → List (List Finding) → List Finding
joined all [] = all
joined all (part ∷ parts) = joined (all ++ part) parts
