-- Skipped steps and objects.
use Rattle.std.specs.Prelude.{Bool}
use Rattle.serde_json.specs.Data.{Data}
use Rattle.input_validate.specs.declared.findings.name.Name.TheVariants as name
use Rattle.input_validate.specs.Rules.{is_set}

-- `skipped` is `true`
abbrev pub is_skipped : Data → Bool
is_skipped d = is_set name.Skipped d
