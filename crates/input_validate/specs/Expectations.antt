-- What values have to be, as the readers of plans and scripts have it.
use Rattle.std.specs.Prelude.{Bool, true, false, ◌||◌, not, codes, is_some, nat_eq, nat_le, Option, Some, None, option_and_then}
use Rattle.std.specs.List.{starts_with}
use Rattle.std.specs.Option.{option_map_or}
use Rattle.serde_json.specs.Data.{Data}
use Rattle.serde_json.specs.Find.{as_array, as_bool, as_number, as_object, as_str, as_u64}
use Rattle.apply_json.specs.Tree.{is_empty, is_word}
use Rattle.apply_model.specs.Script.Limits.{max_seconds}
use Rattle.apply_plan.specs.Plan.Element.{key_of}
use Rattle.input_validate.specs.declared.findings.expected.Expected.{Expected}
use Rattle.input_validate.specs.declared.findings.expected.Expected.TheVariants as expected

-- the member may be absent or `null`
abbrev pub may_be_absent : Expected → Bool
may_be_absent expected.ArrayOrAbsent = true
may_be_absent expected.FlagOrAbsent = true
may_be_absent expected.Key = true
may_be_absent expected.ObjectOrAbsent = true
may_be_absent expected.OnFailure = true
may_be_absent expected.SecondsOrAbsent = true
may_be_absent expected.Severity = true
may_be_absent expected.TextOrAbsent = true
may_be_absent expected.WholeOrAbsent = true
may_be_absent _ = false

-- a text that starts with `1.`
abbrev pub is_format_version : Data → Bool
is_format_version d = option_map_or (λ text. starts_with nat_eq text (codes "1.")) (as_str d) false

-- `managed` or `data`
abbrev pub is_mode : Data → Bool
is_mode d = is_word (codes "managed") d || is_word (codes "data") d

-- `continue` or `fail`
abbrev pub is_on_failure : Data → Bool
is_on_failure d = is_word (codes "continue") d || is_word (codes "fail") d

-- `error` or `warning`
abbrev pub is_severity : Data → Bool
is_severity d = is_word (codes "warning") d || is_word (codes "error") d

-- a text of one byte at least
abbrev pub is_text_with_a_byte : Data → Bool
is_text_with_a_byte d = option_map_or (λ text. not (is_empty text)) (as_str d) false

-- a whole number of 64 bits
abbrev pub is_whole : Data → Bool
is_whole d = is_some (option_and_then as_u64 (as_number d))

-- a whole number of seconds, a day at most
abbrev pub is_within_a_day : Data → Bool
is_within_a_day d = option_map_or (λ seconds. nat_le seconds max_seconds) (option_and_then as_u64 (as_number d)) false

-- a value is what it has to be, as far as its top level shows
abbrev pub suits : Expected → Data → Bool
suits expected.Array d = is_some (as_array d)
suits expected.ArrayOrAbsent d = is_some (as_array d)
suits expected.Diagnostic d = is_some (as_object d)
suits expected.Entry d = is_some (as_object d)
suits expected.FlagOrAbsent d = is_some (as_bool d)
suits expected.FormatVersion d = is_format_version d
suits expected.Key d = is_some (key_of (Some d))
suits expected.Mode d = is_mode d
suits expected.NonEmptyText d = is_text_with_a_byte d
suits expected.Note d = is_some (as_object d)
suits expected.NoteSeverity d = is_severity d
suits expected.NotNull d = true
suits expected.Object d = is_some (as_object d)
suits expected.ObjectOrAbsent d = is_some (as_object d)
suits expected.OnFailure d = is_on_failure d
suits expected.Output d = is_some (as_str d) || is_some (as_object d)
suits expected.Plan d = is_some (as_object d)
suits expected.Planned d = is_some (as_object d)
suits expected.PlanOutput d = is_some (as_object d)
suits expected.Provisioner d = is_some (as_object d)
suits expected.Seconds d = is_whole d
suits expected.SecondsOrAbsent d = is_within_a_day d
suits expected.Severity d = is_severity d
suits expected.Step d = is_some (as_object d)
suits expected.Text d = is_some (as_str d)
suits expected.TextOrAbsent d = is_some (as_str d)
suits expected.Wait d = is_some (as_str d) || is_some (as_object d)
suits expected.WholeOrAbsent d = is_whole d

-- a member is what it has to be; `None` is a member that is absent or `null`
abbrev pub is_met : Expected → Option Data → Bool
is_met wanted None = may_be_absent wanted
is_met wanted (Some d) = suits wanted d
