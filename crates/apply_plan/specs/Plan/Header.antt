-- The top level of a plan (JSON Output Format, "Plan Representation").
use Rattle.std.specs.Prelude.{ℕ, List, codes, nat_eq, if◌then◌else◌, Option, Some, None}
use Rattle.std.specs.List.{starts_with}
use Rattle.serde_json.specs.Data.{Data, Items}
use Rattle.apply_json.specs.Tree.{◌>>=◌, member_of, text_of, text_or, items_or_empty}

pub record Header : Type 0 where
  -- the version of Terraform that made the plan
  pub version : List ℕ
  -- the items of `resource_changes`
  pub elements : Items

-- the header; none unless `format_version` is 1.x, `terraform_version` is a text or absent, and
-- `resource_changes` is an array or absent
unfoldable pub header_of : Data → Option Header
header_of d = do
  format ← text_of (codes "format_version") d
  version ← text_or (codes "0.0.0") (member_of (codes "terraform_version") d)
  elements ← items_or_empty (member_of (codes "resource_changes") d)
  if starts_with nat_eq format (codes "1.") then Some (record { version = version; elements = elements }) else None
