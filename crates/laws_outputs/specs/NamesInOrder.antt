-- Members whose names strictly increase in byte order.
use Rattle.std.specs.Prelude.{◌≡◌, ℕ, List, ⊤}
use Rattle.std.specs.declared.cmp.Ordering.TheVariants.{Less}
use Rattle.std.specs.Cmp.Lexicographic.{slice_cmp}
use Rattle.std.specs.Ordering.{nat_cmp}
use Rattle.serde_json.specs.Data.{Members, no_members, member}

-- each name comes after this one
abbrev pub AreAfter : List ℕ → Members → Type 0
AreAfter name no_members = ⊤
AreAfter name (member other d ms) = (slice_cmp nat_cmp name other ≡ Less) × AreAfter name ms

-- each name comes after those before it
abbrev pub AreInOrder : Members → Type 0
AreInOrder no_members = ⊤
AreInOrder (member name d ms) = AreAfter name ms × AreInOrder ms
