-- The grammar's loop over members, turn by turn, after a front of members that were read.
use Rattle.std.proofs.Common.{◌≡◌, ℕ, ◌-◌, ◌<◌, ◌≤◌, List, length, Option, Some, None, ap, ◌∙◌}
use Rattle.json.specs.Token.{Token}
use Rattle.json.specs.Json.{Json, Members, no_members, member, Parse, parse_map, read_key, members}
use Rattle.json.proofs.Grammar.{members_end, members_fail, members_more, members_no_key}
use Rattle.apply_plan_terraform.proofs.Copying.{fused}

module _ (p : Parse Json) (all : Option (Members × List Token)) (front : Members → Members) (n : ℕ) (ts : List Token) (so_far : all ≡ parse_map front (members p n ts)) where
  -- one more
  pub turn : (k : List ℕ) (s r : List Token) (j : Json) → 0 < n → read_key ts ≡ Some (Some k, s) → p s ≡ Some (j, r) → all ≡ parse_map (λ ms. front (member k j ms)) (members p (n - 1) r)
  turn k s r j some key read = so_far ∙ ap (parse_map front) (members_more p n k ts s r j some key read) ∙ fused front (member k j) _

  -- no key is next, or no value after the key
  pub no_key : read_key ts ≡ None → all ≡ None
  no_key refused = so_far ∙ ap (parse_map front) (members_no_key p n ts refused)

  pub no_value : (k : List ℕ) (s : List Token) → read_key ts ≡ Some (Some k, s) → p s ≡ None → all ≡ None
  no_value k s key refused = so_far ∙ ap (parse_map front) (members_fail p n k ts s key refused)

  -- the end
  pub over : (r : List Token) → length ts ≤ n → read_key ts ≡ Some (None, r) → all ≡ Some (front no_members, r)
  over r enough end = so_far ∙ ap (parse_map front) (members_end p n ts r enough end)
