-- Texts that must not be empty.
use Rattle.std.specs.Prelude.{ℕ, List, Option}
use Rattle.apply_json.specs.ShallowView.{ShallowView, shallow_text}
use Rattle.apply_json.specs.Tree.{◌>>=◌, unless_empty}

abbrev pub filled_read : ShallowView → Option (List ℕ)
filled_read input = shallow_text input >>= unless_empty
