-- Outputs and lines that differ only in the values of sensitive outputs.
use Rattle.std.specs.Prelude.{◌≡◌, ◌⊎◌, ℕ, Bool, List, Some, codes, false, is_some, true}
use Rattle.std.specs.List.{AllZip}
use Rattle.serde_json.specs.Data.{Data}
use Rattle.apply_json.specs.Tree.{text_of}
use Rattle.stream_watch.specs.OutputRows.{has_outputs}
use Rattle.stream_watch.specs.Outputs.{OutputView, outputs_of}
use Rattle.stream_watch.specs.Reading.{message_of}

-- The same output, but for its value if it is sensitive. Both have a value, or both have none.
pub record AreAlike (output other : OutputView) : Type 0 where
  pub name : output.name ≡ other.name
  pub action : output.action ≡ other.action
  pub sensitive : output.is_sensitive ≡ other.is_sensitive
  pub has_value : is_some output.value ≡ is_some other.value
  pub value : output.is_sensitive ≡ false → output.value ≡ other.value

-- Lines with messages of the type `outputs`, which are the same but for the values of sensitive
-- outputs. The outputs are read apart from the tree of the other members that are read.
pub record AreAlikeLines (find : Bool) (line other : List ℕ) : Type 0 where
  pub tree : Data
  pub first : message_of find line ≡ Some tree
  pub second : message_of find other ≡ Some tree
  pub is_of_type : text_of (codes "type") tree ≡ Some (codes "outputs")
  pub has : has_outputs tree ≡ true
  pub outputs : AllZip AreAlike (outputs_of find line) (outputs_of find other)

abbrev pub IsSameOrAlike : (find : Bool) → (line other : List ℕ) → Type 0
IsSameOrAlike find line other = (line ≡ other) ⊎ AreAlikeLines find line other
