-- A trimmed tree has a text `type` if and only if the whole tree has.
use Rattle.std.proofs.Common.{◌≡◌, ℕ, List, codes, Option, Some, None, option_map, option_and_then, refl, sym, ap, ◌∙◌}
use Rattle.serde_json.specs.Data.{Data}
use Rattle.apply_json.specs.Tree.{tree_of}
use Rattle.apply_json_tree.specs.Trimmed.{IsTrimmedTree, trimmed}
use Rattle.apply_json_tree.proofs.Trimmed.Lookups.{text_trimmed}
use Rattle.stream_message.specs.Members.{type_of}
use Rattle.stream_watch.specs.Reading.{if_typed}
use Rattle.stream_watch.specs.Shape.{message_selection}
use Rattle.stream_watch.specs.declared.message.shape.MessageShape.TheVariants.{Message, Scalar}

mapped : {A : Type 0} (f : A → A) (d : A) (o : Option (List ℕ)) → option_map (λ name. f d) o ≡ option_map f (option_map (λ name. d) o)
mapped f d None = refl
mapped f d (Some name) = refl

pub typed_trimmed : (d : Data) → if_typed (trimmed message_selection Message d) ≡ option_map (trimmed message_selection Message) (if_typed d)
typed_trimmed d =
    ap (option_map (λ name. trimmed message_selection Message d)) (text_trimmed message_selection Message Scalar (codes "type") d refl)
    ∙ mapped (trimmed message_selection Message) d (type_of d)

-- the message of a text that was read
pub message_is : (text : List ℕ) (tree : Data) → IsTrimmedTree message_selection Message text tree
    → if_typed tree ≡ option_map (trimmed message_selection Message) (option_and_then if_typed (tree_of text))
message_is text tree read =
    ap if_typed read.2 ∙ typed_trimmed read.0 ∙ ap (λ o. option_map (trimmed message_selection Message) (option_and_then if_typed o)) (sym read.1)
