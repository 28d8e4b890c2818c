-- `record` and `watch` read a message in the same lines.
use Rattle.std.proofs.Common.{◌≡◌, ℕ, List, Bool, true, false, Option, Some, None, is_some, option_map, refl, sym, ◌∙◌}
use Rattle.std.specs.Prelude.{if◌then◌else◌}
use Rattle.std.specs.Option.{option_map_or}
use Rattle.serde_json.specs.Data.{Data}
use Rattle.apply_json.specs.Tree.{◌>>=◌, tree_of}
use Rattle.apply_json_tree.specs.Trimmed.{trimmed}
use Rattle.stream_message.specs.Kinds.{kind_named}
use Rattle.stream_message.specs.Members.{type_of}
use Rattle.stream_message.specs.Runs.{text_in}
use Rattle.stream_record_lines.specs.Lines.{is_message, message_in, stated_line, without_message}
use Rattle.stream_record_lines.specs.Messages.{message_of}
use Rattle.stream_record_lines.specs.declared.stated_line.StatedLine.{StatedLine}
use Rattle.stream_record_lines.specs.declared.stated_line.StatedLine.TheVariants.{Foreign, Message, NoMessage}
use Rattle.stream_record_lines.specs.declared.stated_message.StatedMessage.{StatedMessage}
use Rattle.stream_watch.specs.Reading as watch
use Rattle.stream_watch.specs.Reading.{if_typed, whole_message_of}
use Rattle.stream_watch.specs.Shape.{message_selection}
use Rattle.stream_watch.specs.declared.message.shape.MessageShape.TheVariants as shape

kept : {A B : Type 0} (f : A → B) (o : Option A) → is_some (option_map f o) ≡ is_some o
kept f None = refl
kept f (Some a) = refl

tree : (text : List ℕ) (o : Option Data) → is_some (o >>= message_of text) ≡ is_some (o >>= if_typed)
tree text None = refl
tree text (Some d) = kept _ (option_map kind_named (type_of d)) ∙ kept kind_named (type_of d) ∙ sym (kept (λ name. d) (type_of d))

read : (o : Option (List ℕ)) → is_some (o >>= message_in) ≡ is_some ((o >>= tree_of) >>= if_typed)
read None = refl
read (Some text) = tree text (tree_of text)

either : (b : Bool) (x y : StatedLine) → is_message x ≡ false → is_message y ≡ false → is_message (if b then x else y) ≡ false
either true x y this that = this
either false x y this that = that

stated : (o : Option StatedMessage) (other : StatedLine) → is_message other ≡ false → is_message (option_map_or Message o other) ≡ is_some o
stated None other none = none
stated (Some message) other none = refl

pub same_messages : (find : Bool) (line : List ℕ) → is_message (stated_line find line) ≡ is_some (watch.message_of find line)
same_messages find line =
    stated (text_in find line >>= message_in) (without_message find line) (either _ Foreign NoMessage refl refl) ∙ read (text_in find line)
    ∙ sym (kept (trimmed message_selection shape.Message) (whole_message_of find line))
