-- What a message about a step or a provisioner is about.
use Rattle.std.specs.Prelude.{ℕ, List, codes, Bool, if◌then◌else◌, Option, Some, None, Result, Ok, Err}
use Rattle.std.specs.Option.{option_and_then, option_copied}
use Rattle.serde_json.specs.Data.{Data}
use Rattle.apply_json.specs.Tree.{member_of, text_of, tree_of}
use Rattle.stream_check.specs.declared.command.object.Object.{Object}
use Rattle.stream_check.specs.declared.command.object.Object.TheVariants as object
use Rattle.stream_check.specs.declared.messages.action.Action.{Action}
use Rattle.stream_check.specs.declared.rules.fault.Fault.{Fault}
use Rattle.stream_message.specs.Located.{message_text}
use Rattle.stream_check.specs.Message.{Message, version, step, provision, planned, plan_summary, summary, diagnostic, outputs, other, foreign, typed_message}

pub data About : Type 0 where
  of_step : Action → (address : List ℕ) → About
  of_provisioner : (name : Option (List ℕ)) → (address : List ℕ) → About

-- the subject of a message, with its texts as contracts see them
abbrev pub object_view : Object → About
object_view (object.Step action address) = of_step action address.now
object_view (object.Provisioner name address) = of_provisioner (option_copied name) address.now

-- the name of the provisioner, where it is a text
abbrev pub provisioner_of : Data → Option (List ℕ)
provisioner_of d = option_and_then (text_of (codes "provisioner")) (member_of (codes "hook") d)

abbrev pub about_message : Data → Result Message Fault → Option About
about_message d (Ok (step address action stage)) = Some (of_step action address)
about_message d (Ok (provision address stage)) = Some (of_provisioner (provisioner_of d) address)
about_message d (Ok version) = None
about_message d (Ok (planned intent address)) = None
about_message d (Ok (plan_summary totals)) = None
about_message d (Ok (summary totals)) = None
about_message d (Ok (diagnostic is_error address)) = None
about_message d (Ok outputs) = None
about_message d (Ok other) = None
about_message d (Ok foreign) = None
about_message d (Err fault) = None

-- what the message of a parsed line is about
unfoldable pub about_tree : Data → Option About
about_tree d = option_and_then (λ name. about_message d (typed_message name d)) (text_of (codes "type") d)

-- the text of the line's message
abbrev pub message_in : (find : Bool) → List ℕ → Option (List ℕ)
message_in find text = if find then message_text text else Some text

-- what the message of a line is about
abbrev pub about_line : (find : Bool) → List ℕ → Option About
about_line find text = option_and_then (λ piece. option_and_then about_tree (tree_of piece)) (message_in find text)
