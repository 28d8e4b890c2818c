-- Which members of a message are read (Machine-Readable UI, "Message Types").
use Rattle.std.specs.Prelude.{ℕ, List, ◌||◌, codes, if◌then◌else◌, Option, Some, None}
use Rattle.std.specs.Str.{bytes_eq}
use Rattle.apply_json_tree.specs.Trimmed.{Selection}
use Rattle.stream_record_lines.specs.declared.shape.MessageShape.{MessageShape}
use Rattle.stream_record_lines.specs.declared.shape.MessageShape.TheVariants.{Scalar, Message, Hook, Resource, Changes, Diagnostic}

-- a member without members or items of its own, if its name is that
abbrev pub scalar_named : (known name : List ℕ) → Option MessageShape
scalar_named known name = if bytes_eq name known then Some Scalar else None

abbrev pub member_of_message : (name : List ℕ) → Option MessageShape
member_of_message name =
    if bytes_eq name (codes "type") || (bytes_eq name (codes "@timestamp") || bytes_eq name (codes "ui")) then Some Scalar
    else if bytes_eq name (codes "hook") then Some Hook
    else if bytes_eq name (codes "changes") then Some Changes
    else if bytes_eq name (codes "diagnostic") then Some Diagnostic
    else None

abbrev pub member_of_hook : (name : List ℕ) → Option MessageShape
member_of_hook name =
    if bytes_eq name (codes "resource") then Some Resource
    else if bytes_eq name (codes "action") || (bytes_eq name (codes "elapsed_seconds") || (bytes_eq name (codes "provisioner")
    || (bytes_eq name (codes "output") || (bytes_eq name (codes "id_key") || bytes_eq name (codes "id_value"))))) then Some Scalar
    else None

abbrev pub member_of_diagnostic : (name : List ℕ) → Option MessageShape
member_of_diagnostic name =
    if bytes_eq name (codes "severity") || (bytes_eq name (codes "summary") || (bytes_eq name (codes "detail")
    || bytes_eq name (codes "address"))) then Some Scalar
    else None

-- the shape of the member with that name; nothing where it is skipped
abbrev pub member_shape : MessageShape → (name : List ℕ) → Option MessageShape
member_shape Scalar name = None
member_shape Message name = member_of_message name
member_shape Hook name = member_of_hook name
member_shape Resource name = scalar_named (codes "addr") name
member_shape Changes name = scalar_named (codes "operation") name
member_shape Diagnostic name = member_of_diagnostic name

-- no items are read
abbrev pub message_selection : Selection MessageShape
message_selection = record { member_shape = member_shape; item_shape = λ shape. Scalar; item_limit = λ shape. Some 0 }
