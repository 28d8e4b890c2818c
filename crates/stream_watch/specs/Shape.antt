-- Which members of a message are read (Machine-Readable UI, "Message Types").
use Rattle.std.specs.Prelude.{ℕ, List, ◌||◌, codes, if◌then◌else◌, Option, Some, None}
use Rattle.std.specs.Str.{bytes_eq}
use Rattle.apply_json_tree.specs.Trimmed.{Selection}
use Rattle.stream_watch.specs.declared.message.shape.MessageShape.{MessageShape}
use Rattle.stream_watch.specs.declared.message.shape.MessageShape.TheVariants.{Scalar, Message, Hook, HookResource, Change, Resource, Importing, Changes, Diagnostic, Range, Start, Snippet, Expressions, Expression, FunctionCall, Signature, Parameters, Parameter}

-- a member without members or items of its own, if its name is that
abbrev pub scalar_named : (known name : List ℕ) → Option MessageShape
scalar_named known name = if bytes_eq name known then Some Scalar else None

abbrev pub member_of_message : (name : List ℕ) → Option MessageShape
member_of_message name =
    if bytes_eq name (codes "type") || (bytes_eq name (codes "@timestamp") || (bytes_eq name (codes "@message")
    || (bytes_eq name (codes "terraform") || bytes_eq name (codes "outputs")))) then Some Scalar
    else if bytes_eq name (codes "hook") then Some Hook
    else if bytes_eq name (codes "change") then Some Change
    else if bytes_eq name (codes "changes") then Some Changes
    else if bytes_eq name (codes "diagnostic") then Some Diagnostic
    else None

abbrev pub member_of_hook : (name : List ℕ) → Option MessageShape
member_of_hook name =
    if bytes_eq name (codes "resource") then Some HookResource
    else if bytes_eq name (codes "action") || (bytes_eq name (codes "elapsed_seconds") || (bytes_eq name (codes "provisioner")
    || (bytes_eq name (codes "output") || (bytes_eq name (codes "id_key") || bytes_eq name (codes "id_value"))))) then Some Scalar
    else None

abbrev pub member_of_change : (name : List ℕ) → Option MessageShape
member_of_change name =
    if bytes_eq name (codes "action") || bytes_eq name (codes "reason") then Some Scalar
    else if bytes_eq name (codes "resource") || bytes_eq name (codes "previous_resource") then Some Resource
    else if bytes_eq name (codes "importing") then Some Importing
    else None

abbrev pub member_of_changes : (name : List ℕ) → Option MessageShape
member_of_changes name =
    if bytes_eq name (codes "operation") || (bytes_eq name (codes "add") || (bytes_eq name (codes "change")
    || (bytes_eq name (codes "remove") || bytes_eq name (codes "import")))) then Some Scalar
    else None

abbrev pub member_of_diagnostic : (name : List ℕ) → Option MessageShape
member_of_diagnostic name =
    if bytes_eq name (codes "severity") || (bytes_eq name (codes "summary") || (bytes_eq name (codes "detail")
    || bytes_eq name (codes "address"))) then Some Scalar
    else if bytes_eq name (codes "range") then Some Range
    else if bytes_eq name (codes "snippet") then Some Snippet
    else None

abbrev pub member_of_snippet : (name : List ℕ) → Option MessageShape
member_of_snippet name =
    if bytes_eq name (codes "context") || (bytes_eq name (codes "code") || bytes_eq name (codes "start_line")) then Some Scalar
    else if bytes_eq name (codes "values") then Some Expressions
    else if bytes_eq name (codes "function_call") then Some FunctionCall
    else None

-- the shape of the member with that name; nothing where it is skipped
abbrev pub member_shape : MessageShape → (name : List ℕ) → Option MessageShape
member_shape Scalar name = None
member_shape Message name = member_of_message name
member_shape Hook name = member_of_hook name
member_shape HookResource name =
    if bytes_eq name (codes "addr") || bytes_eq name (codes "resource_type") then Some Scalar else None
member_shape Change name = member_of_change name
member_shape Resource name = scalar_named (codes "addr") name
member_shape Importing name = scalar_named (codes "id") name
member_shape Changes name = member_of_changes name
member_shape Diagnostic name = member_of_diagnostic name
member_shape Range name =
    if bytes_eq name (codes "filename") then Some Scalar
    else if bytes_eq name (codes "start") then Some Start
    else None
member_shape Start name = scalar_named (codes "line") name
member_shape Snippet name = member_of_snippet name
member_shape Expressions name = None
member_shape Expression name =
    if bytes_eq name (codes "traversal") || bytes_eq name (codes "statement") then Some Scalar else None
member_shape FunctionCall name =
    if bytes_eq name (codes "called_as") then Some Scalar
    else if bytes_eq name (codes "signature") then Some Signature
    else None
member_shape Signature name =
    if bytes_eq name (codes "params") then Some Parameters
    else if bytes_eq name (codes "variadic_param") then Some Parameter
    else None
member_shape Parameters name = None
member_shape Parameter name = scalar_named (codes "name") name

abbrev pub item_shape : MessageShape → MessageShape
item_shape Expressions = Expression
item_shape Parameters = Parameter
item_shape _ = Scalar

-- how many items are read: all where their members are, else none
abbrev pub item_limit : MessageShape → Option ℕ
item_limit Expressions = None
item_limit Parameters = None
item_limit _ = Some 0

abbrev pub message_selection : Selection MessageShape
message_selection = record { member_shape = member_shape; item_shape = item_shape; item_limit = item_limit }
