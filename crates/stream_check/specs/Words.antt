-- The words of the Machine-Readable UI that the rules know.
use Rattle.std.specs.Prelude.{ℕ, List, codes, Bool, true, false, if◌then◌else◌, Option, Some, None}
use Rattle.std.specs.Str.{bytes_eq}
use Rattle.stream_check.specs.declared.messages.action.Action.{Action}
use Rattle.stream_check.specs.declared.messages.action.Action.TheVariants.{Create, Update, Delete, Read, Refresh}

-- the action that a word names; a refresh has message types of its own
abbrev pub action_named : List ℕ → Option Action
action_named word =
    if bytes_eq word (codes "create") then Some Create
    else if bytes_eq word (codes "update") then Some Update
    else if bytes_eq word (codes "delete") then Some Delete
    else if bytes_eq word (codes "read") then Some Read
    else None

abbrev pub same_action : Action → Action → Bool
same_action Create Create = true
same_action Update Update = true
same_action Delete Delete = true
same_action Read Read = true
same_action Refresh Refresh = true
same_action one other = false

-- the word that names an action
abbrev pub action_word : Action → List ℕ
action_word Create = codes "create"
action_word Update = codes "update"
action_word Delete = codes "delete"
action_word Read = codes "read"
action_word Refresh = codes "refresh"
