-- Paths of members in a message.
use Rattle.std.specs.Prelude.{ℕ, List, codes}
use Rattle.stream_check.specs.declared.messages.path.Path.{Path}
use Rattle.stream_check.specs.declared.messages.path.Path.TheVariants.{Hook, Resource, Address, Action, Seconds, Change, ChangeAction, Changes, Operation, Added, Changed, Removed, Diagnostic, Severity}

-- the names from the message down to the member, joined with dots
abbrev pub path_text : Path → List ℕ
path_text Hook = codes "hook"
path_text Resource = codes "hook.resource"
path_text Address = codes "hook.resource.addr"
path_text Action = codes "hook.action"
path_text Seconds = codes "hook.elapsed_seconds"
path_text Change = codes "change"
path_text ChangeAction = codes "change.action"
path_text Changes = codes "changes"
path_text Operation = codes "changes.operation"
path_text Added = codes "changes.add"
path_text Changed = codes "changes.change"
path_text Removed = codes "changes.remove"
path_text Diagnostic = codes "diagnostic"
path_text Severity = codes "diagnostic.severity"
