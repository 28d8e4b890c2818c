-- Why bytes have no tree.
use Rattle.std.specs.Prelude.{◌≡◌, ◌<◌, ◌≤◌, ℕ, List, length, None}
use Rattle.apply_json.specs.declared.json_fault.JsonFault.{JsonFault}
use Rattle.apply_json.specs.declared.json_fault.JsonFault.TheVariants.{TooLarge, NotJson, Memory}
use Rattle.apply_json.specs.declared.read_fault.ReadFault.{ReadFault}
use Rattle.apply_json.specs.declared.read_fault.ReadFault.TheVariants as read
use Rattle.apply_json.specs.Tree.{tree_of}

-- the fault of bytes, by the fault of their text
abbrev pub json_fault_of : ReadFault → JsonFault
json_fault_of read.NotJson = NotJson
json_fault_of read.Memory = Memory

-- the bytes are too many, or have no tree; `Memory` states only that the bytes are not too many
abbrev pub IsNoTree : (most : ℕ) → JsonFault → List ℕ → Type 0
IsNoTree most TooLarge bytes = most < length bytes
IsNoTree most NotJson bytes = (length bytes ≤ most) × (tree_of bytes ≡ None)
IsNoTree most Memory bytes = length bytes ≤ most
