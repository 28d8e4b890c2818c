-- What counts as open at the end, or at a summary.
use Rattle.std.specs.Prelude.{ℕ, List, Bool, false, ◌&&◌, ◌||◌, not, is_some}
use Rattle.std.specs.List.{list_any}
use Rattle.std.specs.Option.{option_map_or}
use Rattle.stream_check.specs.declared.rules.address_state.AddressState.{AddressState}
use Rattle.stream_check.specs.Message.{Message, address_of}
use Rattle.stream_check.specs.AddressState.{state_of}
use Rattle.stream_check.specs.Tally.{failures_stand, is_error}

-- An open create, update or delete counts. Refreshes and failures count where the criteria say so.
-- A read may stay open. A provisioner runs within a create or a delete.
abbrev pub stands_open : (refreshes failures : Bool) → AddressState → Bool
stands_open refreshes failures s =
    is_some s.create || is_some s.update || is_some s.delete || (refreshes && is_some s.refresh)
    || (failures && is_some s.failures)

-- an open refresh counts where no error was reported
abbrev pub refreshes_matter : List Message → Bool
refreshes_matter messages = not (list_any is_error messages)

abbrev pub is_open_at : List Message → (address : List ℕ) → Bool
is_open_at messages address = stands_open (refreshes_matter messages) (failures_stand messages) (state_of address messages)

-- something stands open at the address of the message, after all messages
abbrev pub is_unended : List Message → Message → Bool
is_unended messages message = option_map_or (is_open_at messages) (address_of message) false

unfoldable pub any_open : List Message → Bool
any_open messages = list_any (is_unended messages) messages
