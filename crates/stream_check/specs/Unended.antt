-- All that stands open.
use Rattle.std.specs.Prelude.{◌≡◌, ℕ, List, [], ◌∷◌, ◌++◌, map, Bool, true, codes, if◌then◌else◌, Option, Some, None}
use Rattle.std.specs.Cmp.Lexicographic.{slice_cmp}
use Rattle.std.specs.List.{flat_map, list_any}
use Rattle.std.specs.List.Sorted.{IsStrictlySortedBy}
use Rattle.std.specs.Ordering.{nat_cmp}
use Rattle.std.specs.Str.{bytes_eq}
use Rattle.stream_check.specs.declared.rules.address_state.Failures.{Failures}
use Rattle.stream_check.specs.declared.rules.open_entry.OpenKind.{OpenKind}
use Rattle.stream_check.specs.declared.rules.open_entry.OpenKind.TheVariants.{Create, Update, Delete, Refresh, Failure}
use Rattle.stream_check.specs.declared.rules.pending.Pending.{Pending}
use Rattle.stream_check.specs.declared.rules.address_state.AddressState.{AddressState}
use Rattle.stream_check.specs.declared.rules.open_entry.OpenEntry.{OpenEntry}
use Rattle.stream_check.specs.Course.{start_line_of}
use Rattle.stream_check.specs.Message.{Message}
use Rattle.stream_check.specs.Open.{is_open_at, refreshes_matter}
use Rattle.stream_check.specs.AddressState.{state_of}
use Rattle.stream_check.specs.Tally.{failures_stand}

-- the word for the kind
abbrev pub kind_word : OpenKind → List ℕ
kind_word Create = codes "create"
kind_word Update = codes "update"
kind_word Delete = codes "delete"
kind_word Refresh = codes "refresh"
kind_word Failure = codes "failure"

-- an open entry: address, kind and line
abbrev pub Opened : Type 0
Opened = List ℕ × OpenKind × ℕ

abbrev pub opened : OpenEntry → Opened
opened entry = (entry.address.now, entry.kind, entry.line)

-- the entry of an open step, with the line on which it started
abbrev pub open_step : (address : List ℕ) → OpenKind → Option Pending → List Opened
open_step address kind None = []
open_step address kind (Some pending) = (address, kind, start_line_of pending) ∷ []

-- the entry of failures, with the line of the first failure
abbrev pub open_failures : (address : List ℕ) → Option Failures → List Opened
open_failures address None = []
open_failures address (Some failures) = (address, Failure, failures.since) ∷ []

-- the value, where the criteria count it
abbrev pub if_required : {A : Type 0} → Bool → Option A → Option A
if_required criteria o = if criteria then o else None

-- the entries of an address, by the criteria
abbrev pub opens_of : (refreshes failures : Bool) → (address : List ℕ) → AddressState → List Opened
opens_of refreshes failures address s =
    open_step address Create s.create ++ open_step address Update s.update ++ open_step address Delete s.delete
    ++ open_step address Refresh (if_required refreshes s.refresh) ++ open_failures address (if_required failures s.failures)

-- the entries of an address after all messages
abbrev pub opens_at : List Message → (address : List ℕ) → List Opened
opens_at messages address =
    opens_of (refreshes_matter messages) (failures_stand messages) address (state_of address messages)

-- All entries of addresses. The addresses rise in the order of their bytes, and contain each one
-- that is meant.
pub record AreAll (entries_of : (address : List ℕ) → List Opened) (is_meant : (address : List ℕ) → Bool) (entries : List OpenEntry) : Type 0 where
  pub addresses : List (List ℕ)
  pub in_order : IsStrictlySortedBy (slice_cmp nat_cmp) addresses
  pub listed : map opened entries ≡ flat_map entries_of addresses
  pub all : (address : List ℕ) → is_meant address ≡ true → list_any (bytes_eq address) addresses ≡ true

-- all open entries after the messages
abbrev pub AreAllOpen : List Message → List OpenEntry → Type 0
AreAllOpen messages entries = AreAll (opens_at messages) (is_open_at messages) entries
