-- What the index of open steps holds, for private clauses.
use Rattle.std.specs.Prelude.{◌≡◌, ◌<◌, ◌≤◌, ℕ, ◌+◌, ◌*◌, ◌==◌, List, [], length, not, IfSome, String, Vec, string_bytes}
use Rattle.std.specs.Global.{Global}
use Rattle.std.specs.BTreeMap.{get_by_text}
use Rattle.std.specs.List.{filter, sum_by}
use Rattle.std.specs.Option.{option_map_or}
use Rattle.stream_timeline.specs.declared.reading.open_places.OpenPlaces.{OpenPlaces}
use Rattle.stream_timeline.specs.Steps.{StepRead, is_open_at, places}

abbrev pub places_at : OpenPlaces → (address : List ℕ) → List ℕ
places_at standing address = option_map_or (λ places. places.items) (get_by_text standing.by_address address) []

abbrev pub without : ℕ → List ℕ → List ℕ
without place places = filter (λ other. not (other == place)) places

-- no address is stored without a place
abbrev pub AreFilled : OpenPlaces → Type 0
AreFilled standing =
    (address : List ℕ) → IfSome (get_by_text standing.by_address address) (λ places. 0 < length places.items)

-- ---- memory, in bytes

-- a text takes its bytes, and 24 that locate them
abbrev pub text_bytes : List ℕ → ℕ
text_bytes text = length text + 24

-- the key of an address takes 24 bytes more, and each place 8
abbrev pub key_bytes : String Global → ℕ
key_bytes key = text_bytes (string_bytes key) + 24

abbrev pub entry_bytes : String Global × Vec ℕ Global → ℕ
entry_bytes entry = key_bytes entry.0 + 8 * length entry.1.items

abbrev pub places_bytes : OpenPlaces → ℕ
places_bytes standing = sum_by entry_bytes standing.by_address.entries

-- for each step the bytes of its address again, and 32
abbrev pub index_bytes : List StepRead → ℕ
index_bytes steps = sum_by (λ (s : StepRead). text_bytes s.address + 32) steps

-- The index has the places of the open steps, each at its address, and no other address. It takes
-- no more bytes than `index_bytes`.
pub record HoldsPlaces (standing : OpenPlaces) (steps : List StepRead) : Type 0 where
  pub places : (address : List ℕ) → places_at standing address ≡ places (is_open_at address) steps
  pub filled : AreFilled standing
  pub bytes : places_bytes standing ≤ index_bytes steps
