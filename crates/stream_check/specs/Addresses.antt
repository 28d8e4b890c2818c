-- The addresses of a map, for private clauses.
use Rattle.std.specs.Prelude.{ℕ, List, map, string_bytes, String}
use Rattle.std.specs.Global.{Global}
use Rattle.std.specs.BTreeMap.{BTreeMap, keys}
use Rattle.stream_check.specs.declared.rules.address_state.AddressState.{AddressState}

abbrev pub addresses_in : BTreeMap (String Global) AddressState → List (List ℕ)
addresses_in states = map string_bytes (keys states)
