use Rattle.std.proofs.Common.{None, ◌≤◌, ap, arith, length, sym, ◌∙◌}
use Rattle.std.specs.List.{sum_by}
use Rattle.std.proofs.lemmas.Map.Text.{btree_map_updates_text}
use Rattle.stream_timeline.specs.OpenPlaces.{entry_bytes, key_bytes, places_bytes}
use Rattle.stream_timeline.proofs.PlaceBytes.{fewer_bytes, removed_bytes}
use Rattle.stream_timeline.proofs.reading.open_places.OpenPlaces.removed.Goals as goal

pub returns-in-Some-clause-others : goal.returns-in-Some-clause-others
returns-in-Some-clause-others c = λ other.
    btree_map_updates_text c.args.address.now c.args.self.now.by_address c.remove.new.self None c.remove.ensures.updates other

pub returns-in-Some-clause-bytes : goal.returns-in-Some-clause-bytes
returns-in-Some-clause-bytes c =
    rw c.remove.ensures.entries
    (removed_bytes key_bytes _ c.args.self.now.by_address.entries c.in-Some.places (sym c.remove.ensures.value ∙ c.in-Some.is))

pub returns-in-None-clause-bytes : goal.returns-in-None-clause-bytes
returns-in-None-clause-bytes c =
    let left : sum_by entry_bytes c.remove.new.self.entries ≤ places_bytes c.args.self.now =
    rw c.remove.ensures.entries (fewer_bytes key_bytes _ c.args.self.now.by_address.entries) in
    omega (arith, left, ap length c.new.ensures.items)
