use Rattle.std.proofs.Common.{None, ◌≤◌, arith, cond}
use Rattle.std.specs.BTreeMap.{get_by_text}
use Rattle.std.specs.List.{sum_by}
use Rattle.std.specs.Str.{bytes_eq}
use Rattle.std.proofs.lemmas.Map.Text.{btree_map_updates_text}
use Rattle.stream_timeline.specs.OpenPlaces.{entry_bytes, key_bytes, places_at, places_bytes, without}
use Rattle.stream_timeline.proofs.OpenAt.{emptied_at, filled_without}
use Rattle.stream_timeline.proofs.PlaceBytes.{fewer_bytes}
use Rattle.stream_timeline.proofs.reading.open_places.OpenPlaces.take.Goals as goal

pub returns-then-cut-clause-places : goal.returns-then-cut-clause-places
returns-then-cut-clause-places c =
    let a = c.args.address.now in
    let old = c.args.self.now in
    let mid = c.cut.new.self.by_address in
    let new = c.remove.new.self in
    emptied_at a (λ o. get_by_text old.by_address o) (λ o. get_by_text mid o) (λ o. get_by_text new o)
    (λ o. cond (bytes_eq a o) (without c.args.place (places_at old o)) (places_at old o))
    c.cut.ensures.places (c.cut.ensures.none c.if-cut.true)
    (btree_map_updates_text a mid new None c.remove.ensures.updates)

pub returns-then-cut-clause-filled : goal.returns-then-cut-clause-filled
returns-then-cut-clause-filled c =
    let a = c.args.address.now in
    let old = c.args.self.now in
    let mid = c.cut.new.self.by_address in
    let new = c.remove.new.self in
    filled_without a (λ o. get_by_text old.by_address o) (λ o. get_by_text mid o) (λ o. get_by_text new o) c.cut.ensures.others
    (btree_map_updates_text a mid new None c.remove.ensures.updates)

pub returns-then-cut-clause-bytes : goal.returns-then-cut-clause-bytes
returns-then-cut-clause-bytes c =
    let less = c.cut.ensures.bytes in
    let none : sum_by entry_bytes c.remove.new.self.entries ≤ places_bytes c.cut.new.self =
    rw c.remove.ensures.entries (fewer_bytes key_bytes _ c.cut.new.self.by_address.entries) in
    omega (arith, less, none)
