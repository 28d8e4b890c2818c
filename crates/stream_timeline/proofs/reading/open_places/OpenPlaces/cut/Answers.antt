use Rattle.std.proofs.Common.{Some, ap, cond, rules, sym, ◌∙◌}
use Rattle.std.specs.BTreeMap.{get_by_text}
use Rattle.std.proofs.lemmas.Map.Text.{btree_map_updates_text}
use Rattle.stream_timeline.specs.OpenPlaces.{key_bytes}
use Rattle.stream_timeline.proofs.OpenAt.{filled_at, one_less_at}
use Rattle.stream_timeline.proofs.PlaceBytes.{set_bytes}
use Rattle.stream_timeline.proofs.reading.open_places.OpenPlaces.cut.Goals as goal

pub returns-in-Some-clause-places : goal.returns-in-Some-clause-places
returns-in-Some-clause-places c =
    let a = c.args.address.now in
    let old = c.args.self.now.by_address in
    let w = c.drop_place.new.places in
    let new = c.get_mut.follows.lender w in
    let updates = (c.get_mut.follows.holds w).3 (search rules) in
    one_less_at a c.args.place c.in-Some.places.now w (λ o. get_by_text old o) (λ o. get_by_text new o) (sym c.in-Some.ensures.value)
    (btree_map_updates_text a old new (Some w) updates) c.drop_place.ensures.places

pub returns-in-Some-clause-filled : goal.returns-in-Some-clause-filled
returns-in-Some-clause-filled c = λ some.
    let a = c.args.address.now in
    let old = c.args.self.now.by_address in
    let w = c.drop_place.new.places in
    let new = c.get_mut.follows.lender w in
    let updates = (c.get_mut.follows.holds w).3 (search rules) in
    filled_at a w (λ o. get_by_text old o) (λ o. get_by_text new o) (btree_map_updates_text a old new (Some w) updates) (c.drop_place.ensures.some some)

pub returns-in-Some-clause-others : goal.returns-in-Some-clause-others
returns-in-Some-clause-others c = λ o other.
    let a = c.args.address.now in
    let old = c.args.self.now.by_address in
    let w = c.drop_place.new.places in
    let new = c.get_mut.follows.lender w in
    let updates = (c.get_mut.follows.holds w).3 (search rules) in
    btree_map_updates_text a old new (Some w) updates o ∙ ap (λ b. cond b (Some w) (get_by_text old o)) other

pub returns-in-Some-clause-bytes : goal.returns-in-Some-clause-bytes
returns-in-Some-clause-bytes c =
    let old = c.args.self.now.by_address in
    let w = c.drop_place.new.places in
    rw (c.get_mut.follows.holds w).0
    (set_bytes key_bytes _ old.entries c.in-Some.places.now w (sym c.in-Some.ensures.value) c.drop_place.ensures.fewer)
