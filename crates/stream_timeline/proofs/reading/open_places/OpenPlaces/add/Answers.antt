use Rattle.std.proofs.Common.{◌≡◌, ◌+◌, ◌*◌, ◌≤◌, ◌∙◌, ◌∷◌, [], ◌++◌, ap, arith, cond, length, Some, List, ℕ}
use Rattle.std.specs.BTreeMap.{get_by_text}
use Rattle.std.specs.List.{sum_by}
use Rattle.std.specs.Str.{bytes_eq}
use Rattle.std.specs.String.{string_bytes}
use Rattle.std.proofs.lemmas.List.{length-append}
use Rattle.std.proofs.lemmas.Map.Text.{btree_map_updates_text}
use Rattle.stream_timeline.specs.OpenPlaces.{entry_bytes, key_bytes, places_bytes, text_bytes}
use Rattle.stream_timeline.proofs.OpenAt.{filled_with_one_more, one_more_at}
use Rattle.stream_timeline.proofs.PlaceBytes.{inserted_bytes}
use Rattle.stream_timeline.proofs.reading.open_places.OpenPlaces.add.Goals as goal

pub returns-clause-places : goal.returns-clause-places
returns-clause-places c =
    let a = c.args.address.now in
    let old = c.args.self.now.by_address in
    let mid = c.removed-places.new.self.by_address in
    let new = c.insert.new.self in
    let w = c.push.new.self in
    let put = btree_map_updates_text (string_bytes c.in_ok-key.key) mid new (Some w) c.in_ok-insert.ensures.updates in
    one_more_at a c.args.place w (λ o. get_by_text old o) (λ o. get_by_text mid o) (λ o. get_by_text new o) c.removed-places.ensures.others
    (λ o. put o ∙ ap (λ b. cond (bytes_eq b o) (Some w) (get_by_text mid o)) c.in_ok-key.ensures.ok)
    (c.in_ok-push.ensures.items ∙ ap (λ (l : List ℕ). l ++ c.args.place ∷ []) c.removed-places.ensures.places)

pub returns-clause-filled : goal.returns-clause-filled
returns-clause-filled c =
    let a = c.args.address.now in
    let old = c.args.self.now.by_address in
    let mid = c.removed-places.new.self.by_address in
    let new = c.insert.new.self in
    let w = c.push.new.self in
    let put = btree_map_updates_text (string_bytes c.in_ok-key.key) mid new (Some w) c.in_ok-insert.ensures.updates in
    filled_with_one_more a c.args.place w c.removed-places.result.items (λ o. get_by_text old o) (λ o. get_by_text mid o) (λ o. get_by_text new o) c.removed-places.ensures.others
    (λ o. put o ∙ ap (λ b. cond (bytes_eq b o) (Some w) (get_by_text mid o)) c.in_ok-key.ensures.ok)
    c.in_ok-push.ensures.items

pub returns-clause-bytes : goal.returns-clause-bytes
returns-clause-bytes c =
    let key = c.in_ok-key.key in
    let mid = c.removed-places.new.self in
    let w = c.push.new.self in
    let more : length w.items ≡ length c.removed-places.result.items + 1 =
    ap length c.in_ok-push.ensures.items ∙ length-append c.removed-places.result.items (c.args.place ∷ []) in
    let name : key_bytes key ≡ text_bytes c.args.address.now + 24 = ap (λ (b : List ℕ). text_bytes b + 24) c.in_ok-key.ensures.ok in
    let put : sum_by entry_bytes c.insert.new.self.entries ≤ places_bytes mid + (key_bytes key + 8 * length w.items) =
    rw c.in_ok-insert.ensures.entries (inserted_bytes key_bytes _ mid.by_address.entries key w) in
    let removed = c.removed-places.ensures.bytes in
    omega (arith, more, name, put, removed)
