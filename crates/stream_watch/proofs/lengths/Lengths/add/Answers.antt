use Rattle.std.proofs.Common.{List, [], ap, map, sym, ◌∙◌, ◌++◌, ◌∷◌}
use Rattle.std.specs.Option.{option_map_or}
use Rattle.std.proofs.lemmas.List.{map-append}
use Rattle.stream_watch.specs.Lengths.{KindLength, is_kind, lengths_of, lengths_view, longer_by, with_first, with_length}
use Rattle.stream_watch.specs.Steps.{without_first}
use Rattle.stream_watch.specs.declared.lengths.KindLengths.{KindLengths}
use Rattle.stream_watch.proofs.StepPlaces.{first_is, nowhere}
use Rattle.stream_watch.proofs.lengths.Lengths.add.Goals as goal

pub returns-in_ok-push-in-Some : goal.returns-in_ok-push-in-Some
unfolding with_length
returns-in_ok-push-in-Some c =
    let action = c.args.action.now in
    let kind = c.args.kind.now in
    let took = c.args.took in
    let holds = is_kind action kind in
    let items = c.args.self.now.list.items in
    let had = map lengths_view items in
    let first = first_is lengths_view holds items c.in-Some.index c.remove.result (sym c.in-Some.is ∙ c.place.ensures) in
    let kept = c.with-kept.result in
    let others = without_first holds had in
    ap (map lengths_view) c.in_ok-push-in-Some.ensures.items
    ∙ map-append lengths_view c.remove.new.self.items (kept ∷ [])
    ∙ ap (λ (left : List KindLengths). map lengths_view left ++ lengths_view kept ∷ []) c.remove.ensures.items
    ∙ ap (λ (left : List KindLength). left ++ lengths_view kept ∷ []) (sym first.without)
    ∙ ap (λ (one : KindLength). others ++ one ∷ []) (c.with-kept.ensures ∙ ap (λ (one : KindLengths). longer_by took (lengths_view one)) c.remove.ensures.value)
    ∙ sym (ap (λ found. option_map_or (λ one. others ++ longer_by took one ∷ []) found (with_first action kind took had)) first.found)

pub returns-in_ok-add_first-in-None : goal.returns-in_ok-add_first-in-None
unfolding with_length
returns-in_ok-add_first-in-None c =
    let action = c.args.action.now in
    let kind = c.args.kind.now in
    let took = c.args.took in
    let holds = is_kind action kind in
    let had = lengths_of c.args.self.now in
    let none = nowhere lengths_view holds c.args.self.now.list.items (sym c.in-None.is ∙ c.place.ensures) in
    c.in_ok-add_first-in-None.ensures
    ∙ sym (ap (λ found. option_map_or (λ one. without_first holds had ++ longer_by took one ∷ []) found (with_first action kind took had)) none.found)
