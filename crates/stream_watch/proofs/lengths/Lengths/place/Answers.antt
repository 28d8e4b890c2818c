use Rattle.std.proofs.Common.{rules, tests, sym, ◌∙◌}
use Rattle.std.proofs.lemmas.Iterator.{YieldsList-from_slice}
use Rattle.std.proofs.lemmas.Iterator.Search.{position_from_yields_List}
use Rattle.stream_watch.specs.Lengths.{is_kind, lengths_view}
use Rattle.stream_watch.proofs.StepPlaces.{position_in}
use Rattle.stream_watch.proofs.lengths.Lengths.place.Goals as goal

pub returns : goal.returns
returns c =
    let holds = is_kind c.args.action.now c.args.kind.now in
    let kept = c.args.self.now.list.items in
    position_from_yields_List (λ it. holds (lengths_view it)) _ _ _ c.position.ensures.ran (YieldsList-from_slice kept (cc)) (λ x b q k. search (rules, tests))
    ∙ sym (position_in lengths_view holds kept)
