use Rattle.std.proofs.Common.{Some, ap, option_map, sym, ◌∙◌}
use Rattle.std.specs.Option.{option_copied}
use Rattle.stream_watch.specs.Lengths.{is_kind, lengths_view}
use Rattle.stream_watch.proofs.StepPlaces.{first_is, nowhere}
use Rattle.stream_watch.proofs.lengths.Lengths.of.Goals as goal

pub returns-in_err-index : goal.returns-in_err-index
returns-in_err-index c =
    let none = nowhere lengths_view (is_kind c.args.action.now c.args.kind.now) c.args.self.now.list.items (sym c.in_err-index.was ∙ c.place.ensures) in
    ap (λ found. option_map lengths_view (option_copied found)) c.from_residual.ensures ∙ sym none.found

pub returns : goal.returns
returns c =
    let first = first_is lengths_view (is_kind c.args.action.now c.args.kind.now) c.args.self.now.list.items c.in_ok-index.index c.index.result.now (sym c.in_ok-index.was ∙ c.place.ensures) in
    ap (λ found. Some (lengths_view found)) c.index.ensures ∙ sym first.found
