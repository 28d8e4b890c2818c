use Rattle.std.proofs.Common.{arith, eqb, rules, sym, ◌∙◌}
use Rattle.std.specs.Prelude.{not}
use Rattle.std.proofs.lemmas.Bool.{eqb-false}
use Rattle.std.proofs.lemmas.Fn.{filter_same}
use Rattle.stream_timeline.proofs.reading.open_places.drop_place.Goals as goal

pub returns-clause-places : goal.returns-clause-places
returns-clause-places c =
    filter_same _ (λ other. not (eqb other c.args.place)) _ (λ x b q k. search rules) _ _ c.retain.ensures.filtered

pub returns-clause-some : goal.returns-clause-some
returns-clause-some c = λ some.
    let full = eqb-false _ 0 (sym c.is_empty.ensures ∙ some) in
    omega (arith, full, c.retain.new.self.ok.0)
