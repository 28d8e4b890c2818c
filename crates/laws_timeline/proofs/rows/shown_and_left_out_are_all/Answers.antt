use Rattle.std.proofs.Common.{not, refl}
use Rattle.std.proofs.lemmas.List.Sorted.{IsPermutation-filter_both}
use Rattle.stream_timeline.specs.Rows.{is_chosen}
use Rattle.laws_timeline.proofs.rows.shown_and_left_out_are_all.Goals as goal

pub returns : goal.returns
returns c = λ limit span all. IsPermutation-filter_both (is_chosen limit span all) (λ x. not (is_chosen limit span all x)) (λ x. refl) all
