use Rattle.std.proofs.Common.{[], ◌∷◌, ◌++◌, ap}
use Rattle.stream_view.proofs.Controls.{without_colours}
use Rattle.stream_view.proofs.laws.colours_are_sequences_alone.Goals as goal

pub returns : goal.returns
returns c = λ pieces. ap (λ bytes. bytes ++ 10 ∷ []) (without_colours pieces)
