use Rattle.std.proofs.Common.{refl}
use Rattle.stream_view.proofs.svg.style.style.Goals as goal

pub returns : goal.returns
returns c = refl
