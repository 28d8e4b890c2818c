use Rattle.std.proofs.Common.{ap, take}
use Rattle.term_text.specs.Fronts.{front_of}
use Rattle.term_text.proofs.fronts.front.Goals as goal

pub returns : goal.returns
unfolding front_of
returns c = ap (λ n. take n c.args.bytes.now) c.front_size.ensures.size
