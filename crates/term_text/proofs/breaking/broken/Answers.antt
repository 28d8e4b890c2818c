use Rattle.std.proofs.Common.{◌+◌, ◌∙◌, ap, arith, length, refl, rules}
use Rattle.std.specs.Prelude.{◌≡◌, ◌<◌, ◌++◌}
use Rattle.term_text.specs.Breaking.{broken, pieces_within}
use Rattle.term_text.proofs.Breaks.{pieces-more}
use Rattle.term_text.proofs.breaking.broken.Goals as goal

pub pieces-init : goal.pieces-init
unfolding broken
pieces-init c = (
  length c.args.text.now + 1,
  omega (arith, ap length c.characters-rest.ensures),
  rw (c.new-pieces.ensures.items, c.characters-rest.ensures) refl,
)

pub pieces-preserved : goal.pieces-preserved
pieces-preserved c =
    let i = c.pieces.invariant in
    pieces-more c.args.columns i.0 c.pieces.rest.now c.in_ok-copied.field-0 c.split_piece.result.1.now c.pieces.pieces.items c.push.new.self.items _
    i.1 i.2 (c.in_ok-copied.ensures ∙ c.split_piece.ensures.piece) c.split_piece.ensures.rest c.in_ok-push.ensures.items
    (search rules) (c.split_piece.ensures.shorter (search rules))
