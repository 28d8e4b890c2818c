use Rattle.std.proofs.Common.{refl, string_bytes}
use Rattle.std.specs.Str.{IsCharBoundary}
use Rattle.std.proofs.lemmas.Str.{IsUtf8-string_bytes}
use Rattle.term_text.specs.Fronts.{front_of}
use Rattle.term_text.proofs.Rooms.{room_for-boundary}
use Rattle.term_text.proofs.cutting.cut.Goals as goal

pub truncate-requires : goal.truncate-requires
truncate-requires c = λ short.
    let there : IsCharBoundary (string_bytes c.args.text) c.front_size.result =
    rw (c.front_size.ensures.size, c.as_bytes.ensures.value) (room_for-boundary _ _ (IsUtf8-string_bytes c.args.text)) in
    (there.0, λ some. there.1)

pub returns : goal.returns
unfolding front_of
returns c = rw (c.in_ok-push_dots.ensures, c.truncate.ensures.bytes, c.front_size.ensures.size, c.as_bytes.ensures.value, c.saturating_sub.ensures) refl
