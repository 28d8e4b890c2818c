-- The signs of a panel have one column each.
use Rattle.std.proofs.Common.{◌≡◌, refl}
use Rattle.term_text.specs.Columns.{column_count}
use Rattle.unicode_width.proofs.Computing.{unicode_width}

pub blank : column_count 32 ≡ 1
unfolding unicode_width
blank = refl

pub ellipsis : column_count 0x2026 ≡ 1
unfolding unicode_width
ellipsis = refl

pub triangle : column_count 0x25B8 ≡ 1
unfolding unicode_width
triangle = refl

pub full_block : column_count 0x2588 ≡ 1
unfolding unicode_width
full_block = refl

pub dark_shade : column_count 0x2593 ≡ 1
unfolding unicode_width
dark_shade = refl

pub medium_shade : column_count 0x2592 ≡ 1
unfolding unicode_width
medium_shade = refl

pub light_shade : column_count 0x2591 ≡ 1
unfolding unicode_width
light_shade = refl
