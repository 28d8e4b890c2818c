use Rattle.std.proofs.Common.{◌≡◌, ◌≢◌, arith, length}
use Rattle.std.proofs.lemmas.Bool.Decides.{nat_tests}
use Rattle.stream_panel.proofs.Parts.{stretch_none, stretch_some}
use Rattle.stream_panel.proofs.stretch.push_characters.Goals as goal

pub returns-then-not-is_empty : goal.returns-then-not-is_empty
returns-then-not-is_empty c =
    let some : length c.args.characters.now ≢ 0 = λ none. grind (arith, nat_tests, none, c.is_empty.ensures, c.if-not-is_empty.true) in
    stretch_some c.args.text.now c.push_rendered.new.text c.args.has_colour c.args.rendition c.args.characters.now some c.push_rendered.ensures

pub returns-else-not-is_empty : goal.returns-else-not-is_empty
returns-else-not-is_empty c =
    let none : length c.args.characters.now ≡ 0 = grind (arith, nat_tests, c.is_empty.ensures, c.if-not-is_empty.false) in
    stretch_none c.args.text.now c.args.has_colour c.args.rendition c.args.characters.now none
