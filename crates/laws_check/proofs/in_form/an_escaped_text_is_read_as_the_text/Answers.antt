use Rattle.laws_check.proofs.EscapedTrees.{same_tree}
use Rattle.laws_check.proofs.in_form.an_escaped_text_is_read_as_the_text.Goals as goal

pub returns : goal.returns
returns c j numbers utf8 = same_tree j numbers utf8
