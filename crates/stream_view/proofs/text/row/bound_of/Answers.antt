use Rattle.std.proofs.Common.{◌≡◌, ◌∙◌, [], Bool, ℕ, List, true, false, ap, ap₂, sym}
use Rattle.std.specs.Prelude.{encode_utf8, if◌then◌else◌, is_some}
use Rattle.stream_view.proofs.text.row.bound_of.Goals as goal

abbrev words : (ended failed : Bool) → List ℕ
words ended failed = if ended then [] else if failed then encode_utf8 8804 else encode_utf8 8805

pub returns-then-has_failed : goal.returns-then-has_failed
unfolding lib.Utf8.encode
returns-then-has_failed c =
    let ended : is_some c.args.step.now.end ≡ false = ap is_some (sym c.end.ensures) ∙ sym c.is_some.ensures ∙ c.if-is_some.false in
    let failed : c.args.step.now.failed ≡ true = sym c.has_failed.ensures ∙ c.if-has_failed.true in
    sym (ap₂ words ended failed)

pub returns-else-has_failed : goal.returns-else-has_failed
unfolding lib.Utf8.encode
returns-else-has_failed c =
    let ended : is_some c.args.step.now.end ≡ false = ap is_some (sym c.end.ensures) ∙ sym c.is_some.ensures ∙ c.if-is_some.false in
    let failed : c.args.step.now.failed ≡ false = sym c.has_failed.ensures ∙ c.if-has_failed.false in
    sym (ap₂ words ended failed)
