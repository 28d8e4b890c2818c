use Rattle.std.proofs.Common.{◌≡◌, ◌++◌, ℕ, List, Option, Some, codes, decimal, false, ne_eqb, refl, subst, sym}
use Rattle.std.specs.Prelude.{◌==◌}
use Rattle.stream_check.specs.MessageTexts.{AppendsText}
use Rattle.stream_check.specs.Reports.{passed_text}
use Rattle.stream_check.proofs.MessageText.{text_then}
use Rattle.stream_check.proofs.command.texts.append_passed.Goals as goal

several : (passed : Option ℕ) (n : ℕ) → passed ≡ Some n → (n == 1) ≡ false → passed_text passed ≡ codes ", " ++ decimal n ++ codes " lines passed over"
several passed n is not_one = rw (is, not_one) refl

pub returns-else-count-eq1 : goal.returns-else-count-eq1
returns-else-count-eq1 c =
    subst (λ (words : List ℕ). AppendsText c.args.words.now c.count.new.self words) (sym (several c.args.passed c.in-Some.count c.in-Some.is (ne_eqb c.in-Some.count 1 c.if-count-eq1.false)))
    (text_then c.args.words.now c.text-else-count-eq1.new.self c.count.new.self _ _ c.text-else-count-eq1.ensures c.count.ensures)
