use Rattle.std.proofs.Common.{◌≡◌, ℕ, List, [], ◌++◌, ap, ◌∙◌}
use Rattle.apply_text.proofs.lines.summary_line.Goals as goal

-- the one line of a buffer that was empty
only_line : (text lines before line : List ℕ) → text ≡ lines → lines ≡ before ++ line → before ≡ [] → text ≡ line
only_line text lines before line is grown none = is ∙ grown ∙ ap (λ (ls : List ℕ). ls ++ line) none

pub returns : goal.returns
returns c = only_line _ _ _ _ c.into_string.ensures c.in_ok-push_summary.ensures.ok c.in_ok-buffer.ensures
