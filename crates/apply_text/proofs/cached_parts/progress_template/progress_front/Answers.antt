use Rattle.apply_text.proofs.CachedTexts.{front_is}
use Rattle.apply_text.proofs.cached_parts.progress_template.progress_front.Goals as goal

pub returns : goal.returns
returns c = front_is _ _ _ _ _ _ _ _ _ c.in_ok-front.ensures.ok c.as_str-2.ensures.value c.in_ok-open.ensures c.as_str.ensures.value c.in_ok-text.ensures.ok c.new.ensures.still c.in_ok-push_str.ensures.bytes
