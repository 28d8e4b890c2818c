use Rattle.stream_view.proofs.MarkdownLaws.{fence_longer}
use Rattle.stream_view.proofs.laws.fence_is_longer_than_each_run.Goals as goal

pub returns : goal.returns
returns c = fence_longer
