use Rattle.stream_timeline.proofs.BarLaws.{end_rises, first_rises, place_rises}
use Rattle.laws_timeline.proofs.rows.what_comes_no_later_stands_no_further.Goals as goal

pub returns-clause-place : goal.returns-clause-place
returns-clause-place c = place_rises

pub returns-clause-first : goal.returns-clause-first
returns-clause-first c = first_rises

pub returns-clause-end : goal.returns-clause-end
returns-clause-end c = end_rises
