use Rattle.std.proofs.Common.{List, IsPermutation, subst, rules, ◌≡◌}
use Rattle.std.specs.Ordering.{is_lt}
use Rattle.std.proofs.lemmas.Fn.{always_returns_same}
use Rattle.std.proofs.lemmas.List.Sorted.{sorted_far}
use Rattle.stream_timeline.specs.declared.rows.choosing.Candidate.{Candidate}
use Rattle.stream_timeline.specs.Rows.{candidates_of, comes_before}
use Rattle.stream_timeline.proofs.Ranking.{before_is_order, ranked_from}
use Rattle.stream_timeline.proofs.rows.choosing.ranked.Goals as goal

pub returns-clause-ordered : goal.returns-clause-ordered
returns-clause-ordered c =
    let m = c.args.time_range in
    let steps = c.args.steps.now in
    let perm : IsPermutation (candidates_of m steps) c.sort_by.new.self.items =
    subst (λ (cs : List Candidate). IsPermutation cs c.sort_by.new.self.items) c.in_ok-candidates.ensures c.sort_by.ensures.permutation in
    ranked_from m steps c.sort_by.new.self.items perm
    (sorted_far comes_before before_is_order c.sort_by.new.self.items
    (c.in_ok-sort_by.ensures.sorted comes_before before_is_order (always_returns_same _ (λ a r. is_lt r ≡ comes_before a.0.now a.1.0.now) _ (λ a r q k. search rules))))
