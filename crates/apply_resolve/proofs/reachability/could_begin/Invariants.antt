use Rattle.apply_resolve.proofs.Left.{left_of}
use Rattle.apply_resolve.proofs.Searching.{IsSearching}
use Rattle.apply_resolve.proofs.reachability.could_begin.Given as goal

abbrev pub invariant-loop-visit : goal.invariant-loop-visit
invariant-loop-visit l = IsSearching l.script l.fn.step l.states l.path.items

abbrev pub decreases-loop-visit : goal.decreases-loop-visit
decreases-loop-visit l = left_of l.states l.path.items
