use Rattle.std.proofs.Common.{◌≡◌, ◌-◌, length, true}
use mathlib.Core.List.{IsPrefix}
use Rattle.apply_run.specs.Worker.Drawn.{IsDrawn}
use Rattle.apply_run.proofs.run.reconciling.draw_all.Given as goal

-- more was drawn, unless none was left before
abbrev pub invariant-loop : goal.invariant-loop
invariant-loop l = record {
  claims : l.drawer.claims ≡ l.fn.drawer.claims;
  worker : l.drawer.worker ≡ l.fn.drawer.worker;
  drawn : IsDrawn l.claims.limit l.drawer.drawn;
  more : IsPrefix l.fn.drawer.drawn l.drawer.drawn;
  none_left : l.fn.drawer.met_none ≡ true → l.drawer ≡ l.fn.drawer;
}

-- fewer numbers are left to draw
abbrev pub decreases-loop : goal.decreases-loop
decreases-loop l = l.claims.limit - length l.drawer.drawn
