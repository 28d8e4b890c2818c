-- What comes no later stands no further.
use Rattle.std.proofs.Common.{ℕ, ◌+◌, ◌-◌, ◌*◌, ◌/◌, ◌<◌, ◌≤◌, max, arith}
use Rattle.std.proofs.Math.Nat.{div-mul-le_self, mul_comm, mul-le-mul_left}
use Rattle.std.proofs.lemmas.Nat.{le-div}
use Rattle.stream_timeline.specs.Bars.{end_half, first_half, place_above, place_on}

pub times_le : (n m d : ℕ) → n ≤ m → n * d ≤ m * d
times_le n m d l = rw (mul_comm n d, mul_comm m d) (mul-le-mul_left d l)

pub div_le : (a b k : ℕ) → 0 < k → a ≤ b → a / k ≤ b / k
div_le a b k l h = le-div (a / k) b k l (omega (arith, div-mul-le_self a k))

pub place_rises : (width span sooner later : ℕ) → sooner ≤ later → place_on width span sooner ≤ place_on width span later
place_rises width span sooner later l = div_le (sooner * width) (later * width) (max 1 span) (omega arith) (times_le sooner later width l)

above_rises : (width span sooner later : ℕ) → sooner ≤ later → place_above width span sooner ≤ place_above width span later
above_rises width span sooner later l =
    let le = times_le sooner later width l in
    div_le (sooner * width + (max 1 span - 1)) (later * width + (max 1 span - 1)) (max 1 span) (omega arith) (omega (arith, le))

pub first_rises : (cells span sooner later : ℕ) → sooner ≤ later → first_half cells span sooner ≤ first_half cells span later
first_rises cells span sooner later l = let le = place_rises (2 * cells) span sooner later l in omega (arith, le)

pub end_rises : (cells span first second sooner later : ℕ) → first ≤ second → sooner ≤ later → end_half cells span first sooner ≤ end_half cells span second later
end_rises cells span first second sooner later f l =
    let begins = first_rises cells span first second f in
    let ends = above_rises (2 * cells) span sooner later l in
    omega (arith, begins, ends)
