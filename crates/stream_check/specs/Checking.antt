-- What a checker knows after some lines, as contracts see it.
use Rattle.std.specs.Prelude.{◌≡◌, ◌≢◌, ℕ, List, Result, Ok, Err}
use Rattle.std.specs.BTreeMap.{get_by_text}
use Rattle.stream_check.specs.declared.rules.checker.Checker.{Checker}
use Rattle.stream_check.specs.declared.rules.fault.Fault.{Fault}
use Rattle.stream_check.specs.declared.rules.fault.Fault.TheVariants.{Memory}
use Rattle.stream_check.specs.Message.{Message}
use Rattle.stream_check.specs.AddressState.{state_of, unless_idle}
use Rattle.stream_check.specs.Tallied.{tally_of}
use Rattle.stream_check.specs.Unbegun.{awaiting, unbegun_at}

-- the checker knows what the rules need of these messages
pub record HasRead (checker : Checker) (messages : List Message) : Type 0 where
  pub tally : checker.tally ≡ tally_of messages
  pub state : (address : List ℕ) → get_by_text checker.pending.states address
      ≡ unless_idle (state_of address messages)
  pub unbegun : (address : List ℕ) → get_by_text checker.unbegun.waiting.states address
      ≡ unless_idle (awaiting (unbegun_at address messages))

-- how many lines the checker has accepted
abbrev pub lines_read : Checker → ℕ
lines_read checker = checker.tally.lines

-- The checker accepts one more message or line, or answers its fault and stays as it was.
abbrev pub Continues : (old new : Checker) → (List Message → Result (List Message) Fault)
    → Result (Unit {0}) Fault → Type 0
Continues old new more (Ok done) =
    (messages : List Message) → HasRead old messages → (later : List Message) × (more messages ≡ Ok later)
    × HasRead new later
Continues old new more (Err fault) =
    (messages : List Message) → HasRead old messages → HasRead new messages
    × (fault ≢ Memory → more messages ≡ Err fault)
