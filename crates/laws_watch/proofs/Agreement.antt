-- Where a message asks for rows, something is told, and these rows are told.
use Rattle.std.proofs.Common.{Bool, true, false, Option, None, Some, if◌then◌else◌, option_and_then, option_map, unwrap_or}
use Rattle.apply_json.specs.Tree.{◌>>=◌}
use Rattle.stream_watch.specs.State.{State, Told}
use Rattle.stream_watch.specs.declared.looks.Looks.{Looks}
use Rattle.laws_watch.specs.Asked.{Asked}
use Rattle.laws_watch.proofs.Own.{OwnRows}

abbrev pub Agree : Looks → State → Option Asked → Option Told → Type 0
Agree looks state None None = Unit {0}
Agree looks state None (Some told) = ⊥
Agree looks state (Some asked) None = ⊥
Agree looks state (Some asked) (Some told) = OwnRows looks state asked told

pub agree_map : {X : Type 0} (looks : Looks) (state : State) (asked : X → Asked) (told : X → Told)
    → ((x : X) → OwnRows looks state (asked x) (told x)) → (o : Option X) → Agree looks state (option_map asked o) (option_map told o)
agree_map looks state asked told each None = tt
agree_map looks state asked told each (Some x) = each x

pub agree_then : {X : Type 0} (looks : Looks) (state : State) (asked : X → Option Asked) (told : X → Option Told)
    → ((x : X) → Agree looks state (asked x) (told x)) → (o : Option X) → Agree looks state (o >>= asked) (o >>= told)
agree_then looks state asked told each None = tt
agree_then looks state asked told each (Some x) = each x

pub agree_and_then : {X : Type 0} (looks : Looks) (state : State) (asked : X → Option Asked) (told : X → Option Told)
    → ((x : X) → Agree looks state (asked x) (told x)) → (o : Option X) → Agree looks state (option_and_then asked o) (option_and_then told o)
agree_and_then looks state asked told each None = tt
agree_and_then looks state asked told each (Some x) = each x

pub agree_if : (looks : Looks) (state : State) (b : Bool) (asked : Option Asked) (told : Option Told) → Agree looks state asked told
    → Agree looks state (if b then asked else None) (if b then told else None)
agree_if looks state true asked told agree = agree
agree_if looks state false asked told agree = tt

-- a row, or what stands in its place
pub agree_or : (looks : Looks) (state : State) (asked : Option Asked) (told : Option Told) (a : Asked) (t : Told) → Agree looks state asked told
    → OwnRows looks state a t → OwnRows looks state (unwrap_or asked a) (unwrap_or told t)
agree_or looks state None None a t agree other = other
agree_or looks state None (Some told) a t agree other = absurd agree
agree_or looks state (Some asked) None a t agree other = absurd agree
agree_or looks state (Some asked) (Some told) a t agree other = agree
