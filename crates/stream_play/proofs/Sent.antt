-- What was written stays so where it is sent on.
use Rattle.std.proofs.Common.{refl, ℕ, List, [], Bool, Option, None, Some, Result, Ok, Err}
use Rattle.std.specs.Prelude.{IfSome}
use Rattle.std.specs.Io.KnownBytes.{Keeps}
use Rattle.std.proofs.KnownBytes.{Appends-kept, Appends-nil, Keeps-trans}
use Rattle.stream_runs.specs.declared.choice.RunChoice.{RunChoice}
use Rattle.stream_runs.specs.Selected.{IsSelected}
use Rattle.stream_runs.specs.declared.fault.RunFault.{RunFault}
use Rattle.stream_runs.specs.declared.fault.RunFault.TheVariants as run
use Rattle.stream_runs.specs.declared.selecting.Run.{Run}
use Rattle.stream_play.specs.CommandLine.{HasPlayedChoice, IsRunPlayed}
use Rattle.stream_play.specs.Played.{IsPlayed}
use Rattle.stream_play.specs.declared.play_fault.PlayFault.{PlayFault}
use Rattle.stream_play.specs.declared.play_fault.PlayFault.TheVariants as play
use Rattle.stream_play.proofs.Written.{lines_kept}

fault_kept : (find : Bool) (fault : PlayFault) (bytes : List ℕ) (a b c : Option (List ℕ)) → IsPlayed find bytes a b (Err fault) → Keeps b c → IsPlayed find bytes a c (Err fault)
fault_kept find (play.TooLong number) bytes a b c h keeps = (lines_kept find bytes _ a b c h.0 keeps, h.1)
fault_kept find play.TooMany bytes a b c h keeps =
    record { count = h.count; most = h.most; last = h.last; written = lines_kept find bytes _ a b c h.written keeps }
fault_kept find (play.NoRun missing) bytes a b c h keeps = absurd h
fault_kept find (play.Unread failed) bytes a b c h keeps = (h.0, lines_kept find bytes _ a b c h.1 keeps)
fault_kept find play.Memory bytes a b c h keeps = (h.0, lines_kept find bytes _ a b c h.1 keeps)
fault_kept find play.Gone bytes a b c h keeps =
    record { front = h.front; rest = h.rest; cut = h.cut; written = Appends-kept a b c h.front h.written keeps }
fault_kept find play.Unwritten bytes a b c h keeps =
    record { front = h.front; rest = h.rest; cut = h.cut; written = Appends-kept a b c h.front h.written keeps }

sent_on : (find : Bool) (fault : PlayFault) (known : Option (List ℕ)) (a b c : Option (List ℕ)) → IfSome known (λ bytes. IsPlayed find bytes a b (Err fault)) → Keeps b c → IfSome known (λ bytes. IsPlayed find bytes a c (Err fault))
sent_on find fault None a b c h keeps = tt
sent_on find fault (Some bytes) a b c h keeps = fault_kept find fault bytes a b c h keeps

run_kept : (find : Bool) (fault : PlayFault) (selected : Result Run RunFault) (a b c : Option (List ℕ)) → IsRunPlayed find selected a b (Err fault) → Keeps b c → IsRunPlayed find selected a c (Err fault)
run_kept find fault (Ok run) a b c h keeps = fault_kept find fault run.bytes.items a b c h keeps
run_kept find fault (Err why) a b c h keeps = (h.0, Keeps-trans a b c h.1 keeps)

pub choice_sent_on : (run : Option RunChoice) (find : Bool) (fault : PlayFault) (known : Option (List ℕ)) (a b c : Option (List ℕ)) → HasPlayedChoice run find known a b (Err fault) → Keeps b c → HasPlayedChoice run find known a c (Err fault)
choice_sent_on None find fault known a b c h keeps = sent_on find fault known a b c h keeps
choice_sent_on (Some choice) find fault known a b c h keeps = (h.0, h.1, run_kept find fault h.0 a b c h.2 keeps)

-- ---- nothing was played for want of memory

nothing_played : (find : Bool) (known before after : Option (List ℕ)) → Keeps before after → IfSome known (λ bytes. IsPlayed find bytes before after (Err play.Memory))
nothing_played find None before after keeps = tt
nothing_played find (Some bytes) before after keeps =
    (0, lines_kept find bytes 0 before before after (record { lines = []; cut = refl; written = Appends-nil before }) keeps)

nothing_known : (known : Option (List ℕ)) (find : Bool) (choice : RunChoice) → IfSome known (λ bytes. IsSelected find choice bytes (Err run.Memory))
nothing_known None find choice = tt
nothing_known (Some bytes) find choice = tt

pub memory_played : (chosen : Option RunChoice) (find : Bool) (known before after : Option (List ℕ)) → Keeps before after → HasPlayedChoice chosen find known before after (Err play.Memory)
memory_played None find known before after keeps = nothing_played find known before after keeps
memory_played (Some choice) find known before after keeps = (Err run.Memory, nothing_known known find choice, (refl, keeps))
