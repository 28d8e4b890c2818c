use Rattle.std.proofs.Common.{◌≡◌, ◌++◌, drop, length}
use Rattle.std.specs.Option.{option_copied}
use Rattle.stream_record_outcomes.specs.Provisioners.{provisioners_of}
use Rattle.stream_record_outcomes.proofs.provisioners.provisioners_of.Given as goal

abbrev pub invariant-loop-place : goal.invariant-loop-place
invariant-loop-place l = record {
  so_far :
      l.provisioners.items ++ provisioners_of (option_copied l.failure) (drop l.place l.runs)
      ≡ provisioners_of (option_copied l.failure) l.runs;
  count : length l.provisioners.items ≡ l.place;
}
