-- From a run of settings to the words that say them.
use Rattle.std.proofs.Common.{◌≡◌, ◌⊎◌, inl, inr, ⊎_elim, ℕ, List, Option, false, ap, subst}
use Rattle.std.specs.Io.KnownBytes.{Keeps}
use Rattle.clap.specs.Walk.{Text}
use Rattle.apply_run.specs.Run.{SinkState}
use Rattle.apply_writer.specs.Sinks.{OverWriter}
use Rattle.apply_cli.specs.Command.{OfInput, sink_state}
use Rattle.apply_cli.specs.Invocation.{WasFollowed, WasFollowedInPart, WereApplied, WereBegun, unfailed}
use Rattle.apply_cli_args.specs.Invocation.{IsOfWords}
use Rattle.apply_cli_args.specs.declared.invocation.Invocation.{Invocation}

-- an output that is new
new : {W : Type 0} (contents : W → Option (List ℕ)) (output : W) (first : OverWriter W)
    → first ≡ record { writer = output; failures = 0; is_reader_gone = false } → sink_state contents first ≡ unfailed (contents output)
new {W} contents output first is = ap (λ (s : OverWriter W). sink_state contents s) is

-- a run of the invocation that the words say, to its end, over such an output
pub followed : {W File : Type 0} (contents : W → Option (List ℕ)) (remaining : File → Option (List ℕ)) (words : List Text) (invocation : Invocation)
    (input : Option (List ℕ)) (output : W) (first last : OverWriter W) (status : ℕ)
    → IsOfWords words invocation → first ≡ record { writer = output; failures = 0; is_reader_gone = false }
    → OfInput input (WasFollowed remaining invocation (sink_state contents first) (sink_state contents last) status)
    → WereApplied remaining words input (contents output) (sink_state contents last) status
followed contents remaining words invocation input output first last status is_of_words is witness = record {
  invocation = invocation;
  is_of_words = is_of_words;
  applied = subst (λ (before : SinkState). OfInput input (WasFollowed remaining invocation before (sink_state contents last) status))
      (new contents output first is) witness;
}

-- and one that was cut off
pub followed_in_part : {W File : Type 0} (contents : W → Option (List ℕ)) (remaining : File → Option (List ℕ)) (words : List Text) (invocation : Invocation)
    (input : Option (List ℕ)) (output : W) (first last : OverWriter W)
    → IsOfWords words invocation → first ≡ record { writer = output; failures = 0; is_reader_gone = false }
    → Keeps (contents first.writer) (contents last.writer) ⊎ OfInput input (WasFollowedInPart remaining invocation (sink_state contents first) (sink_state contents last))
    → Keeps (contents output) (contents last.writer) ⊎ WereBegun remaining words input (contents output) (sink_state contents last)
followed_in_part contents remaining words invocation input output first last is_of_words is ended =
    ⊎_elim (λ unchanged. inl unchanged) (λ witness. inr (record { invocation = invocation; is_of_words = is_of_words; begun = witness }))
    (subst (λ (before : SinkState). Keeps before.bytes (contents last.writer) ⊎ OfInput input (WasFollowedInPart remaining invocation before (sink_state contents last)))
    (new contents output first is) ended)
