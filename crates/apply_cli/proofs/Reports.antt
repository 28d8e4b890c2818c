-- From what was reported of the halts of a run to what was reported of the words.
use Rattle.std.proofs.Common.{◌⊎◌, ⊎_elim, ℕ, List, [], Option, None, Some, take, ◌∙◌, append-nil, subst}
use Rattle.std.specs.Io.KnownBytes.{Appends, Keeps}
use Rattle.std.proofs.KnownBytes.{Appends-kept}
use Rattle.std.proofs.Math.Seq.{take-nil}
use Rattle.clap.specs.Walk.{Text}
use Rattle.apply_cli.specs.Unmatched.{AreAllMatched, AreReported, WereReported, unmatched_lines}

-- what was reported stays
pub reported_kept : (prefixes : List Text) (before after after' : Option (List ℕ)) → AreReported prefixes before after → Keeps after after' → AreReported prefixes before after'
reported_kept prefixes before after after' h kept = (h.0, Appends-kept before after after' (take h.0 (unmatched_lines prefixes)) h.1 kept)

nothing_appended : (before after : Option (List ℕ)) → Appends before after [] → Keeps before after
nothing_appended None after h = tt
nothing_appended (Some xs) None h = h
nothing_appended (Some xs) (Some ys) h = h ∙ append-nil xs

-- a front of no lines is empty
nothing_reported : (before after : Option (List ℕ)) → AreReported [] before after → Keeps before after
nothing_reported before after h = nothing_appended before after (subst (λ part. Appends before after part) (take-nil h.0) h.1)

-- nothing was reported if all prefixes are matched
pub quiet_of_matched : (words : List Text) (input before after : Option (List ℕ)) → Keeps before after ⊎ WereReported words input before after
    → AreAllMatched words input → Keeps before after
quiet_of_matched words input before after ended all =
    ⊎_elim
    (λ (same : Keeps before after). same)
    (λ (h : WereReported words input before after).
    let none = all h.invocation h.reported.0 h.is_of_words h.reported.2 in
    nothing_reported before after (subst (λ prefixes. AreReported prefixes before after) none h.reported.1))
    ended
