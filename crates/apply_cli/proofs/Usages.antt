-- From what words that are not followed get to the exit status.
use Rattle.std.proofs.Common.{◌≡◌, ◌∙◌, ◌≤◌, ◌⊎◌, ℕ, List, [], ◌∷◌, arith, inl, inr, refl, subst, sym}
use Rattle.std.specs.Io.KnownBytes.{Keeps}
use Rattle.clap.specs.Faults.{fault_of}
use Rattle.clap.specs.Kinds.{IsAmong}
use Rattle.clap.specs.Walk.{Text}
use Rattle.clap.specs.declared.error.kind.ErrorKind.{ErrorKind}
use Rattle.clap.specs.declared.error.kind.ErrorKind.TheVariants.{DisplayHelp, DisplayVersion}
use Rattle.apply_cli_args.specs.CommandLine.{AreChoices, AskAlone, AskForHelp, AskForHelpAlone, Choices, WereRefused, command_line}
use Rattle.apply_cli_args.specs.Invocation.{HaveInvoked}
use Rattle.apply_cli_args.specs.declared.invocation.Invocation.{Invocation}
use Rattle.apply_cli_args.specs.declared.usage.Usage.{Usage}
use Rattle.apply_cli_args.specs.declared.usage.Usage.TheVariants as usage
use Rattle.apply_run.specs.Run.{SinkState}
use Rattle.apply_cli.specs.Status.{usage_status_of}
use Rattle.apply_cli.specs.Version.{AskForVersionAlone, WasAnswered, WereAnsweredVersion}

-- words that give no invocation get the version, or another answer with its status
abbrev pub IsAnswered : Usage → (before after : SinkState) → (status : ℕ) → Type 0
IsAnswered usage.Version before after status = WasAnswered before after status
IsAnswered why before after status = (status ≡ usage_status_of why) × (2 ≤ status → Keeps before.bytes after.bytes)

pub is_answered : (why : Usage) (before after : SinkState) (status : ℕ) → (why ≡ usage.Version → WasAnswered before after status)
    → (¬ (why ≡ usage.Version) → (status ≡ usage_status_of why) × (2 ≤ status → Keeps before.bytes after.bytes))
    → IsAnswered why before after status
is_answered (usage.Help text) before after status version_answered other = other (λ (is : usage.Help text ≡ usage.Version). cc)
is_answered usage.Version before after status version_answered other = version_answered refl
is_answered (usage.Words text) before after status version_answered other = other (λ (is : usage.Words text ≡ usage.Version). cc)
is_answered usage.Conflict before after status version_answered other = other (λ (is : usage.Conflict ≡ usage.Version). cc)
is_answered usage.Clock before after status version_answered other = other (λ (is : usage.Clock ≡ usage.Version). cc)
is_answered (usage.Misplaced misplaced) before after status version_answered other = other (λ (is : usage.Misplaced misplaced ≡ usage.Version). cc)
is_answered (usage.Moment error) before after status version_answered other = other (λ (is : usage.Moment error ≡ usage.Version). cc)
is_answered usage.Hooks before after status version_answered other = other (λ (is : usage.Hooks ≡ usage.Version). cc)
is_answered usage.Memory before after status version_answered other = other (λ (is : usage.Memory ≡ usage.Version). cc)

-- status 0 is that of help, or the version, that was asked for
pub asked : (words : List Text) (why : Usage) (before after : SinkState) (status : ℕ)
    → IsAnswered why before after status → status ≤ 1 → WereRefused words why
    → (status ≡ 0) × (WereAnsweredVersion words before after status ⊎ AskForHelp words)
asked words (usage.Help text) before after status is good (inl memory) = cc
asked words (usage.Help text) before after status is good (inr cause) = (is.0, inr cause)
asked words usage.Version before after status is good (inl memory) = cc
asked words usage.Version before after status (inl version_answered) good (inr cause) = (version_answered.0, inl (inr cause, inl version_answered))
asked words usage.Version before after status (inr cut) good (inr cause) = absurd (omega (arith, cut.0, good))
asked words (usage.Words text) before after status is good why = absurd (omega (arith, is.0, good))
asked words usage.Conflict before after status is good why = absurd (omega (arith, is.0, good))
asked words usage.Clock before after status is good why = absurd (omega (arith, is.0, good))
asked words (usage.Misplaced misplaced) before after status is good why = absurd (omega (arith, is.0, good))
asked words (usage.Moment error) before after status is good why = absurd (omega (arith, is.0, good))
asked words usage.Hooks before after status is good why = absurd (omega (arith, is.0, good))
asked words usage.Memory before after status is good why = absurd (omega (arith, is.0, good))

-- with 3 the output is unchanged, or a prefix of the version was written
pub not_answered : (words : List Text) (why : Usage) (before after : SinkState) (status : ℕ)
    → IsAnswered why before after status → status ≡ 3 → WereRefused words why
    → Keeps before.bytes after.bytes ⊎ WereAnsweredVersion words before after status
not_answered words usage.Version before after status is bad (inl memory) = cc
not_answered words usage.Version before after status is bad (inr cause) = inr (inr cause, is)
not_answered words (usage.Help text) before after status is bad why = inl (is.1 (omega (arith, bad)))
not_answered words (usage.Words text) before after status is bad why = inl (is.1 (omega (arith, bad)))
not_answered words usage.Conflict before after status is bad why = inl (is.1 (omega (arith, bad)))
not_answered words usage.Clock before after status is bad why = inl (is.1 (omega (arith, bad)))
not_answered words (usage.Misplaced misplaced) before after status is bad why = inl (is.1 (omega (arith, bad)))
not_answered words (usage.Moment error) before after status is bad why = inl (is.1 (omega (arith, bad)))
not_answered words usage.Hooks before after status is bad why = inl (is.1 (omega (arith, bad)))
not_answered words usage.Memory before after status is bad why = inl (is.1 (omega (arith, bad)))

-- with 2 the output is as it was
pub unchanged : (why : Usage) (before after : SinkState) (status : ℕ) → IsAnswered why before after status → status ≡ 2 → Keeps before.bytes after.bytes
unchanged usage.Version before after status (inl version_answered) bad = absurd (omega (arith, version_answered.0, bad))
unchanged usage.Version before after status (inr cut) bad = absurd (omega (arith, cut.0, bad))
unchanged (usage.Help text) before after status is bad = is.1 (omega (arith, bad))
unchanged (usage.Words text) before after status is bad = is.1 (omega (arith, bad))
unchanged usage.Conflict before after status is bad = is.1 (omega (arith, bad))
unchanged usage.Clock before after status is bad = is.1 (omega (arith, bad))
unchanged (usage.Misplaced misplaced) before after status is bad = is.1 (omega (arith, bad))
unchanged (usage.Moment error) before after status is bad = is.1 (omega (arith, bad))
unchanged usage.Hooks before after status is bad = is.1 (omega (arith, bad))
unchanged usage.Memory before after status is bad = is.1 (omega (arith, bad))

-- no answer has another status than these
pub few_statuses : (why : Usage) (before after : SinkState) (status : ℕ) → IsAnswered why before after status → status ≤ 3
few_statuses (usage.Help text) before after status is = omega (arith, is.0)
few_statuses usage.Version before after status (inl version_answered) = omega (arith, version_answered.0)
few_statuses usage.Version before after status (inr cut) = omega (arith, cut.0)
few_statuses (usage.Words text) before after status is = omega (arith, is.0)
few_statuses usage.Conflict before after status is = omega (arith, is.0)
few_statuses usage.Clock before after status is = omega (arith, is.0)
few_statuses (usage.Misplaced misplaced) before after status is = omega (arith, is.0)
few_statuses (usage.Moment error) before after status is = omega (arith, is.0)
few_statuses usage.Hooks before after status is = omega (arith, is.0)
few_statuses usage.Memory before after status is = omega (arith, is.0)

-- words that are a call for help or the version alone are not followed
pub alone_is_not_followed : (asked : ErrorKind) (words : List Text) (invocation : Invocation) → AskAlone asked words → HaveInvoked words invocation → ⊥
alone_is_not_followed asked words invocation alone stated =
    let bad : asked ∷ [] ≡ [] = sym (alone stated.choices stated.are_choices) ∙ stated.parsed in
    cc

only_this : (asked kind : ErrorKind) → (kind ≡ asked) ⊎ ⊥ → (kind ≡ asked → ⊥) → ⊥
only_this asked kind (inl is) other = other is
only_this asked kind (inr none) other = none

parsed_alone : {P : Type 0} (asked : ErrorKind) (words : List Text) → AskAlone asked words
    → (choices : Choices) → AreChoices choices → fault_of (command_line choices) words ≡ [] → P
parsed_alone asked words alone choices are parsed =
    let none : asked ∷ [] ≡ [] = sym (alone choices are) ∙ parsed in
    cc

-- and those for help are answered by help, or by want of memory
pub help_is_answered : (words : List Text) (why : Usage) (before after : SinkState) (status : ℕ)
    → IsAnswered why before after status → AskForHelpAlone words → WereRefused words why → (status ≡ 0) ⊎ (status ≡ 3)
help_is_answered words (usage.Help text) before after status is alone any = inl is.0
help_is_answered words usage.Version before after status (inl version_answered) alone any = inl version_answered.0
help_is_answered words usage.Version before after status (inr cut) alone any = inr cut.0
help_is_answered words (usage.Words text) before after status is alone (inl memory) = cc
help_is_answered words (usage.Words text) before after status is alone (inr witness) =
    absurd (only_this DisplayHelp witness.2.0 (subst (IsAmong witness.2.0) (alone witness.0 witness.1) witness.2.3) witness.2.1)
help_is_answered words usage.Conflict before after status is alone (inl memory) = cc
help_is_answered words usage.Clock before after status is alone (inl memory) = cc
help_is_answered words usage.Conflict before after status is alone (inr witness) = parsed_alone DisplayHelp words alone witness.0 witness.1 witness.2.0
help_is_answered words usage.Clock before after status is alone (inr witness) = parsed_alone DisplayHelp words alone witness.0 witness.1 witness.2.0
help_is_answered words (usage.Misplaced misplaced) before after status is alone (inl memory) = cc
help_is_answered words (usage.Moment error) before after status is alone (inl memory) = cc
help_is_answered words (usage.Misplaced misplaced) before after status is alone (inr witness) = parsed_alone DisplayHelp words alone witness.0 witness.1 witness.2.0
help_is_answered words (usage.Moment error) before after status is alone (inr witness) = parsed_alone DisplayHelp words alone witness.0 witness.1 witness.2.0
help_is_answered words usage.Hooks before after status is alone (inl memory) = cc
help_is_answered words usage.Hooks before after status is alone (inr witness) = parsed_alone DisplayHelp words alone witness.0 witness.1 witness.2.0
help_is_answered words usage.Memory before after status is alone any = inr is.0

-- and those for the version by the version
pub version_is_answered : (words : List Text) (why : Usage) (before after : SinkState) (status : ℕ)
    → IsAnswered why before after status → AskForVersionAlone words → WereRefused words why
    → WasAnswered before after status ⊎ ((status ≡ 3) × Keeps before.bytes after.bytes)
version_is_answered words usage.Version before after status is alone any = inl is
version_is_answered words (usage.Help text) before after status is alone (inl memory) = cc
version_is_answered words (usage.Help text) before after status is alone (inr witness) =
    absurd (only_this DisplayVersion DisplayHelp (subst (IsAmong DisplayHelp) (alone witness.0 witness.1) witness.2) (λ (same : DisplayHelp ≡ DisplayVersion). cc))
version_is_answered words (usage.Words text) before after status is alone (inl memory) = cc
version_is_answered words (usage.Words text) before after status is alone (inr witness) =
    absurd (only_this DisplayVersion witness.2.0 (subst (IsAmong witness.2.0) (alone witness.0 witness.1) witness.2.3) witness.2.2)
version_is_answered words usage.Conflict before after status is alone (inl memory) = cc
version_is_answered words usage.Clock before after status is alone (inl memory) = cc
version_is_answered words usage.Conflict before after status is alone (inr witness) = parsed_alone DisplayVersion words alone witness.0 witness.1 witness.2.0
version_is_answered words usage.Clock before after status is alone (inr witness) = parsed_alone DisplayVersion words alone witness.0 witness.1 witness.2.0
version_is_answered words (usage.Misplaced misplaced) before after status is alone (inl memory) = cc
version_is_answered words (usage.Moment error) before after status is alone (inl memory) = cc
version_is_answered words (usage.Misplaced misplaced) before after status is alone (inr witness) = parsed_alone DisplayVersion words alone witness.0 witness.1 witness.2.0
version_is_answered words (usage.Moment error) before after status is alone (inr witness) = parsed_alone DisplayVersion words alone witness.0 witness.1 witness.2.0
version_is_answered words usage.Hooks before after status is alone (inl memory) = cc
version_is_answered words usage.Hooks before after status is alone (inr witness) = parsed_alone DisplayVersion words alone witness.0 witness.1 witness.2.0
version_is_answered words usage.Memory before after status is alone any = inr (is.0, is.1 (omega (arith, is.0)))
