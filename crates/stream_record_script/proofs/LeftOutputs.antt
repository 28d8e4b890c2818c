-- The outputs of a script, without those that a run tells the same way.
use Rattle.std.proofs.Common.{◌≡◌, ◌∙◌, ◌+◌, ◌<◌, ℕ, ◌∷◌, Bool, Bor, List, None, Some, true, false, ap, cond, drop, get_or, length, map}
use Rattle.std.specs.List.{cons_option, filter_map}
use Rattle.apply_model.specs.declared.details.output as told
use Rattle.stream_record.proofs.Items.{drop_at}
use Rattle.stream_record.specs.declared.output as script
use Rattle.stream_record_lines.specs.declared.outputs.output.Output.{Output}
use Rattle.stream_record_script.specs.Outputs.{is_told, script_output, unless_told}

-- What the script states of these outputs.
abbrev pub stated : List told.Output.Output → List (Bor Output) → List script.Output.Output
stated told outputs = filter_map (unless_told told) (map (λ output. output.now) outputs)

module _ (told : List told.Output.Output) (outputs : List (Bor Output)) (i : ℕ) (output : Bor Output)
    (below : i < length outputs) (is : output ≡ get_or outputs i output) where
  stated_more : (b : Bool) → is_told told output.now ≡ b
      → stated told (drop i outputs) ≡ cons_option (cond b None (Some (script_output output.now))) (stated told (drop (i + 1) outputs))
  stated_more b told_is =
      ap (stated told) (drop_at outputs i output below is)
      ∙ ap (λ (b : Bool). cons_option (cond b None (Some (script_output output.now))) (stated told (drop (i + 1) outputs))) told_is

  -- an output that the script states
  pub stated_next : is_told told output.now ≡ false → stated told (drop i outputs) ≡ script_output output.now ∷ stated told (drop (i + 1) outputs)
  stated_next not_told = stated_more false not_told

  -- an output that it does not
  pub stated_same : is_told told output.now ≡ true → stated told (drop i outputs) ≡ stated told (drop (i + 1) outputs)
  stated_same told_is = stated_more true told_is
