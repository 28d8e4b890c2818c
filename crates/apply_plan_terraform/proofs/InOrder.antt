-- Outputs whose names ascend: each goes in after the outputs before it.
use Rattle.std.proofs.Common.{Less, Greater, string_bytes, nat_cmp, ◌≡◌, ℕ, List, [], ◌∷◌, ◌++◌, Bool, true, false, Option, None, refl, sym, ap, ◌∙◌, append_assoc, append-nil, length, arith}
use Rattle.std.proofs.lemmas.Cmp.{nat_list_cmp_total}
use Rattle.std.specs.Prelude.{⊤}
use Rattle.std.specs.Cmp.Lexicographic.{slice_cmp}
use Rattle.std.specs.Option.{is_some}
use Rattle.std.specs.Ordering.{ordering_reverse}
use Rattle.serde_json.specs.Data.{Data, Members, no_members, member, put}
use Rattle.serde_json.specs.Find.{get_member}
use Rattle.apply_model.specs.declared.details.output.Output.{Output}
use Rattle.apply_plan_terraform.specs.InOrder.{IsAscending, outputs_written, output_if_written}
use Rattle.apply_plan_terraform.specs.StoredOutputs.{members_view, put_all, view}
use Rattle.apply_plan_terraform.specs.Outputs.{as_outputs, with_plan_outputs, is_written, output_of}
use Rattle.apply_plan_terraform.proofs.StoredMembers.{Entry}
use Rattle.apply_plan_terraform.proofs.MapMembers.{not_written, put_plan_output}

pub no_entries : (es : List Entry) → length es ≡ 0 → es ≡ []
no_entries [] none = refl
no_entries (e ∷ es) none = absurd (omega (arith, none))

-- each name is below that one
abbrev Below : Members → List ℕ → Type 0
Below no_members name = ⊤
Below (member other d ms) name = (slice_cmp nat_cmp other name ≡ Less) × Below ms name

-- a member at the end, and members after others
abbrev at_end : Members → List ℕ → Data → Members
at_end no_members name d = member name d no_members
at_end (member other e ms) name d = member other e (at_end ms name d)

abbrev after : Members → Members → Members
after no_members more = more
after (member name d ms) more = member name d (after ms more)

above : (name other : List ℕ) → slice_cmp nat_cmp other name ≡ Less → slice_cmp nat_cmp name other ≡ Greater
above name other below = nat_list_cmp_total.antisymm name other ∙ ap ordering_reverse below

put_at_end : (ms : Members) (name : List ℕ) (d : Data) → Below ms name → put name d ms ≡ at_end ms name d
put_at_end no_members name d below = refl
put_at_end (member other e ms) name d below = rw (above name other below.0) (ap (member other e) (put_at_end ms name d below.1))

is_new : (ms : Members) (name : List ℕ) → Below ms name → get_member name ms ≡ None
is_new no_members name below = refl
is_new (member other e ms) name below = rw (above name other below.0) (is_new ms name below.1)

still_below : (ms : Members) (name next : List ℕ) → Below ms name → slice_cmp nat_cmp name next ≡ Less → Below ms next
still_below no_members name next below less = tt
still_below (member other e ms) name next below less = (nat_list_cmp_total.trans other name next below.0 less, still_below ms name next below.1 less)

end_below : (ms : Members) (name next : List ℕ) (d : Data) → Below ms name → slice_cmp nat_cmp name next ≡ Less → Below (at_end ms name d) next
end_below no_members name next d below less = (less, tt)
end_below (member other e ms) name next d below less = (nat_list_cmp_total.trans other name next below.0 less, end_below ms name next d below.1 less)

-- the first is above all of them
abbrev FirstIsAbove : Members → List Entry → Type 0
FirstIsAbove ms [] = ⊤
FirstIsAbove ms (e ∷ es) = Below ms (string_bytes e.0)

tail_ascends : (e : Entry) (es : List Entry) → IsAscending (e ∷ es) → IsAscending es
tail_ascends e [] ascends = tt
tail_ascends e (next ∷ es) ascends = ascends.1

next_above : (ms : Members) (e : Entry) (es : List Entry) → IsAscending (e ∷ es) → Below ms (string_bytes e.0) → FirstIsAbove ms es
next_above ms e [] ascends below = tt
next_above ms e (next ∷ es) ascends below = still_below ms (string_bytes e.0) (string_bytes next.0) below ascends.0

next_above_end : (ms : Members) (e : Entry) (es : List Entry) → IsAscending (e ∷ es) → Below ms (string_bytes e.0) → FirstIsAbove (at_end ms (string_bytes e.0) (view e.1)) es
next_above_end ms e [] ascends below = tt
next_above_end ms e (next ∷ es) ascends below = end_below ms (string_bytes e.0) (string_bytes next.0) (view e.1) below ascends.0

nothing_above : (es : List Entry) → FirstIsAbove no_members es
nothing_above [] = tt
nothing_above (e ∷ es) = tt

after_end : (ms : Members) (name : List ℕ) (d : Data) (more : Members) → after (at_end ms name d) more ≡ after ms (member name d more)
after_end no_members name d more = refl
after_end (member other e ms) name d more = ap (member other e) (after_end ms name d more)

put_after : (es : List Entry) (ms : Members) → IsAscending es → FirstIsAbove ms es → put_all es ms ≡ after ms (members_view es)
put_after [] no_members ascends first = refl
put_after [] (member name d ms) ascends first = ap (member name d) (put_after [] ms tt tt)
put_after (e ∷ es) ms ascends first =
    ap (put_all es) (put_at_end ms (string_bytes e.0) (view e.1) first)
    ∙ put_after es (at_end ms (string_bytes e.0) (view e.1)) (tail_ascends e es ascends) (next_above_end ms e es ascends first)
    ∙ after_end ms (string_bytes e.0) (view e.1) (members_view es)

outputs_at_end : (ms : Members) (name : List ℕ) (d : Data) → as_outputs (at_end ms name d) ≡ as_outputs ms ++ output_of name d ∷ []
outputs_at_end no_members name d = refl
outputs_at_end (member other e ms) name d = ap (λ outputs. output_of other e ∷ outputs) (outputs_at_end ms name d)

module _ (changes : Option Data) where
  one_written : (name : List ℕ) (d : Data) → is_written changes name d ≡ true → output_if_written changes name d ≡ output_of name d ∷ []
  one_written name d is = rw is refl

  one_not_written : (name : List ℕ) (d : Data) → is_written changes name d ≡ false → output_if_written changes name d ≡ []
  one_not_written name d is = rw is refl

  -- the written outputs after others
  abbrev AreWrittenAfter : List Entry → Type 0
  AreWrittenAfter es = (collected : Members) → IsAscending es → FirstIsAbove collected es → as_outputs (with_plan_outputs changes (members_view es) collected) ≡ as_outputs collected ++ outputs_written changes es

  one_after : (e : Entry) (es : List Entry) → AreWrittenAfter es → (written : Bool) → is_written changes (string_bytes e.0) (view e.1) ≡ written → AreWrittenAfter (e ∷ es)
  one_after e es others true is collected ascends first =
      let name = string_bytes e.0 in
      let d = view e.1 in
      ap as_outputs (put_plan_output changes name d (members_view es) collected (at_end collected name d) is (ap is_some (is_new collected name first)) (sym (put_at_end collected name d first)))
      ∙ others (at_end collected name d) (tail_ascends e es ascends) (next_above_end collected e es ascends first)
      ∙ ap (λ outputs. outputs ++ outputs_written changes es) (outputs_at_end collected name d)
      ∙ append_assoc (as_outputs collected) (output_of name d ∷ []) (outputs_written changes es)
      ∙ ap (λ outputs. as_outputs collected ++ (outputs ++ outputs_written changes es)) (sym (one_written name d is))
  one_after e es others false is collected ascends first =
      let name = string_bytes e.0 in
      let d = view e.1 in
      ap as_outputs (not_written changes name d (members_view es) collected is)
      ∙ others collected (tail_ascends e es ascends) (next_above collected e es ascends first)
      ∙ ap (λ outputs. as_outputs collected ++ (outputs ++ outputs_written changes es)) (sym (one_not_written name d is))

  written_after : (es : List Entry) → AreWrittenAfter es
  written_after [] = λ collected ascends first. sym (append-nil (as_outputs collected))
  written_after (e ∷ es) = one_after e es (written_after es) _ refl

  -- the written outputs, where the script has none
  pub written_in_order : (es : List Entry) (script : Members) (outputs : List Output) → script ≡ no_members → IsAscending es → outputs ≡ outputs_written changes es
      → outputs ≡ as_outputs (with_plan_outputs changes (put_all es no_members) script)
  written_in_order es script outputs none ascends are =
      are
      ∙ sym (written_after es no_members ascends (nothing_above es))
      ∙ ap (λ ms. as_outputs (with_plan_outputs changes ms no_members)) (sym (put_after es no_members ascends (nothing_above es)))
      ∙ ap (λ ms. as_outputs (with_plan_outputs changes (put_all es no_members) ms)) (sym none)
