-- Inputs that differ only in values of sensitive outputs have the same extras.
use Rattle.std.proofs.Common.{◌≡◌, ℕ, List, ◌∷◌, codes, Bool, true, false, cond, map, Option, Some, Ordering, Less, Equal, Greater, refl, sym, ap, ap₂, ◌∙◌}
use Rattle.std.specs.Prelude.{◌&&◌, ◌||◌, not}
use Rattle.std.specs.Cmp.Lexicographic.{slice_cmp}
use Rattle.std.specs.Option.{is_some}
use Rattle.std.specs.Ordering.{match_ordering, nat_cmp}
use Rattle.serde_json.specs.Data.{Data, Members, no_members, member, put}
use Rattle.serde_json.specs.Find.{get_member}
use Rattle.apply_model.specs.declared.details.output.Output.{Output}
use Rattle.apply_text_terraform.specs.Laws.{without_secret}
use Rattle.apply_plan_terraform.specs.Outputs.{OutputsOfPlan, as_outputs, with_plan_outputs, is_null, equals_word, is_written, or_null, output_of, text_at, written_outputs}
use Rattle.laws_run.specs.Sensitive.{AreSameButSecrets, IsSameButSecret, KnowSameOutputs}

-- ---- a look-up, and one more output

member_alike : (name : List ℕ) (ones others : Members) → AreSameButSecrets ones others → is_some (get_member name ones) ≡ is_some (get_member name others)
member_alike name no_members no_members alike = refl
member_alike name no_members (member same other others) alike = absurd alike
member_alike name (member key one ones) no_members alike = absurd alike
member_alike name (member key one ones) (member same other others) alike =
    of_order (slice_cmp nat_cmp name key) (member_alike name ones others alike.2)
    ∙ ap (λ (k : List ℕ). is_some (match_ordering (slice_cmp nat_cmp name k) (get_member name others) (Some other) (get_member name others))) alike.0
  where
    of_order : (o : Ordering) → is_some (get_member name ones) ≡ is_some (get_member name others)
        → is_some (match_ordering o (get_member name ones) (Some one) (get_member name ones)) ≡ is_some (match_ordering o (get_member name others) (Some other) (get_member name others))
    of_order Less rest = rest
    of_order Equal rest = refl
    of_order Greater rest = rest

pub put_alike : (name : List ℕ) (a b : Data) (ones others : Members) → IsSameButSecret a b → AreSameButSecrets ones others → AreSameButSecrets (put name a ones) (put name b others)
put_alike name a b no_members no_members both alike = (refl, both, tt)
put_alike name a b no_members (member same other others) both alike = absurd alike
put_alike name a b (member key one ones) no_members both alike = absurd alike
put_alike name a b (member key one ones) (member same other others) both alike =
    rw (sym alike.0) (of_order (slice_cmp nat_cmp name key) (put_alike name a b ones others both alike.2))
  where
    of_order : (o : Ordering) → AreSameButSecrets (put name a ones) (put name b others)
        → AreSameButSecrets (match_ordering o (member name a (member key one ones)) (member key a ones) (member key one (put name a ones)))
        (match_ordering o (member name b (member key other others)) (member key b others) (member key other (put name b others)))
    of_order Less rest = (refl, both, (refl, alike.1, alike.2))
    of_order Equal rest = (refl, both, alike.2)
    of_order Greater rest = (refl, alike.1, rest)

-- ---- which outputs are written

module _ (one other : OutputsOfPlan) (known : KnowSameOutputs one other) where
  told_alike : (name : List ℕ) (a b : Data) → IsSameButSecret a b → is_written one.changes name a ≡ is_written other.changes name b
  told_alike name a b both =
      ap₂ (λ (t u : Bool). t && not u) (ap (λ (kind : Option (List ℕ)). is_some kind && not (is_null kind)) both.kind) (ap₂ (λ (t u : Bool). t || u) (known.unknown name) (known.gone name))

  extras_alike : (ones others founds finds : Members) → AreSameButSecrets ones others → AreSameButSecrets founds finds
      → AreSameButSecrets (with_plan_outputs one.changes ones founds) (with_plan_outputs other.changes others finds)
  extras_alike no_members no_members founds finds alike so_far = so_far
  extras_alike no_members (member same b others) founds finds alike so_far = absurd alike
  extras_alike (member key a ones) no_members founds finds alike so_far = absurd alike
  extras_alike (member key a ones) (member same b others) founds finds alike so_far =
      rw (sym alike.0)
      (extras_alike ones others
      (cond (is_written one.changes key a && not (is_some (get_member key founds))) (put key a founds) founds)
      (cond (is_written other.changes key b && not (is_some (get_member key finds))) (put key b finds) finds)
      alike.2
      (of_test (is_written one.changes key a && not (is_some (get_member key founds))) (is_written other.changes key b && not (is_some (get_member key finds)))
      (ap₂ (λ (t u : Bool). t && not u) (told_alike key a b alike.1) (member_alike key founds finds so_far))))
    where
      of_test : (t u : Bool) → t ≡ u → AreSameButSecrets (cond t (put key a founds) founds) (cond u (put key b finds) finds)
      of_test true true is = put_alike key a b founds finds alike.1 so_far
      of_test true false is = absurd cc
      of_test false true is = absurd cc
      of_test false false is = so_far

-- ---- what is written of an output

-- an output without its value where that is sensitive, by its members
shown : (name : List ℕ) → Bool → (kind value : Option (List ℕ)) → Output
shown name sensitive kind value = without_secret (record { name = name; sensitive = sensitive; kind = or_null kind; value = or_null value })

one_without : (name : List ℕ) (a b : Data) → IsSameButSecret a b → without_secret (output_of name a) ≡ without_secret (output_of name b)
unfolding shown
one_without name a b both = of_test (equals_word (codes "true") (text_at (codes "sensitive") a)) refl
  where
    of_test : (s : Bool) → equals_word (codes "true") (text_at (codes "sensitive") a) ≡ s → without_secret (output_of name a) ≡ without_secret (output_of name b)
    of_test true is =
        ap (λ (s : Bool). shown name s (text_at (codes "type") a) (text_at (codes "value") a)) is
        ∙ ap (λ (kind : Option (List ℕ)). shown name true kind (text_at (codes "value") b)) both.kind
        ∙ ap (λ (s : Bool). shown name s (text_at (codes "type") b) (text_at (codes "value") b)) (sym is ∙ ap (equals_word (codes "true")) both.sensitive)
    of_test false is =
        ap (λ (s : Option (List ℕ)). shown name (equals_word (codes "true") s) (text_at (codes "type") a) (text_at (codes "value") a)) both.sensitive
        ∙ ap₂ (λ (kind value : Option (List ℕ)). shown name (equals_word (codes "true") (text_at (codes "sensitive") b)) kind value) both.kind (both.value is)

each_without : (ones others : Members) → AreSameButSecrets ones others → map without_secret (as_outputs ones) ≡ map without_secret (as_outputs others)
each_without no_members no_members alike = refl
each_without no_members (member same b others) alike = absurd alike
each_without (member key a ones) no_members alike = absurd alike
each_without (member key a ones) (member same b others) alike =
    ap₂ (λ (o : Output) (os : List Output). o ∷ os)
    (one_without key a b alike.1 ∙ ap (λ (name : List ℕ). without_secret (output_of name b)) alike.0)
    (each_without ones others alike.2)

-- ---- all outputs

pub outputs_alike : (one other : OutputsOfPlan) (script same : Members) → KnowSameOutputs one other → AreSameButSecrets script same
    → map without_secret (written_outputs one script) ≡ map without_secret (written_outputs other same)
outputs_alike one other script same known alike =
    each_without (with_plan_outputs one.changes one.known script) (with_plan_outputs other.changes other.known same) (extras_alike one other known one.known other.known script same known.known alike)
