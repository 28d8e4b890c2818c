-- Parts of the SVG that were written, one after another.
use Rattle.std.proofs.Common.{◌≡◌, ◌∙◌, ℕ, ◌+◌, ◌<◌, ◌∷◌, [], ◌++◌, List, Option, None, Some, ap, ap₂, subst, sym, get_or, length, take, append-nil, append_assoc, codes}
use Rattle.std.specs.Prelude.{IfSome}
use Rattle.std.specs.List.{AllZip, slice_get}
use Rattle.std.specs.Io.KnownBytes.{Appends, Keeps}
use Rattle.std.proofs.KnownBytes.{Appends-kept, Appends-nil, Appends-trans}
use Rattle.std.proofs.lemmas.Grind.{flat_map-append}
use Rattle.stream_timeline.specs.Steps.{StepRead}
use Rattle.stream_timeline.specs.declared.reading.time_range.TimeRange.{TimeRange}
use Rattle.term_text.specs.Fitted.{shown_characters}
use Rattle.stream_view.specs.Growth.{HasParts}
use Rattle.stream_view.specs.Heading.{heading_words}
use Rattle.stream_view.specs.LeftOut.{left_out_shown}
use Rattle.stream_view.specs.Markup.{Axis, GroupWritten, GroupsWritten, HeadWritten, IsGroupAt, IsGroupOf, IsLeftOutIn, MarkupWritten, PartsWritten, SvgWritten, axis_of, bar_left, bar_parts, bar_width, heading_title, joined, line_parts, markup_part_bytes, title_parts, whole_title}
use Rattle.stream_view.specs.declared.picture.Picture.{Picture}
use Rattle.stream_view.specs.declared.svg.markup.Markup.{Markup}
use Rattle.stream_view.specs.declared.svg.markup_part.MarkupPart.{MarkupPart}
use Rattle.stream_view.specs.declared.svg.markup_part.MarkupPart.TheVariants as markup_part
use Rattle.stream_view.specs.declared.svg.fragment.Fragment.TheVariants as fragment
use Rattle.stream_view.proofs.Sent.{zip_more}

pub parts_then : (ps qs : List MarkupPart) (a b c : Option (List ℕ)) → PartsWritten ps a b → PartsWritten qs b c → PartsWritten (ps ++ qs) a c
parts_then ps qs a b c first second = subst (Appends a c) (sym (flat_map-append markup_part_bytes ps qs)) (Appends-trans a b c _ _ first second)

-- what was added to none
pub parts_sent : (ps old new : List MarkupPart) (a b : Option (List ℕ)) → old ≡ [] → new ≡ old ++ ps → PartsWritten new a b → PartsWritten ps a b
parts_sent ps old new a b none same_parts sent =
    subst (λ (qs : List MarkupPart). PartsWritten qs a b) (same_parts ∙ ap (λ (qs : List MarkupPart). qs ++ ps) none) sent

-- some parts, and one after them
pub ended_by : (end : MarkupPart) (ps new : List MarkupPart) (a b : Option (List ℕ)) → new ≡ ps ++ end ∷ [] → PartsWritten new a b
    → (back : List MarkupPart) × PartsWritten (back ++ end ∷ []) a b
ended_by end ps new a b is sent = (ps, subst (λ (qs : List MarkupPart). PartsWritten qs a b) is sent)

-- ---- parts that the markup has more

pub parts_more : (a b c : Markup) (ps qs : List MarkupPart) → HasParts a b ps → HasParts b c qs → HasParts a c (ps ++ qs)
parts_more a b c ps qs first second whole =
    let later = second whole in
    let sooner = first later.0 in
    (sooner.0, later.1 ∙ ap (λ (xs : List MarkupPart). xs ++ qs) sooner.1 ∙ append_assoc a.parts.items ps qs)

pub some_parts : (a b : Markup) (ps : List MarkupPart) → HasParts a b ps → (parts : List MarkupPart) × HasParts a b parts
some_parts a b ps has = (ps, has)

-- ---- any parts

pub no_markup : (a : Option (List ℕ)) → MarkupWritten a a
no_markup a = record { parts = []; written = Appends-nil a }

pub more_markup : (a b c : Option (List ℕ)) (parts : List MarkupPart) → MarkupWritten a b → PartsWritten parts b c → MarkupWritten a c
more_markup a b c parts before more =
    record { parts = before.parts ++ parts; written = parts_then before.parts parts a b c before.written more }

-- ---- the row of a step

-- the title of a step, other parts, its bar, and other parts again
pub step_written : (axis : Axis) (time_range : TimeRange) (step : StepRead) (left width top : ℕ) (a b c d e : Option (List ℕ)) (back : List MarkupPart)
    → left ≡ bar_left axis time_range step → width ≡ bar_width axis time_range step → PartsWritten (title_parts step) a b → MarkupWritten b c
    → PartsWritten (bar_parts left width top step) c d → PartsWritten (back ++ markup_part.Fixed fragment.GroupEnd ∷ []) d e
    → (group : List MarkupPart) × IsGroupOf axis time_range group step × PartsWritten group a e
step_written axis time_range step left width top a b c d e back is_left is_width title front bar after_bar =
    let bar_at : ℕ → ℕ → List MarkupPart = λ l w. title_parts step ++ front.parts ++ bar_parts l w top step ++ (back ++ markup_part.Fixed fragment.GroupEnd ∷ []) in (
      bar_at left width,
      record { front = front.parts; top = top; back = back; is = ap₂ bar_at is_left is_width },
      parts_then (title_parts step ++ front.parts ++ bar_parts left width top step) (back ++ markup_part.Fixed fragment.GroupEnd ∷ []) a d e
          (parts_then (title_parts step ++ front.parts) (bar_parts left width top step) a c d
          (parts_then (title_parts step) front.parts a b c title front.written) bar) after_bar,
    )

pub group_written : (axis : Axis) (picture : Picture) (place : ℕ) (step : StepRead) (a b : Option (List ℕ)) → slice_get picture.timeline.now.steps place ≡ Some step
    → (group : List MarkupPart) × IsGroupOf axis picture.time_range group step × PartsWritten group a b → GroupWritten axis picture place a b
group_written axis picture place step a b listed of_step = record {
  group = of_step.0;
  is = subst (λ (o : Option StepRead). IfSome o (IsGroupOf axis picture.time_range of_step.0)) (sym listed) of_step.1;
  written = of_step.2;
}

pub empty_group : (axis : Axis) (picture : Picture) (place : ℕ) (a b : Option (List ℕ)) → slice_get picture.timeline.now.steps place ≡ None
    → Appends a b (codes "<g></g>\n") → GroupWritten axis picture place a b
empty_group axis picture place a b none sent =
    let group : List MarkupPart = markup_part.Fixed fragment.GroupBegin ∷ markup_part.Fixed fragment.GroupEnd ∷ [] in
    record {
      group = group;
      is = subst (λ (o : Option StepRead). IfSome o (IsGroupOf axis picture.time_range group)) (sym none) tt;
      written = sent;
    }

-- ---- rows

pub no_groups : (axis : Axis) (picture : Picture) (a : Option (List ℕ)) → GroupsWritten axis picture [] a a
no_groups axis picture a = record { groups = []; each = tt; written = Appends-nil a }

pub group_more : (axis : Axis) (picture : Picture) (places : List ℕ) (i : ℕ) (a b c : Option (List ℕ)) → i < length places
    → GroupsWritten axis picture (take i places) a b → GroupWritten axis picture (get_or places i 0) b c
    → GroupsWritten axis picture (take (i + 1) places) a c
group_more axis picture places i a b c below before more =
    let all : joined (before.groups ++ more.group ∷ []) ≡ joined before.groups ++ more.group =
    flat_map-append (λ (group : List MarkupPart). group) before.groups (more.group ∷ []) ∙ ap (λ (ps : List MarkupPart). joined before.groups ++ ps) (append-nil more.group) in
    record {
      groups = before.groups ++ more.group ∷ [];
      each = zip_more (IsGroupAt axis picture) places i 0 before.groups more.group below before.each more.is;
      written = subst (λ (ps : List MarkupPart). PartsWritten ps a c) (sym all) (parts_then (joined before.groups) more.group a b c before.written more.written);
    }

-- ---- the whole

-- the heading stands between two tags, after what came before
pub head_written : (picture : Picture) (a d : Option (List ℕ)) (what : List ℕ) (opening style p0 p1 p2 p3 : List MarkupPart)
    → what ≡ shown_characters (heading_words picture.time_range picture.timeline.now picture.numbers)
    → p0 ≡ [] → p1 ≡ p0 ++ opening → p2 ≡ p1 ++ whole_title what → p3 ≡ p2 ++ style → PartsWritten p3 a d → HeadWritten picture a d
head_written picture a d what opening style p0 p1 p2 p3 is none opened titled styled sent =
    let title : p2 ≡ opening ++ heading_title picture =
    titled ∙ ap₂ (λ (ps : List MarkupPart) (cs : List ℕ). ps ++ whole_title cs) (opened ∙ ap (λ (ps : List MarkupPart). ps ++ opening) none) is in
    record {
      parts = p3;
      titled = record { front = opening; back = style; is = styled ∙ ap (λ (ps : List MarkupPart). ps ++ style) title };
      written = sent;
    }

regrouped : (x b o g : List MarkupPart) → ((x ++ b) ++ o) ++ g ≡ x ++ ((b ++ o) ++ g)
regrouped x b o g = simp append_assoc

pub svg_written : (axis : Axis) (picture : Picture) (a b c d e f g h : Option (List ℕ)) (others below left tail : List MarkupPart) → axis ≡ axis_of picture
    → IsLeftOutIn (left_out_shown picture.rows) left → HeadWritten picture a b → PartsWritten others b c → MarkupWritten c d
    → GroupsWritten axis picture picture.rows.places.items d e → PartsWritten (below ++ left ++ tail) e f → Appends f g (codes "</svg>\n")
    → Keeps g h → SvgWritten picture a h
svg_written axis picture a b c d e f g h others below left tail is_axis is_left head front grid groups back end unchanged = record {
  head = head.parts ++ others ++ grid.parts;
  groups = groups.groups;
  below = below;
  left_out = left;
  tail = tail;
  titled = record {
    front = head.titled.front;
    back = head.titled.back ++ others ++ grid.parts;
    is = ap (λ (ps : List MarkupPart). ps ++ others ++ grid.parts) head.titled.is
        ∙ regrouped (head.titled.front ++ heading_title picture) head.titled.back others grid.parts;
  };
  each = subst (λ (x : Axis). AllZip (IsGroupAt x picture) picture.rows.places.items groups.groups) is_axis groups.each;
  is_left_out = is_left;
  written = Appends-kept a g h _ (parts_then (head.parts ++ others ++ grid.parts ++ joined groups.groups ++ (below ++ left ++ tail)) (markup_part.Fixed fragment.SvgEnd ∷ []) a f g
      (parts_then (head.parts ++ others ++ grid.parts ++ joined groups.groups) (below ++ left ++ tail) a e f
      (parts_then (head.parts ++ others ++ grid.parts) (joined groups.groups) a d e
      (parts_then (head.parts ++ others) grid.parts a c d (parts_then head.parts others a b c head.written front) grid.written)
      groups.written) back) end) unchanged;
}

-- the line about the steps without a row
pub shown_in : (y : ℕ) (stated : Option (List ℕ)) (text : List ℕ) (old new : List MarkupPart) → Some text ≡ stated → old ≡ []
    → new ≡ old ++ line_parts 160 y fragment.SmallSoft text → IsLeftOutIn stated new
shown_in y stated text old new is none same_parts =
    subst (λ (o : Option (List ℕ)). IsLeftOutIn o new) is (y, same_parts ∙ ap (λ (ps : List MarkupPart). ps ++ line_parts 160 y fragment.SmallSoft text) none)

pub nothing_shown : (stated : Option (List ℕ)) (parts : List MarkupPart) → None ≡ stated → parts ≡ [] → IsLeftOutIn stated parts
nothing_shown stated parts is none = subst (λ (o : Option (List ℕ)). IsLeftOutIn o parts) is none
