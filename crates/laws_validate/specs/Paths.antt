-- Where a path leads in the tree of a plan or of a script.
use Rattle.std.specs.Prelude.{◌≡◌, List, [], ◌∷◌, ◌++◌, All, true, is_some, slice_get, Option, Some, None, option_and_then}
use Rattle.serde_json.specs.Data.{Data, object, Members, no_members, member}
use Rattle.serde_json.specs.Find.{get, get_member}
use Rattle.apply_json.specs.ShallowView.{items_in, members_in}
use Rattle.apply_json.specs.Tree.{list_of}
use Rattle.input_validate.specs.declared.findings.finding.Finding.{Finding}
use Rattle.input_validate.specs.declared.findings.name.Name.{Name}
use Rattle.input_validate.specs.declared.findings.path.Segment.{Segment}
use Rattle.input_validate.specs.declared.findings.path.Segment.TheVariants.{Item, Member, Other}
use Rattle.input_validate.specs.declared.findings.problem.Problem.{Problem}
use Rattle.input_validate.specs.declared.findings.problem.Problem.TheVariants.{IsMissing}
use Rattle.input_validate.specs.Names.{name_text}

-- the values of members
abbrev pub values_in : Members → List Data
values_in no_members = []
values_in (member text d ms) = d ∷ values_in ms

-- the value that one segment leads to
abbrev pub value_by : Segment → Data → Option Data
value_by (Member name) d = get (name_text name) d
value_by (Other n) d = slice_get (values_in (members_in d)) n
value_by (Item n) d = slice_get (list_of (items_in d)) n

-- the value that a path leads to
abbrev pub value_at : List Segment → Data → Option Data
value_at [] d = Some d
value_at (part ∷ parts) d = option_and_then (value_at parts) (value_by part d)

-- without its last segment, which names a member, the path leads to an object that has no such
-- member
pub record LeadsToLack (tree : Data) (path : List Segment) : Type 0 where
  pub front : List Segment
  pub name : Name
  pub members : Members
  pub path_is : path ≡ front ++ Member name ∷ []
  pub object_is : value_at front tree ≡ Some (object members)
  pub lacks : get_member (name_text name) members ≡ None

-- a path leads to a value, or, if a member is missing, to the object that lacks it
abbrev pub LeadsTo : Problem → Data → List Segment → Type 0
LeadsTo (IsMissing wanted) tree path = LeadsToLack tree path
LeadsTo _ tree path = is_some (value_at path tree) ≡ true

abbrev pub IsPlaced : Data → Finding → Type 0
IsPlaced tree finding = LeadsTo finding.problem tree finding.path

-- each finding is placed in the tree of the bytes; without a tree, each path is empty
abbrev pub ArePlaced : Option Data → List Finding → Type 0
ArePlaced None all = All (λ finding. finding.path ≡ []) all
ArePlaced (Some tree) all = All (IsPlaced tree) all
