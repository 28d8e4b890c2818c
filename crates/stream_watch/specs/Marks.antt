-- The signs of marks, and how they and the texts after them are rendered where lines have colours.
use Rattle.std.specs.Prelude.{ℕ, Bool, List, Option, None, Some, codes, false, if◌then◌else◌, true}
use Rattle.std.specs.Str.{bytes_eq}
use Rattle.term_text.specs.declared.rendition.Rendition.{Rendition}
use Rattle.term_text.specs.declared.rendition.Rendition.TheVariants as rendition
use Rattle.stream_watch.specs.declared.mark.Mark.{Mark}
use Rattle.stream_watch.specs.declared.mark.Mark.TheVariants as mark
use Rattle.stream_watch.specs.declared.mark.Sign.{Sign}

-- the panel shows begins of steps, and what is under way
abbrev pub is_in_panel : Mark → Bool
is_in_panel mark.Begin = true
is_in_panel mark.UnderWay = true
is_in_panel _ = false

abbrev pub plain_sign : (character : ℕ) → Sign
plain_sign character = record { character = character; rendition = None }

abbrev pub coloured_sign : (character : ℕ) → Rendition → Sign
coloured_sign character rendition = record { character = character; rendition = Some rendition }

-- the sign of a line with this mark
abbrev pub sign_of : Mark → Sign
sign_of mark.Begin = coloured_sign 0x25B8 rendition.Dim
sign_of mark.Done = coloured_sign 0x2713 rendition.Green
sign_of mark.Whole = coloured_sign 0x2713 rendition.Green
sign_of mark.Failed = coloured_sign 0x2717 rendition.Red
sign_of mark.Warning = coloured_sign 33 rendition.Yellow
sign_of mark.Drift = coloured_sign 33 rendition.Yellow
sign_of mark.UnderWay = coloured_sign 0x2026 rendition.Dim
sign_of mark.NoEnd = coloured_sign 0x2026 rendition.Yellow
sign_of mark.Create = coloured_sign 43 rendition.Green
sign_of mark.Update = coloured_sign 126 rendition.Yellow
sign_of mark.Delete = coloured_sign 45 rendition.Magenta
sign_of mark.Replace = coloured_sign 0xB1 rendition.Magenta
sign_of mark.Read = coloured_sign 60 rendition.Cyan
sign_of mark.Remove = coloured_sign 46 rendition.White
sign_of mark.Move = coloured_sign 0x2192 rendition.White
sign_of mark.Import = coloured_sign 0x2190 rendition.White
sign_of mark.OtherPlan = coloured_sign 42 rendition.White
sign_of mark.Sum = plain_sign 32
sign_of mark.Output = coloured_sign 0x2502 rendition.Dim
sign_of mark.Other = plain_sign 0xB7
sign_of mark.Passed = coloured_sign 124 rendition.Dim

-- how the text after the sign is rendered
abbrev pub text_rendition : Mark → Option Rendition
text_rendition mark.Begin = Some rendition.Dim
text_rendition mark.UnderWay = Some rendition.Dim
text_rendition mark.Whole = Some rendition.Bold
text_rendition mark.Sum = Some rendition.Bold
text_rendition mark.Failed = Some rendition.Red
text_rendition mark.Warning = Some rendition.Yellow
text_rendition mark.NoEnd = Some rendition.Yellow
text_rendition _ = None

-- what stands in place of a sign in a further line
abbrev pub bar_of : Mark → Sign
bar_of mark.Failed = coloured_sign 0x2502 rendition.Red
bar_of mark.Warning = coloured_sign 0x2502 rendition.Yellow
bar_of _ = coloured_sign 0x2502 rendition.Dim

-- the mark of a planned action
abbrev pub planned_mark : (action : List ℕ) → Mark
planned_mark action =
    if bytes_eq action (codes "create") then mark.Create
    else if bytes_eq action (codes "update") then mark.Update
    else if bytes_eq action (codes "delete") then mark.Delete
    else if bytes_eq action (codes "replace") then mark.Replace
    else if bytes_eq action (codes "read") then mark.Read
    else if bytes_eq action (codes "remove") then mark.Remove
    else if bytes_eq action (codes "move") then mark.Move
    else if bytes_eq action (codes "import") then mark.Import
    else mark.OtherPlan
