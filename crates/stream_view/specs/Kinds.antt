-- The kinds of steps.
use Rattle.std.specs.Prelude.{ℕ, List, codes, if◌then◌else◌}
use Rattle.std.specs.Str.{bytes_eq}
use Rattle.stream_view.specs.declared.kind.Kind.{Kind}
use Rattle.stream_view.specs.declared.kind.Kind.TheVariants as kind
use Rattle.stream_view.specs.declared.svg.fragment.Fragment.{Fragment}
use Rattle.stream_view.specs.declared.svg.fragment.Fragment.TheVariants as fragment
use Rattle.stream_view.specs.declared.text.rendition.Rendition.{Rendition}
use Rattle.stream_view.specs.declared.text.rendition.Rendition.TheVariants as rendition

-- the kind of an action
abbrev pub kind_of : List ℕ → Kind
kind_of action =
    if bytes_eq action (codes "create") then kind.Create
    else if bytes_eq action (codes "update") then kind.Update
    else if bytes_eq action (codes "delete") then kind.Delete
    else if bytes_eq action (codes "read") then kind.Read
    else if bytes_eq action (codes "refresh") then kind.Refresh
    else kind.Other

-- the name of a kind in the SVG
abbrev pub kind_name : Kind → Fragment
kind_name kind.Create = fragment.Create
kind_name kind.Update = fragment.Update
kind_name kind.Delete = fragment.Delete
kind_name kind.Read = fragment.Read
kind_name kind.Refresh = fragment.Refresh
kind_name kind.Other = fragment.Other

-- how a text shows steps of a kind
abbrev pub kind_rendition : Kind → Rendition
kind_rendition kind.Create = rendition.Green
kind_rendition kind.Update = rendition.Yellow
kind_rendition kind.Delete = rendition.Magenta
kind_rendition kind.Read = rendition.Cyan
kind_rendition kind.Refresh = rendition.Cyan
kind_rendition kind.Other = rendition.White
