-- How a stretch of a text is rendered (ECMA-48, section 8.3.117, "Select Graphic Rendition").
use Rattle.std.specs.Prelude.{ℕ, ◌∷◌, ◌++◌, List, Bool, Option, None, Some, codes, encode_utf8_all, if◌then◌else◌}
use Rattle.term_text.specs.declared.rendition.Rendition.{Rendition}
use Rattle.term_text.specs.declared.rendition.Rendition.TheVariants as rendition

-- ESC, `[`, the codes and `m`
abbrev pub sequence : List ℕ → List ℕ
sequence words = 27 ∷ 91 ∷ words ++ codes "m"

abbrev pub rendition_codes : Rendition → List ℕ
rendition_codes rendition.Bold = codes "1"
rendition_codes rendition.Dim = codes "2"
rendition_codes rendition.Red = codes "31"
rendition_codes rendition.Green = codes "32"
rendition_codes rendition.Yellow = codes "33"
rendition_codes rendition.Magenta = codes "35"
rendition_codes rendition.Cyan = codes "36"
rendition_codes rendition.White = codes "37"
