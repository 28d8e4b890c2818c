-- Markdown that was written, part by part.
use Rattle.std.proofs.Common.{◌≡◌, ◌∙◌, ℕ, ◌-◌, ◌++◌, List, Option, ap, ap₂, length, subst, take}
use Rattle.std.specs.Io.KnownBytes.{Appends}
use Rattle.std.proofs.KnownBytes.{Appends-trans}
use Rattle.stream_view.specs.Markdown.{back_bytes, fence_len, front_bytes, kept_of, line_count, markdown_bytes, markdown_with}
use Rattle.stream_view.specs.declared.markdown.extent.Extent.{Extent}

-- the front, what is kept, and the back
pub kept_written : (headline inside : List ℕ) (kept : Extent) (first last more : ℕ) (a b c d : Option (List ℕ)) → first ≡ fence_len kept.longest
    → last ≡ fence_len kept.longest → more ≡ line_count inside - kept.lines → Appends a b (front_bytes headline first)
    → Appends b c (take kept.len inside) → Appends c d (back_bytes more last) → Appends a d (markdown_with headline inside kept)
kept_written headline inside kept first last more a b c d opens closes cut front middle back =
    let bytes : front_bytes headline first ++ take kept.len inside ++ back_bytes more last ≡ markdown_with headline inside kept =
    ap (λ fence. front_bytes headline fence ++ take kept.len inside ++ back_bytes more last) opens
    ∙ ap₂ (λ n fence. front_bytes headline (fence_len kept.longest) ++ take kept.len inside ++ back_bytes n fence) cut closes in
    subst (Appends a d) bytes (Appends-trans a c d _ _ (Appends-trans a b c _ _ front middle) back)

-- the headline is these words
pub words_written : (words first second inside : List ℕ) (kept : Extent) (a b : Option (List ℕ)) → first ≡ words → second ≡ words
    → kept ≡ kept_of (length first) inside → Appends a b (markdown_with second inside kept) → Appends a b (markdown_bytes words inside)
words_written words first second inside kept a b is same chosen written =
    let cut : kept ≡ kept_of (length words) inside = chosen ∙ ap (λ (ws : List ℕ). kept_of (length ws) inside) is in
    subst (Appends a b) (ap₂ (λ (ws : List ℕ) (k : Extent). markdown_with ws inside k) same cut) written
