use Rattle.std.proofs.Common.{◌≡◌, ◌∙◌, ◌-◌, ◌++◌, ◌∷◌, [], ap, length, take, drop, append_assoc, arith}
use Rattle.std.proofs.lemmas.List.{take_rest}
use Rattle.term_text.specs.Columns.{columns_of}
use Rattle.term_text.proofs.Fits.{is_cut, two_fifths}
use Rattle.term_text.proofs.fitting.cut_short.Goals as goal

pub returns : goal.returns
returns c =
    let cs = c.args.characters.now in
    let n = c.front_len-front.result in
    let m = c.back_len-back.result in
    let used : c.columns-used.result ≡ columns_of (take n cs) = (let h = c.columns-used.ensures in let f = c.front_len-front.ensures.fits in omega (arith, h, f)) in
    let left : c.saturating_sub.result ≡ c.args.room - columns_of (take n cs) = c.saturating_sub.ensures ∙ ap (λ k. c.args.room - k) used in
    let built : c.extend_from_slice-2.new.self.items ≡ take n cs ++ 8230 ∷ drop (length cs - m) cs =
    c.in_ok-extend_from_slice-2.ensures.items ∙ ap (λ xs. c.push.new.self.items ++ xs) (take_rest cs (length cs - m))
    ∙ ap (λ xs. xs ++ drop (length cs - m) cs) (c.in_ok-push.ensures.items
    ∙ ap (λ xs. xs ++ 8230 ∷ []) (c.in_ok-extend_from_slice.ensures.items ∙ ap (λ xs. xs ++ take n cs) c.new-short.ensures.items))
    ∙ append_assoc (take n cs) (8230 ∷ []) (drop (length cs - m) cs) in
    built ∙ is_cut c.args.room _ c.saturating_sub.result n m cs (two_fifths c.args.room) c.front_len-front.ensures.within c.front_len-front.ensures.fits
    c.front_len-front.ensures.full left c.back_len-back.ensures.within c.back_len-back.ensures.fits c.back_len-back.ensures.full
