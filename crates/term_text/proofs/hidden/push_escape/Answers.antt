use Rattle.term_text.proofs.Texts.{escape-IsUtf8, IsOk-utf8}
use Rattle.term_text.proofs.hidden.push_escape.Goals as goal

pub unwrap-requires : goal.unwrap-requires
unwrap-requires c =
    IsOk-utf8 _ _ _ _ c.from_utf8.ensures.cases
    (rw (c.digit.ensures, c.digit-2.ensures, c.digit-3.ensures, c.digit-4.ensures) (escape-IsUtf8 c.args.code c.requires))
