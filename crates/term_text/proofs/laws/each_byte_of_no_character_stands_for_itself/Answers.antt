use Rattle.term_text.proofs.Texts.{shown_text-after}
use Rattle.term_text.proofs.Bytewise.{shown_after-encode, shown_after-byte, shown_text-encode, readable_text-encode, readable_text-byte}
use Rattle.term_text.proofs.laws.each_byte_of_no_character_stands_for_itself.Goals as goal

pub returns : goal.returns
returns c = record {
  shown_start = shown_text-after;
  shown_character_after = shown_after-encode;
  shown_character = shown_text-encode;
  shown_byte = shown_after-byte;
  readable_character = readable_text-encode;
  readable_byte = readable_text-byte;
}
