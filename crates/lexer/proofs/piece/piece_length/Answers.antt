use Rattle.std.proofs.Common.{◌∙◌, sym, arith}
use Rattle.std.specs.Char.{is_ascii_alphanumeric}
use Rattle.std.proofs.lemmas.List.Sums.{prefix_len-le-length}
use Rattle.lexer.proofs.Pieces.{word_piece}
use Rattle.lexer.proofs.piece.piece_length.Goals as goal

pub returns-in-len1-up : goal.returns-in-len1-up
returns-in-len1-up c = record {
  within = omega (arith, c.word_length.ensures, prefix_len-le-length is_ascii_alphanumeric c.args.text.now);
  is = c.word_length.ensures ∙ sym (word_piece _ c.in-len1-up.len_at_least (sym c.if-is_ascii_alphanumeric.ensures.value));
}
