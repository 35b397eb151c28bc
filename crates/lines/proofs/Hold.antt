-- The paper's lines hold: each is computed from the definitions.
use Rattle.std.proofs.Common.{refl}
use Rattle.hex_chars.specs.Hex.{is_hex, digit_of, char_of, all_hex, bad_place, is_lower, hexes, byte_of, byte_at, word_at}
use Rattle.frame.specs.Frame.{lchksum, length_of, chksum, packed, seal, chars, encode}
use Rattle.frame.specs.Judge.{need, header, lenid, judge}
use Rattle.lines.specs.Lines.{AllHold, lines}

pub lines-hold : AllHold lines
unfolding is_hex digit_of char_of all_hex bad_place is_lower hexes byte_of byte_at word_at lchksum length_of chksum packed seal chars encode need header lenid judge
lines-hold = (refl, (refl, (refl, (refl, (refl, (refl, (refl, (refl, ((refl, refl), ((refl, refl), ((refl, refl), (refl, (refl, ((refl, refl), ((refl, refl), ((refl, refl), ((refl, refl), (refl, (refl, (refl, (refl, (refl, (refl, (refl, (refl, (refl, (refl, tt)))))))))))))))))))))))))))
