-- The words that the loop has passed have been put.
use Rattle.std.proofs.Common.{take}
use Rattle.buffer.specs.Put.{Put}
use Rattle.codec.specs.Numbers.{word}
use Rattle.codec.specs.Row.{row_put}
use Rattle.parts.proofs.bytes.put_words.Given as goal

abbrev pub invariant-loop-word : goal.invariant-loop-word
invariant-loop-word l = Put l.initial.out l.at (row_put word (take l.word-index l.words)) l.out l.next
