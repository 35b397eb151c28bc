-- The writing of a frame: 33 for INFO above 2,047 bytes, then 32, then the frame from SOI to CR at the front of the buffer.
use Rattle.std.specs.Prelude.{ℕ, List, length, nat_le}
use Rattle.buffer.specs.Writing.{Left, writing}
use Rattle.frame.specs.declared.Header.{Header}
use Rattle.frame.specs.Frame.{encode}

abbrev pub framed : Header → List ℕ → List ℕ → Left
framed h info out = writing 33 (nat_le (length info) 2047) (encode h info) out
