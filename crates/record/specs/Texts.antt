-- 93H, serial number, and 96H, firmware version (V3.3, chapters 3.7 and 3.10; PROTOCOL 9.19, 9.20), without Command; 51H, the maker's 10, 2 and 20 bytes (3.2; PROTOCOL 9.21).
use Rattle.std.specs.Prelude.{List, ℕ}
use Rattle.codec.specs.Codec.{Codec, byte}
use Rattle.codec.specs.Row.{row}

unfoldable pub serial : Codec (List ℕ)
serial = row byte 16

unfoldable pub version : Codec (List ℕ)
version = row byte 5

unfoldable pub maker : Codec (List ℕ)
maker = row byte 32
