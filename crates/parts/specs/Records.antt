-- What a record writer does: 33 for an ADR outside the rule or a value that can't be encoded, then 32, otherwise its INFO as bytes.
use Rattle.std.specs.Prelude.{◌&&◌, List, ℕ}
use Rattle.buffer.specs.Writing.{Left, writing}
use Rattle.codec.specs.Whole.{Whole}
use Rattle.record.specs.Address.{is_address}

abbrev pub record_writing : {A : Type 0} → ℕ → Whole A → A → List ℕ → Left
record_writing adr info value out = writing 33 (is_address adr && info.ok value) (info.put value) out
