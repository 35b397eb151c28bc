-- Field by field: lists of zeros, and zeros.
use Rattle.std.specs.Prelude.{pos}
use Rattle.record.proofs.Filled.{filled}
use Rattle.record.proofs.zero_analog.Goals as goal

pub returns : goal.returns
returns c =
    let e = c.default.ensures in
    λ i. record {
      cell_count = e.0 i;
      cells = filled (pos 0) 16 _ e.1.0 i;
      temperature_count = e.1.1.0 i;
      temperatures = filled (pos 0) 8 _ e.1.1.1.0 i;
      current = e.1.1.1.1.0 i;
      voltage = e.1.1.1.1.1.0 i;
      remaining = e.1.1.1.1.1.1.0 i;
      total = e.1.1.1.1.1.1.1.0 i;
      cycles = e.1.1.1.1.1.1.1.1 i;
    }
