-- Field by field: lists of zeros, and zeros.
use Rattle.record.proofs.Filled.{filled}
use Rattle.record.proofs.zero_alarm.Goals as goal

pub returns : goal.returns
returns c =
    let e = c.default.ensures in
    λ i. record {
      cell_count = e.0 i;
      cells = filled 0 16 _ e.1.0 i;
      temperature_count = e.1.1.0 i;
      temperatures = filled 0 8 _ e.1.1.1.0 i;
      charge_current = e.1.1.1.1.0 i;
      module_voltage = e.1.1.1.1.1.0 i;
      discharge_current = e.1.1.1.1.1.1.0 i;
      status = filled 0 5 _ e.1.1.1.1.1.1.1 i;
    }
