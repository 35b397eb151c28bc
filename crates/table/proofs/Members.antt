-- What the checker takes to stand past the end of an array of records.
use Rattle.std.proofs.Common.{[], pos}
use Rattle.record.specs.declared.Module.{Module}
use Rattle.record.specs.Nothing.{no_parameters}

abbrev pub nil : Module
nil = record {
  adr = 0;
  on = 0;
  link_fault = 0;
  analog = record { cell_count = 0; cells = []; temperature_count = 0; temperatures = []; current = pos 0; voltage = 0; remaining = 0; total = 0; cycles = 0 };
  alarm = record { cell_count = 0; cells = []; temperature_count = 0; temperatures = []; charge_current = 0; module_voltage = 0; discharge_current = 0; status = [] };
  limits = record { charge_voltage = 0; discharge_voltage = 0; charge_current = pos 0; discharge_current = pos 0; status = 0 };
  serial = [];
  version = [];
  parameters = no_parameters;
}
