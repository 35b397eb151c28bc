-- What a record holds where nothing was read: zeros.
use Rattle.std.specs.Prelude.{List, ℕ, replicate, ℤ, pos}
use Rattle.record.specs.declared.Analog.{Analog}
use Rattle.record.specs.declared.Alarm.{Alarm}
use Rattle.record.specs.declared.Limits.{Limits}
use Rattle.record.specs.declared.Parameters.{Parameters}
use Rattle.record.specs.Capacities.{Capacities}
use Rattle.record.specs.Analog.{to_analog}
use Rattle.record.specs.Alarm.{to_alarm}
use Rattle.record.specs.Limits.{to_limits}
use Rattle.record.specs.Parameters.{to_parameters}

-- ---- 42H

abbrev pub no_capacities : Capacities
no_capacities = (0, (0, 0))

abbrev pub no_list : ℕ → List ℤ
no_list places = replicate places (pos 0)

abbrev pub no_analog : Analog
no_analog = to_analog ((0, no_list 16), ((0, no_list 8), (pos 0, (0, no_capacities))))

-- ---- 44H

abbrev pub no_codes : ℕ → List ℕ
no_codes places = replicate places 0

abbrev pub no_singles : ℕ × (ℕ × ℕ)
no_singles = (0, (0, 0))

abbrev pub no_status : List ℕ
no_status = replicate 5 0

abbrev pub no_alarm : Alarm
no_alarm = to_alarm ((0, no_codes 16), ((0, no_codes 8), (no_singles, no_status)))

-- ---- 47H

abbrev pub no_parameters : Parameters
no_parameters = to_parameters ((pos 0, (pos 0, pos 0)), ((pos 0, (pos 0, pos 0)), ((0, (0, 0)), (pos 0, (pos 0, pos 0)))))

-- ---- 92H, 93H, 96H and 51H

abbrev pub no_limits : Limits
no_limits = to_limits (0, (0, (pos 0, (pos 0, 0))))

abbrev pub no_serial : List ℕ
no_serial = replicate 16 0

abbrev pub no_version : List ℕ
no_version = replicate 5 0

abbrev pub no_maker : List ℕ
no_maker = replicate 32 0
