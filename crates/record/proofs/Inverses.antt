-- For each kind of record and of INFO: reading what was written returns it, what was read is written again as the same bytes, and different values are written differently.
use Prim.Native.Nat.{ℕ}
use Rattle.codec.proofs.Inverse.{Inverse, inverse, WholeInverse, whole-inverse}
use Rattle.record.specs.Analog.{analog}
use Rattle.record.specs.Alarm.{alarm}
use Rattle.record.specs.Limits.{limits}
use Rattle.record.specs.Parameters.{parameters}
use Rattle.record.specs.Texts.{serial, version, maker}
use Rattle.record.specs.Infos.{analog_info, alarm_info, limits_info, serial_info, version_info, analog_group, alarm_group, parameters_info, maker_info, empty_info}

-- ---- records

pub analog-inverse : Inverse analog
analog-inverse = inverse analog

pub alarm-inverse : Inverse alarm
alarm-inverse = inverse alarm

pub limits-inverse : Inverse limits
limits-inverse = inverse limits

pub parameters-inverse : Inverse parameters
parameters-inverse = inverse parameters

pub serial-inverse : Inverse serial
serial-inverse = inverse serial

pub version-inverse : Inverse version
version-inverse = inverse version

pub maker-inverse : Inverse maker
maker-inverse = inverse maker

-- ---- whole INFOs

pub analog-info-inverse : (adr : ℕ) → WholeInverse (analog_info adr)
analog-info-inverse adr = whole-inverse (analog_info adr)

pub alarm-info-inverse : (adr : ℕ) → WholeInverse (alarm_info adr)
alarm-info-inverse adr = whole-inverse (alarm_info adr)

pub limits-info-inverse : (adr : ℕ) → WholeInverse (limits_info adr)
limits-info-inverse adr = whole-inverse (limits_info adr)

pub serial-info-inverse : (adr : ℕ) → WholeInverse (serial_info adr)
serial-info-inverse adr = whole-inverse (serial_info adr)

pub version-info-inverse : (adr : ℕ) → WholeInverse (version_info adr)
version-info-inverse adr = whole-inverse (version_info adr)

pub analog-group-inverse : WholeInverse analog_group
analog-group-inverse = whole-inverse analog_group

pub alarm-group-inverse : WholeInverse alarm_group
alarm-group-inverse = whole-inverse alarm_group

pub parameters-info-inverse : WholeInverse parameters_info
parameters-info-inverse = whole-inverse parameters_info

pub maker-info-inverse : WholeInverse maker_info
maker-info-inverse = whole-inverse maker_info

pub empty-info-inverse : WholeInverse empty_info
empty-info-inverse = whole-inverse empty_info
