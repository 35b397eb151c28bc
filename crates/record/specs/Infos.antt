-- Whole INFOs of replies: with a Command byte, which for one module is its ADR, for the group FFH (any other is refusal 21), and those without one.
use Rattle.std.specs.Prelude.{refl, true, List, [], ℕ, ◌<◌, length, T, eqb}
use Rattle.std.proofs.Common.{arith}
use Rattle.codec.specs.Codec.{Codec, byte}
use Rattle.codec.specs.Both.{◌then◌}
use Rattle.codec.specs.Tested.{tested}
use Rattle.codec.specs.Whole.{Whole, ended, lead, at_end, at_end_inv}
use Rattle.codec.specs.Many.{many}
use Rattle.record.specs.declared.Analog.{Analog}
use Rattle.record.specs.declared.Alarm.{Alarm}
use Rattle.record.specs.declared.Limits.{Limits}
use Rattle.record.specs.declared.Parameters.{Parameters}
use Rattle.record.specs.Analog.{analog, measured}
use Rattle.record.specs.Alarm.{alarm, codes}
use Rattle.record.specs.Limits.{limits}
use Rattle.record.specs.Parameters.{parameters}
use Rattle.record.specs.Texts.{serial, version, maker}

abbrev pub command : ℕ → Codec ℕ
command asked = tested (λ c. eqb c asked) 21 byte

-- flag and Command
abbrev pub Front : Type 0
Front = ℕ × ℕ

-- ---- one module: flag (42H and 44H), Command, then its record

unfoldable pub analog_info : ℕ → Whole (Front × Analog)
analog_info adr = lead (byte then command adr) (λ x. ended analog)

unfoldable pub alarm_info : ℕ → Whole (Front × Alarm)
alarm_info adr = lead (byte then command adr) (λ x. ended alarm)

unfoldable pub limits_info : ℕ → Whole (ℕ × Limits)
limits_info adr = lead (command adr) (λ x. ended limits)

unfoldable pub serial_info : ℕ → Whole (ℕ × List ℕ)
serial_info adr = lead (command adr) (λ x. ended serial)

unfoldable pub version_info : ℕ → Whole (ℕ × List ℕ)
version_info adr = lead (command adr) (λ x. ended version)

-- ---- the group: flag, FFH, then records until INFO ends, twelve at most

pub some_analog : (a : Analog) → T (analog.ok a) → 0 < length (analog.put a)
unfolding analog measured
some_analog a t = omega arith

pub some_alarm : (a : Alarm) → T (alarm.ok a) → 0 < length (alarm.put a)
unfolding alarm codes
some_alarm a t = omega arith

unfoldable pub analog_group : Whole (Front × List Analog)
analog_group = lead (byte then command 0xFF) (λ x. many analog some_analog 12)

unfoldable pub alarm_group : Whole (Front × List Alarm)
alarm_group = lead (byte then command 0xFF) (λ x. many alarm some_alarm 12)

-- ---- 47H: flag, then the record

unfoldable pub parameters_info : Whole (ℕ × Parameters)
parameters_info = lead byte (λ flag. ended parameters)

-- ---- 51H: its 32 bytes

unfoldable pub maker_info : Whole (List ℕ)
maker_info = ended maker

-- ---- 4FH and 95H: no byte

unfoldable pub empty_info : Whole (Unit {0})
empty_info = record {
  ok = λ x. true;
  put = λ x. [];
  get = at_end tt;
  small = λ x h. tt;
  there = λ x h. refl;
  back = λ s x h e. ((at_end_inv tt x s e).0, tt);
}
