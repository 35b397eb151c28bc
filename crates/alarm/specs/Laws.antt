-- Nobody has to believe this file: it proves what a format owes of the lengths of its values, one byte for a code and the size of a record.
use Rattle.std.specs.Prelude.{◌≡◌, refl, true, ℕ, ◌+◌, ◌<◌, length, T}
use Rattle.std.proofs.Common.{arith, length-append}
use Rattle.std.proofs.lemmas.Bool.{and_parts}
use Rattle.codec.specs.Codec.{byte}
use Rattle.codec.specs.Row.{row}
use Rattle.codec.proofs.Counts.{count-length}
use Rattle.codec.proofs.RowPuts.{row_long, row-length}
use Rattle.record.specs.declared.Alarm.{Alarm}
use Rattle.record.specs.Zeros.{zero_byte}
use Rattle.record.specs.Alarm.{code, codes, singles, alarm}
use Rattle.alarm.specs.Size.{alarm_size}

pub some_code : (a : ℕ) → T (code.ok a) → 0 < length (code.put a)
some_code a t = omega arith

-- the parts of a record that can be written
pub record Parts (a : Alarm) : Type 0 where
  pub cells : (codes 16).ok (a.cell_count, a.cells) ≡ true
  pub temperatures : (codes 8).ok (a.temperature_count, a.temperatures) ≡ true
  pub singles : singles.ok (a.charge_current, (a.module_voltage, a.discharge_current)) ≡ true
  pub status : (row byte 5).ok a.status ≡ true

pub parts : (a : Alarm) → alarm.ok a ≡ true → Parts a
unfolding alarm
parts a e =
    let u = and_parts _ _ e in
    let v = and_parts _ _ u.1 in
    let w = and_parts _ _ v.1 in
    record { cells = u.0; temperatures = v.0; singles = w.0; status = w.1 }

pub alarm_length : (a : Alarm) → alarm.ok a ≡ true → length (alarm.put a) ≡ alarm_size a.cell_count a.temperature_count
unfolding alarm codes singles
alarm_length a e =
    let p = parts a e in
    let m = count-length code zero_byte 16 a.cell_count a.cells p.cells 1 (λ z. refl) in
    let n = count-length code zero_byte 8 a.temperature_count a.temperatures p.temperatures 1 (λ z. refl) in
    let l = row_long byte 5 a.status p.status in
    let s = row-length byte 1 (λ z. refl) a.status in
    simp length-append (omega arith)
