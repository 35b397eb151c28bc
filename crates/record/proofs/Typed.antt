-- What the types of the structs' fields already give: a limits record, a serial number and a version can always be encoded, and so can each value of a list.
use mathlib.Core.Path.{◌≡◌, refl}
use mathlib.Core.List.{List, [], ◌∷◌}
use mathlib.Core.Bool.{and-true}
use Prim.Native.Nat.{ℕ, zero, suc, ◌<◌, ◌≤◌}
use native.Mathlib.Omega.{arith}
use native.Mathlib.Nat.{not-suc-le-zero, le_of_suc-le-suc}
use lib.ListN.{length, take}
use lib.Dec.{T, ltb, lt→ltb}
use lib.IntN.{ℤ}
use lib.Signed.{mag}
use mir.Syntax.{w16}
use mir.Val.{Val}
use mir.Facts.{yes_and}
use borrow.Author.Tests.{lt-ltb}
use denote.Array.{Array, each}
use denote.Builtin.{u8}
use denote.Laws.{Is}
use denote.Shadow.{shadow}
use denote.Signed.{SInt}
use denote.Struct.Laws as LL
use Rattle.codec.specs.Codec.{byte}
use Rattle.codec.specs.Numbers.{signed}
use Rattle.codec.specs.Row.{row_ok}
use Rattle.codec.specs.Counted.{every}
use Rattle.record.specs.declared.Analog.{Analog}
use Rattle.record.specs.declared.Alarm.{Alarm}
use Rattle.record.specs.declared.Limits.{Limits}
use Rattle.record.specs.declared.Parameters.{Parameters}
use Rattle.record.specs.declared.Module.{Module}
use Rattle.record.specs.Alarm.{is_alarm_code, code}
use Rattle.record.specs.Limits.{limits}
use Rattle.record.specs.Parameters.{parameters}
use Rattle.record.specs.Texts.{serial, version}
use Rattle.record.specs.contracts.Analog as A
use Rattle.record.proofs.Analog.TheLaws as A'
use Rattle.record.specs.contracts.Alarm as R
use Rattle.record.proofs.Alarm.TheLaws as R'
use Rattle.record.specs.contracts.Limits as L
use Rattle.record.proofs.Limits.TheLaws as L'
use Rattle.record.specs.contracts.Parameters as P
use Rattle.record.proofs.Parameters.TheLaws as P'
use Rattle.record.specs.contracts.Module as M
use Rattle.record.proofs.Module.TheLaws as M'

pub limits-ok : (l : Limits) (vs : List Val) → Is L.the_row l vs → T (limits.ok l)
unfolding limits
limits-ok l vs g =
    let f = LL.owed L.the_type L'.the_laws l vs g in
    simp (
      lt-ltb l.charge_voltage 65536 f.0.1,
      lt-ltb l.discharge_voltage 65536 f.1.0.1,
      lt-ltb (mag l.charge_current) 32768 f.1.1.0.1,
      lt-ltb (mag l.discharge_current) 32768 f.1.1.1.0.1,
      lt-ltb l.status 256 f.1.1.1.1.0.1,
    ) tt

pub parameters-ok : (p : Parameters) (vs : List Val) → Is P.the_row p vs → T (parameters.ok p)
unfolding parameters
parameters-ok p vs g =
    let f = LL.owed P.the_type P'.the_laws p vs g in
    simp (
      lt-ltb (mag p.cell_high_voltage) 32768 f.0.1,
      lt-ltb (mag p.cell_low_voltage) 32768 f.1.0.1,
      lt-ltb (mag p.cell_under_voltage) 32768 f.1.1.0.1,
      lt-ltb (mag p.charge_high_temperature) 32768 f.1.1.1.0.1,
      lt-ltb (mag p.charge_low_temperature) 32768 f.1.1.1.1.0.1,
      lt-ltb (mag p.charge_current) 32768 f.1.1.1.1.1.0.1,
      lt-ltb p.module_high_voltage 65536 f.1.1.1.1.1.1.0.1,
      lt-ltb p.module_low_voltage 65536 f.1.1.1.1.1.1.1.0.1,
      lt-ltb p.module_under_voltage 65536 f.1.1.1.1.1.1.1.1.0.1,
      lt-ltb (mag p.discharge_high_temperature) 32768 f.1.1.1.1.1.1.1.1.1.0.1,
      lt-ltb (mag p.discharge_low_temperature) 32768 f.1.1.1.1.1.1.1.1.1.1.0.1,
      lt-ltb (mag p.discharge_current) 32768 f.1.1.1.1.1.1.1.1.1.1.1.0.1,
    ) tt

-- an array of bytes that a struct holds
each-byte : (n : ℕ) (xs : List ℕ) (us : List Val) → length xs ≡ n → shadow (each ℕ u8.own_val xs us) → T (row_ok byte n xs)
each-byte zero [] us e p = tt
each-byte zero (x ∷ xs) us e p = absurd (omega arith)
each-byte (suc n) [] us e p = absurd (omega arith)
each-byte (suc n) (x ∷ xs) [] e p = absurd p
each-byte (suc n) (x ∷ xs) (u ∷ us) e p = yes_and (ltb x 256) (row_ok byte n xs) (lt→ltb x 256 p.0.1) (each-byte n xs us (omega arith) p.1)

pub bytes_ok : (n : ℕ) (xs : List ℕ) (vs : List Val) → Is (Array u8 n) xs vs → T (row_ok byte n xs)
bytes_ok n xs vs g = each-byte n xs g.0 g.1.0.1 g.1.1

pub serial-ok : (m : Module) (vs : List Val) → Is M.the_row m vs → T (serial.ok m.serial)
unfolding serial
serial-ok m vs g = bytes_ok 16 m.serial _ (LL.owed M.the_type M'.the_laws m vs g).1.1.1.1.1.1.0

pub version-ok : (m : Module) (vs : List Val) → Is M.the_row m vs → T (version.ok m.version)
unfolding version
version-ok m vs g = bytes_ok 5 m.version _ (LL.owed M.the_type M'.the_laws m vs g).1.1.1.1.1.1.1.0

pub module-limits-ok : (m : Module) (vs : List Val) → Is M.the_row m vs → T (limits.ok m.limits)
module-limits-ok m vs g = limits-ok m.limits _ (LL.owed M.the_type M'.the_laws m vs g).1.1.1.1.1.0

pub module-parameters-ok : (m : Module) (vs : List Val) → Is M.the_row m vs → T (parameters.ok m.parameters)
module-parameters-ok m vs g = parameters-ok m.parameters _ (LL.owed M.the_type M'.the_laws m vs g).1.1.1.1.1.1.1.1.0

-- ---- lists of 42H and 44H

each_signed : (n : ℕ) (xs : List ℤ) (us : List Val) → n ≤ length xs → shadow (each ℤ (SInt w16).own_val xs us) → T (row_ok signed n (take n xs))
each_signed zero xs us h p = tt
each_signed (suc n) [] us h p = absurd (not-suc-le-zero h)
each_signed (suc n) (x ∷ xs) [] h p = absurd p
each_signed (suc n) (x ∷ xs) (u ∷ us) h p = yes_and (ltb (mag x) 32768) (row_ok signed n (take n xs)) (lt→ltb (mag x) 32768 p.0.1) (each_signed n xs us (le_of_suc-le-suc h) p.1)

-- so many elements, and the first n of them can be encoded
pub record Signeds (N : ℕ) (xs : List ℤ) : Type 0 where
  pub long : length xs ≡ N
  pub front : (n : ℕ) → n ≤ N → T (row_ok signed n (take n xs))

signeds : (N : ℕ) (xs : List ℤ) (vs : List Val) → Is (Array (SInt w16) N) xs vs → Signeds N xs
signeds N xs vs g =
    let l : length xs ≡ N = g.1.0.1 in
    record { long = l; front = λ n h. each_signed n xs g.0 (omega arith) g.1.1 }

-- of the first n codes only the test is left to ask
each-code : (n : ℕ) (xs : List ℕ) (us : List Val) → n ≤ length xs → shadow (each ℕ u8.own_val xs us) → row_ok code n (take n xs) ≡ every is_alarm_code (take n xs)
each-code zero xs us h p = refl
each-code (suc n) [] us h p = absurd (not-suc-le-zero h)
each-code (suc n) (x ∷ xs) [] h p = absurd p
each-code (suc n) (x ∷ xs) (u ∷ us) h p = rw (lt-ltb x 256 p.0.1, and-true, each-code n xs us (le_of_suc-le-suc h) p.1)

pub record Codes (N : ℕ) (xs : List ℕ) : Type 0 where
  pub long : length xs ≡ N
  pub front : (n : ℕ) → n ≤ N → row_ok code n (take n xs) ≡ every is_alarm_code (take n xs)

codes-of : (N : ℕ) (xs : List ℕ) (vs : List Val) → Is (Array u8 N) xs vs → Codes N xs
codes-of N xs vs g =
    let l : length xs ≡ N = g.1.0.1 in
    record { long = l; front = λ n h. each-code n xs g.0 (omega arith) g.1.1 }

pub record AnalogTyped (a : Analog) : Type 0 where
  pub cells : Signeds 16 a.cells
  pub temperatures : Signeds 8 a.temperatures
  pub current : mag a.current < 32768
  pub voltage : a.voltage < 65536
  pub cycles : a.cycles < 65536

pub analog-typed : (a : Analog) (vs : List Val) → Is A.the_row a vs → AnalogTyped a
analog-typed a vs g =
    let f = LL.owed A.the_type A'.the_laws a vs g in
    record {
      cells = signeds 16 a.cells _ f.1.0;
      temperatures = signeds 8 a.temperatures _ f.1.1.1.0;
      current = f.1.1.1.1.0.1;
      voltage = f.1.1.1.1.1.0.1;
      cycles = f.1.1.1.1.1.1.1.1.0.1;
    }

pub record AlarmTyped (a : Alarm) : Type 0 where
  pub cells : Codes 16 a.cells
  pub temperatures : Codes 8 a.temperatures
  pub charge : a.charge_current < 256
  pub voltage : a.module_voltage < 256
  pub discharge : a.discharge_current < 256
  pub status : T (row_ok byte 5 a.status)

pub alarm-typed : (a : Alarm) (vs : List Val) → Is R.the_row a vs → AlarmTyped a
alarm-typed a vs g =
    let f = LL.owed R.the_type R'.the_laws a vs g in
    record {
      cells = codes-of 16 a.cells _ f.1.0;
      temperatures = codes-of 8 a.temperatures _ f.1.1.1.0;
      charge = f.1.1.1.1.0.1;
      voltage = f.1.1.1.1.1.0.1;
      discharge = f.1.1.1.1.1.1.0.1;
      status = bytes_ok 5 a.status _ f.1.1.1.1.1.1.1.0;
    }
