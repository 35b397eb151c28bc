-- The data of a record are at most 67 bytes, so those of a group at most 806: lengths go by the format, part by part.
use Rattle.std.proofs.Common.{◌≡◌, sym, subst, Bool, true, ◌&&◌, List, [], ◌∷◌, ◌++◌, ℕ, zero, suc, ℤ, ◌+◌, ◌*◌, ◌≤◌, ◌<◌, arith, length, take, length-append, suc-mul, mul-le-mul_right, T, leb, ltb, leb→le}
use Rattle.std.proofs.Math.Facts.{and_yes}
use Rattle.buffer.proofs.Lists.{by_cond}
use Rattle.codec.specs.Codec.{Codec, byte}
use Rattle.codec.specs.Row.{row_ok, row_put}
use Rattle.codec.specs.Counted.{Zero, counted}
use Rattle.codec.specs.Many.{many_put}
use Rattle.codec.specs.Numbers.{word, signed}
use Rattle.record.specs.declared.Module.{Module}
use Rattle.record.specs.declared.Analog.{Analog}
use Rattle.record.specs.declared.Alarm.{Alarm}
use Rattle.record.specs.declared.Limits.{Limits}
use Rattle.record.specs.declared.Parameters.{Parameters}
use Rattle.record.specs.Zeros.{zero_signed, zero_byte}
use Rattle.record.specs.Capacities.{Capacities, Raw, raw, capacities}
use Rattle.record.specs.Analog.{measured, of_analog, analog}
use Rattle.record.specs.Alarm.{code, codes, singles, of_alarm, alarm}
use Rattle.record.specs.Limits.{limits}
use Rattle.record.specs.Parameters.{parameters}
use Rattle.record.specs.Texts.{serial, version}
use Rattle.record.specs.Infos.{some_analog, some_alarm}
use Rattle.table.specs.Table.{is_on}
use Rattle.table.specs.Rule.{rising, rule}
use Rattle.groups.specs.Groups.{values_on, analogs_on, alarms_on}
use Rattle.table.proofs.rule.Fine.{Fine, fine-parts, rising-parts, rule-parts}

is-yes : {b : Bool} → b ≡ true → T b
is-yes e = subst T (sym e) tt

-- at most so many bytes
pub record Short (text : List ℕ) (most : ℕ) : Type 0 where
  pub fits : length text ≤ most

join-short : {s t : List ℕ} {m n : ℕ} → Short s m → Short t n → Short (s ++ t) (m + n)
join-short {s} {t} h k = record { fits = omega (arith, h.fits, k.fits, length-append s t) }

module _ {A : Type 0} (c : Codec A) (most : ℕ) (each : (a : A) → Short (c.put a) most) where
  row-short : (n : ℕ) (l : List A) → T (row_ok c n l) → Short (row_put c l) (n * most)
  row-short zero [] t = record { fits = omega arith }
  row-short zero (a ∷ l) t = absurd t
  row-short (suc n) [] t = absurd t
  row-short (suc n) (a ∷ l) t =
      let u = and_yes (c.ok a) (row_ok c n l) t in
      record { fits = omega (arith, (each a).fits, (row-short n l u.1).fits, length-append (c.put a) (row_put c l), suc-mul n most) }

  counted-short : (o : Zero A) (K : ℕ) (x : ℕ × List A) → T ((counted c o K).ok x) → Short ((counted c o K).put x) (1 + K * most)
  counted-short o K x t =
      let u = and_yes ((leb 1 x.0 && leb x.0 K) && ltb x.0 256) (row_ok c x.0 (take x.0 x.1)) (and_yes _ _ t).0 in
      let n = leb→le x.0 K (and_yes (leb 1 x.0) (leb x.0 K) (and_yes (leb 1 x.0 && leb x.0 K) (ltb x.0 256) u.0).0).1 in
      record { fits = omega (arith, (row-short x.0 (take x.0 x.1) u.1).fits, mul-le-mul_right most n) }

-- ---- 42H: cells, temperatures, current, voltage, and the capacities

signed-short : (z : ℤ) → Short (signed.put z) 2
signed-short z = record { fits = omega arith }

word-short : (n : ℕ) → Short (word.put n) 2
word-short n = record { fits = omega arith }

capacities-short : (x : Capacities) → Short (capacities.put x) 13
unfolding capacities
capacities-short x =
    by_cond (λ (r : Raw). Short (raw.put r) 13) (leb x.1.0 65000) (λ t. record { fits = omega arith }) (λ t. record { fits = omega arith })

pub analog-short : (a : Analog) → analog.ok a ≡ true → Short (analog.put a) 67
unfolding analog measured
analog-short a e =
    let x = of_analog a in
    let u = and_yes ((counted signed zero_signed 16).ok x.0) _ (is-yes e) in
    let v = and_yes ((counted signed zero_signed 8).ok x.1.0) _ u.1 in
    join-short (counted-short signed 2 signed-short zero_signed 16 x.0 u.0)
    (join-short (counted-short signed 2 signed-short zero_signed 8 x.1.0 v.0)
    (join-short (signed-short x.1.1.0) (join-short (word-short x.1.1.1.0) (capacities-short x.1.1.1.1))))

-- ---- 44H: cells, temperatures, three codes, and the status bytes

code-short : (b : ℕ) → Short (b ∷ []) 1
code-short b = record { fits = omega arith }

singles-short : (x : ℕ × (ℕ × ℕ)) → Short (singles.put x) 3
unfolding singles
singles-short x = record { fits = omega arith }

pub alarm-short : (a : Alarm) → alarm.ok a ≡ true → Short (alarm.put a) 34
unfolding alarm codes
alarm-short a e =
    let x = of_alarm a in
    let u = and_yes ((counted code zero_byte 16).ok x.0) _ (is-yes e) in
    let v = and_yes ((counted code zero_byte 8).ok x.1.0) _ u.1 in
    let w = and_yes (singles.ok x.1.1.0) _ v.1 in
    join-short (counted-short code 1 code-short zero_byte 16 x.0 u.0)
    (join-short (counted-short code 1 code-short zero_byte 8 x.1.0 v.0)
    (join-short (singles-short x.1.1.0) (row-short byte 1 code-short 5 x.1.1.1 w.1)))

-- ---- 47H, 92H, 93H and 96H

pub parameters-short : (p : Parameters) → Short (parameters.put p) 24
unfolding parameters
parameters-short p = record { fits = omega arith }

pub limits-short : (l : Limits) → Short (limits.put l) 9
unfolding limits
limits-short l = record { fits = omega arith }

pub serial-short : (l : List ℕ) → serial.ok l ≡ true → Short (serial.put l) 16
unfolding serial
serial-short l e = row-short byte 1 code-short 16 l (is-yes e)

pub version-short : (l : List ℕ) → version.ok l ≡ true → Short (version.put l) 5
unfolding version
version-short l e = row-short byte 1 code-short 5 l (is-yes e)

-- ---- the records of a group, of a part that is short in each member

module _ {A : Type 0} (c : Codec A) (some : (a : A) → T (c.ok a) → 0 < length (c.put a)) (part : Module → A) (most : ℕ) (each : (m : Module) → Fine m → Short (c.put (part m)) most) where
  all_short : (group last : ℕ) (ms : List Module) → rising group last ms ≡ true → Short (many_put c some (values_on part ms)) (length ms * most)
  unfolding values_on
  all_short group last [] e = record { fits = omega arith }
  all_short group last (m ∷ ms) e =
      let p = rising-parts group last m ms e in
      let rest = all_short group m.adr ms p.3 in
      by_cond (λ (l : List A). Short (many_put c some l) (length (m ∷ ms) * most)) (is_on m)
      (λ t. record { fits = omega (arith, (each m (fine-parts m p.0)).fits, rest.fits, length-append (c.put (part m)) (many_put c some (values_on part ms)), suc-mul (length ms) most) })
      (λ t. record { fits = omega (arith, rest.fits, suc-mul (length ms) most) })

  group-short : (ms : List Module) → rule ms ≡ true → Short (many_put c some (values_on part ms)) (12 * most)
  group-short ms e =
      let r = rule-parts ms e in
      record { fits = omega (arith, (all_short _ 0 ms r.rises).fits, mul-le-mul_right most r.few) }

pub analogs-short : (ms : List Module) → rule ms ≡ true → Short (many_put analog some_analog (analogs_on ms)) 804
analogs-short = group-short analog some_analog (λ m. m.analog) 67 (λ m f. analog-short m.analog f.analog-ok)

pub alarms-short : (ms : List Module) → rule ms ≡ true → Short (many_put alarm some_alarm (alarms_on ms)) 408
alarms-short = group-short alarm some_alarm (λ m. m.alarm) 34 (λ m f. alarm-short m.alarm f.alarm-ok)
