-- The rule holds again after every change: one law over lists whose records keep their ADRs and stay fine, cited for a record replaced, for values dealt out, and for each kind of change.
use Rattle.std.proofs.Common.{◌≡◌, refl, ap, true, List, [], ◌∷◌, ℕ, zero, suc, ◌/◌, arith, length, get_or, set, le-leb}
use Rattle.buffer.proofs.Lists.{by_cond}
use Rattle.codec.specs.Codec.{Codec}
use Rattle.record.specs.declared.Module.{Module}
use Rattle.record.specs.declared.Analog.{Analog}
use Rattle.record.specs.declared.Alarm.{Alarm}
use Rattle.record.specs.declared.Limits.{Limits}
use Rattle.record.specs.declared.Parameters.{Parameters}
use Rattle.record.specs.Analog.{analog}
use Rattle.record.specs.Alarm.{alarm}
use Rattle.record.specs.Limits.{limits}
use Rattle.record.specs.Parameters.{parameters}
use Rattle.record.specs.Texts.{serial, version}
use Rattle.table.proofs.rule.Fine.{Fine, fine-parts, rising-parts, rule-parts}
use Rattle.table.specs.Table.{blank, is_on, place_of, member_at}
use Rattle.table.specs.Rule.{encodable, fine, rising, rule}
use Rattle.table.specs.Changes.{replaced, dealt, with_analog, with_alarm, with_limits, with_serial, with_version, with_parameters, switched_off}
use Rattle.standin.specs.Answer.{off_at}

-- ---- records that keep their ADRs and stay fine

abbrev pub Safe : Module → Module → Type 0
Safe m n = (n.adr ≡ m.adr) × (Fine m → Fine n)

abbrev pub Changed : List Module → List Module → Type 0
Changed [] [] = Unit {0}
Changed [] (n ∷ ns) = ⊥
Changed (m ∷ ms) [] = ⊥
Changed (m ∷ ms) (n ∷ ns) = Safe m n × Changed ms ns

same : (m : Module) → Safe m m
same m = (refl, λ f. f)

pub unchanged : (ms : List Module) → Changed ms ms
unchanged [] = tt
unchanged (m ∷ ms) = (same m, unchanged ms)

changed-length : (ms ns : List Module) → Changed ms ns → length ns ≡ length ms
changed-length [] [] c = refl
changed-length [] (n ∷ ns) c = absurd c
changed-length (m ∷ ms) [] c = absurd c
changed-length (m ∷ ms) (n ∷ ns) c = ap suc (changed-length ms ns c.1)

changed-first : (ms ns : List Module) → Changed ms ns → (get_or ns 0 blank).adr ≡ (get_or ms 0 blank).adr
changed-first [] [] c = refl
changed-first [] (n ∷ ns) c = absurd c
changed-first (m ∷ ms) [] c = absurd c
changed-first (m ∷ ms) (n ∷ ns) c = c.0.0

fine-whole : (m : Module) → Fine m → fine m ≡ true
unfolding fine encodable
fine-whole m f =
    rw (f.address, le-leb m.on 1 f.on, le-leb m.link_fault 1 f.fault, f.analog-ok, f.alarm-ok, f.limits-ok, f.serial-ok, f.version-ok, f.parameters-ok)

changed-rising : (group last : ℕ) (ms ns : List Module) → Changed ms ns → rising group last ms ≡ true → rising group last ns ≡ true
unfolding rising
changed-rising group last [] [] c e = refl
changed-rising group last [] (n ∷ ns) c e = absurd c
changed-rising group last (m ∷ ms) [] c e = absurd c
changed-rising group last (m ∷ ms) (n ∷ ns) c e =
    let p = rising-parts group last m ms e in
    let rest : rising group m.adr ns ≡ true = changed-rising group m.adr ms ns c.1 p.3 in
    rw (fine-whole n (c.0.1 (fine-parts m p.0)), c.0.0, p.1, p.2, rest)

-- the law
pub changed-rule : (ms ns : List Module) → Changed ms ns → rule ms ≡ true → rule ns ≡ true
unfolding rule
changed-rule ms ns c e =
    let r = rule-parts ms e in
    rw (changed-length ms ns c, changed-first ms ns c, le-leb 1 (length ms) r.some, le-leb (length ms) 12 r.few)
    (changed-rising ((get_or ms 0 blank).adr / 16) 0 ms ns c r.rises)

-- ---- one record changed, and values dealt out

module _ (f : Module → Module) (safe : (m : Module) → Safe m (f m)) where
  pub set-changed : (ms : List Module) (i : ℕ) (d : Module) → Changed ms (set ms i (f (get_or ms i d)))
  set-changed [] i d = tt
  set-changed (m ∷ ms) zero d = (safe m, unchanged ms)
  set-changed (m ∷ ms) (suc i) d = (same m, set-changed ms i d)

  pub replaced-rule : (adr : ℕ) (ms : List Module) → rule ms ≡ true → rule (replaced adr f ms) ≡ true
  unfolding replaced member_at
  replaced-rule adr ms e = changed-rule ms _ (set-changed ms (place_of adr ms) blank) e

-- each value can be encoded
abbrev pub Oks : {A : Type 0} → Codec A → List A → Type 0
Oks c [] = Unit {0}
Oks c (a ∷ l) = (c.ok a ≡ true) × Oks c l

module _ {A : Type 0} (c : Codec A) (f : A → Module → Module) (safe : (a : A) → c.ok a ≡ true → (m : Module) → Safe m (f a m)) where
  dealt-changed : (ms : List Module) (l : List A) → Oks c l → Changed ms (dealt f ms l)
  unfolding dealt
  dealt-changed [] l o = tt
  dealt-changed (m ∷ ms) [] o = unchanged (m ∷ ms)
  dealt-changed (m ∷ ms) (a ∷ l) o =
      by_cond (Changed (m ∷ ms)) (is_on m) (λ t. (safe a o.0 m, dealt-changed ms l o.1)) (λ t. (same m, dealt-changed ms (a ∷ l) o))

  pub dealt-rule : (ms : List Module) (l : List A) → Oks c l → rule ms ≡ true → rule (dealt f ms l) ≡ true
  dealt-rule ms l o e = changed-rule ms (dealt f ms l) (dealt-changed ms l o) e

-- ---- each kind of change

pub analog-safe : (a : Analog) → analog.ok a ≡ true → (m : Module) → Safe m (with_analog a m)
analog-safe a e m = (
  refl,
  λ f. record { address = f.address; on = f.on; fault = f.fault; analog-ok = e; alarm-ok = f.alarm-ok; limits-ok = f.limits-ok; serial-ok = f.serial-ok; version-ok = f.version-ok; parameters-ok = f.parameters-ok },
)

pub alarm-safe : (a : Alarm) → alarm.ok a ≡ true → (m : Module) → Safe m (with_alarm a m)
alarm-safe a e m = (
  refl,
  λ f. record { address = f.address; on = f.on; fault = f.fault; analog-ok = f.analog-ok; alarm-ok = e; limits-ok = f.limits-ok; serial-ok = f.serial-ok; version-ok = f.version-ok; parameters-ok = f.parameters-ok },
)

pub limits-safe : (l : Limits) → limits.ok l ≡ true → (m : Module) → Safe m (with_limits l m)
limits-safe l e m = (
  refl,
  λ f. record { address = f.address; on = f.on; fault = f.fault; analog-ok = f.analog-ok; alarm-ok = f.alarm-ok; limits-ok = e; serial-ok = f.serial-ok; version-ok = f.version-ok; parameters-ok = f.parameters-ok },
)

pub serial-safe : (s : List ℕ) → serial.ok s ≡ true → (m : Module) → Safe m (with_serial s m)
serial-safe s e m = (
  refl,
  λ f. record { address = f.address; on = f.on; fault = f.fault; analog-ok = f.analog-ok; alarm-ok = f.alarm-ok; limits-ok = f.limits-ok; serial-ok = e; version-ok = f.version-ok; parameters-ok = f.parameters-ok },
)

pub version-safe : (v : List ℕ) → version.ok v ≡ true → (m : Module) → Safe m (with_version v m)
version-safe v e m = (
  refl,
  λ f. record { address = f.address; on = f.on; fault = f.fault; analog-ok = f.analog-ok; alarm-ok = f.alarm-ok; limits-ok = f.limits-ok; serial-ok = f.serial-ok; version-ok = e; parameters-ok = f.parameters-ok },
)

pub parameters-safe : (p : Parameters) → parameters.ok p ≡ true → (m : Module) → Safe m (with_parameters p m)
parameters-safe p e m = (
  refl,
  λ f. record { address = f.address; on = f.on; fault = f.fault; analog-ok = f.analog-ok; alarm-ok = f.alarm-ok; limits-ok = f.limits-ok; serial-ok = f.serial-ok; version-ok = f.version-ok; parameters-ok = e },
)

pub off-safe : (m : Module) → Safe m (switched_off m)
off-safe m = (
  refl,
  λ f. record {
    address = f.address;
    on = omega arith;
    fault = f.fault;
    analog-ok = f.analog-ok;
    alarm-ok = f.alarm-ok;
    limits-ok = f.limits-ok;
    serial-ok = f.serial-ok;
    version-ok = f.version-ok;
    parameters-ok = f.parameters-ok;
  },
)

-- after a 95H
pub off-rule : (i : ℕ) (ms : List Module) → rule ms ≡ true → rule (off_at i ms) ≡ true
unfolding off_at
off-rule i ms e = changed-rule ms _ (set-changed switched_off off-safe ms i blank) e
