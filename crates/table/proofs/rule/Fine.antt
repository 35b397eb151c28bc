-- What the rule says of each record: a true test is both its parts true, all the way down the rule.
use Rattle.std.proofs.Common.{◌≡◌, Bool, true, ◌&&◌, List, [], ◌∷◌, ℕ, zero, suc, ◌/◌, ◌<◌, ◌≤◌, length, get_or, leb, ltb, eqb, arith}
use Rattle.std.proofs.lemmas.Bool.{leb-true}
use Rattle.record.specs.declared.Module.{Module}
use Rattle.record.specs.Address.{is_address}
use Rattle.record.specs.Analog.{analog}
use Rattle.record.specs.Alarm.{alarm}
use Rattle.record.specs.Limits.{limits}
use Rattle.record.specs.Parameters.{parameters}
use Rattle.record.specs.Texts.{serial, version}
use Rattle.table.specs.declared.Table.{Table}
use Rattle.table.specs.Table.{blank, members}
use Rattle.table.specs.Laws as laws
use Rattle.table.specs.Rule.{encodable, fine, follows, rising, rule, keeps}

-- the parts of a true `&&`
pub both_true : (a b : Bool) → (a && b) ≡ true → (a ≡ true) × (b ≡ true)
both_true = laws.both_true

pub record Fine (m : Module) : Type 0 where
  pub address : is_address m.adr ≡ true
  pub on : m.on ≤ 1
  pub fault : m.link_fault ≤ 1
  pub analog-ok : analog.ok m.analog ≡ true
  pub alarm-ok : alarm.ok m.alarm ≡ true
  pub limits-ok : limits.ok m.limits ≡ true
  pub serial-ok : serial.ok m.serial ≡ true
  pub version-ok : version.ok m.version ≡ true
  pub parameters-ok : parameters.ok m.parameters ≡ true

pub fine-encodable : (m : Module) → fine m ≡ true → encodable m ≡ true
unfolding fine
fine-encodable m e = (both_true _ _ e).1

pub fine-parts : (m : Module) → fine m ≡ true → Fine m
unfolding fine
fine-parts m e =
    let placed = both_true (is_address m.adr) _ (both_true (is_address m.adr && (leb m.on 1 && leb m.link_fault 1)) _ e).0 in
    let marks = both_true (leb m.on 1) (leb m.link_fault 1) placed.1 in
    let whole = fine-encodable m e in
    record {
      address = placed.0;
      on = leb-true m.on 1 marks.0;
      fault = leb-true m.link_fault 1 marks.1;
      analog-ok = laws.writable_analog m whole;
      alarm-ok = laws.writable_alarm m whole;
      limits-ok = laws.writable_limits m whole;
      serial-ok = laws.writable_serial m whole;
      version-ok = laws.writable_version m whole;
      parameters-ok = laws.writable_parameters m whole;
    }

-- the first record of a rising list, and the others
pub rising-parts : (group last : ℕ) (x : Module) (xs : List Module) → rising group last (x ∷ xs) ≡ true
    → (fine x ≡ true) × (ltb last x.adr ≡ true) × (eqb (x.adr / 16) group ≡ true) × (rising group x.adr xs ≡ true)
unfolding rising
rising-parts group last x xs e =
    let whole = both_true (follows group last x) (rising group x.adr xs) e in
    let first = both_true (fine x && ltb last x.adr) (eqb (x.adr / 16) group) whole.0 in
    let below = both_true (fine x) (ltb last x.adr) first.0 in
    (below.0, below.1, first.1, whole.1)

rising-fine : (group last : ℕ) (ms : List Module) → rising group last ms ≡ true → (i : ℕ) → i < length ms → (d : Module) → fine (get_or ms i d) ≡ true
rising-fine group last [] e i h d = absurd (omega arith)
rising-fine group last (x ∷ xs) e zero h d = (rising-parts group last x xs e).0
rising-fine group last (x ∷ xs) e (suc i) h d = rising-fine group x.adr xs (rising-parts group last x xs e).3 i (omega arith) d

-- ---- of a table that keeps the rule

pub record Ruled (ms : List Module) : Type 0 where
  pub some : 1 ≤ length ms
  pub few : length ms ≤ 12
  pub rises : rising ((get_or ms 0 blank).adr / 16) 0 ms ≡ true

pub rule-parts : (ms : List Module) → rule ms ≡ true → Ruled ms
unfolding rule
rule-parts ms e =
    let a = both_true (leb 1 (length ms) && leb (length ms) 12) (rising ((get_or ms 0 blank).adr / 16) 0 ms) e in
    let b = both_true (leb 1 (length ms)) (leb (length ms) 12) a.0 in
    record { some = leb-true 1 (length ms) b.0; few = leb-true (length ms) 12 b.1; rises = a.1 }

pub record-fine : (ms : List Module) → rule ms ≡ true → (i : ℕ) → i < length ms → (d : Module) → Fine (get_or ms i d)
record-fine ms e i h d = fine-parts (get_or ms i d) (rising-fine ((get_or ms 0 blank).adr / 16) 0 ms (rule-parts ms e).rises i h d)

pub keeps-parts : (t : Table) → keeps t ≡ true → (t.count ≤ 12) × (rule (members t) ≡ true)
unfolding keeps
keeps-parts t e = let a = both_true (leb t.count 12) (rule (members t)) e in (leb-true t.count 12 a.0, a.1)

pub encodable_at : (t : Table) (i : ℕ) (d : Module) → keeps t ≡ true → i < length (members t) → encodable (get_or (members t) i d) ≡ true
encodable_at t i d e h =
    fine-encodable (get_or (members t) i d) (rising-fine ((get_or (members t) 0 blank).adr / 16) 0 (members t) (rule-parts (members t) (keeps-parts t e).1).rises i h d)
