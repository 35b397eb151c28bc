-- Demand 2 for records, over the contracts of a kind's writer and reader: what was written is taken, and what was taken is written again as the same bytes.
use Rattle.std.specs.Prelude.{◌≡◌, Bool, true, List, ◌++◌, ℕ, ◌≤◌, ◌<◌, length, take, drop, T, Result, Ok}
use Rattle.refusal.specs.declared.Refusal.{Refusal}
use Rattle.buffer.specs.Writing.{Left, Writes}
use Rattle.hex_chars.specs.Hex.{hexes, unhexes}
use Rattle.codec.specs.Codec.{Codec, byte}
use Rattle.codec.specs.Both.{◌then◌}
use Rattle.codec.specs.Counted.{pad_to}
use Rattle.codec.specs.Many.{many}
use Rattle.codec.specs.Whole.{lead, ended, mapped}
use Rattle.fields.specs.Reads.{answered}
use Rattle.record.specs.declared.Module.{Module}
use Rattle.record.specs.declared.Analog.{Analog}
use Rattle.record.specs.declared.Alarm.{Alarm}
use Rattle.record.specs.declared.Limits.{Limits}
use Rattle.record.specs.declared.Parameters.{Parameters}
use Rattle.record.specs.Address.{is_address}
use Rattle.record.specs.Analog.{analog}
use Rattle.record.specs.Alarm.{alarm}
use Rattle.record.specs.Limits.{limits as limits_record}
use Rattle.record.specs.Parameters.{parameters as parameters_record}
use Rattle.record.specs.Texts.{serial, version}
use Rattle.record.specs.Infos.{command, some_analog, some_alarm}
use Rattle.record.specs.Nothing.{no_analog, no_alarm}
use Rattle.parts.specs.Records.{record_writing}
use Rattle.parts.specs.Took.{flagged, unflagged}
use Rattle.parts.specs.Groups.{grouped, handed}
use Rattle.table.specs.declared.Table.{Table}
use Rattle.table.specs.Table.{members}
use Rattle.table.specs.Rule.{keeps}
use Rattle.groups.specs.Groups.{values_on, group_writing}

-- S is what the writer is given beside the flag, A the part of it that a kind carries, and R the reader's answer
pub record Contracts (S A R : Type 0) : Type 1 where
  -- what the writer leaves, given the flag and S, in a buffer
  pub writes : ℕ → S → List ℕ → Left
  -- what the reader may answer of INFO's characters, asked for S
  pub takes : S → List ℕ → R → Type 0
  -- an answer hands out this flag (0 where INFO has none) and this part
  pub hands : R → ℕ → A → Type 0
  -- what of S this kind carries, and the flag that comes back
  pub part : S → A
  pub flag : ℕ → ℕ
  -- S is none that the writer refuses whatever the part: ADR in its rule, a table that keeps its own
  pub fit : S → Bool

pub record RoundTrip {S A R : Type 0} (k : Contracts S A R) : Type 0 where
  pub written_is_taken : (flag : ℕ) (s : S) (out out' : List ℕ) (n : ℕ) → flag < 256 → Writes (k.writes flag s out) (Ok n) out'
      → (r : R) → k.takes s (hexes (take n out')) r → k.hands r (k.flag flag) (k.part s)
  pub taken_is_written : (info : List ℕ) (flag : ℕ) (s : S) (r : R) → k.takes s info r → k.hands r flag (k.part s) → k.fit s ≡ true
      → (out out' : List ℕ) (w : Result ℕ Refusal) → length (unhexes info) ≤ length out → Writes (k.writes flag s out) w out'
      → (w ≡ Ok (length (unhexes info))) × (out' ≡ unhexes info ++ drop (length (unhexes info)) out)

-- ---- one module's record, in any format: with a flag (42H and 44H), with a flag and no Command (47H), and without a flag

abbrev pub with_flag : {A : Type 0} → Codec A → (Module → A) → Contracts Module A (Result (ℕ × A) Refusal)
with_flag c part = record {
  writes = λ flag m out. record_writing m.adr (lead (byte then command m.adr) (λ x. ended c)) ((flag, m.adr), part m) out;
  takes = λ m chars r. answered r ≡ mapped ((lead (byte then command m.adr) (λ x. ended c)).get (unhexes chars)) flagged;
  hands = λ r flag a. r ≡ Ok (flag, a);
  part = part;
  flag = λ f. f;
  fit = λ m. is_address m.adr;
}

abbrev pub with_flag_alone : {A : Type 0} → Codec A → (Module → A) → Contracts Module A (Result (ℕ × A) Refusal)
with_flag_alone c part = record {
  writes = λ flag m out. record_writing m.adr (lead byte (λ x. ended c)) (flag, part m) out;
  takes = λ m chars r. answered r ≡ (lead byte (λ x. ended c)).get (unhexes chars);
  hands = λ r flag a. r ≡ Ok (flag, a);
  part = part;
  flag = λ f. f;
  fit = λ m. is_address m.adr;
}

abbrev pub without_flag : {A : Type 0} → Codec A → (Module → A) → Contracts Module A (Result A Refusal)
without_flag c part = record {
  writes = λ flag m out. record_writing m.adr (lead (command m.adr) (λ x. ended c)) (m.adr, part m) out;
  takes = λ m chars r. answered r ≡ mapped ((lead (command m.adr) (λ x. ended c)).get (unhexes chars)) unflagged;
  hands = λ r flag a. (r ≡ Ok a) × (flag ≡ 0);
  part = part;
  flag = λ f. 0;
  fit = λ m. is_address m.adr;
}

-- ---- the group, in any format: the members that are on, in rising ADR; the reader's answer is beside its twelve places

abbrev pub of_group : {A : Type 0} (c : Codec A) → ((a : A) → T (c.ok a) → 0 < length (c.put a)) → A → (Module → A) → Contracts Table (List A) (Result (ℕ × ℕ) Refusal × List A)
of_group c some none part = record {
  writes = λ flag t out. group_writing c some part (keeps t) flag (members t) out;
  takes = λ t chars r. handed r.0 r.1 ≡ mapped ((lead (byte then command 0xFF) (λ x. many c some 12)).get (unhexes chars)) (grouped none 12);
  hands = λ r flag l. (r.0 ≡ Ok (flag, length l)) × (r.1 ≡ pad_to none 12 l);
  part = λ t. values_on part (members t);
  flag = λ f. f;
  fit = keeps;
}

-- ---- the eight kinds: `write_..` and `take_..` at each format

abbrev pub analogs : Contracts Module Analog (Result (ℕ × Analog) Refusal)
analogs = with_flag analog (λ m. m.analog)

abbrev pub alarms : Contracts Module Alarm (Result (ℕ × Alarm) Refusal)
alarms = with_flag alarm (λ m. m.alarm)

abbrev pub parameters : Contracts Module Parameters (Result (ℕ × Parameters) Refusal)
parameters = with_flag_alone parameters_record (λ m. m.parameters)

abbrev pub limits : Contracts Module Limits (Result Limits Refusal)
limits = without_flag limits_record (λ m. m.limits)

abbrev pub serials : Contracts Module (List ℕ) (Result (List ℕ) Refusal)
serials = without_flag serial (λ m. m.serial)

abbrev pub versions : Contracts Module (List ℕ) (Result (List ℕ) Refusal)
versions = without_flag version (λ m. m.version)

abbrev pub analog_groups : Contracts Table (List Analog) (Result (ℕ × ℕ) Refusal × List Analog)
analog_groups = of_group analog some_analog no_analog (λ m. m.analog)

abbrev pub alarm_groups : Contracts Table (List Alarm) (Result (ℕ × ℕ) Refusal × List Alarm)
alarm_groups = of_group alarm some_alarm no_alarm (λ m. m.alarm)
