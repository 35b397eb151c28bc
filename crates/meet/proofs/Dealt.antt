-- Which member gets which record of a group: member by member, one that is on takes the first value that is left, one that is off takes none. So one's own values read back leave every record as it was.
use Rattle.std.proofs.Common.{◌≡◌, refl, Bool, true, false, List, [], ◌∷◌, ℕ, zero, suc, ◌+◌, ◌<◌, zero-add, one-add, arith, length, take, get_or}
use Rattle.std.proofs.Math.Seq.{set-get_or}
use Rattle.buffer.proofs.Lists.{by_cond}
use Rattle.record.specs.declared.Module.{Module}
use Rattle.record.specs.declared.Analog.{Analog as AnalogRecord}
use Rattle.record.specs.declared.Alarm.{Alarm as AlarmRecord}
use Rattle.table.specs.Table.{blank, is_on, place_of, member_at, one_if, count_on}
use Rattle.table.specs.Changes.{replaced, dealt, with_analog, with_alarm}
use Rattle.groups.specs.Groups.{values_on, analogs_on, alarms_on}
use Rattle.command.specs.declared.Kind.{Kind}
use Rattle.command.specs.declared.Kind.TheVariants.{Analog, AnalogGroup, Alarm, AlarmGroup, Parameters, Protocol, Maker, Limits, Serial, TurnOff, Version, Unserved}
use Rattle.meet.specs.Copied.{copied}

module _ {A : Type 0} (with : A → Module → Module) where
  -- a member that is off is passed
  past_off : (m : Module) (ms : List Module) (l : List A) → is_on m ≡ false → dealt with (m ∷ ms) l ≡ m ∷ dealt with ms l
  unfolding dealt
  past_off m [] [] e = refl
  past_off m (n ∷ ms) [] e = refl
  past_off m ms (a ∷ l) e = rw e

  -- a member that is off stays as it was
  pub dealt-off : (ms : List Module) (l : List A) (i : ℕ) (d : Module) → is_on (get_or ms i d) ≡ false → get_or (dealt with ms l) i d ≡ get_or ms i d
  unfolding dealt
  dealt-off [] l i d e = refl
  dealt-off (m ∷ ms) [] i d e = refl
  dealt-off (m ∷ ms) (a ∷ l) zero d e = rw e
  dealt-off (m ∷ ms) (a ∷ l) (suc i) d e =
      by_cond (λ (ns : List Module). get_or ns (suc i) d ≡ get_or ms i d) (is_on m) (λ t. dealt-off ms l i d e) (λ t. dealt-off ms (a ∷ l) i d e)

  -- a member that is on takes the value whose number is that of the members before it that are on
  pub dealt-at : (ms : List Module) (l : List A) (i : ℕ) (d : Module) (v : A) → i < length ms → is_on (get_or ms i d) ≡ true → length l ≡ count_on ms
      → get_or (dealt with ms l) i d ≡ with (get_or l (count_on (take i ms)) v) (get_or ms i d)
  unfolding dealt count_on
  dealt-at [] l i d v h e c = absurd (omega arith)
  dealt-at (m ∷ ms) [] zero d v h e c = let none : 0 ≡ 1 + count_on ms = rw e at c in absurd (omega arith)
  dealt-at (m ∷ ms) (a ∷ l) zero d v h e c = rw e
  dealt-at (m ∷ ms) l (suc i) d v h e c = turn (is_on m) refl l c (λ k. dealt-at ms k i d v (omega arith) e)
    where
      turn : (on : Bool) → is_on m ≡ on → (l : List A) → length l ≡ one_if on + count_on ms
          → ((k : List A) → length k ≡ count_on ms → get_or (dealt with ms k) i d ≡ with (get_or k (count_on (take i ms)) v) (get_or ms i d))
          → get_or (dealt with (m ∷ ms) l) (suc i) d ≡ with (get_or l (one_if on + count_on (take i ms)) v) (get_or ms i d)
      turn true o [] c rest = absurd (omega arith)
      turn true o (a ∷ l) c rest = rw (o, one-add) (rest l (omega arith))
      turn false o l c rest = rw (past_off m ms l o, zero-add) (rest l (omega arith))

  -- each value is read back, in order
  module _ (get : Module → A) (got : (a : A) (m : Module) → get (with a m) ≡ a) (stays : (a : A) (m : Module) → is_on (with a m) ≡ is_on m) where
    pub dealt-values : (ms : List Module) (l : List A) → length l ≡ count_on ms → values_on get (dealt with ms l) ≡ l
    unfolding values_on dealt count_on
    dealt-values [] [] c = refl
    dealt-values [] (a ∷ l) c = absurd (omega arith)
    dealt-values (m ∷ ms) l c = turn (is_on m) refl l c (dealt-values ms)
      where
        turn : (on : Bool) → is_on m ≡ on → (l : List A) → length l ≡ one_if on + count_on ms
            → ((k : List A) → length k ≡ count_on ms → values_on get (dealt with ms k) ≡ k) → values_on get (dealt with (m ∷ ms) l) ≡ l
        turn true o [] c rest = absurd (omega arith)
        turn true o (a ∷ l) c rest = rw (o, stays a m, o, got a m, rest l (omega arith))
        turn false o l c rest = rw (past_off m ms l o, o) (rest l (omega arith))

  -- the members' own values change nothing
  module _ (get : Module → A) (own : (m : Module) → with (get m) m ≡ m) where
    pub dealt-same : (ms : List Module) → dealt with ms (values_on get ms) ≡ ms
    unfolding values_on dealt
    dealt-same [] = refl
    dealt-same (m ∷ ms) = turn (is_on m) refl (dealt-same ms)
      where
        turn : (on : Bool) → is_on m ≡ on → dealt with ms (values_on get ms) ≡ ms → dealt with (m ∷ ms) (values_on get (m ∷ ms)) ≡ m ∷ ms
        turn true o rest = rw (o, o, own m, rest)
        turn false o rest = rw (o, past_off m ms (values_on get ms) o, rest)

pub analogs-read : (ms : List Module) (l : List AnalogRecord) → length l ≡ count_on ms → analogs_on (dealt with_analog ms l) ≡ l
analogs-read = dealt-values with_analog (λ m. m.analog) (λ a m. refl) (λ a m. refl)

pub alarms-read : (ms : List Module) (l : List AlarmRecord) → length l ≡ count_on ms → alarms_on (dealt with_alarm ms l) ≡ l
alarms-read = dealt-values with_alarm (λ m. m.alarm) (λ a m. refl) (λ a m. refl)

-- ---- one's own answer

-- a record put back as it was; where there is none, nothing is
replaced-same : (adr : ℕ) (f : Module → Module) (ms : List Module) → f (member_at adr ms) ≡ member_at adr ms → replaced adr f ms ≡ ms
unfolding replaced member_at
replaced-same adr f ms e = rw e (set-get_or ms (place_of adr ms) blank)

-- the asked fields, copied from the same records, change nothing
pub copied-same : (k : Kind) (adr : ℕ) (ms : List Module) → copied k adr ms ms ≡ ms
unfolding copied
copied-same Analog adr ms = replaced-same adr _ ms refl
copied-same AnalogGroup adr ms = dealt-same with_analog (λ m. m.analog) (λ m. refl) ms
copied-same Alarm adr ms = replaced-same adr _ ms refl
copied-same AlarmGroup adr ms = dealt-same with_alarm (λ m. m.alarm) (λ m. refl) ms
copied-same Parameters adr ms = replaced-same adr _ ms refl
copied-same Protocol adr ms = refl
copied-same Maker adr ms = refl
copied-same Limits adr ms = replaced-same adr _ ms refl
copied-same Serial adr ms = replaced-same adr _ ms refl
copied-same TurnOff adr ms = refl
copied-same Version adr ms = replaced-same adr _ ms refl
copied-same Unserved adr ms = refl
