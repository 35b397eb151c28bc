-- For every kind of record, over the contracts of its writer and of its reader: what was written is taken, and what was taken is written again as the same bytes. Once for any format: an INFO that was written reads as its value, and a value that was read has no other INFO.
use Rattle.std.proofs.Common.{◌≡◌, refl, sym, ap, ◌∙◌, subst, Bool, true, false, cond, List, [], ◌∷◌, ◌++◌, ℕ, zero, suc, ◌≤◌, ◌<◌, arith, length, take, drop, take_at, T, leb, eqb, ltb, eqb→eq, lt→ltb, Result, Ok, Err}
use Rattle.std.proofs.Math.Facts.{and_yes, yes_and}
use Rattle.buffer.specs.Writing.{Left, leaves, wrote, refused, writing, Writes}
use Rattle.buffer.proofs.Writers.{writing-is, writes_one}
use Rattle.refusal.specs.declared.Refusal.{Refusal}
use Rattle.hex_chars.specs.Hex.{hexes, unhexes}
use Rattle.hex_chars.proofs.Laws.{unhexes-hexes, bytes-unhexes}
use Rattle.codec.specs.Codec.{Codec, byte}
use Rattle.codec.specs.Both.{◌then◌}
use Rattle.codec.specs.Counted.{pad_to}
use Rattle.codec.specs.Many.{many, many_ok}
use Rattle.codec.specs.Whole.{Whole, told, told_value, refuse_told, mapped, mapped_inv, ended, lead}
use Rattle.codec.proofs.Rows.{row-bytes}
use Rattle.fields.specs.Reads.{answered}
use Rattle.record.specs.declared.Module.{Module}
use Rattle.record.specs.Address.{is_address}
use Rattle.record.specs.Analog.{analog}
use Rattle.record.specs.Alarm.{alarm}
use Rattle.record.specs.Limits.{limits as limits_record}
use Rattle.record.specs.Parameters.{parameters as parameters_record}
use Rattle.record.specs.Texts.{serial, version, maker}
use Rattle.record.specs.Infos.{Front, command, some_analog, some_alarm, maker_info}
use Rattle.record.specs.Nothing.{no_analog, no_alarm}
use Rattle.parts.specs.Took.{flagged, unflagged}
use Rattle.parts.specs.Groups.{grouped, handed}
use Rattle.parts.proofs.Ones.{handed-told}
use Rattle.table.proofs.rule.Fine.{Fine, keeps-parts}
use Rattle.table.proofs.rule.Rules.{is_true}
use Rattle.table.specs.declared.Station.{Station}
use Rattle.table.specs.Table.{members}
use Rattle.table.specs.Rule.{keeps}
use Rattle.groups.specs.Groups.{values_on}
use Rattle.command.specs.declared.Kind.TheVariants.{Maker}
use Rattle.standin.specs.Answer.{info_by}
use Rattle.meet.specs.Copied.{OfBytes}
use Rattle.meet.specs.Records.{RoundTrip, with_flag, with_flag_alone, without_flag, of_group, analogs, alarms, parameters, limits, serials, versions, analog_groups, alarm_groups}
use Rattle.meet.proofs.Data.{yes, group-ok, maker-read}
use Rattle.reply.proofs.Groups.{take-pad}

-- ---- any INFO

wrote-inv : (fault n : ℕ) (fine room : Bool) (text out out' : List ℕ)
    → leaves (wrote n) out' ≡ cond fine (cond room (leaves (wrote (length text)) (text ++ drop (length text) out)) (leaves (refused 32) out)) (leaves (refused fault) out)
    → T fine × (n ≡ length text) × (out' ≡ text ++ drop (length text) out)
wrote-inv fault n true true text out out' e = let o : wrote n ≡ wrote (length text) = ap (λ (l : Left). l.outcome) e in let k : n ≡ length text = cc in (tt, k, ap (λ (l : Left). l.out) e)
wrote-inv fault n true false text out out' e = let o : wrote n ≡ refused 32 = ap (λ (l : Left). l.outcome) e in cc
wrote-inv fault n false room text out out' e = let o : wrote n ≡ refused fault = ap (λ (l : Left). l.outcome) e in cc

module _ {X : Type 0} (w : Whole X) (fault : ℕ) (fine : Bool) (x : X) where
  -- what was written reads as the value
  written-reads : (T fine → T (w.ok x)) → (out out' : List ℕ) (n : ℕ) → Writes (writing fault fine (w.put x) out) (Ok n) out' → w.get (unhexes (hexes (take n out'))) ≡ told x
  unfolding writing
  written-reads okay out out' n p =
      let u = wrote-inv fault n fine (leb (length (w.put x)) (length out)) (w.put x) out out' p in
      let ok = okay u.0 in
      let front : take n out' ≡ w.put x = ap (take n) u.2 ∙ take_at (w.put x) (drop (length (w.put x)) out) n (sym u.1) in
      let back : unhexes (hexes (take n out')) ≡ w.put x = ap (λ (l : List ℕ). unhexes (hexes l)) front ∙ unhexes-hexes (w.put x) (w.small x ok) in
      ap w.get back ∙ w.there x ok

  -- and what was read is written as the same bytes, where x is the value that was read
  read-writes : (info : List ℕ) (y : X) → w.get (unhexes info) ≡ told y → (T (w.ok y) → y ≡ x) → (T (w.ok x) → T fine)
      → (out out' : List ℕ) (r : Result ℕ Refusal) → length (unhexes info) ≤ length out → Writes (writing fault fine (w.put x) out) r out'
      → (r ≡ Ok (length (unhexes info))) × (out' ≡ unhexes info ++ drop (length (unhexes info)) out)
  read-writes info y g only fits out out' r room writes =
      let b = w.back (unhexes info) y (bytes-unhexes info) g in
      let same = only b.1 in
      let text : w.put x ≡ unhexes info = ap w.put (sym same) ∙ sym b.0 in
      let fine-is = is_true fine (fits (subst (λ (z : X). T (w.ok z)) same b.1)) in
      let is : writing fault fine (w.put x) out ≡ leaves (wrote (length (unhexes info))) (unhexes info ++ drop (length (unhexes info)) out) =
      ap (λ (l : List ℕ). writing fault fine l out) text ∙ writing-is fault (unhexes info) out fine fine-is room in
      writes_one (writing fault fine (w.put x) out) r (Ok (length (unhexes info))) out' (unhexes info ++ drop (length (unhexes info)) out) writes (sym is)

-- ---- a reader's answer, and what its format told

answered-told : {A : Type 0} (r : Result A Refusal) (a : A) → answered r ≡ told a → r ≡ Ok a
answered-told (Ok b) a e = ap Ok (told_value e)
answered-told (Err q) a e = refuse_told e

-- ---- the fronts: what can be read as Command is the one asked

asked-command : (asked x : ℕ) → T ((command asked).ok x) → x ≡ asked
asked-command asked x t = eqb→eq x asked (and_yes (eqb x asked) (byte.ok x) t).0

module _ {B : Type 0} (asked : ℕ) (w : Whole B) where
  pub after-flag : (x : Front × B) → T ((lead (byte then command asked) (λ y. w)).ok x) → x.0.1 ≡ asked
  after-flag x t =
      asked-command asked x.0.1 (and_yes (byte.ok x.0.0) ((command asked).ok x.0.1) (and_yes ((byte then command asked).ok x.0) (w.ok x.1) t).0).1

  pub at_first : (x : ℕ × B) → T ((lead (command asked) (λ y. w)).ok x) → x.0 ≡ asked
  at_first x t = asked-command asked x.0 (and_yes ((command asked).ok x.0) (w.ok x.1) t).0

group-front : {B : Type 0} (flag : ℕ) → flag < 256 → (w : Whole B) (b : B) → T (w.ok b) → T ((lead (byte then command 0xFF) (λ y. w)).ok ((flag, 0xFF), b))
group-front flag small w b ok = yes_and ((byte then command 0xFF).ok (flag, 0xFF)) (w.ok b) (yes_and (ltb flag 256) ((command 0xFF).ok 0xFF) (lt→ltb flag 256 small) tt) ok

-- ---- one module's record, in any format

module _ {A : Type 0} (c : Codec A) (part : Module → A) where
  pub flag-trip : RoundTrip (with_flag c part)
  flag-trip = record {
    written_is_taken = λ flag m out out' n small p r t.
        let w = lead (byte then command m.adr) (λ x. ended c) in
        let x : Front × A = ((flag, m.adr), part m) in
        answered-told r (flag, part m) (t ∙ ap (λ y. mapped y flagged) (written-reads w 33 _ x (λ f. (and_yes (is_address m.adr) (w.ok x) f).1) out out' n p));
    taken_is_written = λ info flag m r t h fit.
        let w = lead (byte then command m.adr) (λ x. ended c) in
        let x : Front × A = ((flag, m.adr), part m) in
        let y = mapped_inv (w.get (unhexes info)) flagged (flag, part m) (sym t ∙ ap answered h) in
        read-writes w 33 _ x info y.0 y.1 (λ ok i. (((y.2 i).0, after-flag m.adr (ended c) y.0 ok i), (y.2 i).1)) (yes_and (is_address m.adr) (w.ok x) (yes fit));
  }

  pub alone-trip : RoundTrip (with_flag_alone c part)
  alone-trip = record {
    written_is_taken = λ flag m out out' n small p r t.
        let w = lead byte (λ x. ended c) in
        answered-told r (flag, part m) (t ∙ written-reads w 33 _ (flag, part m) (λ f. (and_yes (is_address m.adr) (w.ok (flag, part m)) f).1) out out' n p);
    taken_is_written = λ info flag m r t h fit.
        let w = lead byte (λ x. ended c) in
        read-writes w 33 _ (flag, part m) info (flag, part m) (sym t ∙ ap answered h) (λ ok. refl) (yes_and (is_address m.adr) (w.ok (flag, part m)) (yes fit));
  }

  pub bare-trip : RoundTrip (without_flag c part)
  bare-trip = record {
    written_is_taken = λ flag m out out' n small p r t.
        let w = lead (command m.adr) (λ x. ended c) in
        (answered-told r (part m) (t ∙ ap (λ y. mapped y unflagged) (written-reads w 33 _ (m.adr, part m) (λ f. (and_yes (is_address m.adr) (w.ok (m.adr, part m)) f).1) out out' n p)), refl);
    taken_is_written = λ info flag m r t h fit.
        let w = lead (command m.adr) (λ x. ended c) in
        let y = mapped_inv (w.get (unhexes info)) unflagged (part m) (sym t ∙ ap answered h.0) in
        read-writes w 33 _ (m.adr, part m) info y.0 y.1 (λ ok i. (at_first m.adr (ended c) y.0 ok i, y.2 i)) (yes_and (is_address m.adr) (w.ok (m.adr, part m)) (yes fit));
  }

-- ---- the group, in any format: as many records, and the same in their places

same-places : {A : Type 0} (none : A) (l m : List A) → length l ≤ 12 → length l ≡ length m → pad_to none 12 l ≡ pad_to none 12 m → l ≡ m
same-places none l m h n e = sym (take-pad none 12 l h) ∙ (λ i. take (n i) (e i)) ∙ take-pad none 12 m (omega arith)

module _ {A : Type 0} (c : Codec A) (some : (a : A) → T (c.ok a) → 0 < length (c.put a)) where
  many-few : (K : ℕ) (l : List A) → T (many_ok c some K l) → length l ≤ K
  many-few K [] t = omega arith
  many-few zero (a ∷ l) t = absurd t
  many-few (suc K) (a ∷ l) t = let h = many-few K l (and_yes (c.ok a) (many_ok c some K l) t).1 in omega arith

  module _ (none : A) (part : Module → A) (okay : (m : Module) → Fine m → c.ok (part m) ≡ true) where
    pub group-trip : RoundTrip (of_group c some none part)
    group-trip = record {
      written_is_taken = λ flag t out out' n small p r h.
          let w = lead (byte then command 0xFF) (λ x. many c some 12) in
          let l = values_on part (members t) in
          let fits : T (keeps t) → T (w.ok ((flag, 0xFF), l)) = λ f. group-front flag small (many c some 12) l (group-ok part c some okay (members t) (keeps-parts t (is_true (keeps t) f)).1) in
          handed-told r.0 r.1 flag (length l) (pad_to none 12 l)
          (h ∙ ap (λ y. mapped y (grouped none 12)) (written-reads w 31 (keeps t) ((flag, 0xFF), l) fits out out' n p));
      taken_is_written = λ info flag t r h k fit.
          let w = lead (byte then command 0xFF) (λ x. many c some 12) in
          let l = values_on part (members t) in
          let y = mapped_inv (w.get (unhexes info)) (grouped none 12) (flag, (length l, pad_to none 12 l)) (sym h ∙ λ i. handed (k.0 i) (k.1 i)) in
          let few : T (w.ok y.0) → length y.0.1 ≤ 12 = λ ok. many-few 12 y.0.1 (and_yes ((byte then command 0xFF).ok y.0.0) (many_ok c some 12 y.0.1) ok).1 in
          read-writes w 31 (keeps t) ((flag, 0xFF), l) info y.0 y.1
          (λ ok i. (((y.2 i).0, after-flag 0xFF (many c some 12) y.0 ok i), same-places none y.0.1 l (few ok) (λ j. (y.2 j).1.0) (λ j. (y.2 j).1.1) i))
          (λ ok. yes fit);
    }

-- ---- the eight kinds

pub analog-trip : RoundTrip analogs
analog-trip = flag-trip analog (λ m. m.analog)

pub alarm-trip : RoundTrip alarms
alarm-trip = flag-trip alarm (λ m. m.alarm)

pub parameters-trip : RoundTrip parameters
parameters-trip = alone-trip parameters_record (λ m. m.parameters)

pub limits-trip : RoundTrip limits
limits-trip = bare-trip limits_record (λ m. m.limits)

pub serial-trip : RoundTrip serials
serial-trip = bare-trip serial (λ m. m.serial)

pub version-trip : RoundTrip versions
version-trip = bare-trip version (λ m. m.version)

pub analog-group-trip : RoundTrip analog_groups
analog-group-trip = group-trip analog some_analog no_analog (λ m. m.analog) (λ m f. f.analog-ok)

pub alarm-group-trip : RoundTrip alarm_groups
alarm-group-trip = group-trip alarm some_alarm no_alarm (λ m. m.alarm) (λ m f. f.alarm-ok)

-- ---- 51H: the stand-in writes the station's 32 bytes

pub maker-is-taken : (st : Station) → OfBytes st → (ms : List Module) (adr : ℕ) (r : Result (List ℕ) Refusal)
    → answered r ≡ maker_info.get (unhexes (hexes (info_by Maker st ms adr))) → r ≡ Ok st.maker
unfolding info_by
maker-is-taken st bytes ms adr r t =
    answered-told r st.maker (t ∙ ap maker_info.get (unhexes-hexes st.maker bytes.maker) ∙ maker-read st.maker bytes.maker bytes.count)

pub taken-is-maker : (info : List ℕ) (st : Station) (r : Result (List ℕ) Refusal) → answered r ≡ maker_info.get (unhexes info) → r ≡ Ok st.maker
    → (ms : List Module) (adr : ℕ) → info_by Maker st ms adr ≡ unhexes info
unfolding info_by maker_info maker
taken-is-maker info st r t e ms adr =
    let b = maker_info.back (unhexes info) st.maker (bytes-unhexes info) (sym t ∙ ap answered e) in
    sym (b.0 ∙ row-bytes byte (λ a. refl) st.maker)
