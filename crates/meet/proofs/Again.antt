-- Writing again what was accepted: a reply that was read with 00H and flag 00H, answered again over the table then, has the same bytes. Per kind the codec's `back`; the records then hold what was read.
use Rattle.std.proofs.Common.{◌≡◌, Some, Result, Ok, refl, sym, ap, ◌∙◌, Bool, true, false, cond, not, ◌&&◌, List, [], ◌∷◌, ◌++◌, ℕ, suc, ◌*◌, ◌<◌, arith, length, T, eqb, eqb-true, ltb-true}
use Rattle.hex_chars.specs.Hex.{Bytes, unhexes}
use Rattle.hex_chars.proofs.Laws.{unhexes-hexes}
use Rattle.frame.specs.Frame.{SOI, CR, chars, encode, info_at, Encodes}
use Rattle.frame.specs.Judge.{header}
use Rattle.frame.specs.declared.Fault.{Fault}
use Rattle.frame.proofs.Round.{info-at}
use Rattle.codec.specs.Codec.{byte}
use Rattle.codec.specs.Whole.{Told, told, refuse, told_value, refuse_told, Whole, ended, mapped, mapped_inv}
use Rattle.codec.specs.Many.{many}
use Rattle.codec.proofs.Rows.{row-bytes}
use Rattle.record.specs.declared.Module.{Module}
use Rattle.record.specs.Nothing.{no_maker}
use Rattle.record.specs.Analog.{analog}
use Rattle.record.specs.Alarm.{alarm}
use Rattle.record.specs.Limits.{limits}
use Rattle.record.specs.Texts.{serial, version, maker as maker_record}
use Rattle.record.specs.Infos.{Front, parameters_info, analog_info, alarm_info, limits_info, serial_info, version_info, some_analog, some_alarm, analog_group, alarm_group, maker_info, empty_info}
use Rattle.table.proofs.rule.Fine.{keeps-parts}
use Rattle.table.specs.declared.Station.{Station}
use Rattle.table.specs.declared.Table.{Table}
use Rattle.table.specs.Table.{members, place_of, has_member, member_at, is_on, count_on}
use Rattle.table.specs.Rule.{keeps}
use Rattle.table.specs.Changes.{replaced, dealt, with_analog, with_alarm, with_limits, with_serial, with_version, with_parameters}
use Rattle.groups.specs.Groups.{values_on}
use Rattle.command.specs.declared.Kind.{Kind}
use Rattle.command.specs.declared.Kind.TheVariants.{Analog, AnalogGroup, Alarm, AlarmGroup, Parameters, Protocol, Maker, Limits, Serial, TurnOff, Version, Unserved}
use Rattle.command.specs.Command.{kind_of, form_of, terms_of}
use Rattle.command.specs.Heard.{Words, words}
use Rattle.standin.specs.Says.{Code}
use Rattle.standin.specs.declared.Replied.{Replied}
use Rattle.standin.specs.Answer.{info_by, kind_asked, info_for, reply_header, written, answer, Answers}
use Rattle.reply.specs.declared.gate.Question.{Question}
use Rattle.reply.specs.declared.Reply.{Reply}
use Rattle.reply.specs.declared.Reading.{Reading}
use Rattle.reply.specs.Gate.{Gated, passed, refused as gate_refused, refused_at as gate_refused_at, is_return_code, asks, gate, frame_gate}
use Rattle.reply.specs.Read.{Data, Left, leaves, read, refused, refused_at, paper, took, for_all, given, unless, read_reply, Reads}
use Rattle.reply.proofs.Ways.{gate-passes}
use Rattle.meet.specs.Asked.{asking, AskedBytes, fault_for}
use Rattle.meet.specs.Read.{Again}
use Rattle.meet.proofs.Dealt.{dealt-values}
use Rattle.meet.proofs.Readings.{reading-keeps}
use Rattle.meet.proofs.Asked.{question-adr, question-form, question-answered}
use Rattle.meet.proofs.Records.{after-flag, at_first}
use Rattle.meet.proofs.Meet.{words_of, replied-with}

-- the record with an ADR, after it was changed
replaced-member : (adr : ℕ) (f : Module → Module) → ((m : Module) → (f m).adr ≡ m.adr) → (ms : List Module) → place_of adr ms < length ms
    → member_at adr (replaced adr f ms) ≡ f (member_at adr ms)
unfolding replaced member_at place_of
replaced-member adr f same [] h = absurd (omega arith)
replaced-member adr f same (m ∷ ms) h = turn (eqb m.adr adr) refl h (replaced-member adr f same ms)
  where
    turn : (b : Bool) → eqb m.adr adr ≡ b → cond b 0 (suc (place_of adr ms)) < suc (length ms)
        → (place_of adr ms < length ms → member_at adr (replaced adr f ms) ≡ f (member_at adr ms)) → member_at adr (replaced adr f (m ∷ ms)) ≡ f (member_at adr (m ∷ ms))
    turn true e h rest = rw (e, same m, e)
    turn false e h rest = rw (e, e) (rest (omega arith))

-- ---- INFO again: of the records then it is what was read

module _ (ms : List Module) (adr : ℕ) (there : place_of adr ms < length ms) (info : List ℕ) (bytes : Bytes info) (maker : List ℕ) (ns : List Module) where
  module _ {A : Type 0} (with : A → Module → Module) (part : Module → A) (got : (a : A) (m : Module) → part (with a m) ≡ a) where
    module _ (same_adr : (a : A) (m : Module) → (with a m).adr ≡ m.adr) where
      member-then : (a : A) → replaced adr (with a) ms ≡ ns → part (member_at adr ns) ≡ a
      member-then a e = ap (λ (l : List Module). part (member_at adr l)) (sym e) ∙ ap part (replaced-member adr (with a) (same_adr a) ms there) ∙ got a (member_at adr ms)

      flag-again : (w : Whole (Front × A)) → ((x : Front × A) → T (w.ok x) → x.0.1 ≡ adr)
          → mapped {B = Data} (w.get info) (λ x. (x.0.0, (no_maker, replaced adr (with x.1) ms))) ≡ told (0, (maker, ns)) → w.put ((0, adr), part (member_at adr ns)) ≡ info
      flag-again w command-is e =
          let v = mapped_inv (w.get info) _ (0, (maker, ns)) e in
          let x = v.0 in
          let b = w.back info x bytes v.1 in
          let flag : x.0.0 ≡ 0 = ap (λ (d : Data). d.0) v.2 in
          let value = member-then x.1 (ap (λ (d : Data). d.1.1) v.2) in
          (λ i. w.put ((sym flag i, sym (command-is x b.1) i), value i)) ∙ sym b.0

      alone-again : (w : Whole (ℕ × A))
          → mapped {B = Data} (w.get info) (λ x. (x.0, (no_maker, replaced adr (with x.1) ms))) ≡ told (0, (maker, ns)) → w.put (0, part (member_at adr ns)) ≡ info
      alone-again w e =
          let v = mapped_inv (w.get info) _ (0, (maker, ns)) e in
          let x = v.0 in
          let b = w.back info x bytes v.1 in
          let flag : x.0 ≡ 0 = ap (λ (d : Data). d.0) v.2 in
          let value = member-then x.1 (ap (λ (d : Data). d.1.1) v.2) in
          (λ i. w.put (sym flag i, value i)) ∙ sym b.0

      bare-again : (w : Whole (ℕ × A)) → ((x : ℕ × A) → T (w.ok x) → x.0 ≡ adr)
          → mapped {B = Data} (w.get info) (λ x. (0, (no_maker, replaced adr (with x.1) ms))) ≡ told (0, (maker, ns)) → w.put (adr, part (member_at adr ns)) ≡ info
      bare-again w command-is e =
          let v = mapped_inv (w.get info) _ (0, (maker, ns)) e in
          let x = v.0 in
          let b = w.back info x bytes v.1 in
          let value = member-then x.1 (ap (λ (d : Data). d.1.1) v.2) in
          (λ i. w.put (sym (command-is x b.1) i, value i)) ∙ sym b.0

    -- the number of records is that of the members that are on
    all-inv : (t : Told (Front × List A)) → for_all with ms t ≡ told (0, (maker, ns)) → (x : Front × List A) × (t ≡ told x) × (length x.1 ≡ count_on ms) × (x.0.0 ≡ 0) × (dealt with ms x.1 ≡ ns)
    all-inv (refuse k) e = refuse_told e
    all-inv (told x) e = go (eqb (length x.1) (count_on ms)) refl e
      where
        go : (b : Bool) → eqb (length x.1) (count_on ms) ≡ b → cond {A = Told Data} b (told (x.0.0, (no_maker, dealt with ms x.1))) (refuse 22) ≡ told (0, (maker, ns))
            → (y : Front × List A) × (◌≡◌ {A = Told (Front × List A)} (told x) (told y)) × (length y.1 ≡ count_on ms) × (y.0.0 ≡ 0) × (dealt with ms y.1 ≡ ns)
        go true n e = let p = told_value e in (x, refl, eqb-true (length x.1) (count_on ms) n, ap (λ (d : Data). d.0) p, ap (λ (d : Data). d.1.1) p)
        go false n e = refuse_told e

    group-again : ((a : A) (m : Module) → is_on (with a m) ≡ is_on m) → (w : Whole (Front × List A)) → ((x : Front × List A) → T (w.ok x) → x.0.1 ≡ 0xFF)
        → for_all with ms (w.get info) ≡ told (0, (maker, ns)) → w.put ((0, 0xFF), values_on part ns) ≡ info
    group-again stays w command-is e =
        let v = all-inv (w.get info) e in
        let x = v.0 in
        let b = w.back info x bytes v.1 in
        let values : values_on part ns ≡ x.1 = ap (values_on part) (sym v.4) ∙ dealt-values with part got stays ms x.1 v.2 in
        (λ i. w.put ((sym v.3 i, sym (command-is x b.1) i), values i)) ∙ sym b.0

  nothing-again : mapped {B = Data} (empty_info.get info) (λ x. (0, (no_maker, ms))) ≡ told (0, (maker, ns)) → [] ≡ info
  unfolding empty_info
  nothing-again e = let v = mapped_inv (empty_info.get info) _ (0, (maker, ns)) e in sym (empty_info.back info v.0 bytes v.1).0

  maker-again : mapped {B = Data} (maker_info.get info) (λ x. (0, (x, ms))) ≡ told (0, (maker, ns)) → maker ≡ info
  unfolding maker_info maker_record
  maker-again e =
      let v = mapped_inv (maker_info.get info) _ (0, (maker, ns)) e in
      sym ((maker_info.back info v.0 bytes v.1).0 ∙ row-bytes byte (λ a. refl) v.0 ∙ ap (λ (d : Data). d.1.0) v.2)

  info-again : (st : Station) (k : Kind) → (k ≡ Maker → st.maker ≡ maker) → took k ms adr info ≡ told (0, (maker, ns)) → info_by k st ns adr ≡ info
  unfolding took info_by analog_info alarm_info limits_info serial_info version_info analog_group alarm_group parameters_info
  info-again st Analog same e = flag-again with_analog (λ m. m.analog) (λ a m. refl) (λ a m. refl) (analog_info adr) (after-flag adr (ended analog)) e
  info-again st AnalogGroup same e = group-again with_analog (λ m. m.analog) (λ a m. refl) (λ a m. refl) analog_group (after-flag 0xFF (many analog some_analog 12)) e
  info-again st Alarm same e = flag-again with_alarm (λ m. m.alarm) (λ a m. refl) (λ a m. refl) (alarm_info adr) (after-flag adr (ended alarm)) e
  info-again st AlarmGroup same e = group-again with_alarm (λ m. m.alarm) (λ a m. refl) (λ a m. refl) alarm_group (after-flag 0xFF (many alarm some_alarm 12)) e
  info-again st Parameters same e = alone-again with_parameters (λ m. m.parameters) (λ a m. refl) (λ a m. refl) parameters_info e
  info-again st Protocol same e = nothing-again e
  info-again st Maker same e = same refl ∙ maker-again e
  info-again st Limits same e = bare-again with_limits (λ m. m.limits) (λ a m. refl) (λ a m. refl) (limits_info adr) (at_first adr (ended limits)) e
  info-again st Serial same e = bare-again with_serial (λ m. m.serial) (λ a m. refl) (λ a m. refl) (serial_info adr) (at_first adr (ended serial)) e
  info-again st TurnOff same e = nothing-again e
  info-again st Version same e = bare-again with_version (λ m. m.version) (λ a m. refl) (λ a m. refl) (version_info adr) (at_first adr (ended version)) e
  info-again st Unserved same e = refuse_told e

-- ---- what the reader's answer tells of the stretch

-- it was read: the table keeps its rule, the gate was passed, the code is 00H, and the data were taken
read-inv : (kept : Bool) (gated : Gated) (code ver ver' flag : ℕ) (maker : List ℕ) (ms ns : List Module) (zero-code : Bool) → eqb code 0 ≡ zero-code → (t : Told Data)
    → leaves (read ver 0 flag) maker ns ≡ cond kept (unless gated ms (cond zero-code (given ver' ms t) (leaves (read ver' code 0) no_maker ms))) (leaves (refused 31) no_maker ms)
    → (gated ≡ passed) × (code ≡ 0) × (ver' ≡ ver) × (t ≡ told (flag, (maker, ns)))
read-inv false gated code ver ver' flag maker ms ns zero-code z t e = let o : read ver 0 flag ≡ refused 31 = ap (λ (l : Left). l.outcome) e in cc
read-inv true (gate_refused k) code ver ver' flag maker ms ns zero-code z t e = let o : read ver 0 flag ≡ refused k = ap (λ (l : Left). l.outcome) e in cc
read-inv true (gate_refused_at k p) code ver ver' flag maker ms ns zero-code z t e = let o : read ver 0 flag ≡ refused_at k p = ap (λ (l : Left). l.outcome) e in cc
read-inv true passed code ver ver' flag maker ms ns false z t e =
    let o : read ver 0 flag ≡ read ver' code 0 = ap (λ (l : Left). l.outcome) e in
    let c : code ≡ 0 = cc in
    let same : eqb 0 0 ≡ false = ap (λ (x : ℕ). eqb x 0) (sym c) ∙ z in
    cc
read-inv true passed code ver ver' flag maker ms ns true z (refuse j) e = let o : read ver 0 flag ≡ refused j = ap (λ (l : Left). l.outcome) e in cc
read-inv true passed code ver ver' flag maker ms ns true z (told x) e =
    let o : read ver 0 flag ≡ read ver' 0 x.0 = ap (λ (l : Left). l.outcome) e in
    let v : ver' ≡ ver = cc in
    let f : x.0 ≡ flag = cc in
    let back = sym e in
    (refl, eqb-true code 0 z, v, λ i. told (f i, ((back i).maker, (back i).modules)))

gate-inv : (asked there adr cid1 known beside : Bool) → cond (not asked) (gate_refused 34) (cond (not there) (gate_refused 23) (cond (not adr) (gate_refused 11) (cond (not cid1) (gate_refused 12) (cond (not known) (gate_refused 13) (cond beside (gate_refused 14) passed))))) ≡ passed
    → (there ≡ true) × (adr ≡ true) × (cid1 ≡ true)
gate-inv true true true true known beside e = (refl, refl, refl)
gate-inv true true true false known beside e = cc
gate-inv true true false cid1 known beside e = cc
gate-inv true false adr cid1 known beside e = cc
gate-inv false there adr cid1 known beside e = cc

module _ (t : Table) (q : Question) (c : List ℕ) (reading : Reading) (reads : Reads (read_reply (keeps t) (members t) q c) t reading) (ver : ℕ) (was_read : reading.outcome ≡ Ok (record { ver = ver; code = 0; flag = 0 })) where
  -- the frame that was read
  record Came : Type 0 where
    pub info : List ℕ
    pub encodes : Encodes (header c) info c
    pub is-header : header c ≡ record { ver = ver; adr = q.adr; cid1 = 0x46; cid2 = 0 }
    pub there : place_of q.adr (members t) < length (members t)
    pub taken : took (form_of q.cid2 q.command) (members t) q.adr info ≡ told (0, (reading.maker, members reading.table))

  came : Came
  unfolding read_reply gate frame_gate has_member
  came =
      let ms = members t in
      let w = words c in
      let left : leaves (read ver 0 0) reading.maker (members reading.table) ≡ read_reply (keeps t) ms q c =
      ap (λ (o : Result Reply Fault). leaves (paper o) reading.maker (members reading.table)) (sym was_read) ∙ reads.is in
      let r = read-inv (keeps t) (gate ms q w) w.header.cid2 ver w.header.ver 0 reading.maker ms (members reading.table) _ refl _ left in
      let f = gate-passes c w refl ms q r.0 in
      let h = header c in
      let same = words_of h f.0 c f.1 in
      let p = gate-inv (asks q) (has_member q.adr ms) (eqb h.adr q.adr) (eqb h.cid1 0x46) (is_return_code h.cid2) (not (eqb h.cid2 0) && not (eqb (2 * length f.0) 0)) (ap (gate ms q) same ∙ r.0) in
      let v : h.ver ≡ ver = ap (λ (x : Words). x.header.ver) same ∙ r.2 in
      let a : h.adr ≡ q.adr = eqb-true h.adr q.adr p.1 in
      let d : h.cid1 ≡ 0x46 = eqb-true h.cid1 0x46 p.2 in
      let z : h.cid2 ≡ 0 = ap (λ (x : Words). x.header.cid2) same ∙ r.1 in
      let spelt : f.0 ≡ unhexes (info_at w.lenid c) =
      sym (unhexes-hexes f.0 f.1.body) ∙ ap unhexes (sym (info-at h f.0 c f.1)) ∙ ap (λ (x : Words). unhexes (info_at x.lenid c)) same in
      record {
        info = f.0;
        encodes = f.1;
        is-header = λ i. record { ver = v i; adr = a i; cid1 = d i; cid2 = z i };
        there = ltb-true (place_of q.adr ms) (length ms) p.0;
        taken = ap (took (form_of q.cid2 q.command) ms q.adr) spelt ∙ r.3;
      }

module _ (t : Table) (q : Question) (c : List ℕ) (reading : Reading) (reads : Reads (read_reply (keeps t) (members t) q c) t reading) (st : Station) (s : List ℕ) (a : Again q reading st s) where
  same_chars : chars (reply_header st (words s) 0) (info_for st (members reading.table) (words s) 0) ≡ c
  unfolding info_for
  same_chars =
      let ns = members reading.table in
      let f = came t q c reading reads st.ver a.was_read in
      let again = info-again (members t) q.adr f.there f.info f.encodes.body reading.maker ns st (form_of q.cid2 q.command) a.same_maker f.taken in
      let head : reply_header st (words s) 0 ≡ header c = (λ i. record { ver = st.ver; adr = a.same_adr i; cid1 = 0x46; cid2 = 0 }) ∙ sym f.is-header in
      let info : info_by (kind_asked (words s)) st ns (words s).header.adr ≡ f.info = (λ i. info_by (a.same_form i) st ns (a.same_adr i)) ∙ again in
      (λ i. chars (head i) (info i)) ∙ sym f.encodes.is

  -- the answer is the reply that was read
  pub read-is-answered : (out out' : List ℕ) (r : Replied) (n : ℕ) → Answers (answer (keeps reading.table) reading.table.count st (members reading.table) s out) r out' → r.answered ≡ Ok (Some n)
      → let text = SOI ∷ (c ++ CR ∷ []) in (n ≡ length text) × (out' ≡ written text out)
  unfolding encode
  read-is-answered out out' r n answers replied =
      let p = replied-with st reading.table s out out' r answers n replied in
      let codes : Code p.1.0 ≡ Code 0 = sym p.1.1 ∙ a.said in
      let code : p.1.0 ≡ 0 = cc in
      let text : encode (reply_header st (words s) p.1.0) (info_for st (members reading.table) (words s) p.1.0) ≡ SOI ∷ (c ++ CR ∷ []) =
      (λ i. encode (reply_header st (words s) (code i)) (info_for st (members reading.table) (words s) (code i))) ∙ ap (λ (l : List ℕ). SOI ∷ (l ++ CR ∷ [])) same_chars in
      (p.1.2.0 ∙ ap length text, p.1.2.1 ∙ ap (λ (l : List ℕ). written l out) text)

-- the question itself, asked again, is such a stretch, where its member is on and no link fault is in its way
pub asked-again : (t : Table) (q : Question) (c : List ℕ) (reading : Reading) → Reads (read_reply (keeps t) (members t) q c) t reading → keeps t ≡ true → asks q ≡ true
    → (st : Station) → reading.outcome ≡ Ok (record { ver = st.ver; code = 0; flag = 0 }) → (form_of q.cid2 q.command ≡ Maker → st.maker ≡ reading.maker) → AskedBytes st.ver q
    → let ns = members reading.table in is_on (member_at q.adr ns) ≡ true → ((terms_of (kind_of q.cid2)).has_command ≡ true → fault_for q.command ns q.adr ≡ false) → Again q reading st (asking st.ver q)
asked-again t q c reading reads kept asked st was_read same_maker bytes on none =
    record {
      was_read = was_read;
      same_maker = same_maker;
      same_adr = sym (question-adr st.ver q bytes);
      same_form = sym (question-form st.ver q bytes);
      said = question-answered st.ver q bytes st refl (members reading.table) (keeps-parts reading.table (reading-keeps t q c reading reads kept)).1 on none asked;
    }
