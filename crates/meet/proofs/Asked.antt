-- A question that the reply reader takes, sent to a member that is on, asks what the reader then reads; with the table's VER and no link fault in its way it is answered with 00H. The frame is read back, then down the column with each test known.
use Rattle.std.proofs.Common.{◌≡◌, refl, sym, ap, ◌∙◌, Bool, true, false, cond, not, ◌&&◌, ◌||◌, List, [], ◌∷◌, ℕ, ◌*◌, ◌≤◌, ◌<◌, arith, length, eqb, eq-eqb, eqb-true}
use Rattle.std.proofs.Math.Bool.{and-false}
use Rattle.buffer.proofs.Lists.{by_cond}
use Rattle.hex_chars.specs.Hex.{byte_at, hexes, Bytes}
use Rattle.hex_chars.proofs.Laws.{byte_pair}
use Rattle.frame.specs.declared.Header.{Header}
use Rattle.frame.specs.Frame.{packed, seal, chars, Encodes}
use Rattle.record.specs.declared.Module.{Module}
use Rattle.record.specs.Address.{is_address}
use Rattle.table.proofs.rule.Fine.{both_true}
use Rattle.table.specs.declared.Station.{Station}
use Rattle.table.specs.Table.{is_on, is_master, member_at}
use Rattle.table.specs.Rule.{rule}
use Rattle.command.specs.declared.Kind.{Kind}
use Rattle.command.specs.declared.Kind.TheVariants.{Analog, AnalogGroup, Alarm, AlarmGroup, Parameters, Protocol, Maker, Limits, Serial, TurnOff, Version, Unserved}
use Rattle.command.specs.Command.{kind_of, form_of, terms_of}
use Rattle.command.specs.Heard.{Words, number_of, words}
use Rattle.standin.specs.Says.{Code, decide}
use Rattle.standin.specs.Answer.{kind_asked}
use Rattle.standin.proofs.Members.{member-adr, member-fine}
use Rattle.reply.specs.declared.gate.Question.{Question}
use Rattle.reply.specs.Gate.{asks}
use Rattle.meet.specs.Asked.{question_header, question_info, asking, AskedBytes, fault_for}
use Rattle.meet.proofs.Meet.{words_for, words_of}

-- LENID of a question is that of its command
lenid-asked : (k : Kind) (command : ℕ) → 2 * length (cond (terms_of k).has_command (command ∷ []) []) ≡ (terms_of k).lenid
unfolding terms_of
lenid-asked Analog command = refl
lenid-asked AnalogGroup command = refl
lenid-asked Alarm command = refl
lenid-asked AlarmGroup command = refl
lenid-asked Parameters command = refl
lenid-asked Protocol command = refl
lenid-asked Maker command = refl
lenid-asked Limits command = refl
lenid-asked Serial command = refl
lenid-asked TurnOff command = refl
lenid-asked Version command = refl
lenid-asked Unserved command = refl

-- INFO's first byte
first-info : (h : Header) (b : ℕ) (info : List ℕ) → b < 256 → byte_at (chars h (b ∷ info)) 12 ≡ b
unfolding chars seal packed hexes byte_at
first-info h b info s = byte_pair b s

-- a command without a Command byte is the same form with any
not-grouped : (x y : Bool) (rest : Kind) → (terms_of (cond x Analog (cond y Alarm rest))).has_command ≡ false
    → cond x AnalogGroup (cond y AlarmGroup (cond x Analog (cond y Alarm rest))) ≡ cond x Analog (cond y Alarm rest)
unfolding terms_of
not-grouped true y rest e = cc
not-grouped false true rest e = cc
not-grouped false false rest e = refl

plain_form : (cid2 command : ℕ) → (terms_of (kind_of cid2)).has_command ≡ false → form_of cid2 command ≡ kind_of cid2
unfolding form_of kind_of
plain_form cid2 command e =
    by_cond (λ (k : Kind). k ≡ kind_of cid2) (eqb command 0xFF) (λ t. not-grouped (eqb cid2 0x42) (eqb cid2 0x44) _ e) (λ t. refl)

-- the last lines of the column
column-end : (has-command group own grouped fault : Bool) → (not has-command || (own || (group && grouped))) ≡ true → (group ≡ true → own ≡ true → ⊥) → (has-command ≡ true → fault ≡ false)
    → cond (not has-command) (Code 0x00) (cond (group && not grouped) (Code 0x06) (cond (not group && not own) (Code 0x90) (cond fault (Code 0x91) (Code 0x00)))) ≡ Code 0x00
column-end false group own grouped fault e n f = refl
column-end true true true grouped fault e n f = absurd (n refl refl)
column-end true true false true fault e n f = rw (f refl)
column-end true true false false fault e n f = cc
column-end true false true grouped fault e n f = rw (f refl)
column-end true false false grouped fault e n f = cc

module _ (ver : ℕ) (q : Question) (bytes : AskedBytes ver q) where
  question-encodes : Encodes (question_header ver q) (question_info q) (asking ver q)
  unfolding asking
  question-encodes =
      record {
        head = (bytes.ver_small, (bytes.adr_small, (omega arith, (bytes.cid2_small, tt))));
        body = by_cond Bytes (terms_of (kind_of q.cid2)).has_command (λ t. (bytes.command_small, tt)) (λ t. tt);
        short = by_cond (λ (l : List ℕ). length l ≤ 2047) (terms_of (kind_of q.cid2)).has_command (λ t. omega arith) (λ t. omega arith);
        is = refl;
      }

  question-words : words_for (question_header ver q) (question_info q) (asking ver q) ≡ words (asking ver q)
  question-words = words_of (question_header ver q) (question_info q) (asking ver q) question-encodes

  command-at : (terms_of (kind_of q.cid2)).has_command ≡ true → byte_at (asking ver q) 12 ≡ q.command
  unfolding asking
  command-at e =
      ap (λ (b : Bool). byte_at (chars (question_header ver q) (cond b (q.command ∷ []) [])) 12) e ∙ first-info (question_header ver q) q.command [] bytes.command_small

  -- the stretch asks for what the reader will read
  pub question-adr : q.adr ≡ (words (asking ver q)).header.adr
  question-adr = ap (λ (w : Words). w.header.adr) question-words

  pub question-form : form_of q.cid2 q.command ≡ kind_asked (words (asking ver q))
  question-form = by-command (terms_of (kind_of q.cid2)).has_command refl ∙ ap kind_asked question-words
    where
      by-command : (b : Bool) → (terms_of (kind_of q.cid2)).has_command ≡ b → form_of q.cid2 q.command ≡ form_of q.cid2 (byte_at (asking ver q) 12)
      by-command true e = ap (form_of q.cid2) (sym (command-at e))
      by-command false e = plain_form q.cid2 q.command e ∙ sym (plain_form q.cid2 (byte_at (asking ver q) 12) e)

  -- with the table's VER, at a member that is on, and no link fault in its way: 00H
  module _ (st : Station) (same-ver : ver ≡ st.ver) (ms : List Module) (kept : rule ms ≡ true) (on : is_on (member_at q.adr ms) ≡ true) (none : (terms_of (kind_of q.cid2)).has_command ≡ true → fault_for q.command ms q.adr ≡ false)
      (asked : asks q ≡ true) where
    not_255 : (x : ℕ) → eqb x 0xFF ≡ true → eqb x q.adr ≡ true → ⊥
    unfolding is_address
    not_255 x g o =
        let e : q.adr ≡ 0xFF = sym (eqb-true x q.adr o) ∙ eqb-true x 0xFF g in
        let a : is_address 0xFF ≡ true = ap is_address (sym e) ∙ ap is_address (sym (member-adr q.adr ms on)) ∙ (member-fine q.adr ms on kept).address in
        let z : false ≡ true = a in
        cc

    -- Command, where there is one, is what the reader would take
    fits : (not (terms_of (kind_of q.cid2)).has_command || (eqb q.command q.adr || (eqb q.command 0xFF && ((terms_of (kind_of q.cid2)).has_group && is_master q.adr)))) ≡ true
        → (b : Bool) → (terms_of (kind_of q.cid2)).has_command ≡ b
        → (not (terms_of (kind_of q.cid2)).has_command || (eqb (byte_at (asking ver q) 12) q.adr || (eqb (byte_at (asking ver q) 12) 0xFF && ((terms_of (kind_of q.cid2)).has_group && is_master q.adr)))) ≡ true
    fits a true e = rw (command-at e) a
    fits a false e = rw e

    pub question-answered : decide st ms (words (asking ver q)) ≡ Code 0x00
    unfolding decide number_of asks
    question-answered =
        let t = terms_of (kind_of q.cid2) in
        let x = byte_at (asking ver q) 12 in
        let p = both_true t.served _ asked in
        ap (decide st ms) (sym question-words)
        ∙ rw (on, p.0, eq-eqb ver st.ver same-ver, and-false t.same_ver, eq-eqb (2 * length (question_info q)) t.lenid (lenid-asked (kind_of q.cid2) q.command))
        (column-end t.has_command (eqb x 0xFF) (eqb x q.adr) (t.has_group && is_master q.adr) (fault_for x ms q.adr) (fits p.1 t.has_command refl) (not_255 x)
        (λ e. ap (λ (y : ℕ). fault_for y ms q.adr) (command-at e) ∙ none e))
