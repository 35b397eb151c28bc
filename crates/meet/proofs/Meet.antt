-- Whatever the stand-in answers, the reply reader reads without a refusal: the frame is read back, the gate is open, and each kind of data is read back.
use Rattle.std.proofs.Common.{◌≡◌, Option, Some, Result, Ok, refl, sym, ap, ◌∙◌, subst, Bool, true, false, cond, not, ◌&&◌, ◌||◌, List, [], ℕ, zero, suc, ◌*◌, ◌<◌, arith, length, drop, ltb, eqb, lt-ltb, le-ltb, eq-eqb, ne_eqb}
use Rattle.buffer.proofs.Lists.{by_cond}
use Rattle.hex_chars.specs.Hex.{byte_at, unhexes}
use Rattle.hex_chars.proofs.Laws.{unhexes-hexes}
use Rattle.refusal.specs.declared.Refusal.{Refusal}
use Rattle.frame.specs.declared.Header.{Header}
use Rattle.frame.specs.Frame.{chars, encode, info_at, Encodes, between}
use Rattle.frame.specs.Judge.{frame}
use Rattle.frame.proofs.Judging.{judge-accepts, chars-read}
use Rattle.frame.proofs.Round.{info-at}
use Rattle.record.specs.declared.Module.{Module}
use Rattle.record.specs.Nothing.{no_maker}
use Rattle.table.proofs.rule.Fine.{both_true, keeps-parts}
use Rattle.table.specs.declared.Station.{Station}
use Rattle.table.specs.declared.Table.{Table}
use Rattle.table.specs.Table.{members, has_member, is_on, has_fault, is_master, member_at, any_fault}
use Rattle.table.specs.Rule.{rule, keeps}
use Rattle.table.proofs.changes.Ones.{table-one}
use Rattle.command.specs.declared.Kind.{Kind}
use Rattle.command.specs.Command.{kind_of, form_of, terms_of}
use Rattle.command.specs.Heard.{Words, words, number_of}
use Rattle.standin.specs.declared.Replied.{Replied}
use Rattle.standin.specs.Says.{Speech, Silent, Code, decide, unheard}
use Rattle.standin.specs.Answer as Answer
use Rattle.standin.specs.Answer.{info_by, kind_asked, info_for, reply_header, written, says, answer, Answers}
use Rattle.standin.proofs.Replies.{said-on}
use Rattle.standin.proofs.Members.{member-in}
use Rattle.reply.specs.declared.gate.Question.{Question}
use Rattle.reply.specs.declared.Reading.{Reading}
use Rattle.reply.specs.Gate.{is_return_code, asks, passed, gate, frame_gate}
use Rattle.reply.specs.Read.{Left, leaves, read, paper, took, given, read_reply, Reads}
use Rattle.reply.proofs.Ways.{way}
use Rattle.meet.specs.Copied.{OfBytes, copied, maker_for, Alike}
use Rattle.meet.specs.Read.{own_question, Takes, IsRead}
use Rattle.meet.proofs.Codes.{said-known}
use Rattle.meet.proofs.Data.{data-read}
use Rattle.meet.proofs.Dealt.{copied-same}
use Rattle.meet.proofs.Sent.{adr_small, between-text, reply-encodes}

-- ---- a question that is taken is of a served command
served-form : (cid2 command : ℕ) → (terms_of (kind_of cid2)).served ≡ true → (terms_of (form_of cid2 command)).served ≡ true
unfolding form_of terms_of
served-form cid2 command e =
    by_cond (λ (k : Kind). (terms_of k).served ≡ true) (eqb command 0xFF)
    (λ t. by_cond (λ (k : Kind). (terms_of k).served ≡ true) (eqb cid2 0x42) (λ u. refl)
    (λ u. by_cond (λ (k : Kind). (terms_of k).served ≡ true) (eqb cid2 0x44) (λ v. refl) (λ v. e)))
    (λ t. e)

asked-served : (q : Question) → asks q ≡ true → (terms_of (form_of q.cid2 q.command)).served ≡ true
unfolding asks
asked-served q e = served-form q.cid2 q.command (both_true (terms_of (kind_of q.cid2)).served _ e).0

-- ---- what is answered with 00H is a question that the reader takes: the stretch's own

past : (test : Bool) (k : ℕ) (rest : Speech) → (k ≡ 0 → ⊥) → cond test (Code k) rest ≡ Code 0 → (test ≡ false) × (rest ≡ Code 0)
past true k rest n e = let z : k ≡ 0 = cc in absurd (n z)
past false k rest n e = (refl, e)

hushed : (test : Bool) (rest : Speech) → cond test Silent rest ≡ Code 0 → rest ≡ Code 0
hushed true rest e = cc
hushed false rest e = e

ends : (has group own grouped fault : Bool)
    → cond (not has) (Code 0x00) (cond (group && not grouped) (Code 0x06) (cond (not group && not own) (Code 0x90) (cond fault (Code 0x91) (Code 0x00)))) ≡ Code 0
    → (not has || (own || (group && grouped))) ≡ true
ends false group own grouped fault e = refl
ends true true true true fault e = refl
ends true true false true fault e = refl
ends true true own false fault e = let z : ◌≡◌ {A = ℕ} 0x06 0 = cc in absurd (omega arith)
ends true false true grouped fault e = refl
ends true false false grouped fault e = let z : ◌≡◌ {A = ℕ} 0x90 0 = cc in absurd (omega arith)

yes-served : (b : Bool) → not b ≡ false → b ≡ true
yes-served true e = refl
yes-served false e = cc

pub said-asks : (st : Station) (ms : List Module) (w : Words) → decide st ms w ≡ Code 0 → asks (own_question w) ≡ true
unfolding decide asks
said-asks st ms w e =
    let number = number_of w.told in
    let adr = w.header.adr in
    let m = member_at adr ms in
    let t = terms_of (kind_of w.header.cid2) in
    let group = eqb w.command 0xFF in
    let e1 = hushed (unheard number) _ e in
    let e2 = hushed (not (is_on m)) _ e1 in
    let e3 = past (eqb number 5) 0x03 _ (λ z. omega arith) e2 in
    let e4 = past (eqb number 6 || eqb number 7) 0x05 _ (λ z. omega arith) e3.1 in
    let e5 = past (eqb number 8) 0x02 _ (λ z. omega arith) e4.1 in
    let e6 = past (not (eqb w.header.cid1 0x46)) 0x05 _ (λ z. omega arith) e5.1 in
    let e7 = past (not t.served) 0x04 _ (λ z. omega arith) e6.1 in
    let e8 = past (t.same_ver && not (eqb w.header.ver st.ver)) 0x01 _ (λ z. omega arith) e7.1 in
    let e9 = past (not (eqb w.lenid t.lenid)) 0x05 _ (λ z. omega arith) e8.1 in
    rw (yes-served t.served e7.0)
    (ends t.has_command group (eqb w.command adr) (t.has_group && is_master adr) ((group && any_fault ms) || (not group && has_fault m)) e9.1)

-- ---- the words of a frame
abbrev pub words_for : Header → List ℕ → List ℕ → Words
words_for h info c = record { told = frame h (2 * length info); header = h; lenid = 2 * length info; command = byte_at c 12 }

pub words_of : (h : Header) (info c : List ℕ) → Encodes h info c → words_for h info c ≡ words c
unfolding words
words_of h info c e =
    let g = chars-read h info c e in
    let j = (judge-accepts c h (2 * length info)).1 (info, e, refl) in
    rw (le-ltb (length c) 16 g.0.long) (λ i. record { told = sym j i; header = sym g.1 i; lenid = sym g.2 i; command = byte_at c 12 })

-- ---- the reader's gate
gate-open : (ms : List Module) (q : Question) (h : Header) (info c : List ℕ) → asks q ≡ true → has_member q.adr ms ≡ true
    → h.adr ≡ q.adr → h.cid1 ≡ 0x46 → is_return_code h.cid2 ≡ true → (not (eqb h.cid2 0) && not (eqb (2 * length info) 0)) ≡ false
    → passed ≡ gate ms q (words_for h info c)
unfolding gate frame_gate
gate-open ms q h info c e1 e2 e3 e4 e5 e6 = rw (e1, e2, eq-eqb h.adr q.adr e3, eq-eqb h.cid1 0x46 e4, e5, e6)

-- a code other than 00H has no INFO
no-info : (zero-code : Bool) (info : List ℕ) → (not zero-code && not (eqb (2 * length (cond zero-code info [])) 0)) ≡ false
no-info true info = refl
no-info false info = refl

-- ---- over the characters of the reply, and a question that passes the gate
module _ (st : Station) (bytes : OfBytes st) (ms ms' : List Module) (kept : rule ms ≡ true) (w : Words) (small : w.header.adr < 256) (code : ℕ) (said : decide st ms w ≡ Code code)
    (q : Question) (asked : asks q ≡ true) (there : has_member q.adr ms' ≡ true) (at : q.adr ≡ w.header.adr) where
  by_code_lem : read_reply true ms' q (chars (reply_header st w code) (info_for st ms w code))
      ≡ cond (eqb code 0) (given st.ver ms' (took (form_of q.cid2 q.command) ms' q.adr (info_for st ms w code))) (leaves (read st.ver code 0) no_maker ms')
  unfolding info_for
  by_code_lem =
      let h = reply_header st w code in
      let info = info_for st ms w code in
      let c = chars h info in
      let e = reply-encodes st bytes ms kept w small code said in
      let open-gate = gate-open ms' q h info c asked there (sym at) refl (said-known st ms w code said).0 (no-info (eqb code 0) (info_by (kind_asked w) st ms w.header.adr)) in
      let spelt : unhexes (info_at (2 * length info) c) ≡ info = ap unhexes (info-at h info c e) ∙ unhexes-hexes info e.body in
      sym (way true ms' q c refl (words_for h info c) (words_of h info c e) passed open-gate)
      ∙ (λ i. cond (eqb code 0) (given st.ver ms' (took (form_of q.cid2 q.command) ms' q.adr (spelt i))) (leaves (read st.ver code 0) no_maker ms'))

  pub data-is-read : code ≡ 0 → form_of q.cid2 q.command ≡ kind_asked w → Alike (kind_asked w) ms ms'
      → read_reply true ms' q (chars (reply_header st w code) (info_for st ms w code)) ≡ leaves (read st.ver 0 0) (maker_for (kind_asked w) st) (copied (kind_asked w) q.adr ms ms')
  unfolding info_for
  data-is-read zero-code same_form alike =
      let adr = w.header.adr in
      let k = kind_asked w in
      let taken = data-read st bytes ms kept adr small (said-on st ms w code said) ms' k (ap (λ (x : Kind). (terms_of x).served) (sym same_form) ∙ asked-served q asked) alike in
      by_code_lem
      ∙ rw (eq-eqb code 0 zero-code)
      ((λ i. given st.ver ms' (took (same_form i) ms' (at i) (info_by k st ms adr)))
      ∙ ap (given st.ver ms') taken
      ∙ (λ i. leaves (read st.ver 0 0) (maker_for k st) (copied k (sym at i) ms ms')))

  pub code-is-read : (code ≡ 0 → ⊥) → read_reply true ms' q (chars (reply_header st w code) (info_for st ms w code)) ≡ leaves (read st.ver code 0) no_maker ms'
  code-is-read other = by_code_lem ∙ rw (ne_eqb code 0 other)

-- ---- over the contracts of the two

-- a reply comes of a table that keeps its rule, and of a code
spoken : (none : ℕ) (st : Station) (ms : List Module) (w : Words) (short kept : Bool) (said : Speech) (out out' : List ℕ) (n off : ℕ)
    → Answer.leaves (Answer.reply n) off out' ≡ cond short (Answer.leaves (Answer.refused 32) none out) (cond kept (says none st ms w said out) (Answer.leaves (Answer.refused 31) none out))
    → (kept ≡ true)
    × ((code : ℕ) × (said ≡ Code code)
    × (let text = encode (reply_header st w code) (info_for st ms w code) in (n ≡ length text) × (out' ≡ written text out)))
unfolding says
spoken none st ms w true kept said out out' n off e = let o : Answer.reply n ≡ Answer.refused 32 = ap (λ (l : Answer.Left). l.outcome) e in cc
spoken none st ms w false false said out out' n off e = let o : Answer.reply n ≡ Answer.refused 31 = ap (λ (l : Answer.Left). l.outcome) e in cc
spoken none st ms w false true Silent out out' n off e = let o : Answer.reply n ≡ Answer.silence = ap (λ (l : Answer.Left). l.outcome) e in cc
spoken none st ms w false true (Code code) out out' n off e =
    let text = encode (reply_header st w code) (info_for st ms w code) in
    let o : Answer.reply n ≡ Answer.reply (length text) = ap (λ (l : Answer.Left). l.outcome) e in
    let count : n ≡ length text = cc in
    (refl, (code, refl, (count, ap (λ (l : Answer.Left). l.out) e)))

module _ (st : Station) (t : Table) (s out out' : List ℕ) (r : Replied) (answered : Answers (answer (keeps t) t.count st (members t) s out) r out')
    (n : ℕ) (replied : r.answered ≡ Ok (Some n)) where
  pub replied-with : (keeps t ≡ true)
      × ((code : ℕ) × (decide st (members t) (words s) ≡ Code code)
      × (let text = encode (reply_header st (words s) code) (info_for st (members t) (words s) code) in (n ≡ length text) × (out' ≡ written text out)))
  unfolding answer
  replied-with =
      spoken t.count st (members t) (words s) (ltb (length out) 4112) (keeps t) (decide st (members t) (words s)) out out' n r.off
      (ap (λ (a : Result (Option ℕ) Refusal). Answer.leaves (Answer.paper a) r.off out') (sym replied) ∙ answered)

module _ (st : Station) (bytes : OfBytes st) (t : Table) (s out out' : List ℕ) (r : Replied) (answered : Answers (answer (keeps t) t.count st (members t) s out) r out')
    (n : ℕ) (replied : r.answered ≡ Ok (Some n)) where
  pub answer-is-read : IsRead st t s (between n out')
  unfolding has_member
  answer-is-read =
      let p = replied-with st t s out out' r answered n replied in
      let ms = members t in
      let w = words s in
      let code = p.1.0 in
      let said = p.1.1 in
      let h = reply_header st w code in
      let info = info_for st ms w code in
      let sent : between n out' ≡ chars h info =
      (λ i. between (p.1.2.0 i) (p.1.2.1 i)) ∙ between-text h info (drop (length (encode h info)) out) in
      let kept = (keeps-parts t p.0).1 in
      record {
        code = code;
        said = said;
        whole = subst (Encodes h info) (sym sent) (reply-encodes st bytes ms kept w (adr_small s) code said);
        own = λ z.
            record {
              kept = p.0;
              asked = said-asks st ms w (said ∙ ap Code z);
              there = lt-ltb _ _ (member-in w.header.adr ms (said-on st ms w code said));
              at = refl;
            };
        fields = λ z t' q a same_form alike reading reads.
            reads.is
            ∙ (λ i. read_reply (a.kept i) (members t') q (sent i))
            ∙ data-is-read st bytes ms (members t') kept w (adr_small s) code said q a.asked a.there a.at z same_form alike;
        code_alone = λ z t' q a reading reads.
            reads.is
            ∙ (λ i. read_reply (a.kept i) (members t') q (sent i))
            ∙ code-is-read st bytes ms (members t') kept w (adr_small s) code said q a.asked a.there a.at z;
      }

  -- over the table that answered, before a 95H changes it: read back with its code, and nothing of the table is changed
  pub own-answer : (q : Question) → Takes t q (words s).header.adr → form_of q.cid2 q.command ≡ kind_asked (words s)
      → (reading : Reading) → Reads (read_reply (keeps t) (members t) q (between n out')) t reading → (paper reading.outcome ≡ read st.ver answer-is-read.code 0) × (reading.table ≡ t)
  own-answer q takes same_form reading reads = by_code_lem answer-is-read.code refl
    where
      is-left : (code : ℕ) (maker : List ℕ) (ms : List Module) → leaves (paper reading.outcome) reading.maker (members reading.table) ≡ leaves (read st.ver code 0) maker ms → ms ≡ members t
          → (paper reading.outcome ≡ read st.ver code 0) × (reading.table ≡ t)
      is-left code maker ms e same = (ap (λ (l : Left). l.outcome) e, table-one t reading.table t reads.kept (refl, refl) (ap (λ (l : Left). l.modules) e ∙ same))

      by_code_lem : (code : ℕ) → answer-is-read.code ≡ code → (paper reading.outcome ≡ read st.ver code 0) × (reading.table ≡ t)
      by_code_lem zero z = is-left 0 _ _ (answer-is-read.fields z t q takes same_form (λ g. refl) reading reads) (copied-same (kind_asked (words s)) q.adr (members t))
      by_code_lem (suc k) z = is-left (suc k) _ _ (answer-is-read.code_alone (λ e. omega arith) t q takes reading reads ∙ (λ i. leaves (read st.ver (z i) 0) no_maker (members t))) refl
