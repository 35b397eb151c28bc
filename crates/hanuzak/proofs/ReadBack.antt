-- Over the calls themselves, for every lent table: what `hanuzak_answer` answers is read back by `hanuzak_read_reply`, what the table is after each, and that its rule holds again.
use Rattle.std.proofs.Common.{◌≡◌, refl, sym, ap, ◌∙◌, subst, ◌⊎◌, inl, inr, ⊎_elim, Bool, true, false, cond, List, ℕ, arith, length, take, drop, take_at, ltb, eqb, lt-ltb, eq-eqb, eqb-true}
use Rattle.buffer.proofs.Lists.{by_cond}
use Rattle.frame.specs.Frame.{chars, encode, Encodes, between}
use Rattle.record.specs.declared.Module.{Module}
use Rattle.table.specs.declared.Station.{Station}
use Rattle.table.specs.Table.{has_member}
use Rattle.table.specs.Rule.{rule}
use Rattle.command.specs.declared.Kind.{Kind}
use Rattle.command.specs.declared.Kind.TheVariants.{TurnOff}
use Rattle.command.specs.Command.{kind_of, form_of, paper}
use Rattle.command.specs.Heard.{Words, words}
use Rattle.standin.specs.Says.{Speech, Silent, Code, decide}
use Rattle.standin.specs.Answer.{kind_asked, info_for, reply_header, off_for, off_at, Left, reply, refused, leaves, written, says, answer}
use Rattle.standin.proofs.Replies.{said-on}
use Rattle.standin.proofs.Members.{member-in}
use Rattle.reply.specs.declared.gate.Question.{Question}
use Rattle.reply.specs.Gate.{asks}
use Rattle.reply.specs.Read as Read
use Rattle.flat.specs.declared.FlatAnswered.{FlatAnswered}
use Rattle.flat.specs.declared.FlatReply.{FlatReply}
use Rattle.flat.specs.Flat.{answered_of, reply_of}
use Rattle.record.specs.Nothing.{no_maker}
use Rattle.meet.specs.Copied.{OfBytes, copied, maker_for, Alike}
use Rattle.meet.specs.Read.{own_question}
use Rattle.meet.specs.Off.{TurnedOff}
use Rattle.meet.proofs.Dealt.{copied-same}
use Rattle.meet.proofs.Sent.{adr_small, between-text, reply-encodes}
use Rattle.meet.proofs.Meet.{said-asks, data-is-read, code-is-read}
use Rattle.meet.proofs.Kept.{off-rule}
use Rattle.meet.proofs.Readings.{read-rule}
use Rattle.meet.proofs.Off.{off-has, accepted-off, none-off, refused-stays, other-stays}
use Rattle.hanuzak.specs.Answering.{Then, answering, Leaves}
use Rattle.hanuzak.specs.Reading.{ReadThen, reading, ReplyLeaves}

-- ---- what the stand-in leaves: no reply and no record off, or the reply with the code that was said

module _ (st : Station) (ms : List Module) (w : Words) (out : List ℕ) where
  abbrev text : ℕ → List ℕ
  text code = encode (reply_header st w code) (info_for st ms w code)

  abbrev Mute : Left → Type 0
  Mute l = (l.off ≡ length ms) × ((answered_of l.outcome).kind ≡ 1 → ⊥)

  abbrev Spoke : Bool → Speech → Left → Type 0
  Spoke kept said l = (kept ≡ true) × ((code : ℕ) × (said ≡ Code code) × (l ≡ leaves (reply (length (text code))) (off_for (length ms) ms w code) (written (text code) out)))

  mute-or-spoke : (short kept : Bool) (said : Speech)
      → let l = cond short (leaves (refused 32) (length ms) out) (cond kept (says (length ms) st ms w said out) (leaves (refused 31) (length ms) out)) in Mute l ⊎ Spoke kept said l
  unfolding says
  mute-or-spoke true kept said = inl (refl, λ e. absurd (omega (arith, e)))
  mute-or-spoke false false said = inl (refl, λ e. absurd (omega (arith, e)))
  mute-or-spoke false true Silent = inl (refl, λ e. absurd (omega (arith, e)))
  mute-or-spoke false true (Code code) = inr (refl, (code, refl, refl))

differ : (a b : ℕ) → eqb a b ≡ false → a ≡ b → ⊥
differ a b f e = let z : true ≡ false = sym (eq-eqb a b e) ∙ f in cc

-- an accepted 95H, or the table as it was
off-or-stays : (ms : List Module) (w : Words) (code : ℕ) → (off_at (off_for (length ms) ms w code) ms ≡ ms) ⊎ ((code ≡ 0) × (w.header.cid2 ≡ 0x95))
off-or-stays ms w code = pick (eqb code 0) (eqb w.header.cid2 0x95) refl refl
  where
    pick : (x y : Bool) → eqb code 0 ≡ x → eqb w.header.cid2 0x95 ≡ y → (off_at (off_for (length ms) ms w code) ms ≡ ms) ⊎ ((code ≡ 0) × (w.header.cid2 ≡ 0x95))
    pick true true p q = inr (eqb-true code 0 p, eqb-true w.header.cid2 0x95 q)
    pick true false p q = inl (other-stays ms w code (differ w.header.cid2 0x95 q))
    pick false y p q = inl (refused-stays ms w code (differ code 0 p))

-- 95H, whatever its Command
form-95 : (command : ℕ) → form_of 0x95 command ≡ TurnOff
unfolding form_of kind_of
form-95 command = by_cond (λ (k : Kind). k ≡ TurnOff) (eqb command 0xFF) (λ _. refl) (λ _. refl)

module _ (st : Station) (ms : List Module) (stretch out : List ℕ) (r : FlatAnswered) (table : List Module) (out' : List ℕ) (left : Leaves (answering st ms stretch out) r table out') where
  abbrev w : Words
  w = words stretch

  abbrev l : Left
  l = answer (rule ms) (length ms) st ms stretch out

  parts : Mute st ms w out l ⊎ Spoke st ms w out (rule ms) (decide st ms w) l
  unfolding answer
  parts = mute-or-spoke st ms w out (ltb (length out) 4112) (rule ms) (decide st ms w)

  table_is : table ≡ off_at l.off ms
  unfolding answering
  table_is = ap (λ (k : Then). k.table) left

  answered-is : r ≡ answered_of l.outcome
  unfolding answering
  answered-is = ap (λ (k : Then). k.answered) left

  -- after the call the table is as it was, or it was an accepted 95H and that one module is off
  pub answer-table : (table ≡ ms) ⊎ ((r.kind ≡ 1) × ((decide st ms w ≡ Code 0) × ((w.header.cid2 ≡ 0x95) × TurnedOff w.header.adr ms table)))
  answer-table = ⊎_elim
      (λ (m : Mute st ms w out l). inl (table_is ∙ ap (λ (k : ℕ). off_at k ms) m.0 ∙ none-off ms))
      (λ (s : Spoke st ms w out (rule ms) (decide st ms w) l).
      let code = s.1.0 in
      let off : table ≡ off_at (off_for (length ms) ms w code) ms = table_is ∙ ap (λ (k : Left). off_at k.off ms) s.1.2 in
      ⊎_elim (λ (e : off_at (off_for (length ms) ms w code) ms ≡ ms). inl (off ∙ e))
      (λ (e : (code ≡ 0) × (w.header.cid2 ≡ 0x95)).
      inr (
        ap (λ (k : FlatAnswered). k.kind) answered-is ∙ ap (λ (k : Left). (answered_of k.outcome).kind) s.1.2,
        (
          s.1.1 ∙ ap Code e.0,
          (
            e.1,
            subst (TurnedOff w.header.adr ms) (sym (off ∙ ap (λ (c : ℕ). off_at (off_for (length ms) ms w c) ms) e.0)) (accepted-off (length ms) ms w e.1),
          ),
        ),
      ))
      (off-or-stays ms w code))
      parts

  -- the rule holds again
  pub answer-rule : rule ms ≡ true → rule table ≡ true
  answer-rule e = ap rule table_is ∙ off-rule l.off ms e

  -- ---- where it replied

  module _ (bytes : OfBytes st) (replied : r.kind ≡ 1) where
    spoke : Spoke st ms w out (rule ms) (decide st ms w) l
    spoke = ⊎_elim (λ (m : Mute st ms w out l). absurd (m.1 (sym (ap (λ (k : FlatAnswered). k.kind) answered-is) ∙ replied))) (λ (s : Spoke st ms w out (rule ms) (decide st ms w) l). s) parts

    -- the reply is a whole encoding, at the front of the buffer
    pub answer-front : (code : ℕ) × (decide st ms w ≡ Code code)
        × (take r.length out' ≡ encode (reply_header st w code) (info_for st ms w code))
        × Encodes (reply_header st w code) (info_for st ms w code) (between r.length out')
    unfolding answering
    answer-front =
        let s = spoke in
        let code = s.1.0 in
        let h = reply_header st w code in
        let info = info_for st ms w code in
        let n : r.length ≡ length (encode h info) = ap (λ (k : FlatAnswered). k.length) answered-is ∙ ap (λ (k : Left). (answered_of k.outcome).length) s.1.2 in
        let o : out' ≡ written (encode h info) out = ap (λ (k : Then). k.out) left ∙ ap (λ (k : Left). k.out) s.1.2 in
        let rest = drop (length (encode h info)) out in (
          code,
          s.1.1,
          (λ i. take (n i) (o i)) ∙ take_at (encode h info) rest (length (encode h info)) refl,
          subst (Encodes h info) (sym ((λ i. between (n i) (o i)) ∙ between-text h info rest)) (reply-encodes st bytes ms s.0 w (adr_small stretch) code s.1.1),
        )

    -- what a reader of the table then has of the answer's: as many members on, where a group was asked, and the same fields of the asked record
    same-fields : Alike (kind_asked w) ms table × (copied (kind_asked w) w.header.adr ms table ≡ table)
    unfolding paper copied
    same-fields = ⊎_elim
        (λ (e : table ≡ ms). subst (λ (k : List Module). Alike (kind_asked w) ms k × (copied (kind_asked w) w.header.adr ms k ≡ k)) (sym e) (λ g. refl, copied-same (kind_asked w) w.header.adr ms))
        (λ (e : (r.kind ≡ 1) × ((decide st ms w ≡ Code 0) × ((w.header.cid2 ≡ 0x95) × TurnedOff w.header.adr ms table))).
        let k : TurnOff ≡ kind_asked w = sym (ap (λ (c : ℕ). form_of c w.command) e.1.1.0 ∙ form-95 w.command) in
        subst (λ (k : Kind). Alike k ms table × (copied k w.header.adr ms table ≡ table)) k (λ g. absurd g, refl))
        answer-table

    in_table : (q : Question) → asks q ≡ true → q.adr ≡ w.header.adr → has_member q.adr table ≡ true → (code : ℕ) → decide st ms w ≡ Code code
        → (decide st ms w ≡ Code 0 → form_of q.cid2 q.command ≡ kind_asked w) → (c : Bool) → eqb code 0 ≡ c
        → (maker : List ℕ) × (code ≡ 0 → maker ≡ maker_for (kind_asked w) st) × (Read.read_reply true table q (chars (reply_header st w code) (info_for st ms w code)) ≡ Read.leaves (Read.read st.ver code 0) maker table)
    in_table q asked same_adr there code said same_form true z =
        let zero = eqb-true code 0 z in (
          maker_for (kind_asked w) st,
          λ z. refl,
          data-is-read st bytes ms table spoke.0 w (adr_small stretch) code said q asked there same_adr zero (same_form (said ∙ ap Code zero)) same-fields.0
              ∙ (λ i. Read.leaves (Read.read st.ver (sym zero i) 0) (maker_for (kind_asked w) st) ((ap (λ (a : ℕ). copied (kind_asked w) a ms table) same_adr ∙ same-fields.1) i)),
        )
    in_table q asked same_adr there code said same_form false z₀ =
        (no_maker, λ z. absurd (differ code 0 z₀ z), code-is-read st bytes ms table spoke.0 w (adr_small stretch) code said q asked there same_adr (differ code 0 z₀))

    -- whatever was answered is read into that table, with the table's VER and the code, and leaves the table as it was: with 00H by a question that asks the same,
    -- with another code by every question at that ADR
    pub read_back : (q : Question) → asks q ≡ true → q.adr ≡ w.header.adr → (decide st ms w ≡ Code 0 → form_of q.cid2 q.command ≡ kind_asked w)
        → (told : FlatReply) (after : List Module) → ReplyLeaves (reading table q (between r.length out')) told after
        → (code : ℕ) × (decide st ms w ≡ Code code) × (told.kind ≡ 1) × (told.ver ≡ st.ver) × (told.code ≡ code) × (told.flag ≡ 0) × (code ≡ 0 → told.maker ≡ maker_for (kind_asked w) st) × (after ≡ table)
    unfolding reading has_member
    read_back q asked same_adr same_form told after e =
        let front = answer-front in
        let code = front.0 in
        let kept = spoke.0 in
        let adr = w.header.adr in
        let there : has_member q.adr table ≡ true =
        ap (λ (a : ℕ). has_member a table) same_adr ∙ ap (has_member adr) table_is ∙ off-has adr l.off ms ∙ lt-ltb _ _ (member-in adr ms (said-on st ms w code front.1)) in
        let is = in_table q asked same_adr there code front.1 same_form (eqb code 0) refl in
        let read : Read.read_reply (rule table) table q (between r.length out') ≡ Read.leaves (Read.read st.ver code 0) is.0 table =
        (λ i. Read.read_reply (answer-rule kept i) table q (front.3.is i)) ∙ is.2 in
        let has : told ≡ reply_of (Read.read st.ver code 0) is.0 =
        ap (λ (k : ReadThen). k.reply) e ∙ ap (λ (k : Read.Left). reply_of k.outcome k.maker) read in
        (code, front.1, ap (λ (k : FlatReply). k.kind) has, ap (λ (k : FlatReply). k.ver) has, ap (λ (k : FlatReply). k.code) has, ap (λ (k : FlatReply). k.flag) has, λ z. ap (λ (k : FlatReply). k.maker) has ∙ is.1 z, ap (λ (k : ReadThen). k.table) e ∙ ap (λ (k : Read.Left). k.modules) read)

    -- what was answered with 00H is so read with the stretch's own question
    pub own-read-back : decide st ms w ≡ Code 0 → (told : FlatReply) (after : List Module) → ReplyLeaves (reading table (own_question w) (between r.length out')) told after
        → (told.kind ≡ 1) × (told.ver ≡ st.ver) × (told.code ≡ 0) × (told.flag ≡ 0) × (told.maker ≡ maker_for (kind_asked w) st) × (after ≡ table)
    own-read-back said told after e =
        let b = read_back (own_question w) (said-asks st ms w said) refl (λ z. refl) told after e in
        let same : Code b.0 ≡ Code 0 = sym b.1 ∙ said in
        let zero : b.0 ≡ 0 = cc in
        (b.2, b.3, b.4 ∙ zero, b.5, b.6 zero, b.7)

-- ---- the reply reader, whatever it is given

-- the rule holds again
pub reading-rule : (ms : List Module) (q : Question) (stretch : List ℕ) (told : FlatReply) (after : List Module) → ReplyLeaves (reading ms q stretch) told after → rule ms ≡ true → rule after ≡ true
unfolding reading
reading-rule ms q stretch told after e kept = ap (λ (k : ReadThen). rule k.table) e ∙ read-rule (rule ms) ms q stretch kept
