-- The reply reader passes a place on: only its gate gives one, and the gate only the judge's; where nothing comes before the judge, it does.
use Rattle.std.proofs.Common.{◌≡◌, sym, ap, ◌∙◌, Bool, true, false, cond, not, List, ℕ, arith}
use Rattle.refusal.specs.declared.Refusal.{Refusal}
use Rattle.refusal.specs.Number.{number}
use Rattle.frame.specs.Judge.{Told, nothing, frame, refused as judged_refused, refused_at as judged_refused_at}
use Rattle.frame.specs.Place.{Placed}
use Rattle.frame.proofs.Places.{placed}
use Rattle.record.specs.declared.Module.{Module}
use Rattle.record.specs.Nothing.{no_maker}
use Rattle.table.specs.declared.Table.{Table}
use Rattle.table.specs.Table.{members, has_member}
use Rattle.table.specs.Rule.{keeps}
use Rattle.command.specs.Heard.{Words, words}
use Rattle.command.proofs.Ones.{told_is}
use Rattle.reply.specs.declared.gate.Question.{Question}
use Rattle.std.specs.Prelude.{Some, Err}
use Rattle.reply.specs.declared.Reading.{Reading}
use Rattle.reply.specs.Gate.{refused as gate_refused, refused_at as gate_refused_at, asks, frame_gate, judged_first, gate}
use Rattle.reply.specs.Read.{refused_at, paper, Left, leaves, by_code, read_reply, Reads}

-- of an outcome with a place
abbrev At : ℕ → ℕ → Left → Type 0
At k p l = l.outcome ≡ refused_at k p

module _ (k p : ℕ) where
  code-none : (ms : List Module) (q : Question) (w : Words) (info : List ℕ) → At k p (by_code ms q w info) → ⊥
  code-none ms q w info e = grind arith

  frame-none : (q : Question) (w : Words) → frame_gate q w ≡ gate_refused_at k p → ⊥
  unfolding frame_gate
  frame-none q w e = grind arith

  gate-at : (ms : List Module) (q : Question) (w : Words) → gate ms q w ≡ gate_refused_at k p → w.told ≡ judged_refused_at k p
  unfolding gate
  gate-at ms q w = go (not (asks q)) (not (has_member q.adr ms)) w.told
    where
      go : (a b : Bool) (t : Told) → cond a (gate_refused 34) (cond b (gate_refused 23) (judged_first t (frame_gate q w))) ≡ gate_refused_at k p → t ≡ judged_refused_at k p
      go true b t e = cc
      go false true t e = cc
      go false false nothing e = absurd (frame-none q w e)
      go false false (frame h n) e = absurd (frame-none q w e)
      go false false (judged_refused n) e = cc
      go false false (judged_refused_at n m) e = cc

  read-at : (keeps : Bool) (ms : List Module) (q : Question) (c : List ℕ) → At k p (read_reply keeps ms q c) → gate ms q (words c) ≡ gate_refused_at k p
  unfolding read_reply
  read-at keeps ms q c e = grind (arith, code-none)

module _ (keeps : Bool) (ms : List Module) (q : Question) (c : List ℕ) (k p : ℕ) where
  -- only such a stretch
  pub left-placed : At k p (read_reply keeps ms q c) → Placed c k p
  left-placed is = (placed k p c).0 (sym (told_is c) ∙ gate-at k p ms q (words c) (read-at k p keeps ms q c is))

  -- and each of them, where the table keeps its rule and the question can be asked of it
  pub placed-left : keeps ≡ true → asks q ≡ true → has_member q.adr ms ≡ true → Placed c k p → read_reply keeps ms q c ≡ leaves (refused_at k p) no_maker ms
  unfolding read_reply gate
  placed-left kept asked there b = let said = told_is c ∙ (placed k p c).1 b in rw (kept, asked, there, said)

-- over the reader's contract
module _ (t : Table) (q : Question) (c : List ℕ) (r : Reading) (reads : Reads (read_reply (keeps t) (members t) q c) t r) where
  -- the place that it hands back is that of the first character that isn't hex, whatever the table and the question
  pub reading-placed : (why : Refusal) (p : ℕ) → r.outcome ≡ Err (record { refusal = why; place = Some p }) → Placed c (number why) p
  reading-placed why p e = left-placed (keeps t) (members t) q c (number why) p (sym (ap (λ (l : Left). l.outcome) reads.is) ∙ ap paper e)

  -- and where the table keeps its rule and the question can be asked of it, every such stretch gives one, and no record changes
  pub placed-reading : keeps t ≡ true → asks q ≡ true → has_member q.adr (members t) ≡ true → (k p : ℕ) → Placed c k p
      → (paper r.outcome ≡ refused_at k p) × (members r.table ≡ members t)
  placed-reading kept asked there k p b =
      let is = reads.is ∙ placed-left (keeps t) (members t) q c k p kept asked there b in
      (ap (λ (l : Left). l.outcome) is, ap (λ (l : Left). l.modules) is)
