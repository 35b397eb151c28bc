-- For C, over the lent table: the reply reader hands the place of a character that isn't hex back, and the stand-in is silent.
use Rattle.std.proofs.Common.{◌≡◌, refl, sym, ap, ◌∙◌, subst, true, List, ℕ, suc, ◌≤◌, arith, length}
use Rattle.frame.specs.Place.{Placed}
use Rattle.record.specs.declared.Module.{Module}
use Rattle.table.specs.declared.Station.{Station}
use Rattle.table.specs.Table.{has_member}
use Rattle.table.specs.Rule.{rule}
use Rattle.standin.specs.Answer.{answer}
use Rattle.standin.proofs.Silent.{answer-silent}
use Rattle.reply.specs.declared.gate.Question.{Question}
use Rattle.reply.specs.Gate.{asks}
use Rattle.reply.specs.Read as Read
use Rattle.reply.proofs.Places.{left-placed, placed-left}
use Rattle.meet.proofs.Off.{none-off}
use Rattle.flat.specs.declared.FlatAnswered.{FlatAnswered}
use Rattle.flat.specs.declared.FlatReply.{FlatReply}
use Rattle.flat.specs.Flat.{reply_of}
use Rattle.hanuzak.specs.Answering.{Then, then_of, answering, Leaves}
use Rattle.hanuzak.specs.Reading.{ReadThen, read_then, reading, ReplyLeaves}

-- ---- any result that the contract of `hanuzak_read_reply` allows

module _ (ms : List Module) (q : Question) (c : List ℕ) (told : FlatReply) (after : List Module) (e : ReplyLeaves (reading ms q c) told after) where
  -- where the table keeps its rule and the question can be asked of it, every such stretch is refused with its number and its place, and no record changes
  pub reply-placed : rule ms ≡ true → asks q ≡ true → has_member q.adr ms ≡ true → (k p : ℕ) → Placed c k p
      → (told.kind ≡ 2) × (told.number ≡ k) × (told.place ≡ p) × (after ≡ ms)
  unfolding reading
  reply-placed kept asked there k p b =
      let is = e ∙ ap read_then (placed-left (rule ms) ms q c k p kept asked there b) in
      (ap (λ (x : ReadThen). x.reply.kind) is, ap (λ (x : ReadThen). x.reply.number) is, ap (λ (x : ReadThen). x.reply.place) is, ap (λ (x : ReadThen). x.table) is)

  -- and a place other than 0 is that of such a stretch, whatever the table and the question
  pub place-of-reply : (p : ℕ) → told.place ≡ suc p → Placed c told.number (suc p)
  unfolding reading
  place-of-reply p at = go (Read.read_reply (rule ms) ms q c).outcome refl
    where
      maker : List ℕ
      maker = (Read.read_reply (rule ms) ms q c).maker

      go : (o : Read.Outcome) → (Read.read_reply (rule ms) ms q c).outcome ≡ o → Placed c told.number (suc p)
      go (Read.read ver code flag) is = absurd (omega (arith, at, ap (λ (x : ReadThen). x.reply.place) e ∙ ap (λ (x : Read.Outcome). (reply_of x maker).place) is))
      go (Read.refused k) is = absurd (omega (arith, at, ap (λ (x : ReadThen). x.reply.place) e ∙ ap (λ (x : Read.Outcome). (reply_of x maker).place) is))
      go (Read.refused_at k p') is =
          let number : told.number ≡ k = ap (λ (x : ReadThen). x.reply.number) e ∙ ap (λ (x : Read.Outcome). (reply_of x maker).number) is in
          let place : p' ≡ suc p = sym (ap (λ (x : ReadThen). x.reply.place) e ∙ ap (λ (x : Read.Outcome). (reply_of x maker).place) is) ∙ at in
          subst (λ (n : ℕ). Placed c n (suc p)) (sym number) (subst (Placed c k) place (left-placed (rule ms) ms q c k p' is))

-- ---- any result that the contract of `hanuzak_answer` allows

-- silence, no byte written, and the table as it was
pub answer-placed : (st : Station) (ms : List Module) (c out : List ℕ) (r : FlatAnswered) (table : List Module) (out' : List ℕ) → Leaves (answering st ms c out) r table out'
    → rule ms ≡ true → 4112 ≤ length out → (k p : ℕ) → Placed c k p → (r.kind ≡ 0) × (table ≡ ms) × (out' ≡ out)
unfolding answering
answer-placed st ms c out r table out' e kept room k p b =
    let left : answer (rule ms) (length ms) st ms c out ≡ _ = ap (λ (x : _). answer x (length ms) st ms c out) kept ∙ answer-silent st ms c k p b (length ms) out room in
    let is = e ∙ ap (then_of ms) left in
    (ap (λ (x : Then). x.answered.kind) is, ap (λ (x : Then). x.table) is ∙ none-off ms, ap (λ (x : Then). x.out) is)
