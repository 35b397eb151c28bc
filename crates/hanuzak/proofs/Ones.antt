-- Two results that a contract over the lent table allows are equal: each part of one is that of the other.
use Rattle.std.proofs.Common.{◌≡◌, sym, ap, ◌∙◌, List, ℕ}
use Rattle.record.specs.declared.Module.{Module}
use Rattle.flat.specs.declared.FlatAnswered.{FlatAnswered}
use Rattle.flat.specs.declared.FlatReply.{FlatReply}
use Rattle.hanuzak.specs.Answering.{Then, Leaves}
use Rattle.hanuzak.specs.Reading.{ReadThen, ReplyLeaves}

-- the stand-in: the answer, the table and the buffer
pub leaves-one : (left : Then) (a b : FlatAnswered) (table table' : List Module) (out out' : List ℕ) → Leaves left a table out → Leaves left b table' out' → (a ≡ b) × ((table ≡ table') × (out ≡ out'))
leaves-one left a b table table' out out' p q =
    let e = p ∙ sym q in
    (ap (λ (k : Then). k.answered) e, (ap (λ (k : Then). k.table) e, ap (λ (k : Then). k.out) e))

-- the reply reader: what it tells, and the table
pub reply-leaves-one : (left : ReadThen) (a b : FlatReply) (table table' : List Module) → ReplyLeaves left a table → ReplyLeaves left b table' → (a ≡ b) × (table ≡ table')
reply-leaves-one left a b table table' p q = let e = p ∙ sym q in (ap (λ (k : ReadThen). k.reply) e, ap (λ (k : ReadThen). k.table) e)
