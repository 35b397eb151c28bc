-- Two results that a contract over the table by value allows are equal: each part is given by an equation, and a table by its members and what stands past them.
use Rattle.std.proofs.Common.{◌≡◌, sym, ◌∙◌, List, ℕ}
use Rattle.table.specs.declared.Table.{Table}
use Rattle.table.proofs.changes.Ones.{table-one}
use Rattle.standin.specs.Answer.{Left}
use Rattle.reply.specs.Read as Read
use Rattle.entries.specs.declared.Served.{Served}
use Rattle.entries.specs.declared.ReadReply.{ReadReply}
use Rattle.entries.specs.Entries.{Serves, ReadsFlat}

-- the stand-in: the answer, the place that goes off and the buffer
pub serves-one : (left : Left) (a b : Served) (out out' : List ℕ) → Serves left a out → Serves left b out' → (a ≡ b) × (out ≡ out')
serves-one left a b out out' p q =
    let said = p.answered ∙ sym q.answered in
    let goes = p.off ∙ sym q.off in
    (λ i. record { answered = said i; off = goes i }, p.out ∙ sym q.out)

-- the reply reader: what it tells, how many records are to be stored, and the table
pub reads-flat-one : (left : Read.Left) (cid2 : ℕ) (t : Table) (a b : ReadReply) → ReadsFlat left cid2 t a → ReadsFlat left cid2 t b → a ≡ b
reads-flat-one left cid2 t a b p q =
    let told = p.told ∙ sym q.told in
    let stores = p.stores ∙ sym q.stores in
    let then = table-one t a.table b.table p.kept q.kept (p.members_are ∙ sym q.members_are) in
    λ i. record { reply = told i; stored = stores i; table = then i }
