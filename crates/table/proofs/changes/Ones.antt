-- Two tables that a contract of this crate allows are equal: a table is its members and what stands past them.
use Rattle.std.proofs.Common.{◌≡◌, sym, ap, ◌∙◌, List, ◌++◌, ℕ, take, drop}
use Rattle.std.proofs.lemmas.List.{take-append-drop}
use Rattle.record.specs.declared.Module.{Module}
use Rattle.table.specs.declared.Table.{Table}
use Rattle.table.specs.Table.{members}
use Rattle.table.specs.Changes.{Kept, TableIs}

pub table-one : (t a b : Table) → Kept t a → Kept t b → members a ≡ members b → a ≡ b
unfolding members
table-one t a b p q e =
    let whole : (x : Table) → Kept t x → members x ++ drop t.count x.modules ≡ x.modules = λ (x : Table) (k : Kept t x). ap (λ (n : ℕ). take n x.modules ++ drop t.count x.modules) k.0 ∙ take-append-drop t.count x.modules in
    let same : a.modules ≡ b.modules = sym (whole a p) ∙ (λ i. e i ++ (p.1 ∙ sym q.1) i) ∙ whole b q in
    λ i. record { count = (p.0 ∙ sym q.0) i; modules = same i }

-- what `replace` and `deal` ensure leaves one table
pub table-is-one : {before : Table} {ms : List Module} {a b : Table} → TableIs before ms a → TableIs before ms b → a ≡ b
table-is-one {before} {ms} {a} {b} p q = table-one before a b p.kept q.kept (p.members_are ∙ sym q.members_are)
