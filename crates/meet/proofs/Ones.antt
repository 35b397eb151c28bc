-- Two results that the contract of the stand-in, of the gate or of the reply reader allows are equal: an answer says its number and values, and no two answers say the same.
use Rattle.std.proofs.Common.{◌≡◌, refl, sym, ap, ◌∙◌, true, false, List, ℕ, Option, Some, None, Result, Ok, Err}
use Rattle.refusal.specs.Number.{number}
use Rattle.refusal.specs.declared.Refusal.{Refusal}
use Rattle.refusal.proofs.Numbers.{number-injective}
use Rattle.frame.specs.declared.Fault.{Fault}
use Rattle.frame.specs.Judge.{Told, nothing, refused, refused_at, is_refusal, refusal_told, fault_told}
use Rattle.frame.specs.Answered.{Judged}
use Rattle.frame.proofs.Answered.{paper-injective as judged-injective}
use Rattle.table.specs.declared.Table.{Table}
use Rattle.table.proofs.changes.Ones.{table-one}
use Rattle.standin.specs.declared.Replied.{Replied}
use Rattle.standin.specs.Answer as Answer
use Rattle.reply.specs.Gate as Gate
use Rattle.reply.specs.declared.Reply.{Reply}
use Rattle.reply.specs.declared.Reading.{Reading}
use Rattle.reply.specs.Read as Reads

answered-injective : (a b : Result (Option ℕ) Refusal) → Answer.paper a ≡ Answer.paper b → a ≡ b
answered-injective (Ok None) (Ok None) e = refl
answered-injective (Ok None) (Ok (Some n)) e = cc
answered-injective (Ok None) (Err r) e = cc
answered-injective (Ok (Some m)) (Ok None) e = cc
answered-injective (Ok (Some m)) (Ok (Some n)) e = cc
answered-injective (Ok (Some m)) (Err r) e = cc
answered-injective (Err q) (Ok None) e = cc
answered-injective (Err q) (Ok (Some n)) e = cc
answered-injective (Err q) (Err r) e = let n : number q ≡ number r = cc in ap Err (number-injective q r n)

-- the stand-in: the answer, the place that goes off and the buffer
pub answers_one : (left : Answer.Left) (a b : Replied) (out out' : List ℕ) → Answer.Answers left a out → Answer.Answers left b out'
    → (a.answered ≡ b.answered) × ((a.off ≡ b.off) × (out ≡ out'))
answers_one left a b out out' p q =
    let e = p ∙ sym q in
    (answered-injective a.answered b.answered (ap (λ (l : Answer.Left). l.outcome) e), (ap (λ (l : Answer.Left). l.off) e, ap (λ (l : Answer.Left). l.out) e))

-- ---- the gate and the reader say a refusal as the judge does

fault-one : (f g : Fault) → fault_told f ≡ fault_told g → f ≡ g
fault-one f g e = let p : ◌≡◌ {A = Judged} (Err f) (Err g) = judged-injective (Err f) (Err g) e in cc

refused-told : (r : Refusal) (place : Option ℕ) → is_refusal (refusal_told r place) ≡ true
refused-told r None = refl
refused-told r (Some p) = refl

gate-told : Gate.Gated → Told
gate-told Gate.passed = nothing
gate-told (Gate.refused k) = refused k
gate-told (Gate.refused_at k p) = refused_at k p

gate-fault : (r : Refusal) (place : Option ℕ) → gate-told (Gate.refusal_gated r place) ≡ refusal_told r place
unfolding gate-told
gate-fault r None = refl
gate-fault r (Some p) = refl

outcome-told : Reads.Outcome → Told
outcome-told (Reads.read v c f) = nothing
outcome-told (Reads.refused k) = refused k
outcome-told (Reads.refused_at k p) = refused_at k p

outcome-fault : (r : Refusal) (place : Option ℕ) → outcome-told (Reads.refusal_outcome r place) ≡ refusal_told r place
unfolding outcome-told
outcome-fault r None = refl
outcome-fault r (Some p) = refl

outcome-injective : (a b : Result Reply Fault) → Reads.paper a ≡ Reads.paper b → a ≡ b
unfolding outcome-told
outcome-injective (Ok x) (Ok y) e =
    let v : x.ver ≡ y.ver = cc in
    let c : x.code ≡ y.code = cc in
    let f : x.flag ≡ y.flag = cc in
    λ i. Ok (record { ver = v i; code = c i; flag = f i })
outcome-injective (Ok x) (Err g) e = let n : nothing ≡ fault_told g = ap outcome-told e ∙ outcome-fault g.refusal g.place in let z : false ≡ true = ap is_refusal n ∙ refused-told g.refusal g.place in cc
outcome-injective (Err f) (Ok y) e = let n : nothing ≡ fault_told f = ap outcome-told (sym e) ∙ outcome-fault f.refusal f.place in let z : false ≡ true = ap is_refusal n ∙ refused-told f.refusal f.place in cc
outcome-injective (Err f) (Err g) e = ap Err (fault-one f g (sym (outcome-fault f.refusal f.place) ∙ ap outcome-told e ∙ outcome-fault g.refusal g.place))

gated-injective : (a b : Result (Unit {0}) Fault) → Gate.paper a ≡ Gate.paper b → a ≡ b
unfolding gate-told
gated-injective (Ok x) (Ok y) e = refl
gated-injective (Ok x) (Err g) e = let n : nothing ≡ fault_told g = ap gate-told e ∙ gate-fault g.refusal g.place in let z : false ≡ true = ap is_refusal n ∙ refused-told g.refusal g.place in cc
gated-injective (Err f) (Ok y) e = let n : nothing ≡ fault_told f = ap gate-told (sym e) ∙ gate-fault f.refusal f.place in let z : false ≡ true = ap is_refusal n ∙ refused-told f.refusal f.place in cc
gated-injective (Err f) (Err g) e = ap Err (fault-one f g (sym (gate-fault f.refusal f.place) ∙ ap gate-told e ∙ gate-fault g.refusal g.place))

-- the reply reader: what it tells, the 32 bytes of 51H, and the table
pub reading-one : (left : Reads.Left) (t : Table) (a b : Reading) → Reads.Reads left t a → Reads.Reads left t b → a ≡ b
reading-one left t a b p q =
    let e = p.is ∙ sym q.is in
    let told : a.outcome ≡ b.outcome = outcome-injective a.outcome b.outcome (ap (λ (l : Reads.Left). l.outcome) e) in
    let then : a.table ≡ b.table = table-one t a.table b.table p.kept q.kept (ap (λ (l : Reads.Left). l.modules) e) in
    λ i. record { outcome = told i; maker = (e i).maker; table = then i }

-- the gate
pub gate-one : (g : Gate.Gated) (a b : Result (Unit {0}) Fault) → Gate.paper a ≡ g → Gate.paper b ≡ g → a ≡ b
gate-one g a b p q = gated-injective a b (p ∙ sym q)
