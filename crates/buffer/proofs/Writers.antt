-- The three cases of a writer, and that its contract allows one answer and one buffer only.
use Rattle.std.proofs.Common.{◌≡◌, sym, ap, ◌∙◌, Bool, true, false, List, ◌++◌, ℕ, ◌≤◌, ◌<◌, arith, length, drop, le-leb, Result, Ok, Err}
use Rattle.std.proofs.lemmas.Bool.{lt-leb}
use Rattle.refusal.specs.Number.{number}
use Rattle.refusal.proofs.Numbers.{number-injective}
use Rattle.refusal.specs.declared.Refusal.{Refusal}
use Rattle.buffer.specs.Put.{Put}
use Rattle.buffer.specs.Writing.{wrote, refused, paper, Left, leaves, writing, Writes}
use Rattle.buffer.proofs.Puts.{puts-front}

module _ (fault : ℕ) (text out : List ℕ) where
  pub writing-fault : (fine : Bool) → fine ≡ false → leaves (refused fault) out ≡ writing fault fine text out
  unfolding writing
  writing-fault fine e = rw e

  pub writing-short : (fine : Bool) → fine ≡ true → length out < length text → leaves (refused 32) out ≡ writing fault fine text out
  unfolding writing
  writing-short fine e h = rw (e, lt-leb (length text) (length out) h)

  pub writing-all : (fine : Bool) → fine ≡ true → length text ≤ length out → (out' : List ℕ) (n : ℕ) → Put out 0 text out' n
      → leaves (wrote n) out' ≡ writing fault fine text out
  unfolding writing
  writing-all fine e h out' n p =
      let k : n ≡ length text = omega (arith, p.end) in
      rw (e, le-leb (length text) (length out) h, p.is, puts-front out text, k)

  -- where there is a text and room for it
  pub writing-is : (fine : Bool) → fine ≡ true → length text ≤ length out
      → writing fault fine text out ≡ leaves (wrote (length text)) (text ++ drop (length text) out)
  unfolding writing
  writing-is fine e h = rw (e, le-leb (length text) (length out) h)

paper-injective : (a b : Result ℕ Refusal) → paper a ≡ paper b → a ≡ b
paper-injective (Ok m) (Ok n) e = cc
paper-injective (Ok m) (Err r) e = cc
paper-injective (Err q) (Ok n) e = cc
paper-injective (Err q) (Err r) e = let n : number q ≡ number r = cc in let m : q ≡ r = number-injective q r n in cc

-- two answers that a writer's contract allows are one, and so are the buffers
pub writes_one : (left : Left) (a b : Result ℕ Refusal) (out out' : List ℕ) → Writes left a out → Writes left b out' → (a ≡ b) × (out ≡ out')
writes_one left a b out out' p q =
    let e : leaves (paper a) out ≡ leaves (paper b) out' = p ∙ sym q in
    (paper-injective a b (ap (λ (l : Left). l.outcome) e), ap (λ (l : Left). l.out) e)
