-- The laws of a text in a buffer, by which every caller goes: a byte stored, a copy, a text after a text (put_then), the front of a buffer.
use Rattle.std.proofs.Common.{◌≡◌, refl, sym, ap, ◌∙◌, List, [], ◌∷◌, ◌++◌, append_assoc, ℕ, ◌+◌, ◌≤◌, ◌<◌, add_assoc, zero-add, add-one, arith, length, take, drop, set, get_or, length-append, length-take-le, take_at, drop-drop}
use Rattle.std.proofs.Math.Seq.{sets-eq, drop-append-add, take-length, paste, paste-zero, paste-suc}
use Rattle.buffer.specs.Put.{puts, Put, Room}

-- one byte stored
pub puts_one : (out : List ℕ) (at b : ℕ) → at < length out → set out at b ≡ puts out at (b ∷ [])
unfolding puts
puts_one out at b h = sets-eq (b ∷ []) out at (omega arith)

-- no text
pub puts-nil : (out : List ℕ) (at : ℕ) → puts out at [] ≡ out
unfolding puts
puts-nil out at = sym (paste-zero out at [])

-- at the front of the buffer
pub puts-front : (out s : List ℕ) → puts out 0 s ≡ s ++ drop (length s) out
unfolding puts
puts-front out s = ap (λ (k : ℕ). s ++ drop k out) (zero-add (length s))

-- a text, and another after it
puts-puts : (out : List ℕ) (at : ℕ) (s t : List ℕ) → at + length s ≤ length out → puts (puts out at s) (at + length s) t ≡ puts out at (s ++ t)
unfolding puts
puts-puts out at s t h =
    let p : List ℕ = take at out ++ s in
    let d : List ℕ = drop (at + length s) out in
    let e : length p ≡ at + length s = length-append (take at out) s ∙ ap (λ (k : ℕ). k + length s) (length-take-le at out (omega arith)) in
    let back : drop (at + length s + length t) (p ++ d) ≡ drop (at + length s + length t) out =
    ap (λ (k : ℕ). drop (k + length t) (p ++ d)) (sym e) ∙ drop-append-add p d (length t) ∙ drop-drop (length t) (at + length s) out in
    ap (λ (l : List ℕ). l ++ t ++ drop (at + length s + length t) (p ++ d)) (take_at p d (at + length s) e)
    ∙ ap (λ (l : List ℕ). p ++ t ++ l) back
    ∙ ap (λ (k : ℕ). p ++ t ++ drop k out) (add_assoc at (length s) (length t) ∙ ap (λ (k : ℕ). at + k) (sym (length-append s t)))
    ∙ ap (λ (l : List ℕ). l ++ drop (at + length (s ++ t)) out) (append_assoc (take at out) s t)

pub put_then : {out mid fin s t : List ℕ} {at a r : ℕ} → Room out at s → Put out at s mid a → Put mid a t fin r → Put out at (s ++ t) fin r
put_then {out} {mid} {fin} {s} {t} {at} {a} {r} h p q =
    record {
      end = omega (arith, p.end, q.end, length-append s t);
      is = q.is ∙ ap (λ (l : List ℕ). puts l a t) p.is ∙ ap (λ (k : ℕ). puts (puts out at s) k t) p.end ∙ puts-puts out at s t h.fits;
    }

-- room for both is room for the first
pub room-first : {out : List ℕ} {at : ℕ} (s t : List ℕ) → Room out at (s ++ t) → Room out at s
room-first s t h = record { fits = omega (arith, h.fits, length-append s t) }

-- and, once the first was put, for the other
pub room-rest : {out mid : List ℕ} {at a : ℕ} (s t : List ℕ) → Room out at (s ++ t) → Put out at s mid a → length mid ≡ length out → Room mid a t
room-rest s t h p kept = record { fits = omega (arith, h.fits, p.end, length-append s t) }

-- nothing put
pub put-none : (out : List ℕ) (at : ℕ) → Put out at [] out at
put-none out at = record { end = omega arith; is = sym (puts-nil out at) }

-- two answers that the contract allows are one: the place after the text, and the buffer
pub put_one : (out : List ℕ) (at : ℕ) (text : List ℕ) (a b : ℕ) (out' out'' : List ℕ) → Put out at text out' a → Put out at text out'' b → (a ≡ b) × (out' ≡ out'')
put_one out at text a b out' out'' p q = (p.end ∙ sym q.end, p.is ∙ sym q.is)

-- one byte more of a text copied byte by byte
pub copied_more : (out text : List ℕ) (at i : ℕ) → at + length text ≤ length out → i < length text → set (paste out at text i) (at + i) (get_or text i 0) ≡ paste out at text (i + 1)
copied_more out text at i fits h = paste-suc out at text i 0 (omega arith) h ∙ ap (paste out at text) (sym (add-one i))

-- a whole text copied
pub copied_all : (out text out' : List ℕ) (at i : ℕ) → i ≡ length text → out' ≡ paste out at text i → Put out at text out' (at + length text)
unfolding puts
copied_all out text out' at i all e =
    record { end = refl; is = e ∙ ap (paste out at text) all ∙ ap (λ (t : List ℕ). take at out ++ t ++ drop (at + length text) out) (take-length text) }

-- a text between what stands before it and what stands after it
pub puts_mid : (out text : List ℕ) (at : ℕ) → take at out ++ (text ++ drop (length text) (drop at out)) ≡ puts out at text
unfolding puts
puts_mid out text at = ap (λ (t : List ℕ). take at out ++ (text ++ t)) (drop-drop (length text) at out) ∙ sym (append_assoc (take at out) text (drop (at + length text) out))
