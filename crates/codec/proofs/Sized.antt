-- Formats that go by the length alone: so many bytes are taken whatever they say, and fewer are refused with 16. Each combinator adds the lengths of its parts.
use Rattle.std.proofs.Common.{◌≡◌, refl, ◌⊎◌, inl, inr, Bool, List, [], ◌∷◌, ℕ, ◌+◌, ◌<◌, length, arith}
use Rattle.codec.specs.Codec.{Codec, Got, got, no, and_then, byte}
use Rattle.codec.specs.Both.{◌then◌}
use Rattle.codec.specs.Seen.{Between, seen}
use Rattle.codec.specs.Numbers.{wider_between, word, signed_between, signed}
use Rattle.codec.specs.Whole.{Told, told, refuse, onward, mapped, at_end, ended, lead}

-- too few bytes, or a value of n bytes and what is left behind it
abbrev pub Sized : {A : Type 0} → ℕ → List ℕ → Got A → Type 0
Sized {A} n s g = ((length s < n) × (g ≡ no 16 [])) ⊎ ((a : A) × (r : List ℕ) × (g ≡ got a r) × (length s ≡ n + length r))

pub record Takes {A : Type 0} (c : Codec A) (n : ℕ) : Type 0 where
  pub takes : (s : List ℕ) → Sized n s (c.get s)

pub takes-byte : Takes byte 1
takes-byte = record { takes = go }
  where
    go : (s : List ℕ) → Sized 1 s (byte.get s)
    go [] = inl (omega arith, refl)
    go (x ∷ s) = inr (x, s, refl, omega arith)

module _ {A B : Type 0} (c : Codec A) (d : Codec B) (n m : ℕ) (p : Takes c n) (q : Takes d m) where
  behind : (s r : List ℕ) (a : A) → length s ≡ n + length r → (h : Got B) → Sized m r h → Sized {A = A × B} (n + m) s (and_then h (λ b r'. got (a, b) r'))
  behind s r a l h (inl x) = inl (omega (arith, x.0), rw x.1)
  behind s r a l h (inr x) = inr ((a, x.0), x.1, rw x.2, omega (arith, x.3))

  both-sized : (s : List ℕ) (g : Got A) → Sized n s g → Sized {A = A × B} (n + m) s (and_then g (λ a r. and_then (d.get r) (λ b r'. got (a, b) r')))
  both-sized s g (inl x) = inl (omega (arith, x.0), rw x.1)
  both-sized s g (inr x) = rw x.2 (behind s x.1 x.0 x.3 (d.get x.1) (q.takes x.1))

  pub takes-then : Takes (c then d) (n + m)
  takes-then = record { takes = λ s. both-sized s (c.get s) (p.takes s) }

module _ {A B : Type 0} (c : Codec A) (f : A → B) (g : B → A) (q : B → Bool) (l : Between c f g q) (n : ℕ) (p : Takes c n) where
  as-sized : (s : List ℕ) (x : Got A) → Sized n s x → Sized n s (and_then x (λ a r. got (f a) r))
  as-sized s x (inl y) = inl (y.0, rw y.1)
  as-sized s x (inr y) = inr (f y.0, y.1, rw y.2, y.3)

  pub takes-seen : Takes (seen c f g q l) n
  takes-seen = record { takes = λ s. as-sized s (c.get s) (p.takes s) }

pub takes-word : Takes word 2
takes-word = takes-seen (byte then byte) _ _ _ (wider_between 256 byte (λ n. refl)) 2 (takes-then byte byte 1 1 takes-byte takes-byte)

pub takes-signed : Takes signed 2
takes-signed = takes-seen word _ _ _ signed_between 2 takes-word

-- what the length of a whole INFO says: fewer bytes are 16, so many are taken whatever they say, more are 17
abbrev pub BySize : {A : Type 0} → ℕ → List ℕ → Told A → Type 0
BySize {A} n s t = (length s < n → t ≡ refuse 16) × (length s ≡ n → (x : A) × (t ≡ told x)) × (n < length s → t ≡ refuse 17)

module _ {A : Type 0} (c : Codec A) (n : ℕ) (p : Takes c n) where
  end-by-size : (s r : List ℕ) (flag : ℕ) (a : A) → length s ≡ n + length r → BySize {A = ℕ × A} (1 + n) (flag ∷ s) (mapped (at_end a r) (λ b. (flag, b)))
  end-by-size s [] flag a l = (λ h. absurd (omega arith), λ h. ((flag, a), refl), λ h. absurd (omega arith))
  end-by-size s (x ∷ r) flag a l = (λ h. absurd (omega arith), λ h. absurd (omega arith), λ h. refl)

  rest-by-size : (s : List ℕ) (flag : ℕ) (g : Got A) → Sized n s g → BySize {A = ℕ × A} (1 + n) (flag ∷ s) (mapped (onward g at_end) (λ b. (flag, b)))
  rest-by-size s flag g (inl x) = (λ h. rw x.1, λ h. absurd (omega (arith, x.0)), λ h. absurd (omega (arith, x.0)))
  rest-by-size s flag g (inr x) = rw x.2 (end-by-size s x.1 flag x.0 x.3)

  -- a flag before it
  pub by-size : (s : List ℕ) → BySize (1 + n) s ((lead byte (λ flag. ended c)).get s)
  by-size [] = (λ h. refl, λ h. absurd (omega arith), λ h. absurd (omega arith))
  by-size (flag ∷ s) = rest-by-size s flag (c.get s) (p.takes s)
