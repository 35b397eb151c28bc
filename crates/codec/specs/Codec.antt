-- A codec is one description of a format: which values it writes, as which bytes, and what it reads, with the two laws that make these inverse.
use Rattle.std.specs.Prelude.{◌≡◌, refl, List, [], ◌∷◌, ◌++◌, Bool, ℕ, ◌<◌, T, ltb}
use Rattle.std.proofs.Common.{subst, ltb→lt, lt→ltb}
use Rattle.hex_chars.specs.Hex.{Bytes}

-- what reading finds: a value or a refusal's number, and the bytes that are left
pub data Got (A : Type 0) : Type 0 where
  got : A → List ℕ → Got A
  no : ℕ → List ℕ → Got A

-- go on with the value and the rest; a refusal stays
abbrev pub and_then : {A B : Type 0} → Got A → (A → List ℕ → Got B) → Got B
and_then (got a s) k = k a s
and_then (no n s) k = no n s

pub record Codec (A : Type 0) : Type 0 where
  -- what can be written
  pub ok : A → Bool
  pub put : A → List ℕ
  pub get : List ℕ → Got A
  -- what is written is bytes
  pub small : (a : A) → T (ok a) → Bytes (put a)
  -- what was written is read back, and nothing after it
  pub there : (a : A) (rest : List ℕ) → T (ok a) → get (put a ++ rest) ≡ got a rest
  -- what was read is what would be written
  pub back : (s : List ℕ) (a : A) (rest : List ℕ) → Bytes s → get s ≡ got a rest → (s ≡ put a ++ rest) × T (ok a)

-- ---- telling results apart

pub got_value : {A : Type 0} {a b : A} {s t : List ℕ} → ◌≡◌ {A = Got A} (got a s) (got b t) → a ≡ b
got_value e = cc

pub got_rest : {A : Type 0} {a b : A} {s t : List ℕ} → ◌≡◌ {A = Got A} (got a s) (got b t) → s ≡ t
got_rest e = cc

pub no_got {ℓ} : {A : Type 0} {X : Type ℓ} {a : A} {s t : List ℕ} {n : ℕ} → ◌≡◌ {A = Got A} (no n t) (got a s) → X
no_got e = cc

-- a reading that went on had a first part
pub then_inv : {A B : Type 0} (g : Got A) (k : A → List ℕ → Got B) (b : B) (rest : List ℕ) → and_then g k ≡ got b rest
    → (a : A) × (r : List ℕ) × (g ≡ got a r) × (k a r ≡ got b rest)
then_inv (got a s) k b rest e = (a, s, refl, e)
then_inv (no n s) k b rest e = no_got e

-- ---- one byte

abbrev pub byte_get : List ℕ → Got ℕ
byte_get [] = no 16 []
byte_get (x ∷ s) = got x s

pub byte_back : (s : List ℕ) (a : ℕ) (rest : List ℕ) → Bytes s → byte_get s ≡ got a rest → (s ≡ (a ∷ []) ++ rest) × T (ltb a 256)
byte_back [] a rest h e = no_got e
byte_back (x ∷ s) a rest h e =
    let p : x ≡ a = got_value e in
    let q : s ≡ rest = got_rest e in
    (cc, lt→ltb a 256 (subst (λ (n : ℕ). n < 256) p h.0))

abbrev pub byte : Codec ℕ
byte = record {
  ok = λ b. ltb b 256;
  put = λ b. b ∷ [];
  get = byte_get;
  small = λ a h. (ltb→lt a 256 h, tt);
  there = λ a rest h. refl;
  back = byte_back;
}
