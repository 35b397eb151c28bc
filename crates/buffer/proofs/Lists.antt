-- Laws on tests and lists that the layers above share: a test by cases, a rule at every number below a bound, one list cut in two ways.
use Rattle.std.proofs.Common.{◌≡◌, refl, sym, ap, ◌∙◌, subst, ◌⊎◌, inl, inr, Bool, true, false, not, cond, ◌&&◌, List, [], ◌∷◌, ◌++◌, ℕ, zero, suc, ◌+◌, ◌*◌, ◌<◌, not-suc-le-zero, mul-zero, arith, length, get_or, take, drop, length-append, take_at, drop_at, drop-drop, T}
use Rattle.std.proofs.Math.Decide.{ℕ_discrete}
use Rattle.std.specs.Simd.{first_chunks}
use Rattle.std.proofs.Math.Facts.{and_yes}

-- what holds in both cases of a test holds of its outcome
pub by_cond {ℓ κ} : {X : Type ℓ} (P : X → Type κ) (b : Bool) {x y : X} → (T b → P x) → (T (not b) → P y) → P (cond b x y)
by_cond P true f g = f tt
by_cond P false f g = g tt

abbrev pub every : (ℕ → Bool) → ℕ → Bool
every f zero = true
every f (suc n) = f n && every f n

-- a test that is computed at each number below n
pub below : (f : ℕ → Bool) (n : ℕ) → T (every f n) → (k : ℕ) → k < n → T (f k)
below f zero t k h = absurd (not-suc-le-zero h)
below f (suc n) t k h =
    elim (ℕ_discrete k n) [
      | yes e ↦ subst (λ (m : ℕ). T (f m)) (sym e) (and_yes (f n) (every f n) t).0
      | no e ↦ below f n (and_yes (f n) (every f n) t).1 k (omega arith)
    ]

-- a whole chunk of many
pub chunk_at : (n k i : ℕ) (s d : List ℕ) → i < k → get_or (first_chunks n k s) i d ≡ take n (drop (n * i) s)
chunk_at n zero i s d h = absurd (omega arith)
chunk_at n (suc k) zero s d h = rw mul-zero
chunk_at n (suc k) (suc i) s d h =
    chunk_at n k i (drop n s) d (omega arith) ∙ ap (take n) (drop-drop (n * i) n s ∙ (let e : n + n * i ≡ n * suc i = omega arith in ap (λ (m : ℕ). drop m s) e))

-- two cuts of one list whose second parts are as long
pub cancel : (s t u v : List ℕ) → length t ≡ length v → s ++ t ≡ u ++ v → (s ≡ u) × (t ≡ v)
cancel s t u v l e =
    let k : length s ≡ length u = omega (arith, simp length-append at (ap length e)) in (
      sym (take_at s t (length u) k) ∙ ap (λ (x : List ℕ). take (length u) x) e ∙ take_at u v (length u) refl,
      sym (drop_at s t (length u) k) ∙ ap (λ (x : List ℕ). drop (length u) x) e ∙ drop_at u v (length u) refl,
    )

-- two cuts of one list, anywhere: one of the first parts begins the other
abbrev pub Levi : List ℕ → List ℕ → List ℕ → List ℕ → Type 0
Levi s t u v = ((z : List ℕ) × (u ≡ s ++ z) × (t ≡ z ++ v)) ⊎ ((x : ℕ) × (z : List ℕ) × (s ≡ u ++ x ∷ z) × (v ≡ x ∷ z ++ t))

pub levi : (s t u v : List ℕ) → s ++ t ≡ u ++ v → Levi s t u v
levi [] t u v e = inl (u, refl, e)
levi (x ∷ s) t [] v e = inr (x, s, refl, sym e)
levi (x ∷ s) t (y ∷ u) v e = go (levi s t u v cc)
  where
    q : x ≡ y
    q = cc

    go : Levi s t u v → Levi (x ∷ s) t (y ∷ u) v
    go (inl (z, a, b)) = inl (z, cc, b)
    go (inr (w, z, a, b)) = inr (w, z, cc, b)
