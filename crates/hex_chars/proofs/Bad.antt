-- The first character that isn't hex, by induction over the characters before it.
use Rattle.std.proofs.Common.{◌≡◌, ℕ, zero, suc, ◌+◌, Bool, true, false, cond, not, ◌&&◌, List, [], ◌∷◌, length, take, refl, arith, subst, lt-ltb, le-ltb}
use Rattle.std.specs.Option.{MatchOption}
use Rattle.std.specs.List.{position}
use Rattle.hex_chars.specs.Hex.{is_hex, all_hex, bad_place, FirstBad}

later : (c : ℕ) (s : List ℕ) (p : ℕ) → is_hex c ≡ true → FirstBad s p → FirstBad (c ∷ s) (1 + p)
unfolding all_hex
later c s p h f = subst (FirstBad (c ∷ s)) (omega arith) (let at : FirstBad (c ∷ s) (suc p) = record { inside = omega (arith, f.inside); before = rw h f.before; bad = f.bad } in at)

-- where not all are hex it is there
pub bad-place-first : (s : List ℕ) → all_hex s ≡ false → FirstBad s (bad_place s)
unfolding all_hex bad_place
bad-place-first [] e = cc
bad-place-first (c ∷ s) e = go (is_hex c) refl e (bad-place-first s)
  where
    go : (b : Bool) → is_hex c ≡ b → (b && all_hex s) ≡ false → (all_hex s ≡ false → FirstBad s (bad_place s)) → FirstBad (c ∷ s) (cond (not (not b)) (1 + bad_place s) 0)
    go true h e rest = later c s (bad_place s) h (rest e)
    go false h e rest = record { inside = omega arith; before = refl; bad = h }

-- and it is the only one
pub bad-place-one : (s : List ℕ) (p : ℕ) → FirstBad s p → (all_hex s ≡ false) × (bad_place s ≡ p)
unfolding all_hex bad_place
bad-place-one [] p f = absurd (omega (arith, f.inside))
bad-place-one (c ∷ s) zero f = rw f.bad (refl, refl)
bad-place-one (c ∷ s) (suc p) f = go (is_hex c) refl f.before (λ e. bad-place-one s p (record { inside = omega (arith, f.inside); before = e; bad = f.bad }))
  where
    go : (b : Bool) → is_hex c ≡ b → (b && all_hex (take p s)) ≡ true → (all_hex (take p s) ≡ true → (all_hex s ≡ false) × (bad_place s ≡ p))
        → ((b && all_hex s) ≡ false) × (cond (not (not b)) (1 + bad_place s) 0 ≡ suc p)
    go true h e rest = let r = rest e in (r.0, omega (arith, r.1))
    go false h e rest = cc

pub ruleset first_bad_place = (bad-place-one)

-- where all are hex there is none
none : (s : List ℕ) → all_hex s ≡ true → bad_place s ≡ length s
unfolding all_hex bad_place
none [] e = refl
none (c ∷ s) e = go (is_hex c) e (none s)
  where
    go : (b : Bool) → (b && all_hex s) ≡ true → (all_hex s ≡ true → bad_place s ≡ length s) → cond (not (not b)) (1 + bad_place s) 0 ≡ length (c ∷ s)
    go true e rest = omega (arith, rest e)
    go false e rest = cc

pub first_bad_is : (s : List ℕ) → MatchOption (position (λ c. not (is_hex c)) s) (all_hex s ≡ true) (FirstBad s)
unfolding bad_place
first_bad_is s = go (all_hex s) refl
  where
    go : (b : Bool) → all_hex s ≡ b → MatchOption (position (λ c. not (is_hex c)) s) (all_hex s ≡ true) (FirstBad s)
    go true e = let n : bad_place s ≡ length s = none s e in rw (n, le-ltb (length s) (length s) (omega arith)) e
    go false e = let f = bad-place-first s e in rw (lt-ltb (bad_place s) (length s) f.inside) f
