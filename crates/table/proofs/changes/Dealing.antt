-- Values dealt out to the members that are on: a turn of the walk over the members, and its end.
use Rattle.std.proofs.Common.{◌≡◌, refl, sym, ap, ◌∙◌, List, [], ◌∷◌, ◌++◌, ℕ, zero, suc, min, ◌≤◌, length, take, drop, arith}
use Rattle.std.proofs.lemmas.Bool.{eq-eqb, ne_eqb}
use Rattle.std.proofs.lemmas.List.{append-nil, nil_from_length, drop_all, take_all, length-take, take_min, drop_min}
use Rattle.record.specs.declared.Module.{Module}
use Rattle.table.specs.declared.Table.{Table}
use Rattle.table.specs.Table.{members}
use Rattle.table.specs.Changes.{dealt, TableIs}

module _ {A : Type 0} (f : A → Module → Module) where
  dealt-none : (ms : List Module) → dealt f ms [] ≡ ms
  unfolding dealt
  dealt-none [] = refl
  dealt-none (m ∷ ms) = refl

  -- a member that is off, one for which no value is left, and one that takes a value

  pub dealt_off : (m : Module) (ms : List Module) (left : List A) → (m.on ≡ 1 → ⊥) → dealt f (m ∷ ms) left ≡ m ∷ dealt f ms left
  unfolding dealt
  dealt_off m ms [] h = ap (λ (s : List Module). m ∷ s) (sym (dealt-none ms))
  dealt_off m ms (a ∷ values) h = rw (ne_eqb m.on 1 h)

  pub dealt_past : (m : Module) (ms : List Module) (left : List A) → length left ≡ 0 → dealt f (m ∷ ms) left ≡ m ∷ dealt f ms left
  dealt_past m ms left e = rw (nil_from_length left e) (dealt-none (m ∷ ms) ∙ ap (λ (s : List Module). m ∷ s) (sym (dealt-none ms)))

  pub dealt_on : (m : Module) (ms : List Module) (left others : List A) (a : A) → m.on ≡ 1 → left ≡ a ∷ others → dealt f (m ∷ ms) left ≡ f a m ∷ dealt f ms others
  unfolding dealt
  dealt_on m ms left others a h e = rw (e, eq-eqb m.on 1 h)

pub ruleset served = (dealt_off, dealt_past, dealt_on)

-- members of which those before a place have their values, while the others take the values that are left
pub record Dealing {A : Type 0} (f : A → Module → Module) (before : List Module) (values : List A) (now : List Module) (i : ℕ) (left : List A) : Type 0 where
  pub is : take i now ++ dealt f (drop i now) left ≡ dealt f before values

module _ {A : Type 0} (f : A → Module → Module) {before now : List Module} {values left : List A} {i : ℕ} (so_far : Dealing f before values now i left) where
  pub dealing_all : length now ≤ i → now ≡ dealt f before values
  unfolding dealt
  dealing_all h =
      sym (append-nil now) ∙ ap (λ (s : List Module). s ++ []) (sym (take_all i now h)) ∙ ap (λ (s : List Module). take i now ++ dealt f s left) (sym (drop_all i now h)) ∙ so_far.is

-- ---- the members of a table by value, changed in their places

changed_front : (n : ℕ) (xs ys : List Module) → length ys ≡ length (take n xs) → (take n (ys ++ drop n xs) ≡ ys) × (drop n (ys ++ drop n xs) ≡ drop n xs)
changed_front zero xs [] e = (refl, refl)
changed_front zero xs (y ∷ ys) e = absurd (omega arith)
changed_front (suc n) [] [] e = (refl, refl)
changed_front (suc n) [] (y ∷ ys) e = absurd (omega arith)
changed_front (suc n) (x ∷ xs) [] e = absurd (omega arith)
changed_front (suc n) (x ∷ xs) (y ∷ ys) e = let ih = changed_front n xs ys (omega arith) in (ap (λ (s : List Module). y ∷ s) ih.0, ih.1)

pub changed : {A : Type 0} (f : A → Module → Module) (values : List A) (t : Table) (k : ℕ) (ys : List Module)
    → k ≡ length (members t) → length ys ≡ length (take k t.modules) → ys ≡ dealt f (take k t.modules) values
    → TableIs t (dealt f (members t) values) (record { count = t.count; modules = ys ++ drop k t.modules })
unfolding members
changed f values t k ys ek same e =
    let places : k ≡ min t.count (length t.modules) = ek ∙ length-take t.count t.modules in
    let front : take k t.modules ≡ take t.count t.modules = ap (λ (n : ℕ). take n t.modules) places ∙ take_min t.count t.modules in
    let past : drop k t.modules ≡ drop t.count t.modules = ap (λ (n : ℕ). drop n t.modules) places ∙ drop_min t.count t.modules in
    let both = changed_front t.count t.modules ys (same ∙ ap length front) in
    record {
      kept = (refl, ap (λ (s : List Module). drop t.count (ys ++ s)) past ∙ both.1);
      members_are = ap (λ (s : List Module). take t.count (ys ++ s)) past ∙ both.0 ∙ e ∙ ap (λ (s : List Module). dealt f s values) front;
    }
