-- A lent table by value has its records: a list of at most twelve comes back as it was, and the rule is the list's for every list.
use Rattle.std.proofs.Common.{take_all, take_at, append-nil, le_refl, ◌≡◌, refl, sym, ap, ◌∙◌, subst, Bool, true, false, not, List, [], ◌∷◌, ◌++◌, ℕ, zero, suc, min, ◌≤◌, ◌<◌, arith, length, take, drop, replicate, length-take, take-take, leb, leb→le, T, le-leb}
use lib.Dec.{nleb→lt}
use borrow.Author.Tests.{lt-leb}
use Rattle.std.proofs.lemmas.List.{drop_all}
use Rattle.record.specs.declared.Module.{Module}
use Rattle.table.specs.Table.{blank, members}
use Rattle.table.specs.Rule.{rule, keeps}
use Rattle.lent.specs.Loaded.{over, loaded}

-- ---- so many records at the front, and the rest of the row

pub over_none : (row : List Module) → over row [] ≡ row
unfolding over
over_none [] = refl
over_none (r ∷ row) = refl

pub front_over : (row ms : List Module) (n : ℕ) → n ≡ min (length row) (length ms) → take n ms ++ drop n row ≡ over row ms
unfolding over
front_over [] ms n e = let none : n ≡ 0 = omega arith in rw none
front_over (r ∷ row) [] n e = let none : n ≡ 0 = omega arith in rw none
front_over (r ∷ row) (m ∷ ms) zero e = absurd (omega arith)
front_over (r ∷ row) (m ∷ ms) (suc n) e = ap (λ (z : List Module). m ∷ z) (front_over row ms n (omega arith))

-- the first twelve of a list over blank records
pub front_loaded : (ms front : List Module) (n : ℕ) (r : Module) → r ≡ blank → n ≡ min (length ms) 12 → front ≡ take n ms
    → record { count = length ms; modules = front ++ drop n (replicate 12 r) } ≡ loaded ms
unfolding loaded
front_loaded ms front n r none few is =
    let laid : front ++ drop n (replicate 12 r) ≡ over (replicate 12 blank) ms = rw (is, none) (front_over (replicate 12 blank) ms n (omega arith)) in
    ap (λ (row : List Module). record { count = length ms; modules = row }) laid

-- ---- its records, and its rule

-- at most twelve records are the members
pub loaded-members : (ms : List Module) → length ms ≤ 12 → members (loaded ms) ≡ ms
unfolding members loaded
loaded-members ms h =
    let few : length ms ≡ min 12 (length ms) = omega arith in
    rw (← front_over (replicate 12 blank) ms (length ms) few, take_all (length ms) ms (le_refl (length ms)), take_at ms (drop (length ms) (replicate 12 blank)) (length ms) refl)

-- more than twelve break the rule
pub many-break : (ms : List Module) → 12 < length ms → (keeps (loaded ms) ≡ false) × (rule ms ≡ false)
unfolding keeps rule loaded
many-break ms h = (rw (lt-leb (length ms) 12 h), rw (lt-leb (length ms) 12 h, le-leb 1 (length ms) (omega arith)))

pub few-keep : (ms : List Module) → length ms ≤ 12 → keeps (loaded ms) ≡ rule ms
unfolding keeps loaded
few-keep ms h = rw (le-leb (length ms) 12 h) (ap rule (loaded-members ms h))

-- by the number of records: what holds of a list's own rule and members holds of the loaded table's, where a broken rule asks nothing of the members
pub by-loaded : {A : Type 0} (f : Bool → List Module → A) (ms : List Module) → ((xs ys : List Module) → f false xs ≡ f false ys) → f (keeps (loaded ms)) (members (loaded ms)) ≡ f (rule ms) ms
by-loaded f ms same = pick (leb (length ms) 12) refl
  where
    pick : (b : Bool) → leb (length ms) 12 ≡ b → f (keeps (loaded ms)) (members (loaded ms)) ≡ f (rule ms) ms
    pick true e =
        let few : length ms ≤ 12 = leb→le (length ms) 12 (subst T (sym e) tt) in
        ap (λ (b : Bool). f b (members (loaded ms))) (few-keep ms few) ∙ ap (f (rule ms)) (loaded-members ms few)
    pick false e =
        let many : 12 < length ms = nleb→lt (length ms) 12 (subst (λ (b : Bool). T (not b)) (sym e) tt) in
        ap (λ (b : Bool). f b (members (loaded ms))) (many-break ms many).0 ∙ same (members (loaded ms)) ms ∙ sym (ap (λ (b : Bool). f b ms) (many-break ms many).1)

-- the rule is the list's, for every list
pub loaded-keeps : (ms : List Module) → keeps (loaded ms) ≡ rule ms
loaded-keeps ms = by-loaded (λ (b : Bool) (xs : List Module). b) ms (λ xs ys. refl)

-- ---- back into a lent table

-- of the first records of twelve, as many as there are places for
pub front_stored : (row ms : List Module) (count n : ℕ) → length ms ≡ 12 → n ≡ min (min (length row) 12) count → take n ms ++ drop n row ≡ over row (take count ms)
front_stored row ms count n full e =
    let few : n ≤ count = omega arith in
    ap (λ (z : List Module). z ++ drop n row) (sym (take-take n count ms few)) ∙ front_over row (take count ms) n (omega (arith, length-take count ms))

pub over-all : (row ms : List Module) → length row ≤ length ms → over row ms ≡ take (length row) ms
over-all row ms h =
    let all : length row ≡ min (length row) (length ms) = omega arith in
    rw (← front_over row ms (length row) all, drop_all (length row) row (le_refl (length row))) (append-nil (take (length row) ms))
