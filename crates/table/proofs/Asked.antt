-- What is asked of the members is what std's walks over a list answer.
use Rattle.std.proofs.Common.{◌≡◌, refl, sym, ap, Bool, true, false, cond, ◌&&◌, List, [], ◌∷◌, ℕ, ◌+◌, ◌<◌, ◌≤◌, length, drop, get_or, eqb, ltb, Some, None, ◌∙◌, arith}
use Rattle.std.proofs.lemmas.Bool.{ltb-true, ltb-false}
use Rattle.std.proofs.lemmas.List.{get_or_default, get_or_past, at_drop_more, at_drop_all}
use Rattle.std.specs.List.{list_any, position_or_len}
use Rattle.std.proofs.lemmas.List.Recursion.{is_position_or_len}
use Rattle.record.specs.declared.Module.{Module}
use Rattle.table.specs.Table.{blank, is_on, has_fault, place_of, place_found, member_at, any_fault, one_if, count_on}

pub first_place : (adr : ℕ) (ms : List Module) → position_or_len (λ m. eqb m.adr adr) ms ≡ place_of adr ms
unfolding place_of
first_place adr ms = sym (is_position_or_len (place_of adr) (λ m. eqb m.adr adr) refl (λ m ms. ap (λ (n : ℕ). cond (eqb m.adr adr) 0 n) (omega arith)) ms)

pub some_fault : (ms : List Module) → list_any (λ m. is_on m && has_fault m) ms ≡ any_fault ms
unfolding any_fault
some_fault [] = refl
some_fault (m ∷ ms) = rw (some_fault ms)

pub on_more : (ms : List Module) (i : ℕ) (d : Module) → i < length ms → count_on (drop i ms) ≡ one_if (is_on (get_or ms i d)) + count_on (drop (i + 1) ms)
unfolding count_on
on_more ms i d h = at_drop_more count_on ms i d h

pub on_all : (ms : List Module) (i : ℕ) → length ms ≤ i → count_on (drop i ms) ≡ 0
unfolding count_on
on_all ms i h = at_drop_all count_on ms i h

pub ruleset counted = (on_more, on_all)

-- where a member is found there it is, and where none is found the blank record stands for it
pub found_at : (adr : ℕ) (ms : List Module) (there : Bool) (place : ℕ) → ltb (place_of adr ms) (length ms) ≡ there → Some place ≡ cond there (Some (place_of adr ms)) None → (place < length ms) × (place ≡ place_of adr ms)
found_at adr ms true place e f = let g : place ≡ place_of adr ms = cc in (omega (arith, ltb-true (place_of adr ms) (length ms) e), g)
found_at adr ms false place e f = absurd (cc)

pub none_at : (adr : ℕ) (ms : List Module) (there : Bool) → ltb (place_of adr ms) (length ms) ≡ there → None ≡ cond there (Some (place_of adr ms)) None → length ms ≤ place_of adr ms
none_at adr ms true e f = absurd (cc)
none_at adr ms false e f = ltb-false (place_of adr ms) (length ms) e

pub place_in : (place adr : ℕ) (ms : List Module) → Some place ≡ place_found adr ms → place < length ms
place_in place adr ms e = (found_at adr ms _ place refl e).0

pub place_holds : (place adr : ℕ) (ms : List Module) (d : Module) → Some place ≡ place_found adr ms → get_or ms place d ≡ member_at adr ms
unfolding member_at
place_holds place adr ms d e =
    let f = found_at adr ms _ place refl e in
    get_or_default ms place d blank f.0 ∙ ap (λ (k : ℕ). get_or ms k blank) f.1

pub no_place : (adr : ℕ) (ms : List Module) → None ≡ place_found adr ms → blank ≡ member_at adr ms
unfolding member_at
no_place adr ms e = sym (get_or_past ms (place_of adr ms) blank (none_at adr ms _ refl e))

pub ruleset places = (place_in, place_holds, no_place)
