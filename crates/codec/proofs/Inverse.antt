-- Reading and writing are inverse, for every codec and every whole INFO: proved here once, and cited for each kind.
use mathlib.Core.Path.{◌≡◌, sym, ◌∙◌, ap}
use mathlib.Core.List.{List, [], ◌++◌}
use Prim.Native.Nat.{ℕ}
use lib.Dec.{T}
use Rattle.hex_chars.specs.Hex.{Bytes}
use Rattle.codec.specs.Codec.{Codec, got, got_value}
use Rattle.codec.specs.Whole.{Whole, told, told_value}

pub record Inverse {A : Type 0} (c : Codec A) : Type 0 where
  -- reading what was written returns the record, and leaves what stands after it
  pub read-written : (a : A) (rest : List ℕ) → T (c.ok a) → c.get (c.put a ++ rest) ≡ got a rest
  -- what was read, written again, gives the same bytes
  pub written_read : (s : List ℕ) (a : A) (rest : List ℕ) → Bytes s → c.get s ≡ got a rest → (s ≡ c.put a ++ rest) × T (c.ok a)
  -- records that are written alike are alike: two that differ in a field are written differently
  pub written_apart : (a b : A) → T (c.ok a) → T (c.ok b) → c.put a ≡ c.put b → a ≡ b

pub inverse : {A : Type 0} (c : Codec A) → Inverse c
inverse c = record {
  read-written = c.there;
  written_read = c.back;
  written_apart = λ a b h k e. got_value (sym (c.there a [] h) ∙ ap (λ (s : List ℕ). c.get (s ++ [])) e ∙ c.there b [] k);
}

pub record WholeInverse {A : Type 0} (w : Whole A) : Type 0 where
  pub read-written : (a : A) → T (w.ok a) → w.get (w.put a) ≡ told a
  pub written_read : (s : List ℕ) (a : A) → Bytes s → w.get s ≡ told a → (s ≡ w.put a) × T (w.ok a)
  pub written_apart : (a b : A) → T (w.ok a) → T (w.ok b) → w.put a ≡ w.put b → a ≡ b

pub whole-inverse : {A : Type 0} (w : Whole A) → WholeInverse w
whole-inverse w = record {
  read-written = w.there;
  written_read = w.back;
  written_apart = λ a b h k e. told_value (sym (w.there a h) ∙ ap w.get e ∙ w.there b k);
}
