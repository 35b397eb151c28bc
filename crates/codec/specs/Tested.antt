-- A value that has to pass a test, or the reading is refused with the number n; the test comes after the value's last byte.
use Rattle.std.specs.Prelude.{◌≡◌, refl, List, ◌++◌, Bool, true, false, cond, ◌&&◌, ℕ, T}
use Rattle.std.proofs.Common.{◌∙◌, ap, subst}
use Rattle.std.proofs.Math.Facts.{and_yes, yes_and}
use Rattle.hex_chars.specs.Hex.{Bytes}
use Rattle.codec.specs.Codec.{Codec, Got, got, no, and_then, got_value, got_rest, no_got, then_inv}

module _ {A : Type 0} (p : A → Bool) (n : ℕ) (c : Codec A) where
  abbrev pub tested_get : List ℕ → Got A
  tested_get s = and_then (c.get s) (λ a r. cond (p a) (got a r) (no n r))

  passes : (t : Bool) (g h : Got A) → T t → cond t g h ≡ g
  passes true g h t = refl
  passes false g h t = absurd t

  passed : (t : Bool) (a b : A) (r rest : List ℕ) → cond t (got a r) (no n r) ≡ got b rest → T t × (a ≡ b) × (r ≡ rest)
  passed true a b r rest e = (tt, got_value e, got_rest e)
  passed false a b r rest e = no_got e

  pub tested_there : (a : A) (rest : List ℕ) → T (p a && c.ok a) → tested_get (c.put a ++ rest) ≡ got a rest
  tested_there a rest h =
      let hs = and_yes (p a) (c.ok a) h in
      rw (c.there a rest hs.1) (passes (p a) (got a rest) (no n rest) hs.0)

  pub tested_back : (s : List ℕ) (a : A) (rest : List ℕ) → Bytes s → tested_get s ≡ got a rest → (s ≡ c.put a ++ rest) × T (p a && c.ok a)
  tested_back s a rest h e =
      let u = then_inv (c.get s) (λ a r. cond (p a) (got a r) (no n r)) a rest e in
      let b = u.0 in
      let v = passed (p b) b a u.1 rest u.3 in
      let one = c.back s b u.1 h u.2 in
      subst (λ (y : A). (s ≡ c.put y ++ rest) × T (p y && c.ok y)) v.1
      (one.0 ∙ ap (λ (l : List ℕ). c.put b ++ l) v.2, yes_and (p b) (c.ok b) v.0 one.1)

  abbrev pub tested : Codec A
  tested = record {
    ok = λ a. p a && c.ok a;
    put = c.put;
    get = tested_get;
    small = λ a h. c.small a (and_yes (p a) (c.ok a) h).1;
    there = tested_there;
    back = tested_back;
  }
