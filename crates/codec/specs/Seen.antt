-- The same bytes seen as another type: `seen` between values that can be written, `named` where the two types correspond everywhere.
use Rattle.std.specs.Prelude.{◌≡◌, List, ◌++◌, Bool, ℕ, T}
use Rattle.std.proofs.Common.{sym, ◌∙◌, ap, subst}
use Rattle.hex_chars.specs.Hex.{Bytes}
use Rattle.codec.specs.Codec.{Codec, Got, got, and_then, got_value, got_rest, then_inv}

-- `q` says which values of B can be written; on those and on what c can write, f and g undo each other
pub record Between {A B : Type 0} (c : Codec A) (f : A → B) (g : B → A) (q : B → Bool) : Type 0 where
  pub in_ok : (b : B) → T (q b) → T (c.ok (g b))
  pub in_out : (b : B) → T (q b) → f (g b) ≡ b
  pub out_ok : (a : A) → T (c.ok a) → T (q (f a))
  pub out_in : (a : A) → T (c.ok a) → g (f a) ≡ a

module _ {A B : Type 0} (c : Codec A) (f : A → B) (g : B → A) (q : B → Bool) (l : Between c f g q) where
  abbrev pub seen_get : List ℕ → Got B
  seen_get s = and_then (c.get s) (λ a r. got (f a) r)

  pub seen_there : (b : B) (rest : List ℕ) → T (q b) → seen_get (c.put (g b) ++ rest) ≡ got b rest
  seen_there b rest h = rw (c.there (g b) rest (l.in_ok b h)) (ap (λ (x : B). got x rest) (l.in_out b h))

  pub seen_back : (s : List ℕ) (b : B) (rest : List ℕ) → Bytes s → seen_get s ≡ got b rest → (s ≡ c.put (g b) ++ rest) × T (q b)
  seen_back s b rest h e =
      let u = then_inv (c.get s) (λ a r. got (f a) r) b rest e in
      let a = u.0 in
      let one = c.back s a u.1 h u.2 in
      subst (λ (y : B). (s ≡ c.put (g y) ++ rest) × T (q y)) (got_value u.3)
      (one.0 ∙ ap (λ (r : List ℕ). c.put a ++ r) (got_rest u.3) ∙ ap (λ (x : A). c.put x ++ rest) (sym (l.out_in a one.1)), l.out_ok a one.1)

  abbrev pub seen : Codec B
  seen = record {
    ok = q;
    put = λ b. c.put (g b);
    get = seen_get;
    small = λ b h. c.small (g b) (l.in_ok b h);
    there = seen_there;
    back = seen_back;
  }

-- a struct for a row of fields: f and g undo each other everywhere
pub record Names {A B : Type 0} (f : A → B) (g : B → A) : Type 0 where
  pub in_out : (b : B) → f (g b) ≡ b
  pub out_in : (a : A) → g (f a) ≡ a

abbrev pub named : {A B : Type 0} (c : Codec A) (f : A → B) (g : B → A) → Names f g → Codec B
named c f g l =
    seen c f g (λ b. c.ok (g b))
    (record {
      in_ok = λ b h. h;
      in_out = λ b h. l.in_out b;
      out_ok = λ a h. subst (λ x. T (c.ok x)) (sym (l.out_in a)) h;
      out_in = λ a h. l.out_in a;
    })
