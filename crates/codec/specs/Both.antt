-- One part after the other; what the second is may go by the first's value.
use Rattle.std.specs.Prelude.{◌≡◌, List, ◌++◌, ◌&&◌, ℕ, T}
use Rattle.std.proofs.Common.{sym, ◌∙◌, ap, subst, append_assoc}
use Rattle.std.proofs.Math.Facts.{and_yes, yes_and}
use Rattle.hex_chars.specs.Hex.{Bytes}
use Rattle.hex_chars.proofs.Laws.{bytes-join, bytes_cut}
use Rattle.codec.specs.Codec.{Codec, Got, got, and_then, got_value, got_rest, then_inv}

module _ {A B : Type 0} (c : Codec A) (d : A → Codec B) where
  abbrev pub both_get : List ℕ → Got (A × B)
  both_get s = and_then (c.get s) (λ a r. and_then ((d a).get r) (λ b r'. got (a, b) r'))

  pub both_there : (x : A × B) (rest : List ℕ) → T (c.ok x.0 && (d x.0).ok x.1) → both_get ((c.put x.0 ++ (d x.0).put x.1) ++ rest) ≡ got x rest
  both_there x rest h =
      let hs = and_yes (c.ok x.0) ((d x.0).ok x.1) h in
      rw (append_assoc, c.there x.0 ((d x.0).put x.1 ++ rest) hs.0, (d x.0).there x.1 rest hs.1)

  pub both_back : (s : List ℕ) (x : A × B) (rest : List ℕ) → Bytes s → both_get s ≡ got x rest → (s ≡ (c.put x.0 ++ (d x.0).put x.1) ++ rest) × T (c.ok x.0 && (d x.0).ok x.1)
  both_back s x rest h e =
      let u = then_inv (c.get s) (λ a r. and_then ((d a).get r) (λ b r'. got (a, b) r')) x rest e in
      let a = u.0 in
      let r = u.1 in
      let v = then_inv ((d a).get r) (λ b r'. got (a, b) r') x rest u.3 in
      let b = v.0 in
      let one = c.back s a r h u.2 in
      let two = (d a).back r b v.1 (bytes_cut (c.put a) r (subst Bytes one.0 h)).1 v.2 in
      let join : s ≡ (c.put a ++ (d a).put b) ++ rest =
      one.0 ∙ ap (λ (l : List ℕ). c.put a ++ l) (two.0 ∙ ap (λ (l : List ℕ). (d a).put b ++ l) (got_rest v.3)) ∙ sym (append_assoc (c.put a) ((d a).put b) rest)
      in
      subst (λ (y : A × B). (s ≡ (c.put y.0 ++ (d y.0).put y.1) ++ rest) × T (c.ok y.0 && (d y.0).ok y.1))
      (got_value v.3)
      (join, yes_and (c.ok a) ((d a).ok b) one.1 two.1)

  abbrev pub both : Codec (A × B)
  both = record {
    ok = λ x. c.ok x.0 && (d x.0).ok x.1;
    put = λ x. c.put x.0 ++ (d x.0).put x.1;
    get = both_get;
    small = λ x h.
        let hs = and_yes (c.ok x.0) ((d x.0).ok x.1) h in
        bytes-join (c.put x.0) ((d x.0).put x.1) (c.small x.0 hs.0) ((d x.0).small x.1 hs.1);
    there = both_there;
    back = both_back;
  }

-- one after the other, with no dependence
infixr 60 ◌then◌
abbrev pub ◌then◌ : {A B : Type 0} → Codec A → Codec B → Codec (A × B)
c then d = both c (λ a. d)
