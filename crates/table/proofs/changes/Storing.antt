-- One record stored at its place is that member replaced; where there is no such member nothing is.
use Rattle.std.proofs.Common.{◌≡◌, refl, sym, ap, ◌∙◌, ℕ, ◌<◌, set, get_or, Some, None, arith}
use Rattle.std.proofs.lemmas.List.{get_or_default, get_or-take, length-take, drop-set-lt}
use Rattle.std.proofs.Math.Seq.{take-set-lt, set_out}
use Rattle.record.specs.declared.Module.{Module}
use Rattle.table.specs.declared.Table.{Table}
use Rattle.table.specs.Table.{blank, members, place_of, place_found, member_at}
use Rattle.table.specs.Changes.{replaced, TableIs}
use Rattle.table.proofs.Asked.{found_at, none_at}

module _ (t : Table) (adr : ℕ) (f : Module → Module) where
  -- there is such a member
  pub there : (place : ℕ) (m d : Module) → Some place ≡ place_found adr (members t) → m ≡ f (get_or t.modules place d)
      → TableIs t (replaced adr f (members t)) (record { count = t.count; modules = set t.modules place m })
  unfolding members replaced member_at
  there place m d e em =
      let found = found_at adr (members t) _ place refl e in
      let few : place < t.count = omega (arith, found.0, length-take t.count t.modules) in
      let here : get_or t.modules place d ≡ get_or (members t) place blank = sym (get_or-take t.count t.modules place d few) ∙ get_or_default (members t) place d blank found.0 in
      record {
        kept = (refl, drop-set-lt t.count t.modules place m few);
        members_are =
            take-set-lt t.count t.modules place m few
            ∙ ap (λ (x : Module). set (members t) place x) (em ∙ ap f here)
            ∙ ap (λ (k : ℕ). set (members t) k (f (get_or (members t) k blank))) found.1;
      }

  -- there is none
  pub not_there : None ≡ place_found adr (members t) → TableIs t (replaced adr f (members t)) t
  unfolding replaced
  not_there e =
      record {
        kept = (refl, refl);
        members_are = sym (set_out (members t) (place_of adr (members t)) (f (member_at adr (members t))) (none_at adr (members t) _ refl e));
      }
