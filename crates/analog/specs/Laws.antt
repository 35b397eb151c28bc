-- Nobody has to believe this file: it proves what a format owes of the lengths of its values, 7 bytes of capacities or 13, and the size of a record.
use Rattle.std.specs.Prelude.{◌≡◌, refl, Bool, true, false, cond, ◌+◌, ◌*◌, ◌<◌, length, leb, T}
use Rattle.std.proofs.Common.{arith, length-append}
use Rattle.std.proofs.lemmas.Bool.{and_parts}
use Rattle.std.proofs.lemmas.Bool.Decides.{nat_tests}
use Rattle.codec.specs.Numbers.{signed}
use Rattle.codec.proofs.Counts.{count-length}
use Rattle.record.specs.declared.Analog.{Analog}
use Rattle.record.specs.Zeros.{zero_signed}
use Rattle.record.specs.Analog.{analog, measured}
use Rattle.record.specs.Capacities.{Raw, raw, Capacities, capacities}
use Rattle.analog.specs.Size.{analog_size}

-- items 2 or items 4
either : (b : Bool) (x y : Raw) → length (raw.put (cond b x y)) ≡ cond b (length (raw.put x)) (length (raw.put y))
either true x y = refl
either false x y = refl

pub capacities_length : (c : Capacities) → length (capacities.put c) ≡ cond (leb c.1.0 65000) 7 13
unfolding capacities
capacities_length c = either (leb c.1.0 65000) ((c.0, false), (c.1.0, (c.1.1, (0, 0)))) ((65535, true), (65535, (c.1.1, (c.0, c.1.0))))

pub some_capacities : (c : Capacities) → T (capacities.ok c) → 0 < length (capacities.put c)
some_capacities c t = let e = capacities_length c in grind (arith, nat_tests)

module _ (a : Analog) (e : analog.ok a ≡ true) where
  lists : ((measured 16).ok (a.cell_count, a.cells) ≡ true) × ((measured 8).ok (a.temperature_count, a.temperatures) ≡ true)
  unfolding analog
  lists = let p = and_parts _ _ e in (p.0, (and_parts _ _ p.1).0)

  pub analog_length : length (analog.put a) ≡ analog_size a.cell_count a.temperature_count a.total
  unfolding analog measured
  analog_length =
      let m = count-length signed zero_signed 16 a.cell_count a.cells lists.0 2 (λ z. refl) in
      let n = count-length signed zero_signed 8 a.temperature_count a.temperatures lists.1 2 (λ z. refl) in
      let k = capacities_length (a.remaining, (a.total, a.cycles)) in
      simp length-append (grind (arith, nat_tests))
