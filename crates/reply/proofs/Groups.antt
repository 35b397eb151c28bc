-- What the reader of a group's INFO answers, and what its format found: the same refusal, or the flag and the records, which are then dealt out.
use Rattle.std.proofs.Common.{◌≡◌, cond, List, [], ◌∷◌, ℕ, zero, suc, ◌<◌, ◌≤◌, eqb, length, take, ap, subst, refl, arith, T}
use Rattle.std.specs.Prelude.{Ok, Err}
use Rattle.refusal.specs.Number.{number}
use Rattle.refusal.specs.declared.Refusal.{Refusal}
use Rattle.codec.specs.Codec.{Codec, byte}
use Rattle.codec.specs.Both.{◌then◌}
use Rattle.codec.specs.Counted.{pad_to}
use Rattle.codec.specs.Whole.{Told, told, refuse, lead, mapped}
use Rattle.codec.specs.Many.{many}
use Rattle.record.specs.declared.Module.{Module}
use Rattle.record.specs.Infos.{Front, command}
use Rattle.record.specs.Nothing.{no_maker}
use Rattle.parts.specs.Groups.{handed, grouped}
use Rattle.table.specs.Table.{count_on}
use Rattle.table.specs.Changes.{dealt}
use Rattle.reply.specs.Read.{for_all}

pub take-pad : {A : Type 0} (z : A) (N : ℕ) (l : List A) → length l ≤ N → take (length l) (pad_to z N l) ≡ l
take-pad z zero [] h = refl
take-pad z zero (a ∷ l) h = absurd (omega arith)
take-pad z (suc N) [] h = refl
take-pad z (suc N) (a ∷ l) h = ap (λ (s : List _). a ∷ s) (take-pad z N l (omega arith))

module _ {A : Type 0} (f : A → Module → Module) (ms : List Module) (none : A) (K : ℕ) (places : List A) where
  refused-so : (w : Told (Front × List A)) (r : Refusal) → handed (Err r) places ≡ mapped w (grouped none K) → for_all f ms w ≡ refuse (number r)
  refused-so w r e = grind arith

  taken-so : (w : Told (Front × List A)) (flag n : ℕ) → handed (Ok (flag, n)) places ≡ mapped w (grouped none K) → n ≤ K
      → for_all f ms w ≡ cond (eqb n (count_on ms)) (told (flag, (no_maker, dealt f ms (take n places)))) (refuse 22)
  taken-so w flag n e h = grind (arith, take-pad)

-- with as many places as the format has records
module _ {A : Type 0} (c : Codec A) (some : (a : A) → T (c.ok a) → 0 < length (c.put a)) (f : A → Module → Module) (ms : List Module) (info : List ℕ) where
  abbrev group : ℕ → Told (Front × List A)
  group K = (lead (byte then command 0xFF) (λ x. many c some K)).get info

  pub group_refused : (none : A) (places : List A) (K : ℕ) (r : Refusal) → K ≡ 12 → handed (Err r) places ≡ mapped (group K) (grouped none K) → for_all f ms (group 12) ≡ refuse (number r)
  group_refused none places K r k e = refused-so f ms none 12 places (group 12) r (subst (λ (n : ℕ). handed (Err r) places ≡ mapped (group n) (grouped none n)) k e)

  pub group_taken : (none : A) (places : List A) (K flag n : ℕ) → K ≡ 12 → handed (Ok (flag, n)) places ≡ mapped (group K) (grouped none K) → n ≤ K
      → for_all f ms (group 12) ≡ cond (eqb n (count_on ms)) (told (flag, (no_maker, dealt f ms (take n places)))) (refuse 22)
  group_taken none places K flag n k e h =
      taken-so f ms none 12 places (group 12) flag n (subst (λ (m : ℕ). handed (Ok (flag, n)) places ≡ mapped (group m) (grouped none m)) k e) (omega arith)
