-- INFO of 47H by its length alone: 25 bytes are taken whatever they are, fewer are 16, more are 17. The format is a flag and twelve words.
use Rattle.std.proofs.Common.{◌≡◌, List, ℕ, Result}
use Rattle.refusal.specs.declared.Refusal.{Refusal}
use Rattle.hex_chars.specs.Hex.{unhexes}
use Rattle.codec.specs.Codec.{Codec, byte}
use Rattle.codec.specs.Both.{◌then◌}
use Rattle.codec.specs.Numbers.{word, signed}
use Rattle.codec.specs.Whole.{ended, lead}
use Rattle.codec.proofs.Sized.{Takes, takes-then, takes-seen, takes-word, takes-signed, BySize, by-size}
use Rattle.fields.specs.Reads.{answered}
use Rattle.record.specs.declared.Parameters.{Parameters}
use Rattle.record.specs.Parameters.{thrice, parameters_row, to_parameters, of_parameters, parameters}
use Rattle.record.specs.Infos.{parameters_info}

takes-thrice : {A : Type 0} (c : Codec A) → Takes c 2 → Takes (thrice c) 6
takes-thrice c p = takes-then c (c then c) 2 4 p (takes-then c c 2 2 p p)

takes-parameters : Takes parameters 24
unfolding parameters
takes-parameters =
    let signed-three = takes-thrice signed takes-signed in
    let last = takes-then (thrice word) (thrice signed) 6 6 (takes-thrice word takes-word) signed-three in
    let behind = takes-then (thrice signed) (thrice word then thrice signed) 6 12 signed-three last in
    takes-seen parameters_row to_parameters of_parameters _ _ 24 (takes-then (thrice signed) (thrice signed then (thrice word then thrice signed)) 6 18 signed-three behind)

pub parameters-by-size : (s : List ℕ) → BySize 25 s (parameters_info.get s)
unfolding parameters_info
parameters-by-size s = by-size parameters 24 takes-parameters s

-- so of each call of the reader, whatever INFO it is lent: what its contract allows goes by the length alone
pub take-parameters-by-size : (info : List ℕ) (result : Result (ℕ × Parameters) Refusal)
    → answered result ≡ (lead byte (λ x. ended parameters)).get (unhexes info) → BySize 25 (unhexes info) (answered result)
take-parameters-by-size info result e = rw e (by-size parameters 24 takes-parameters (unhexes info))
