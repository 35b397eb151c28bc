-- Nobody has to believe this file: it proves what each format owes of the lengths of its values.
use Rattle.std.specs.Prelude.{◌<◌, ℕ, List, length, T}
use Rattle.std.proofs.Common.{arith}
use Rattle.parts.specs.Laws.{length_bytes}
use Rattle.record.specs.declared.Limits.{Limits}
use Rattle.record.specs.declared.Parameters.{Parameters}
use Rattle.record.specs.Limits.{limits}
use Rattle.record.specs.Parameters.{parameters}
use Rattle.record.specs.Texts.{serial, version, maker}

pub some_parameters : (a : Parameters) → T (parameters.ok a) → 0 < length (parameters.put a)
unfolding parameters
some_parameters a t = omega arith

pub some_limits : (a : Limits) → T (limits.ok a) → 0 < length (limits.put a)
unfolding limits
some_limits a t = omega arith

pub some_serial : (a : List ℕ) → T (serial.ok a) → 0 < length (serial.put a)
unfolding serial
some_serial a t = omega (arith, length_bytes 16 a t)

pub some_version : (a : List ℕ) → T (version.ok a) → 0 < length (version.put a)
unfolding version
some_version a t = omega (arith, length_bytes 5 a t)

pub some_maker : (a : List ℕ) → T (maker.ok a) → 0 < length (maker.put a)
unfolding maker
some_maker a t = omega (arith, length_bytes 32 a t)
