-- The judge's answers in words: a frame, a refusal, a refusal with a place.
use Rattle.std.specs.Prelude.{ℕ, Some, None, Result, Ok, Err}
use Rattle.refusal.specs.declared.Refusal.{Refusal}
use Rattle.frame.specs.declared.Header.{Header}
use Rattle.frame.specs.declared.Frame.{Frame}
use Rattle.frame.specs.declared.Fault.{Fault}

abbrev pub Judged : Type 0
Judged = Result Frame Fault

abbrev pub framed_by : Header → ℕ → Judged
framed_by h n = Ok (record { header = h; lenid = n })

abbrev pub refused_by : Refusal → Judged
refused_by r = Err (record { refusal = r; place = None })

abbrev pub refused_at_by : Refusal → ℕ → Judged
refused_at_by r p = Err (record { refusal = r; place = Some p })
