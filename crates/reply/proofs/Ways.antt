-- The reply reader's ways: 31, the gate; a stretch that passes the gate has its INFO.
use Rattle.std.proofs.Common.{◌≡◌, sym, ap, ◌∙◌, Bool, true, false, List, ℕ, ◌+◌, ◌≤◌, arith, length, le-ltb}
use Rattle.hex_chars.specs.Hex.{unhexes}
use Rattle.frame.specs.Frame.{info_at, Frames}
use Rattle.frame.specs.Judge.{is_refusal, header, lenid}
use Rattle.frame.proofs.Judging.{accepted, judge-accepts, chars-read}
use Rattle.record.specs.declared.Module.{Module}
use Rattle.record.specs.Nothing.{no_maker}
use Rattle.command.specs.declared.Heard.{Heard}
use Rattle.command.specs.Heard.{Words, words, words_of}
use Rattle.command.proofs.Ones.{told_is}
use Rattle.reply.specs.declared.gate.Question.{Question}
use Rattle.reply.specs.Gate.{Gated, passed, refused as gate_refused, refused_at as gate_refused_at, gate}
use Rattle.reply.specs.Read.{Outcome, refused, refused_at, Left, leaves, by_code, unless, read_reply}

-- behind 31 the gate, whatever it says
pub way : (keeps : Bool) (ms : List Module) (q : Question) (stretch : List ℕ) → keeps ≡ true → (w : Words) → w ≡ words stretch → (g : Gated) → g ≡ gate ms q w
    → unless g ms (by_code ms q w (unhexes (info_at w.lenid stretch))) ≡ read_reply keeps ms q stretch
unfolding read_reply
way keeps ms q stretch e w is g p = rw (e, ← is, ← p)

-- what holds of a refusal and of what follows holds behind the gate
pub by-gate : (P : Left → Type 0) (g : Gated) (ms : List Module) (rest : Left) → P rest → ((why : Outcome) → P (leaves why no_maker ms)) → P (unless g ms rest)
by-gate P passed ms rest on shut = on
by-gate P (gate_refused k) ms rest on shut = shut (refused k)
by-gate P (gate_refused_at k p) ms rest on shut = shut (refused_at k p)

-- ---- INFO is there

-- where the judge refuses, the gate does
judged : (ms : List Module) (q : Question) (w : Words) → gate ms q w ≡ passed → is_refusal w.told ≡ false
unfolding gate
judged ms q w e = grind arith

lenid-is : (c : List ℕ) → 16 ≤ length c → (words c).lenid ≡ lenid c
unfolding words
lenid-is c h = rw (le-ltb (length c) 16 h)

-- what passes the gate is a frame
pub gate-passes : (c : List ℕ) (w : Words) → w ≡ words c → (ms : List Module) (q : Question) → gate ms q w ≡ passed → Frames (header c) (lenid c) c
gate-passes c w is ms q g = (judge-accepts c (header c) (lenid c)).0 (accepted c (ap is_refusal (sym (ap (λ (x : Words). x.told) is ∙ told_is c)) ∙ judged ms q w g))

-- so INFO stands within it
pub info_there : (c : List ℕ) (heard : Heard) (ms : List Module) (q : Question) → words_of heard ≡ words c → gate ms q (words_of heard) ≡ passed → (12 + heard.lenid ≤ length c) × (heard.lenid ≤ 4094)
info_there c heard ms q is g =
    let f = gate-passes c (words_of heard) is ms q g in
    let r = chars-read (header c) f.0 c f.1 in
    let n : heard.lenid ≡ lenid c = ap (λ (x : Words). x.lenid) is ∙ lenid-is c r.0.long in
    (omega (arith, r.0.count), omega (arith, r.0.count, r.0.few))
