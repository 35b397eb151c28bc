-- What is not stored did not change: only a reply that was read with code 00H to a command that carries records leaves other records than before.
use Rattle.std.proofs.Common.{◌≡◌, refl, Bool, true, false, cond, List, ℕ, eqb}
use Rattle.std.proofs.lemmas.Bool.{or_parts}
use Rattle.buffer.proofs.Lists.{by_cond}
use Rattle.hex_chars.specs.Hex.{unhexes}
use Rattle.frame.specs.Frame.{info_at}
use Rattle.codec.specs.Whole.{Told, told, refuse, mapped}
use Rattle.record.specs.declared.Module.{Module}
use Rattle.record.specs.Infos.{maker_info, empty_info}
use Rattle.command.specs.declared.Kind.{Kind}
use Rattle.command.specs.declared.Kind.TheVariants.{AnalogGroup, AlarmGroup, Protocol, Maker, TurnOff, Unserved}
use Rattle.command.specs.Command.{form_of}
use Rattle.command.specs.Heard.{words}
use Rattle.command.proofs.Forms.{by-cid2}
use Rattle.reply.specs.declared.gate.Question.{Question}
use Rattle.reply.specs.Gate.{gate}
use Rattle.reply.specs.Read.{Data, Left, took, given, by_code, read_reply}
use Rattle.reply.proofs.Ways.{by-gate}
use Rattle.flat.specs.Flat.{reply_of}
use Rattle.entries.specs.Entries.{carries_records, changes_records}

-- the records of a reading, where one was read, are those before
abbrev Stays : List Module → Told Data → Type 0
Stays ms (told x) = x.1.1 ≡ ms
Stays ms (refuse k) = Unit {0}

carried : {X : Type 0} (ms : List Module) (t : Told X) (to : X → Data) → ((x : X) → (to x).1.1 ≡ ms) → Stays ms (mapped t to)
carried ms (told x) to e = e x
carried ms (refuse k) to e = tt

module _ (ms : List Module) (adr : ℕ) (info : List ℕ) where
  abbrev Same : Kind → Type 0
  Same k = Stays ms (took k ms adr info)

  either : (b : Bool) (k : Kind) → Same k → Same (cond b k k)
  either true k s = s
  either false k s = s

  nothing-took : Same Protocol × (Same Maker × (Same TurnOff × Same Unserved))
  unfolding took
  nothing-took = (carried ms (empty_info.get info) _ (λ x. refl), (carried ms (maker_info.get info) _ (λ x. refl), (carried ms (empty_info.get info) _ (λ x. refl), tt)))

  no-records : (cid2 command : ℕ) → carries_records cid2 ≡ false → Same (form_of cid2 command)
  unfolding carries_records form_of
  no-records cid2 command =
      let group = eqb command 0xFF in
      let n = nothing-took in
      by-cid2 (λ (c : ℕ) (k : Kind). carries_records c ≡ false → Same (cond group (cond (eqb c 0x42) AnalogGroup (cond (eqb c 0x44) AlarmGroup k)) k))
      (λ e. cc) (λ e. cc) (λ e. cc) (λ e. either group Protocol n.0) (λ e. either group Maker n.1.0)
      (λ e. cc) (λ e. cc) (λ e. either group TurnOff n.1.1.0) (λ e. cc)
      (λ c e. let a = or_parts (eqb c 0x42) _ e in let b = or_parts (eqb c 0x44) _ a.1 in rw (a.0, b.0) (either group Unserved n.1.1.1)) cid2

module _ (q : Question) (ms : List Module) where
  abbrev Kept : Left → Type 0
  Kept l = changes_records q.cid2 (reply_of l.outcome l.maker) ≡ false → l.modules ≡ ms

  by-told : (ver : ℕ) (t : Told Data) → (carries_records q.cid2 ≡ false → Stays ms t) → Kept (given ver ms t)
  by-told ver (told x) s = s
  by-told ver (refuse k) s = λ e. refl

  pub unstored : (keeps : Bool) (stretch : List ℕ) → Kept (read_reply keeps ms q stretch)
  unfolding read_reply
  unstored keeps stretch =
      let w = words stretch in
      let info = unhexes (info_at w.lenid stretch) in
      by_cond Kept keeps
      (λ _. by-gate Kept (gate ms q w) ms (by_code ms q w info)
      (by_cond Kept (eqb w.header.cid2 0)
      (λ _. by-told w.header.ver (took (form_of q.cid2 q.command) ms q.adr info) (no-records ms q.adr info q.cid2 q.command))
      (λ _ e. refl))
      (λ why e. refl))
      (λ _ e. refl)
