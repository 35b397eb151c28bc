-- Kinds and what they are on paper, both ways: a kind's CID2 and form ask for that kind, and what a served CID2 and a Command ask for is that CID2.
use Rattle.std.proofs.Common.{◌≡◌, refl, sym, ap, ◌∙◌, subst, Bool, true, false, cond, ◌&&◌, ℕ, T, eqb, eqb→eq}
use Rattle.buffer.proofs.Lists.{by_cond}
use Rattle.command.specs.declared.Kind.{Kind}
use Rattle.command.specs.declared.Kind.TheVariants.{Analog, AnalogGroup, Alarm, AlarmGroup, Parameters, Protocol, Maker, Limits, Serial, TurnOff, Version, Unserved}
use Rattle.command.specs.Command.{Form, kind_of, form_of, paper, terms_of}

-- with a Command that is FFH for the two group forms, and any other for the rest
pub kind-back : (k : Kind) (command : ℕ) → eqb command 0xFF ≡ (paper k).group → form_of (paper k).cid2 command ≡ k
unfolding paper form_of kind_of
kind-back Analog command e = rw e
kind-back AnalogGroup command e = rw e
kind-back Alarm command e = rw e
kind-back AlarmGroup command e = rw e
kind-back Parameters command e = rw e
kind-back Protocol command e = rw e
kind-back Maker command e = rw e
kind-back Limits command e = rw e
kind-back Serial command e = rw e
kind-back TurnOff command e = rw e
kind-back Version command e = rw e
kind-back Unserved command e = rw e

command-of : (group : Bool) → (command : ℕ) × (eqb command 0xFF ≡ group)
command-of true = (0xFF, refl)
command-of false = (0, refl)

-- so no two kinds are the same on paper
pub kind-one : (a b : Kind) → paper a ≡ paper b → a ≡ b
kind-one a b e =
    let c = command-of (paper a).group in
    sym (kind-back a c.0 c.1) ∙ ap (λ (f : Form). form_of f.cid2 c.0) e ∙ kind-back b c.0 (c.1 ∙ ap (λ (f : Form). f.group) e)

-- ---- down the kinds of a CID2

at : (P : ℕ → Kind → Type 0) (cid2 n : ℕ) (k : Kind) → P n k → T (eqb cid2 n) → P cid2 k
at P cid2 n k p t = subst (λ (x : ℕ). P x k) (sym (eqb→eq cid2 n t)) p

module _ (P : ℕ → Kind → Type 0) (p42 : P 0x42 Analog) (p44 : P 0x44 Alarm) (p47 : P 0x47 Parameters) (p4F : P 0x4F Protocol) (p51 : P 0x51 Maker) (p92 : P 0x92 Limits) (p93 : P 0x93 Serial) (p95 : P 0x95 TurnOff) (p96 : P 0x96 Version)
    (other : (cid2 : ℕ) → P cid2 Unserved) where
  pub by-cid2 : (cid2 : ℕ) → P cid2 (kind_of cid2)
  unfolding kind_of
  by-cid2 cid2 =
      by_cond (P cid2) (eqb cid2 0x42) (at P cid2 0x42 Analog p42)
      (λ _. by_cond (P cid2) (eqb cid2 0x44) (at P cid2 0x44 Alarm p44)
      (λ _. by_cond (P cid2) (eqb cid2 0x47) (at P cid2 0x47 Parameters p47)
      (λ _. by_cond (P cid2) (eqb cid2 0x4F) (at P cid2 0x4F Protocol p4F)
      (λ _. by_cond (P cid2) (eqb cid2 0x51) (at P cid2 0x51 Maker p51)
      (λ _. by_cond (P cid2) (eqb cid2 0x92) (at P cid2 0x92 Limits p92)
      (λ _. by_cond (P cid2) (eqb cid2 0x93) (at P cid2 0x93 Serial p93)
      (λ _. by_cond (P cid2) (eqb cid2 0x95) (at P cid2 0x95 TurnOff p95)
      (λ _. by_cond (P cid2) (eqb cid2 0x96) (at P cid2 0x96 Version p96) (λ _. other cid2)))))))))

-- what a served CID2 asks for, with a Command
pub form-paper : (cid2 command : ℕ) → (terms_of (kind_of cid2)).served ≡ true
    → paper (form_of cid2 command) ≡ record { cid2 = cid2; group = eqb command 0xFF && (terms_of (kind_of cid2)).has_group }
unfolding form_of paper terms_of
form-paper cid2 command =
    let group = eqb command 0xFF in
    let P : ℕ → Kind → Type 0 =
    λ c k. (terms_of k).served ≡ true → paper (cond group (cond (eqb c 0x42) AnalogGroup (cond (eqb c 0x44) AlarmGroup k)) k) ≡ record { cid2 = c; group = group && (terms_of k).has_group } in
    by-cid2 P
    (λ e. either group Analog AnalogGroup true refl refl) (λ e. either group Alarm AlarmGroup true refl refl)
    (λ e. either group Parameters Parameters false refl refl)
    (λ e. either group Protocol Protocol false refl refl) (λ e. either group Maker Maker false refl refl)
    (λ e. either group Limits Limits false refl refl) (λ e. either group Serial Serial false refl refl)
    (λ e. either group TurnOff TurnOff false refl refl) (λ e. either group Version Version false refl refl)
    (λ c e. cc) cid2
  where
    either : (group : Bool) (one all : Kind) (may : Bool) → (paper one).group ≡ false → paper all ≡ record { cid2 = (paper one).cid2; group = may }
        → paper (cond group all one) ≡ record { cid2 = (paper one).cid2; group = group && may }
    either true one all may e f = f
    either false one all may e f = ap (λ (b : Bool). record { cid2 = (paper one).cid2; group = b }) e
