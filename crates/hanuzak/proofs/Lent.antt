-- What is said of the loaded table is said of the lent one: a table that breaks its rule is refused before its records are read.
use Rattle.std.proofs.Common.{◌≡◌, refl, sym, ap, ◌∙◌, subst, Bool, true, false, not, cond, List, ℕ, ◌≤◌, ◌<◌, le_refl, le_of_eq, arith, length, take, length-take-le, take-take, leb, leb→le, T}
use lib.Dec.{nleb→lt}
use Rattle.buffer.specs.Writing.{writing}
use Rattle.record.specs.declared.Module.{Module}
use Rattle.table.specs.declared.Station.{Station}
use Rattle.table.specs.declared.Table.{Table}
use Rattle.table.specs.Table.{members}
use Rattle.reply.specs.declared.gate.Question.{Question}
use Rattle.reply.specs.Read.{Left, read_reply}
use Rattle.table.specs.Rule.{rule, keeps}
use Rattle.groups.specs.Groups.{analog_group_writing, alarm_group_writing}
use Rattle.standin.specs.Answer.{answer}
use Rattle.flat.specs.declared.FlatReply.{FlatReply}
use Rattle.entries.specs.declared.ReadReply.{ReadReply}
use Rattle.lent.specs.Loaded.{over, loaded}
use Rattle.entries.specs.Entries.{changes_records, stored_of, ReadsFlat}
use Rattle.hanuzak.specs.Reading.{read_then, reading, ReplyLeaves}
use Rattle.flat.specs.Flat.{reply_of}
use Rattle.lent.proofs.Loaded.{loaded-keeps, by-loaded, few-keep, loaded-members, many-break, over-all, over_none}
use Rattle.entries.proofs.Stored.{unstored}

module _ (ms : List Module) (flag : ℕ) (out : List ℕ) where
  pub lent-analog : analog_group_writing (keeps (loaded ms)) flag (members (loaded ms)) out ≡ analog_group_writing (rule ms) flag ms out
  unfolding writing
  lent-analog = by-loaded (λ (b : Bool) (xs : List Module). analog_group_writing b flag xs out) ms (λ xs ys. refl)

  pub lent-alarm : alarm_group_writing (keeps (loaded ms)) flag (members (loaded ms)) out ≡ alarm_group_writing (rule ms) flag ms out
  unfolding writing
  lent-alarm = by-loaded (λ (b : Bool) (xs : List Module). alarm_group_writing b flag xs out) ms (λ xs ys. refl)

pub lent-answer : (station : Station) (ms : List Module) (stretch out : List ℕ)
    → answer (keeps (loaded ms)) (loaded ms).count station (members (loaded ms)) stretch out ≡ answer (rule ms) (length ms) station ms stretch out
unfolding answer loaded
lent-answer station ms stretch out = by-loaded (λ (b : Bool) (xs : List Module). answer b (length ms) station xs stretch out) ms (λ xs ys. refl)

-- ---- the reply reader

-- as many records of a table by value as a list has, over that list
few-back : (ms : List Module) (t : Table) → length t.modules ≡ 12 → t.count ≡ length ms → length ms ≤ 12 → over ms (take (length ms) t.modules) ≡ members t
unfolding members
few-back ms t full count few =
    let n = length ms in
    let long : length (take n t.modules) ≡ n = length-take-le n t.modules (omega (arith, full, few)) in
    over-all ms (take n t.modules) (le_of_eq (sym long)) ∙ take-take n n t.modules (le_refl n) ∙ ap (λ (k : ℕ). take k t.modules) (sym count)

pub lent-reading : (ms : List Module) (question : Question) (stretch : List ℕ) (r : ReadReply) (table : List Module) → length r.table.modules ≡ 12
    → ReadsFlat (read_reply (keeps (loaded ms)) (members (loaded ms)) question stretch) question.cid2 (loaded ms) r → table ≡ over ms (take r.stored r.table.modules)
    → ReplyLeaves (reading ms question stretch) r.reply table
unfolding reading loaded read_reply
lent-reading ms question stretch r table full s e = pick (leb (length ms) 12) refl
  where
    left : Bool → List Module → Left
    left b xs = read_reply b xs question stretch

    flat : Left → FlatReply
    flat l = reply_of l.outcome l.maker

    read : Left
    read = left (keeps (loaded ms)) (members (loaded ms))

    -- how many records are stored
    stored_is : (l : Left) → read ≡ l → (b : Bool) → changes_records question.cid2 (flat l) ≡ b → r.stored ≡ cond b (length ms) 0
    stored_is l is b c = s.stores ∙ ap (λ (k : Left). stored_of (length ms) question.cid2 (flat k)) is ∙ ap (λ (x : Bool). cond x (length ms) 0) c

    none-stored : r.stored ≡ 0 → table ≡ ms
    none-stored z = e ∙ ap (λ (k : ℕ). over ms (take k r.table.modules)) z ∙ over_none ms

    few-stored : length ms ≤ 12 → read ≡ left (rule ms) ms → (b : Bool) → changes_records question.cid2 (flat (left (rule ms) ms)) ≡ b → table ≡ (left (rule ms) ms).modules
    few-stored few same true c =
        e ∙ ap (λ (k : ℕ). over ms (take k r.table.modules)) (stored_is _ same true c) ∙ few-back ms r.table full s.kept.0 few ∙ s.members_are ∙ ap (λ (l : Left). l.modules) same
    few-stored few same false c = none-stored (stored_is _ same false c) ∙ sym (unstored question ms (rule ms) stretch c)

    both : (l : Left) → read ≡ l → table ≡ (left (rule ms) ms).modules → flat l ≡ flat (left (rule ms) ms) → ReplyLeaves (read_then (left (rule ms) ms)) r.reply table
    both l is u f = λ i. record { reply = (s.told ∙ ap flat is ∙ f) i; table = u i }

    pick : (b : Bool) → leb (length ms) 12 ≡ b → ReplyLeaves (read_then (left (rule ms) ms)) r.reply table
    pick true t =
        let few : length ms ≤ 12 = leb→le (length ms) 12 (subst T (sym t) tt) in
        let same : read ≡ left (rule ms) ms = ap (λ (b : Bool). left b (members (loaded ms))) (few-keep ms few) ∙ ap (left (rule ms)) (loaded-members ms few) in
        both (left (rule ms) ms) same (few-stored few same (changes_records question.cid2 (flat (left (rule ms) ms))) refl) refl
    pick false t =
        let many : 12 < length ms = nleb→lt (length ms) 12 (subst (λ (b : Bool). T (not b)) (sym t) tt) in
        let was : read ≡ left false (members (loaded ms)) = ap (λ (b : Bool). left b (members (loaded ms))) (many-break ms many).0 in
        let is : left false ms ≡ left (rule ms) ms = ap (λ (b : Bool). left b ms) (sym (many-break ms many).1) in
        both (left false (members (loaded ms))) was (none-stored (stored_is _ was false refl) ∙ ap (λ (l : Left). l.modules) is) (ap flat is)

-- for the functions over the lent table
pub ruleset lent = (lent-analog, lent-alarm, lent-answer, loaded-keeps)
