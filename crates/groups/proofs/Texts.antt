-- The texts of a group, a member after the other: a turn, the end, and that they are the format's.
use Rattle.std.proofs.Common.{◌≡◌, refl, sym, ap, ◌∙◌, Bool, true, false, List, [], ◌∷◌, ◌++◌, append_assoc, ℕ, ◌+◌, ◌<◌, ◌≤◌, length, take, drop, get_or, T, arith}
use Rattle.std.proofs.lemmas.List.{append-nil, length-append, take_more, take-append-drop}
use Rattle.buffer.proofs.Puts.{put-none, put_then}
use Rattle.buffer.specs.Put.{Room, Put}
use Rattle.table.proofs.rule.Fine.{encodable_at}
use Rattle.codec.specs.Codec.{Codec, byte}
use Rattle.buffer.specs.Writing.{wrote, refused, leaves}
use Rattle.buffer.proofs.Writers.{writing-fault, writing-short, writing-all}
use Rattle.codec.specs.Both.{◌then◌}
use Rattle.codec.specs.Whole.{lead}
use Rattle.codec.specs.Many.{many, many_put}
use Rattle.record.specs.declared.Module.{Module}
use Rattle.record.specs.Infos.{command, analog_group, alarm_group, some_analog, some_alarm}
use Rattle.record.specs.Analog.{analog}
use Rattle.record.specs.Alarm.{alarm}
use Rattle.table.specs.Table.{is_on}
use Rattle.groups.specs.Groups.{values_on, group_writing, analog_group_writing, alarm_group_writing}
use Rattle.groups.specs.Texts.{part_text, text_on, text_of_all}

module _ (text : Module → List ℕ) where
  all_join : (s t : List Module) → text_of_all text (s ++ t) ≡ text_of_all text s ++ text_of_all text t
  unfolding text_of_all
  all_join [] t = refl
  all_join (m ∷ s) t = ap (λ (l : List ℕ). text_on text m ++ l) (all_join s t) ∙ sym (append_assoc (text_on text m) (text_of_all text s) (text_of_all text t))

  one-text : (m : Module) → text_of_all text (m ∷ []) ≡ text_on text m
  unfolding text_of_all
  one-text m = append-nil (text_on text m)

  -- the members before i, and the one at i
  pub all_more : (ms : List Module) (i : ℕ) (d : Module) → i < length ms → text_of_all text (take (i + 1) ms) ≡ text_of_all text (take i ms) ++ text_on text (get_or ms i d)
  all_more ms i d h =
      ap (text_of_all text) (take_more ms i d h)
      ∙ all_join (take i ms) (get_or ms i d ∷ [])
      ∙ ap (λ (l : List ℕ). text_of_all text (take i ms) ++ l) (one-text (get_or ms i d))

  pub all_none : text_of_all text [] ≡ []
  unfolding text_of_all
  all_none = refl

  -- the texts of the first members are no longer than those of all
  pub first_short : (ms : List Module) (i : ℕ) → length (text_of_all text (take i ms)) ≤ length (text_of_all text ms)
  first_short ms i =
      let e = ap length (ap (text_of_all text) (sym (take-append-drop i ms)) ∙ all_join (take i ms) (drop i ms)) in
      omega (arith, e, length-append (text_of_all text (take i ms)) (text_of_all text (drop i ms)))

-- the format's text of the values
module _ {A : Type 0} (c : Codec A) (some : (a : A) → T (c.ok a) → 0 < length (c.put a)) (f : Module → A) where
  turn : (on : Bool) (m : Module) (ms : List Module) → is_on m ≡ on → many_put c some (values_on f ms) ≡ text_of_all (part_text c f) ms
      → many_put c some (values_on f (m ∷ ms)) ≡ text_of_all (part_text c f) (m ∷ ms)
  unfolding values_on text_of_all text_on
  turn true m ms e ih = rw e (ap (λ (l : List ℕ). c.put (f m) ++ l) ih)
  turn false m ms e ih = rw e ih

  pub values-text : (ms : List Module) → many_put c some (values_on f ms) ≡ text_of_all (part_text c f) ms
  unfolding values_on text_of_all
  values-text [] = refl
  values-text (m ∷ ms) = turn (is_on m) m ms refl (values-text ms)

  group-put : (flag : ℕ) (ms : List Module) → (lead (byte then command 0xFF) (λ x. many c some 12)).put ((flag, 0xFF), values_on f ms) ≡ flag ∷ 0xFF ∷ text_of_all (part_text c f) ms
  group-put flag ms = ap (λ (l : List ℕ). flag ∷ 0xFF ∷ l) (values-text ms)

  -- 31, then 32, then flag, FFH and the records
  module _ (keeps : Bool) (flag : ℕ) (ms : List Module) (out : List ℕ) where
    pub group_breaks : keeps ≡ false → leaves (refused 31) out ≡ group_writing c some f keeps flag ms out
    group_breaks e = writing-fault 31 _ out keeps e

    pub group_short : keeps ≡ true → length out < 2 + length (text_of_all (part_text c f) ms) → leaves (refused 32) out ≡ group_writing c some f keeps flag ms out
    group_short e h = writing-short 31 _ out keeps e (omega (arith, h, ap length (group-put flag ms)))

    pub group_written : keeps ≡ true → 2 + length (text_of_all (part_text c f) ms) ≤ length out → {mid out' : List ℕ} {at n : ℕ} → Put out 0 (flag ∷ 0xFF ∷ []) mid at → Put mid at (text_of_all (part_text c f) ms) out' n
        → leaves (wrote n) out' ≡ group_writing c some f keeps flag ms out
    group_written e h {mid} {out'} {at} {n} front rest =
        let room : Room out 0 (flag ∷ 0xFF ∷ []) = record { fits = omega (arith, h) } in
        writing-all 31 _ out keeps e (omega (arith, h, ap length (group-put flag ms))) out' n
        (rw (group-put flag ms) (put_then room front rest))

-- the group of 42H, and that of 44H, are its instances

pub analog_group_is : (keeps : Bool) (flag : ℕ) (ms : List Module) (out : List ℕ) → group_writing analog some_analog (λ m. m.analog) keeps flag ms out ≡ analog_group_writing keeps flag ms out
unfolding analog_group
analog_group_is keeps flag ms out = refl

pub alarm_group_is : (keeps : Bool) (flag : ℕ) (ms : List Module) (out : List ℕ) → group_writing alarm some_alarm (λ m. m.alarm) keeps flag ms out ≡ alarm_group_writing keeps flag ms out
unfolding alarm_group
alarm_group_is keeps flag ms out = refl

-- ---- the loops

pub size_more : (text : Module → List ℕ) (ms : List Module) (i : ℕ) (d : Module) → i < length ms → {n k : ℕ} → n ≡ length (text_of_all text (take i ms)) → k ≡ length (text_on text (get_or ms i d)) → n + k ≡ length (text_of_all text (take (i + 1) ms))
size_more text ms i d h {n} {k} en ek = rw (all_more text ms i d h) (omega (arith, en, ek, length-append (text_of_all text (take i ms)) (text_on text (get_or ms i d))))

pub put-nothing : (out : List ℕ) (at : ℕ) (text : Module → List ℕ) → Put out at (text_of_all text []) out at
unfolding text_of_all
put-nothing out at text = put-none out at

module _ (text : Module → List ℕ) (ms : List Module) (i : ℕ) (d : Module) {start out : List ℕ} {at next : ℕ}
    (room : Room start at (text_of_all text ms)) (put : Put start at (text_of_all text (take i ms)) out next) (more : i < length ms) where
  pub room_more : length out ≡ length start → Room out next (text_on text (get_or ms i d))
  room_more kept =
      let long = ap length (all_more text ms i d more) in
      record {
        fits = omega (arith, room.fits, put.end, first_short text ms (i + 1), long, length-append (text_of_all text (take i ms)) (text_on text (get_or ms i d)));
      }

  pub put_more : {out' : List ℕ} {next' : ℕ} → Put out next (text_on text (get_or ms i d)) out' next' → Put start at (text_of_all text (take (i + 1) ms)) out' next'
  put_more {out'} {next'} one =
      let first : Room start at (text_of_all text (take i ms)) = record { fits = omega (arith, room.fits, first_short text ms i) } in
      rw (all_more text ms i d more) (put_then first put one)

pub ruleset puts_on = (put-none)

pub ruleset sizes = (encodable_at, all_none)

pub ruleset puts = (encodable_at, room_more)
