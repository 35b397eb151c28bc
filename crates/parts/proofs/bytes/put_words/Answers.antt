-- A turn puts one more word behind those that were put.
use Rattle.std.proofs.Common.{◌≡◌, List, [], ◌∷◌, ℕ, zero, suc, ◌<◌, length, get_or, refl, arith}
use Rattle.codec.specs.Numbers.{word}
use Rattle.codec.proofs.RowPuts.{put-turn, room-turn}
use Rattle.parts.proofs.bytes.put_words.Goals as goal

-- a place within the list has its own value, whatever stands for none
own : (l : List ℕ) (i : ℕ) → i < length l → get_or l i 0 ≡ get_or l i (get_or l i 0)
own [] i h = absurd (omega arith)
own (x ∷ l) zero h = refl
own (x ∷ l) (suc i) h = own l i (omega arith)

pub put_word-next-requires : goal.put_word-next-requires
put_word-next-requires c =
    room-turn word c.args.words.now (own c.args.words.now c.loop-word.word-index (omega arith)) (omega arith) c.requires c.loop-word.invariant c.loop-word.auto.out

pub loop-word-preserved : goal.loop-word-preserved
loop-word-preserved c =
    put-turn word c.args.words.now (own c.args.words.now c.loop-word.word-index (omega arith)) (omega arith) c.requires c.loop-word.invariant c.put_word-next.ensures
