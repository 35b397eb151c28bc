-- 936 can't be raised for the tilde: a whole encoding with LENID 938 of which one character becomes a tilde, and the tail is a frame.
use Rattle.std.proofs.Common.{◌≡◌, refl, List, [], ◌∷◌, ◌++◌, ℕ, ◌≤◌, length, set, replicate}
use Rattle.buffer.specs.Text.{ascii}
use Rattle.hex_chars.specs.Hex.{is_hex, digit_of, all_hex, byte_of, byte_at, word_at}
use Rattle.frame.specs.declared.Header.{Header}
use Rattle.frame.specs.Frame.{SOI, CR, lchksum, chksum}
use Rattle.frame.specs.Judge.{frame, need, header, lenid, judge}
use Rattle.frame.proofs.Judging.{judge-accepts}
use Rattle.receiver.specs.Stream.{told_at}
use Rattle.receiver.proofs.Streams.{sent}

-- the part that is cut off: with the F before the tail its characters add up to 65,536
first : List ℕ
first = ascii "FFFFFFFF93AA0009C" ++ replicate 920 0x46

tail : List ℕ
tail = ascii "2002464F0000FD98"

pub long : List ℕ
long = first ++ 0x46 ∷ tail

pub long-header : Header
long-header = record { ver = 0xFF; adr = 0xFF; cid1 = 0xFF; cid2 = 0xFF }

pub tail-header : Header
tail-header = record { ver = 0x20; adr = 0x02; cid1 = 0x46; cid2 = 0x4F }

-- it is a whole encoding
pub long-accepted : judge long ≡ frame long-header 938
unfolding long first tail long-header is_hex digit_of all_hex byte_of byte_at word_at lchksum chksum need header lenid judge
long-accepted = refl

tail-accepted : judge tail ≡ frame tail-header 0
unfolding tail tail-header is_hex digit_of all_hex byte_of byte_at word_at lchksum chksum need header lenid judge
tail-accepted = refl

-- and with character 937 changed to a tilde, a frame is told at its CR
pub long-changed : (store : List ℕ) → 4110 ≤ length store → told_at store (SOI ∷ (set long 937 SOI ++ CR ∷ [])) 955 ≡ frame tail-header 0
unfolding long first tail
long-changed store room = sent store (SOI ∷ first) tail [] tail-header 0 room ((judge-accepts tail tail-header 0).0 tail-accepted)
