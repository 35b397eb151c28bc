-- Whatever the stand-in sends is a whole encoding, so the receiver hands it out: header and data are bytes, and the data are short.
use Rattle.std.proofs.Common.{◌≡◌, refl, true, List, [], ◌∷◌, ◌++◌, append_assoc, ℕ, suc, ◌+◌, ◌-◌, ◌*◌, ◌≤◌, ◌<◌, arith, length, take_at, ltb, eqb}
use Rattle.buffer.proofs.Lists.{by_cond}
use Rattle.hex_chars.specs.Hex.{Bytes, byte_at}
use Rattle.hex_chars.proofs.Laws.{byte_small}
use Rattle.frame.specs.declared.Header.{Header}
use Rattle.frame.specs.Frame.{SOI, CR, chars, encode, Encodes, between}
use Rattle.frame.specs.Judge.{frame, header}
use Rattle.frame.proofs.Steps.{length-chars, length-encode}
use Rattle.receiver.specs.Stream.{told_at}
use Rattle.receiver.proofs.Streams.{sent}
use Rattle.record.specs.declared.Module.{Module}
use Rattle.table.specs.declared.Station.{Station}
use Rattle.table.specs.Rule.{rule}
use Rattle.command.specs.Heard.{Words, words}
use Rattle.standin.specs.Says.{Code, decide}
use Rattle.standin.specs.Answer.{kind_asked, info_for, reply_header}
use Rattle.standin.proofs.Filled.{info-length}
use Rattle.standin.proofs.Replies.{said-on}
use Rattle.meet.specs.Copied.{OfBytes}
use Rattle.meet.proofs.Codes.{said-known}
use Rattle.meet.proofs.Data.{data-bytes}

-- the ADR of a stretch is a byte
pub adr_small : (s : List ℕ) → (words s).header.adr < 256
unfolding words header byte_at
adr_small s = by_cond (λ (w : Words). w.header.adr < 256) (ltb (length s) 16) (λ t. omega arith) (λ t. byte_small _ _)

-- between SOI and CR of a frame at the front of a buffer
pub between-text : (h : Header) (info rest : List ℕ) → between (length (encode h info)) (encode h info ++ rest) ≡ chars h info
unfolding encode
between-text h info rest =
    rw (append_assoc (chars h info) (CR ∷ []) rest)
    (take_at (chars h info) (CR ∷ rest) (length (encode h info) - 2) (omega (arith, length-encode h info, length-chars h info)))

module _ (st : Station) (bytes : OfBytes st) (ms : List Module) (keeps : rule ms ≡ true) (w : Words) (small : w.header.adr < 256) (code : ℕ) (said : decide st ms w ≡ Code code) where
  pub reply-encodes : Encodes (reply_header st w code) (info_for st ms w code) (chars (reply_header st w code) (info_for st ms w code))
  unfolding info_for
  reply-encodes =
      let on = said-on st ms w code said in
      let adr = w.header.adr in
      record {
        head = (bytes.ver, (small, (omega arith, ((said-known st ms w code said).1, tt))));
        body = by_cond Bytes (eqb code 0) (λ t. data-bytes st bytes ms keeps adr small on (kind_asked w)) (λ t. tt);
        short =
            by_cond (λ (l : List ℕ). length l ≤ 2047) (eqb code 0)
            (λ t. omega (arith, info-length ms keeps adr on st bytes.count (kind_asked w)))
            (λ t. omega arith);
        is = refl;
      }

  -- after any bytes and before any, the receiver tells of it at its CR
  pub reply-is-received : (store pre post : List ℕ) → 4110 ≤ length store
      → let c = chars (reply_header st w code) (info_for st ms w code) in
      told_at store (pre ++ SOI ∷ (c ++ CR ∷ post)) (length pre + suc (length c)) ≡ frame (reply_header st w code) (2 * length (info_for st ms w code))
  reply-is-received store pre post room =
      sent store pre (chars (reply_header st w code) (info_for st ms w code)) post (reply_header st w code) (2 * length (info_for st ms w code)) room (info_for st ms w code, reply-encodes, refl)
