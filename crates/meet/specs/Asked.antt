-- A question as the protocol writes it, with the VER that the master sends, and the link fault that stops it.
use Rattle.std.specs.Prelude.{Bool, cond, not, ◌&&◌, ◌||◌, List, [], ◌∷◌, ℕ, ◌<◌, eqb}
use Rattle.frame.specs.declared.Header.{Header}
use Rattle.frame.specs.Frame.{chars}
use Rattle.record.specs.declared.Module.{Module}
use Rattle.table.specs.Table.{has_fault, member_at, any_fault}
use Rattle.command.specs.Command.{kind_of, terms_of}
use Rattle.reply.specs.declared.gate.Question.{Question}

abbrev pub question_header : ℕ → Question → Header
question_header ver q = record { ver = ver; adr = q.adr; cid1 = 0x46; cid2 = q.cid2 }

-- INFO is Command, where the command has one
abbrev pub question_info : Question → List ℕ
question_info q = cond (terms_of (kind_of q.cid2)).has_command (q.command ∷ []) []

-- what stands between its SOI and CR
unfoldable pub asking : ℕ → Question → List ℕ
asking ver q = chars (question_header ver q) (question_info q)

-- VER and the question's three numbers are bytes
pub record AskedBytes (ver : ℕ) (q : Question) : Type 0 where
  pub ver_small : ver < 256
  pub adr_small : q.adr < 256
  pub cid2_small : q.cid2 < 256
  pub command_small : q.command < 256

-- with FFH a link fault of any member that is on, else of the asked one
abbrev pub fault_for : ℕ → List Module → ℕ → Bool
fault_for command ms adr = (eqb command 0xFF && any_fault ms) || (not (eqb command 0xFF) && has_fault (member_at adr ms))
