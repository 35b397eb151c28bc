-- The call answers the first place that meets its test.
use Rattle.std.proofs.Common.{◌≡◌, not, rules, tests}
use Rattle.std.specs.List.{position}
use Rattle.std.proofs.lemmas.Iterator.{YieldsList-from_slice}
use Rattle.std.proofs.lemmas.Iterator.Search.{position_from_yields_List}
use Rattle.hex_chars.specs.Hex.{is_hex}
use Rattle.hex_chars.proofs.Bad.{first_bad_is}
use Rattle.hex_chars.proofs.first_bad.Goals as goal

pub returns : goal.returns
returns c =
    let s = c.args.s.now in
    let e : c.position.result ≡ position (λ x. not (is_hex x)) s =
    position_from_yields_List (λ x. not (is_hex x)) _ _ c.position.result c.position.ensures.ran (YieldsList-from_slice s cc) (λ x b q k. search (rules, tests)) in
    rw e (first_bad_is s)
