-- What a 95H leaves: that module is off, all else equal; asked again there is silence; the rule holds again.
use Rattle.std.specs.Prelude.{◌≡◌, ◌≢◌, true, List, ℕ, length, get_or}
use Rattle.record.specs.declared.Module.{Module}
use Rattle.table.specs.declared.Station.{Station}
use Rattle.table.specs.Table.{place_of, member_at}
use Rattle.table.specs.Rule.{rule}
use Rattle.command.specs.Heard.{Words}
use Rattle.table.specs.Changes.{switched_off}
use Rattle.standin.specs.Says.{Silent, decide}

pub record TurnedOff (adr : ℕ) (ms ns : List Module) : Type 0 where
  pub count : length ns ≡ length ms
  pub off : member_at adr ns ≡ switched_off (member_at adr ms)
  pub others : (j : ℕ) (d : Module) → j ≢ place_of adr ms → get_or ns j d ≡ get_or ms j d
  pub kept : rule ms ≡ true → rule ns ≡ true
  pub silent : (st : Station) (w : Words) → w.header.adr ≡ adr → decide st ns w ≡ Silent
