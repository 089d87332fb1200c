-- A server that did not begin.
use Rattle.std.proofs.Common.{◌≡◌, ◌∙◌, List, [], Option, append-nil, sym}
use Rattle.rs_wire.specs.declared.settings.Settings.{Settings}
use Rattle.tape.specs.declared.entry.Entry.{Entry}
use Rattle.rsocket_serve.specs.Served.{GotLegal}

-- a shelf that is as before got the tapes of no session
pub no_tapes : (g : Settings) (shelf shelf' : List (Option (List Entry))) → shelf' ≡ shelf → GotLegal g shelf shelf'
no_tapes g shelf shelf' same = record { tapes = []; shelved = record { shown = []; back = same ∙ sym (append-nil shelf); told = tt }; legal = tt }
