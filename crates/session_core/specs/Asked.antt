-- The refusals of a call from its size on.
use Rattle.std.specs.Prelude.{Option}
use Rattle.std.specs.Option.{option_or}
use Rattle.rs_wire.specs.declared.settings.Settings.{Settings}
use Rattle.rs_wire.specs.declared.call.Call.{Call}
use Rattle.rs_wire.specs.declared.fault.Refusal.{Refusal}
use Rattle.stream_model.specs.Known.{limits_of}
use Rattle.stream_model.specs.Refused.{by_credit, by_ids, by_live}
use Rattle.session_model.specs.Answers.{Facts, by_lease, by_size, by_sending}

abbrev pub refused_later : Settings → Facts → Call → Option Refusal
refused_later g t asked =
    option_or (by_size g asked)
    (option_or (by_credit t.streams asked)
    (option_or (by_lease g t asked)
    (option_or (by_ids (limits_of g) t.streams asked)
    (option_or (by_live (limits_of g) t.streams asked)
    (by_sending g t asked)))))
