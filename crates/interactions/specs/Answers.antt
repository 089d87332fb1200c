-- Answers of the streams that no definition below has.
use Rattle.std.specs.Prelude.{ℕ, ◌||◌, ◌&&◌, Bool, nat_lt, if◌then◌else◌, Option, Some, None}
use Rattle.rs_wire.specs.declared.words.Kind.{Kind}
use Rattle.stream_model.specs.declared.stream.Limits.{Limits}
use Rattle.stream_model.specs.Turns.{is_fnf}
use Rattle.stream_model.specs.Known.{Known, next_id}

-- the id of the next request of an end, where the last id is not passed
abbrev pub next_within : Limits → Known → Option ℕ
next_within l t = if nat_lt l.last_id (next_id l.side t) then None else Some (next_id l.side t)

-- a request of the peer's is admitted: one stream more may be open, or it is a whole fire-and-forget
abbrev pub admits : Limits → Known → Kind → Bool → Bool
admits l t kind whole = nat_lt t.live l.max_streams || (is_fnf kind && whole)
