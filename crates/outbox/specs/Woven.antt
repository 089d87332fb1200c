-- How what waits lies in the fields.
use Rattle.std.specs.Prelude.{◌≡◌, ℕ, ◌+◌, ◌-◌, ◌<◌, ◌≤◌, ◌^◌, length}
use Rattle.outbox.specs.Line.{own_in, weave}
use Rattle.outbox.specs.Waiting.{Waiting}
use Rattle.outbox.specs.declared.outbox.Outbox.TheInside.{Inside}

abbrev pub waiting_of : Inside → Waiting
waiting_of o = record {
  queue = weave o.spans.bytes o.own.bytes;
  held = o.spans.held;
  room = record { spare = o.spans.spare; loose = length o.own.bytes - own_in o.spans.bytes };
}

pub record IsWoven (o : Inside) : Type 0 where
  pub own : own_in o.spans.bytes ≤ length o.own.bytes
  pub few : length o.own.bytes + length o.spans.bytes < 2 ^ 63 + own_in o.spans.bytes
