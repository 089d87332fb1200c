-- What is kept of a stream that is open, and how it changes.
use Rattle.std.specs.Prelude.{◌<◌, ◌≤◌, ◌^◌, ℕ, ◌+◌, ◌&&◌, ◌||◌, not, Bool, if◌then◌else◌, List, Option, Some, None, is_some}
use Rattle.rs_wire.specs.declared.words.Kind.{Kind}
use Rattle.rs_wire.specs.declared.words.Way.{Way}
use Rattle.rs_wire.specs.declared.words.Way.TheVariants as way
use Rattle.credit.specs.declared.Credit.{Credit}
use Rattle.stream_model.specs.declared.stream.Stream.{Stream}
use Rattle.stream_model.specs.Marks.{Opening, Payload}
use Rattle.stream_model.specs.Turns.{Turn, Word, Said, over, is_over, ends, opening_ends, is_whole, is_of_requester, carries, needs_credit, used, granted, grants}
use Rattle.stream_model.specs.Streams.{one_if}

-- the credit of a way: of streams and channels alone
abbrev pub credit_of : Opening → List Word → Way → Credit
credit_of o xs w = if needs_credit o.kind then record { granted = granted o xs w; used = used o xs w } else record { granted = 0; used = 0 }

-- all that is kept of a stream
unfoldable pub stream_of : Opening → List Word → Stream
stream_of o xs = record {
  role = o.role;
  kind = o.kind;
  initial = o.initial;
  whole = is_whole o xs;
  request_over = over o xs way.Request;
  reply_over = over o xs way.Reply;
  request = credit_of o xs way.Request;
  reply = credit_of o xs way.Reply;
}

-- of a stream that is over nothing is kept
abbrev pub kept : Option Turn → Option Stream
kept None = None
kept (Some t) = if is_over t then None else Some (stream_of t.opening t.words)

-- ---- from word to word

-- what is kept after the request
abbrev pub requested : Opening → Stream
requested o = record {
  role = o.role;
  kind = o.kind;
  initial = o.initial;
  whole = is_some o.whole;
  request_over = opening_ends o.kind o.whole way.Request;
  reply_over = opening_ends o.kind o.whole way.Reply;
  request = record { granted = 0; used = 0 };
  reply = record { granted = if needs_credit o.kind then o.initial else 0; used = 0 };
}

-- how many items of a way a word is, where credit counts them
abbrev pub items_in : Bool → Kind → Bool → Way → Word → ℕ
items_in over kind whole w (Said by (Payload message complete next)) = if over then 0 else one_if (needs_credit kind && (next && carries kind whole w by))
items_in over kind whole w x = 0

abbrev pub credit_after : Credit → Bool → Kind → Bool → Way → Word → Credit
credit_after c over kind whole w x = record {
  granted = c.granted + (if needs_credit kind then grants kind w x else 0);
  used = c.used + items_in over kind whole w x;
}

-- what is kept after a word on the stream
abbrev pub after : Stream → Word → Stream
after f x = record {
  role = f.role;
  kind = f.kind;
  initial = f.initial;
  whole = f.whole || (is_of_requester x && not f.request_over);
  request_over = f.request_over || ends f.kind way.Request x;
  reply_over = f.reply_over || ends f.kind way.Reply x;
  request = credit_after f.request f.request_over f.kind f.whole way.Request x;
  reply = credit_after f.reply f.reply_over f.kind f.whole way.Reply x;
}

abbrev pub is_done : Stream → Bool
is_done f = f.request_over && f.reply_over

abbrev pub unless_done : Stream → Option Stream
unless_done f = if is_done f then None else Some f

abbrev pub kept_after : Option Stream → Word → Option Stream
kept_after None x = None
kept_after (Some f) x = unless_done (after f x)

-- no more of a way was used than granted, and what was granted leaves room for one grant more
pub record FitsCredit (f : Stream) : Type 0 where
  pub request_granted : f.request.granted < 2 ^ 101
  pub request_used : f.request.used ≤ f.request.granted
  pub reply_granted : f.reply.granted < 2 ^ 101
  pub reply_used : f.reply.used ≤ f.reply.granted
