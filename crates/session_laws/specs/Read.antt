-- What the frames that an end made and handled say on its streams.
use Rattle.std.specs.Prelude.{ℕ, ◌==◌, ◌&&◌, ◌||◌, if◌then◌else◌, List, [], ◌∷◌, ◌++◌, Option, Some, None, option_to_list}
use Rattle.std.specs.Option.{option_map}
use Rattle.rs_wire.specs.declared.words.Role.{Role}
use Rattle.rs_frame.specs.declared.frame.Frame.{Frame}
use Rattle.rs_frame.specs.declared.frame.Frame.TheVariants as frame
use Rattle.rs_frame.specs.Spelling.{stream_of}
use Rattle.fragment.specs.Splitting.{follows_of}
use Rattle.fragment.specs.Joining.{Gathered, join_messages, nothing}
use Rattle.stream_model.specs.Marks.{Opening, Step, Payload, RequestN, Cancel, Fail, Mark, Opens, Sent}
use Rattle.stream_model.specs.Turns.{Word, Said, Taken, Turn, is_response, is_role}
use Rattle.stream_model.specs.Arriving.{heard, ours}
use Rattle.session_model.specs.Frames.{Mark as Seen, Sent as Made, Got as Handled}
use Rattle.session_model.specs.Streams.{arrival_in, gathers_of, while_heard}

-- a payload that continues the frame of which these fragments were made, joined to it; any other frame stands alone
abbrev pub continued : Option Frame → Frame → Frame
continued (Some (frame.Request r)) (frame.Payload s follows complete next message) =
    frame.Request (record r { follows = follows; complete = r.complete || complete; message = join_messages r.message message })
continued (Some (frame.Payload stream more last item part)) (frame.Payload s follows complete next message) =
    frame.Payload stream follows (last || complete) (item || next) (join_messages part message)
continued begun f = f

-- what a frame that this end made says on a stream: no frame that counts is on stream 0
abbrev pub own_in : Frame → Option Mark
own_in (frame.Request r) = Some (Opens r.stream (ours r.kind r.initial r.message r.complete))
own_in (frame.Payload s follows complete next message) = Some (Sent s (Payload message complete next))
own_in (frame.RequestN s n) = Some (Sent s (RequestN n))
own_in (frame.Cancel s) = Some (Sent s Cancel)
own_in (frame.Error s code content) = Some (Sent s (Fail code content))
own_in _ = None

-- what frames said so far
pub record Reading : Type 0 where
  -- the newest first
  pub marks : List Mark
  -- what came, on a stream, of a message that is not whole yet
  pub unfinished : ℕ → Gathered
  -- the fragments, joined, of a frame of this end's of which more follow
  pub begun : ℕ → Option Frame

abbrev pub begun_after : ℕ → Option Frame → (ℕ → Option Frame) → ℕ → Option Frame
begun_after stream now before s = if s == stream then now else before s

-- after the marks of one frame more
abbrev pub more_read : ℕ → List Mark → (ℕ → Gathered) → (ℕ → Option Frame) → Reading
more_read most marks gathered begun = record { marks = marks; unfinished = while_heard most marks gathered; begun = begun }

-- after a frame that this end made, with what it continues
abbrev pub reads_made : ℕ → Reading → Frame → Reading
reads_made most r whole =
    if follows_of whole then more_read most r.marks r.unfinished (begun_after (stream_of whole) (Some whole) r.begun)
    else more_read most (option_to_list (own_in whole) ++ r.marks) r.unfinished (begun_after (stream_of whole) None r.begun)

abbrev pub reads : ℕ → Reading → Seen → Reading
reads most r (Made f) = reads_made most r (continued (r.begun (stream_of f)) f)
reads most r (Handled covered f) = more_read most (option_to_list (option_map heard (arrival_in covered r.unfinished f)) ++ r.marks) (λ s. gathers_of f s (r.unfinished s)) r.begun

-- what frames say, the oldest first, after these were read
unfoldable pub reading : ℕ → Reading → List Seen → Reading
reading most r [] = r
reading most r (m ∷ seen) = reading most (reads most r m) seen

abbrev pub nothing_read : Reading
nothing_read = record { marks = []; unfinished = λ s. nothing; begun = λ s. None }

-- what frames say, the oldest frame first, the newest mark first, where so many streams may be open
abbrev pub read : ℕ → List Seen → List Mark
read most seen = (reading most nothing_read seen).marks

-- the payload that answers a request and response completes in its frame, whatever its call said (RSocket 1.0, "Request Response")
abbrev pub framed_step : Opening → Role → Step → Step
framed_step o by (Payload message complete next) = Payload message (complete || (is_response o.kind && is_role o.role by)) next
framed_step o by step = step

-- the words of a stream as frames say them: what callers took stands in none
unfoldable pub framed_words : Opening → List Word → List Word
framed_words o [] = []
framed_words o (Said by step ∷ xs) = Said by (framed_step o by step) ∷ framed_words o xs
framed_words o (Taken d ∷ xs) = framed_words o xs

abbrev pub turn_read : Option Turn → Option Turn
turn_read None = None
turn_read (Some t) = Some (record { opening = t.opening; words = framed_words t.opening t.words })
