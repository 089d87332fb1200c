-- What the bytes of a frame say, row by row: the frame, or the least rule that is broken. Only private
-- functions cite it. `decode` promises what Spelling and Rules say, and the proofs tie the two.
use Rattle.std.specs.Prelude.{ℕ, ◌+◌, ◌^◌, Bool, true, false, ◌==◌, nat_lt, nat_le, not, ◌||◌, ◌&&◌, List, length, take, drop, Option, Some, None, Result, Ok, Err, if◌then◌else◌}
use Rattle.byteorder.specs.Endian.{big_number}
use Rattle.rs_wire.specs.declared.words.Kind.{Kind}
use Rattle.rs_wire.specs.declared.words.Kind.TheVariants as kinds
use Rattle.rs_frame.specs.declared.resume.TheConstants.{RESUME_NUMBERS}
use Rattle.rs_frame.specs.declared.setup.TheConstants.{SETUP_NUMBERS}
use Rattle.rs_frame.specs.declared.fault.FrameFault.{FrameFault}
use Rattle.rs_frame.specs.declared.fault.FrameFault.TheVariants as faults
use Rattle.rs_frame.specs.declared.frame.Frame.{Frame}
use Rattle.rs_frame.specs.declared.frame.Setup.{Setup}
use Rattle.rs_frame.specs.declared.frame.Resume.{Resume}
use Rattle.rs_frame.specs.declared.frame.Frame.TheVariants as frames
use Rattle.rs_frame.specs.declared.row.Row.{Row}
use Rattle.rs_frame.specs.declared.row.Row.TheVariants as rows
use Rattle.rs_frame.specs.Table.{row_of, flag, stream_word, type_number, flags_word, body, number_at, long_at}
use Rattle.rs_frame.specs.Rules.{message_of, names_of}

-- the rule, where the test is true
abbrev pub refuse : {X : Type 0} → Bool → FrameFault → Result X FrameFault → Result X FrameFault
refuse true rule next = Err rule
refuse false rule next = next

-- the rule, where there is nothing
abbrev pub found : {A X : Type 0} → FrameFault → Option A → (A → Result X FrameFault) → Result X FrameFault
found rule None next = Err rule
found rule (Some x) next = next x

abbrev pub as_frame : Result Setup FrameFault → Result Frame FrameFault
as_frame (Ok setup) = Ok (frames.Setup setup)
as_frame (Err rule) = Err rule

unfoldable pub setup_at : ℕ → ℕ → List ℕ → Result Setup FrameFault
setup_at stream flags body =
    refuse (not (stream == 0)) faults.WrongStream
    (refuse (nat_lt (length body) SETUP_NUMBERS) faults.ShortBody
    (refuse ((number_at 4 4 body == 0) || (number_at 4 8 body == 0)) faults.ZeroNumber
    (found faults.NameLength (names_of (flag 0x80 flags) (drop SETUP_NUMBERS body)) (λ names.
    found faults.MetadataLength (message_of (flag 0x100 flags) names.rest) (λ message.
    refuse (nat_le (2 ^ 31) (number_at 4 4 body) || nat_le (2 ^ 31) (number_at 4 8 body)) faults.HighBit
    (Ok (record {
      resume = names.token;
      lease = flag 0x40 flags;
      major = big_number 2 body;
      minor = number_at 2 2 body;
      keepalive = number_at 4 4 body;
      lifetime = number_at 4 8 body;
      metadata_mime = names.metadata_mime;
      content_mime = names.content_mime;
      message = message;
    })))))))

-- a request without a number
unfoldable pub plain_at : Kind → ℕ → ℕ → List ℕ → Result Frame FrameFault
plain_at kind stream flags body =
    refuse (stream == 0) faults.WrongStream
    (found faults.MetadataLength (message_of (flag 0x100 flags) body) (λ message.
    Ok (frames.Request (record { stream = stream; kind = kind; follows = flag 0x80 flags; complete = false; initial = None; message = message }))))

-- a request with its initial number
unfoldable pub counted_at : Kind → Bool → ℕ → ℕ → List ℕ → Result Frame FrameFault
counted_at kind complete stream flags body =
    refuse (stream == 0) faults.WrongStream
    (refuse (nat_lt (length body) 4) faults.ShortBody
    (refuse (big_number 4 body == 0) faults.ZeroNumber
    (found faults.MetadataLength (message_of (flag 0x100 flags) (drop 4 body)) (λ message.
    refuse (nat_le (2 ^ 31) (big_number 4 body)) faults.HighBit
    (Ok (frames.Request (record { stream = stream; kind = kind; follows = flag 0x80 flags; complete = complete; initial = Some (big_number 4 body); message = message })))))))

unfoldable pub request_n_at : ℕ → List ℕ → Result Frame FrameFault
request_n_at stream body =
    refuse (stream == 0) faults.WrongStream
    (refuse (nat_lt (length body) 4) faults.ShortBody
    (refuse (nat_lt 4 (length body)) faults.LongBody
    (refuse (big_number 4 body == 0) faults.ZeroNumber
    (refuse (nat_le (2 ^ 31) (big_number 4 body)) faults.HighBit
    (Ok (frames.RequestN stream (big_number 4 body)))))))

unfoldable pub cancel_at : ℕ → List ℕ → Result Frame FrameFault
cancel_at stream body =
    refuse (stream == 0) faults.WrongStream
    (refuse (nat_lt 0 (length body)) faults.LongBody
    (Ok (frames.Cancel stream)))

unfoldable pub payload_at : ℕ → ℕ → List ℕ → Result Frame FrameFault
payload_at stream flags body =
    refuse (stream == 0) faults.WrongStream
    (found faults.MetadataLength (message_of (flag 0x100 flags) body) (λ message.
    Ok (frames.Payload stream (flag 0x80 flags) (flag 0x40 flags) (flag 0x20 flags) message)))

unfoldable pub error_at : ℕ → List ℕ → Result Frame FrameFault
error_at stream body =
    refuse (nat_lt (length body) 4) faults.ShortBody
    (Ok (frames.Error stream (big_number 4 body) (drop 4 body)))

unfoldable pub lease_at : ℕ → ℕ → List ℕ → Result Frame FrameFault
lease_at stream flags body =
    refuse (not (stream == 0)) faults.WrongStream
    (refuse (nat_lt (length body) 8) faults.ShortBody
    (refuse (not (flag 0x100 flags) && nat_lt 8 (length body)) faults.LongBody
    (refuse (nat_le (2 ^ 31) (big_number 4 body) || nat_le (2 ^ 31) (number_at 4 4 body)) faults.HighBit
    (Ok (frames.Lease (big_number 4 body) (number_at 4 4 body) (if flag 0x100 flags then Some (drop 8 body) else None))))))

unfoldable pub keepalive_at : ℕ → ℕ → List ℕ → Result Frame FrameFault
keepalive_at stream flags body =
    refuse (not (stream == 0)) faults.WrongStream
    (refuse (nat_lt (length body) 8) faults.ShortBody
    (refuse (nat_le (2 ^ 63) (big_number 8 body)) faults.HighBit
    (Ok (frames.Keepalive (flag 0x80 flags) (big_number 8 body) (drop 8 body)))))

unfoldable pub metadata_push_at : ℕ → List ℕ → Result Frame FrameFault
metadata_push_at stream body =
    refuse (not (stream == 0)) faults.WrongStream (Ok (frames.MetadataPush body))

unfoldable pub resume_at : ℕ → List ℕ → Result Resume FrameFault
resume_at stream body =
    let len = number_at 2 4 body in
    refuse (not (stream == 0)) faults.WrongStream
    (refuse (nat_lt (length body) RESUME_NUMBERS) faults.ShortBody
    (refuse (nat_lt (RESUME_NUMBERS + len) (length body)) faults.LongBody
    (refuse (nat_lt (length body) (RESUME_NUMBERS + len)) faults.NameLength
    (refuse (nat_le (2 ^ 63) (long_at (6 + len) body) || nat_le (2 ^ 63) (long_at (14 + len) body)) faults.HighBit
    (Ok (record { major = big_number 2 body; minor = number_at 2 2 body; token = take len (drop 6 body); server_position = long_at (6 + len) body; client_position = long_at (14 + len) body }))))))

abbrev pub as_resume : Result Resume FrameFault → Result Frame FrameFault
as_resume (Ok r) = Ok (frames.Resume r)
as_resume (Err rule) = Err rule

unfoldable pub resume_ok_at : ℕ → List ℕ → Result Frame FrameFault
resume_ok_at stream body =
    refuse (not (stream == 0)) faults.WrongStream
    (refuse (nat_lt (length body) 8) faults.ShortBody
    (refuse (nat_lt 8 (length body)) faults.LongBody
    (refuse (nat_le (2 ^ 63) (big_number 8 body)) faults.HighBit
    (Ok (frames.ResumeOk (big_number 8 body))))))

unfoldable pub ext_at : ℕ → ℕ → List ℕ → Result Frame FrameFault
ext_at stream flags body =
    refuse (nat_lt (length body) 4) faults.ShortBody
    (refuse (nat_le (2 ^ 31) (big_number 4 body)) faults.HighBit
    (Ok (frames.Ext stream flags (big_number 4 body) (drop 4 body))))

abbrev pub row_at : Row → ℕ → ℕ → ℕ → List ℕ → Result Frame FrameFault
row_at rows.Setup number stream flags body = as_frame (setup_at stream flags body)
row_at rows.Response number stream flags body = plain_at kinds.Response stream flags body
row_at rows.Fnf number stream flags body = plain_at kinds.Fnf stream flags body
row_at rows.Stream number stream flags body = counted_at kinds.Stream false stream flags body
row_at rows.Channel number stream flags body = counted_at kinds.Channel (flag 0x40 flags) stream flags body
row_at rows.RequestN number stream flags body = request_n_at stream body
row_at rows.Cancel number stream flags body = cancel_at stream body
row_at rows.Payload number stream flags body = payload_at stream flags body
row_at rows.Error number stream flags body = error_at stream body
row_at rows.Lease number stream flags body = lease_at stream flags body
row_at rows.Keepalive number stream flags body = keepalive_at stream flags body
row_at rows.MetadataPush number stream flags body = metadata_push_at stream body
row_at rows.Resume number stream flags body = as_resume (resume_at stream body)
row_at rows.ResumeOk number stream flags body = resume_ok_at stream body
row_at rows.Ext number stream flags body = ext_at stream flags body
row_at rows.Unknown number stream flags body = Ok (frames.Unknown stream number flags body)

-- what the bytes say
unfoldable pub frame_at : List ℕ → Result Frame FrameFault
frame_at bytes =
    refuse (nat_lt (length bytes) 6) faults.ShortHeader
    (refuse (nat_le (2 ^ 31) (stream_word bytes)) faults.LeadingBit
    (row_at (row_of (type_number bytes)) (type_number bytes) (stream_word bytes) (flags_word bytes) (body bytes)))

-- the rule that was answered
abbrev pub rule_of : {X : Type 0} → Result X FrameFault → Option FrameFault
rule_of (Ok x) = None
rule_of (Err rule) = Some rule
