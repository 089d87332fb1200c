-- The rule that reading answers is the least that is broken.
use Rattle.std.proofs.Common.{◌≡◌, ℕ, ◌^◌, Bool, true, false, cond, ltb, eqb, leb, List, length, drop, Option, Some, None, Result, Ok, refl, sym, ◌∙◌, arith}
use Rattle.std.specs.Prelude.{is_none}
use Rattle.byteorder.specs.Endian.{big_number}
use Rattle.rs_wire.specs.Ranges.{first_true}
use Rattle.rs_wire.specs.declared.words.Kind.{Kind}
use Rattle.rs_wire.specs.declared.words.Kind.TheVariants as kinds
use Rattle.rs_frame.specs.declared.fault.FrameFault.{FrameFault}
use Rattle.rs_frame.specs.declared.fault.FrameFault.TheVariants as faults
use Rattle.rs_frame.specs.declared.row.Row.{Row}
use Rattle.rs_frame.specs.declared.row.Row.TheVariants as rows
use Rattle.rs_frame.proofs.Rows.{made}
use Rattle.rs_frame.specs.Table.{flag, row_of, type_number, stream_word, flags_word, body}
use Rattle.rs_frame.specs.Rules.{broken, field_rules, message_of}
use Rattle.rs_frame.specs.Reading.{refuse, found, rule_of, as_frame, setup_at, plain_at, counted_at, request_n_at, cancel_at, payload_at, error_at, row_at, frame_at, lease_at, keepalive_at, metadata_push_at, resume_at, as_resume, resume_ok_at, ext_at}

-- the least rule of the fields
abbrev pub broken_in : Row → ℕ → ℕ → List ℕ → Option FrameFault
broken_in row stream flags body = first_true (field_rules row stream flags body)

-- a test in front
refuse_rule : {X : Type 0} (b : Bool) (r : FrameFault) (next : Result X FrameFault) (rest : Option FrameFault) → rule_of next ≡ rest → rule_of (refuse b r next) ≡ cond b (Some r) rest
refuse_rule true r next rest e = refl
refuse_rule false r next rest e = e

-- a part that may be missing
found_rule : {A X : Type 0} (o : Option A) (r : FrameFault) (next : A → Result X FrameFault) (rest : Option FrameFault) → ((x : A) → o ≡ Some x → rule_of (next x) ≡ rest) → rule_of (found r o next) ≡ cond (is_none o) (Some r) rest
found_rule None r next rest e = refl
found_rule (Some x) r next rest e = e x refl

payload_rule : (stream flags : ℕ) (body : List ℕ) → rule_of (payload_at stream flags body) ≡ broken_in rows.Payload stream flags body
unfolding payload_at
payload_rule stream flags body = grind arith

request_n_rule : (stream flags : ℕ) (body : List ℕ) → rule_of (request_n_at stream body) ≡ broken_in rows.RequestN stream flags body
unfolding request_n_at
request_n_rule stream flags body = grind arith

setup_rule : (stream flags : ℕ) (body : List ℕ) → rule_of (as_frame (setup_at stream flags body)) ≡ broken_in rows.Setup stream flags body
unfolding setup_at
setup_rule stream flags body = grind arith

plain_rule : (row : Row) (kind : Kind) (stream flags : ℕ) (body : List ℕ) → broken_in row stream flags body ≡ broken_in rows.Payload stream flags body → rule_of (plain_at kind stream flags body) ≡ broken_in row stream flags body
unfolding plain_at
plain_rule row kind stream flags body e = rw e (grind arith)

counted_shape : {A X : Type 0} (s l z h : Bool) (o : Option A) (f : A → X) → rule_of (refuse s faults.WrongStream (refuse l faults.ShortBody (refuse z faults.ZeroNumber (found faults.MetadataLength o (λ m. refuse h faults.HighBit (Ok (f m))))))) ≡
    cond s (Some faults.WrongStream) (cond l (Some faults.ShortBody) (cond z (Some faults.ZeroNumber) (cond (is_none o) (Some faults.MetadataLength) (cond h (Some faults.HighBit) None))))
counted_shape true l z h o f = refl
counted_shape false true z h o f = refl
counted_shape false false true h o f = refl
counted_shape false false false h None f = refl
counted_shape false false false true (Some m) f = refl
counted_shape false false false false (Some m) f = refl

counted_rule : (row : Row) (kind : Kind) (complete : Bool) (stream flags : ℕ) (rest : List ℕ) → broken_in row stream flags rest ≡ broken_in rows.Stream stream flags rest → rule_of (counted_at kind complete stream flags rest) ≡ broken_in row stream flags rest
unfolding counted_at
counted_rule row kind complete stream flags rest e =
    counted_shape (eqb stream 0) (ltb (length rest) 4) (eqb (big_number 4 rest) 0) (leb (2 ^ 31) (big_number 4 rest)) (message_of (flag 0x100 flags) (drop 4 rest)) (λ m. made stream kind (flag 0x80 flags) complete (Some (big_number 4 rest)) m) ∙ sym e

cancel_rule : (stream flags : ℕ) (body : List ℕ) → rule_of (cancel_at stream body) ≡ broken_in rows.Cancel stream flags body
unfolding cancel_at
cancel_rule stream flags body = grind arith

error_rule : (stream flags : ℕ) (body : List ℕ) → rule_of (error_at stream body) ≡ broken_in rows.Error stream flags body
unfolding error_at
error_rule stream flags body = grind arith

lease_rule : (stream flags : ℕ) (rest : List ℕ) → rule_of (lease_at stream flags rest) ≡ broken_in rows.Lease stream flags rest
unfolding lease_at
lease_rule stream flags rest = grind arith

keepalive_rule : (stream flags : ℕ) (rest : List ℕ) → rule_of (keepalive_at stream flags rest) ≡ broken_in rows.Keepalive stream flags rest
unfolding keepalive_at
keepalive_rule stream flags rest = grind arith

metadata_push_rule : (stream flags : ℕ) (rest : List ℕ) → rule_of (metadata_push_at stream rest) ≡ broken_in rows.MetadataPush stream flags rest
unfolding metadata_push_at
metadata_push_rule stream flags rest = grind arith

resume_rule : (stream flags : ℕ) (rest : List ℕ) → rule_of (as_resume (resume_at stream rest)) ≡ broken_in rows.Resume stream flags rest
unfolding resume_at
resume_rule stream flags rest = grind arith

resume_ok_rule : (stream flags : ℕ) (rest : List ℕ) → rule_of (resume_ok_at stream rest) ≡ broken_in rows.ResumeOk stream flags rest
unfolding resume_ok_at
resume_ok_rule stream flags rest = grind arith

ext_rule : (stream flags : ℕ) (rest : List ℕ) → rule_of (ext_at stream flags rest) ≡ broken_in rows.Ext stream flags rest
unfolding ext_at
ext_rule stream flags rest = grind arith

row_rule : (row : Row) (number stream flags : ℕ) (body : List ℕ) → rule_of (row_at row number stream flags body) ≡ broken_in row stream flags body
row_rule rows.Setup number stream flags body = setup_rule stream flags body
row_rule rows.Response number stream flags body = plain_rule rows.Response kinds.Response stream flags body refl
row_rule rows.Fnf number stream flags body = plain_rule rows.Fnf kinds.Fnf stream flags body refl
row_rule rows.Stream number stream flags body = counted_rule rows.Stream kinds.Stream false stream flags body refl
row_rule rows.Channel number stream flags body = counted_rule rows.Channel kinds.Channel (flag 0x40 flags) stream flags body refl
row_rule rows.RequestN number stream flags body = request_n_rule stream flags body
row_rule rows.Cancel number stream flags body = cancel_rule stream flags body
row_rule rows.Payload number stream flags body = payload_rule stream flags body
row_rule rows.Error number stream flags body = error_rule stream flags body
row_rule rows.Lease number stream flags body = lease_rule stream flags body
row_rule rows.Keepalive number stream flags body = keepalive_rule stream flags body
row_rule rows.MetadataPush number stream flags body = metadata_push_rule stream flags body
row_rule rows.Resume number stream flags body = resume_rule stream flags body
row_rule rows.ResumeOk number stream flags body = resume_ok_rule stream flags body
row_rule rows.Ext number stream flags body = ext_rule stream flags body
row_rule rows.Unknown number stream flags body = refl

-- reading answers the least rule, or none
pub frame_rule : (bytes : List ℕ) → rule_of (frame_at bytes) ≡ broken bytes
unfolding frame_at
frame_rule bytes =
    let e = row_rule (row_of (type_number bytes)) (type_number bytes) (stream_word bytes) (flags_word bytes) (body bytes) in
    refuse_rule (ltb (length bytes) 6) faults.ShortHeader (refuse (leb (2 ^ 31) (stream_word bytes)) faults.LeadingBit (row_at (row_of (type_number bytes)) (type_number bytes) (stream_word bytes) (flags_word bytes) (body bytes))) (cond (leb (2 ^ 31) (stream_word bytes)) (Some faults.LeadingBit) (broken_in (row_of (type_number bytes)) (stream_word bytes) (flags_word bytes) (body bytes)))
    (refuse_rule (leb (2 ^ 31) (stream_word bytes)) faults.LeadingBit (row_at (row_of (type_number bytes)) (type_number bytes) (stream_word bytes) (flags_word bytes) (body bytes)) (broken_in (row_of (type_number bytes)) (stream_word bytes) (flags_word bytes) (body bytes)) e)
