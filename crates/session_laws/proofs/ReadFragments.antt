-- What the fragments of a frame that this end made say: together they say what that frame says.
use Rattle.std.proofs.Common.{◌≡◌, ◌==◌, ◌||◌, ◌-◌, ℕ, zero, suc, Bool, true, false, nat_le, cond, List, [], ◌∷◌, ◌++◌, map, Option, Some, None, option_to_list, refl, ap, subst, sym, ◌∙◌, arith}
use Rattle.std.proofs.lemmas.Grind.{common_steps}
use Rattle.std.proofs.Math.Bool.{or_assoc, or_self, or-false}
use Rattle.rs_wire.specs.declared.message.Message.{Message}
use Rattle.rs_frame.specs.declared.frame.Frame.{Frame}
use Rattle.rs_frame.specs.declared.frame.Frame.TheVariants as frame
use Rattle.rs_frame.specs.declared.frame.Request.{Request}
use Rattle.rs_frame.specs.Spelling.{length_of, stream_of}
use Rattle.fragment.specs.Joining.{join_messages}
use Rattle.fragment.specs.Splitting.{first_fragment, first_part, follows_of, fragments, left_part, rest_after, room_of, split_of}
use Rattle.fragment.proofs.Joins.{cut_parts, messages_assoc}
use Rattle.stream_model.specs.Marks.{Mark}
use Rattle.stream_model.proofs.Ids.{same_id}
use Rattle.session_model.specs.Frames.{Mark as Seen, Sent as Made, in_fragments}
use Rattle.session_model.specs.Streams.{while_heard}
use Rattle.session_laws.specs.Read.{Reading, begun_after, continued, more_read, own_in, reading, reads, reads_made}

-- parts are kept only of streams on which messages are taken in
abbrev pub IsMasked : ℕ → Reading → Type 0
IsMasked most r = while_heard most r.marks r.unfinished ≡ r.unfinished

-- frames of this end's were read to their last, and said this together
pub record Says (most : ℕ) (r after : Reading) (own : List Mark) : Type 0 where
  pub marks : after.marks ≡ own ++ r.marks
  pub unfinished : after.unfinished ≡ while_heard most (own ++ r.marks) r.unfinished
  pub none : (q : ℕ) → after.begun q ≡ None

-- no frame is begun but on that stream
record IsBegun (r : Reading) (s : ℕ) (before : Option Frame) : Type 0 where
  here : r.begun s ≡ before
  elsewhere : (q : ℕ) → (q == s) ≡ false → r.begun q ≡ None

-- ---- a fragment after those before it

-- a frame that ends what its fragments before it, joined, have begun
abbrev Ends : Option Frame → Frame → Type 0
Ends None (frame.Request r) = r.follows ≡ false
Ends None (frame.Payload s follows complete next message) = follows ≡ false
Ends (Some before) (frame.Payload s follows complete next message) = (follows ≡ false) × (stream_of before ≡ s)
Ends _ _ = ⊥

ends_whole : (before : Option Frame) (f : Frame) → Ends before f → follows_of (continued before f) ≡ false
ends_whole before f ends = grind (arith, common_steps)

ends_there : (before : Option Frame) (f : Frame) → Ends before f → stream_of (continued before f) ≡ stream_of f
ends_there before f ends = grind (arith, common_steps)

-- a part of it
record IsPart (mtu : ℕ) (before : Option Frame) (f : Frame) : Type 0 where
  follows : follows_of (continued before (first_fragment mtu f)) ≡ true
  first_there : stream_of (first_fragment mtu f) ≡ stream_of f
  there : stream_of (continued before (first_fragment mtu f)) ≡ stream_of f
  rest_there : stream_of (rest_after mtu f) ≡ stream_of f
  rest : Ends (Some (continued before (first_fragment mtu f))) (rest_after mtu f)
  whole : continued (Some (continued before (first_fragment mtu f))) (rest_after mtu f) ≡ continued before f

joined_again : (room : ℕ) (before m : Message) → join_messages (join_messages before (first_part room m)) (left_part room m) ≡ join_messages before m
joined_again room before m = messages_assoc before (first_part room m) (left_part room m) ∙ ap (join_messages before) (cut_parts room m)

or_again : (a b : Bool) → ((a || b) || b) ≡ (a || b)
or_again a b = or_assoc a b b ∙ ap (λ (c : Bool). a || c) (or_self b)

same_request : (q : Request) (follows follows' complete complete' : Bool) (m m' : Message) → follows ≡ follows' → complete ≡ complete' → m ≡ m'
    → frame.Request (record q { follows = follows; complete = complete; message = m }) ≡ frame.Request (record q { follows = follows'; complete = complete'; message = m' })
same_request q follows follows' complete complete' m m' e k p = cc

same_payload : (s : ℕ) (follows follows' complete complete' next next' : Bool) (m m' : Message) → follows ≡ follows' → complete ≡ complete' → next ≡ next' → m ≡ m'
    → frame.Payload s follows complete next m ≡ frame.Payload s follows' complete' next' m'
same_payload s follows follows' complete complete' next next' m m' e k n p = cc

-- a payload of which nothing came before
payload_part : (mtu s : ℕ) (follows complete next : Bool) (m : Message) → follows ≡ false → IsPart mtu None (frame.Payload s follows complete next m)
payload_part mtu s follows complete next m last = record {
  follows = refl;
  first_there = refl;
  there = refl;
  rest_there = refl;
  rest = (refl, refl);
  whole = same_payload s _ _ _ _ _ _ _ _ (sym last) refl (or_self next) (cut_parts (mtu - 6) m);
}

part_of_it : (mtu : ℕ) (before : Option Frame) (f : Frame) → Ends before f → IsPart mtu before f
part_of_it mtu None (frame.Request q) last = record {
  follows = refl;
  first_there = refl;
  there = refl;
  rest_there = refl;
  rest = (refl, refl);
  whole = same_request q _ _ _ _ _ _ (sym last) refl (cut_parts (room_of mtu (frame.Request q)) q.message);
}
part_of_it mtu None (frame.Payload s follows complete next m) last = payload_part mtu s follows complete next m last
part_of_it mtu (Some (frame.Request q)) (frame.Payload s follows complete next m) ends = record {
  follows = refl;
  first_there = refl;
  there = ends.1;
  rest_there = refl;
  rest = (refl, ends.1);
  whole = same_request q _ _ _ _ _ _ (sym ends.0) (ap (λ (c : Bool). c || complete) (or-false q.complete)) (joined_again (mtu - 6) q.message m);
}
part_of_it mtu (Some (frame.Payload stream more last item part)) (frame.Payload s follows complete next m) ends = record {
  follows = refl;
  first_there = refl;
  there = ends.1;
  rest_there = refl;
  rest = (refl, ends.1);
  whole = same_payload stream _ _ _ _ _ _ _ _ (sym ends.0) (ap (λ (c : Bool). c || complete) (or-false last)) (or_again item next) (joined_again (mtu - 6) part m);
}
part_of_it mtu (Some before) (frame.Payload s follows complete next m) ends =
    let part = payload_part mtu s follows complete next m ends.0 in
    record { follows = part.follows; first_there = part.first_there; there = part.there; rest_there = part.rest_there; rest = part.rest; whole = part.whole }
part_of_it mtu before f ends = absurd ends

-- ---- read

-- the last
none_else : (here : Bool) (o : Option Frame) → (here ≡ false → o ≡ None) → cond here None o ≡ None
none_else true o elsewhere = refl
none_else false o elsewhere = elsewhere refl

whole_says : (most : ℕ) (r : Reading) (f : Frame) → follows_of f ≡ false → ((q : ℕ) → (q == stream_of f) ≡ false → r.begun q ≡ None) → Says most r (reads_made most r f) (option_to_list (own_in f))
whole_says most r f whole elsewhere =
    rw (whole) (record { marks = refl; unfinished = refl; none = λ q. none_else (q == stream_of f) (r.begun q) (elsewhere q) })

last_says : (most : ℕ) (r : Reading) (before : Option Frame) (f : Frame) → Ends before f → IsBegun r (stream_of f) before → Says most r (reads most r (Made f)) (option_to_list (own_in (continued before f)))
last_says most r before f ends begun =
    let there = ends_there before f ends in
    rw (begun.here) (whole_says most r (continued before f) (ends_whole before f ends) (λ q apart. begun.elsewhere q (subst (λ (s : ℕ). (q == s) ≡ false) there apart)))

-- one before it
abbrev after_part : ℕ → Reading → ℕ → Frame → Reading
after_part most r s joined = more_read most r.marks r.unfinished (begun_after s (Some joined) r.begun)

part_read : (most : ℕ) (r : Reading) (s : ℕ) (before : Option Frame) (f : Frame) → stream_of f ≡ s → stream_of (continued before f) ≡ s → follows_of (continued before f) ≡ true → IsBegun r s before
    → reads most r (Made f) ≡ after_part most r s (continued before f)
part_read most r s before f on there follows begun = rw (on, begun.here, follows, there) refl

part_begun : (most : ℕ) (r : Reading) (s : ℕ) (before : Option Frame) (joined : Frame) → IsBegun r s before → IsBegun (after_part most r s joined) s (Some joined)
part_begun most r s before joined begun = record {
  here = rw (same_id s) refl;
  elsewhere = λ q apart. rw (apart) (begun.elsewhere q apart);
}

says_after_part : (most : ℕ) (r after : Reading) (s : ℕ) (joined : Frame) (own : List Mark) → IsMasked most r → Says most (after_part most r s joined) after own → Says most r after own
says_after_part most r after s joined own masked says = record {
  marks = says.marks;
  unfinished = says.unfinished ∙ ap (while_heard most (own ++ r.marks)) masked;
  none = says.none;
}

fragments_say : (most n mtu : ℕ) (r : Reading) (before : Option Frame) (f : Frame) → IsMasked most r → Ends before f → IsBegun r (stream_of f) before
    → Says most r (reading most r (map Made (fragments n mtu f))) (option_to_list (own_in (continued before f)))
unfolding reading fragments
fragments_say most zero mtu r before f masked ends begun = last_says most r before f ends begun
fragments_say most (suc n) mtu r before f masked ends begun =
    elim (nat_le (length_of f) mtu) as (λ v. Says most r (reading most r (map Made (cond v (f ∷ []) (first_fragment mtu f ∷ fragments n mtu (rest_after mtu f))))) (option_to_list (own_in (continued before f)))) [
      | true ↦ last_says most r before f ends begun
      | false ↦
          let first = first_fragment mtu f in
          let part = part_of_it mtu before f ends in
          let read = part_read most r (stream_of f) before first part.first_there part.there part.follows begun in
          let then = after_part most r (stream_of f) (continued before first) in
          let on = subst (λ (s : ℕ). IsBegun then s (Some (continued before first))) (sym part.rest_there) (part_begun most r (stream_of f) before (continued before first) begun) in
          let rest = fragments_say most n mtu then (Some (continued before first)) (rest_after mtu f) (ap (while_heard most r.marks) masked) part.rest on in
          let all : List Seen = map Made (fragments n mtu (rest_after mtu f)) in
          subst (λ (now : Reading). Says most r (reading most now all) (option_to_list (own_in (continued before f)))) (sym read) (says_after_part most r _ (stream_of f) (continued before first) _ masked (subst (λ (whole : Frame). Says most then (reading most then all) (option_to_list (own_in whole))) part.whole rest))
    ]

-- ---- all

split_says : (most mtu : ℕ) (r : Reading) (f : Frame) → IsMasked most r → Ends None f → IsBegun r (stream_of f) None → Says most r (reading most r (map Made (split_of f mtu))) (option_to_list (own_in f))
unfolding reading
split_says most mtu r f masked ends begun =
    elim (mtu == 0) as (λ v. Says most r (reading most r (map Made (cond v (f ∷ []) (fragments (length_of f) mtu f)))) (option_to_list (own_in f))) [
      | true ↦ last_says most r None f ends begun
      | false ↦ fragments_say most (length_of f) mtu r None f masked ends begun
    ]

-- the fragments of a frame, where no other is begun, say what it says
pub frame_says : (most mtu : ℕ) (r : Reading) (f : Frame) → follows_of f ≡ false → IsMasked most r → ((q : ℕ) → r.begun q ≡ None) → Says most r (reading most r (map Made (in_fragments mtu f))) (option_to_list (own_in f))
unfolding reading
frame_says most mtu r (frame.Request q) whole masked none = split_says most mtu r (frame.Request q) masked whole (record { here = none q.stream; elsewhere = λ s apart. none s })
frame_says most mtu r (frame.Payload s follows complete next message) whole masked none =
    split_says most mtu r (frame.Payload s follows complete next message) masked whole (record { here = none s; elsewhere = λ q apart. none q })
frame_says most mtu r f whole masked none = rw (none (stream_of f)) (whole_says most r f whole (λ q apart. none q))
