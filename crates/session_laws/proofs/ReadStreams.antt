-- The streams are those that the frames seen tell.
use Rattle.std.proofs.Common.{◌≡◌, ◌<◌, ◌%◌, ◌&&◌, ◌||◌, ℕ, Bool, true, false, cond, List, [], ◌∷◌, ◌++◌, map, Option, Some, None, option_to_list, refl, append-nil, ap, subst, sym, ◌∙◌, arith}
use Rattle.std.proofs.lemmas.Grind.{common_steps}
use Rattle.std.proofs.Math.Path.{fun_ext}
use Rattle.std.specs.Option.{option_map}
use Rattle.rs_wire.specs.declared.words.Role.{Role}
use Rattle.rs_wire.specs.declared.words.Role.TheVariants.{Requester, Responder}
use Rattle.rs_wire.specs.declared.settings.Settings.{Settings}
use Rattle.rs_wire.specs.declared.message.Message.{Message}
use Rattle.rs_wire.specs.declared.call.Call.{Call}
use Rattle.rs_wire.specs.declared.call.Call.TheVariants as call
use Rattle.rs_frame.specs.declared.frame.Frame.{Frame}
use Rattle.rs_frame.specs.declared.frame.Frame.TheVariants as frame
use Rattle.rs_frame.specs.declared.frame.Request.{Request}
use Rattle.rs_frame.specs.Spelling.{is_resumable}
use Rattle.tape.specs.declared.event.Event.{Event}
use Rattle.tape.specs.declared.event.Event.TheVariants as event
use Rattle.tape.specs.declared.answer.Answer.{Answer}
use Rattle.tape.specs.declared.answer.Answer.TheVariants as answer
use Rattle.tape.specs.declared.entry.Entry.{Entry}
use Rattle.stream_model.specs.declared.stream.Stream.{Stream}
use Rattle.fragment.specs.Joining.{Gathered, nothing}
use Rattle.fragment.specs.Splitting.{follows_of}
use Rattle.stream_model.specs.declared.arrival.Arrival.{Arrival}
use Rattle.stream_model.specs.declared.arrival.Arrival.TheVariants as arrival
use Rattle.stream_model.specs.Marks.{Opening, Payload, RequestN, Cancel, Fail, Mark, Opens, Passed, Pushed}
use Rattle.stream_model.specs.Turns.{Turn, is_over, is_response, is_role}
use Rattle.stream_model.specs.Streams.{highest, jobs, live, turn}
use Rattle.stream_model.specs.Kept.{kept, stream_of}
use Rattle.stream_model.specs.Known.{known as known_after, hears_on, is_open_response}
use Rattle.stream_model.specs.Arriving.{heard, no_message, said, theirs}
use Rattle.stream_model.specs.Fair.{Fair as FairMarks}
use Rattle.stream_model.proofs.Ids.{fresh, turn_opened, turn_passed}
use Rattle.session_model.specs.Frames.{Mark as Seen, Sent as Made, Got as Handled, in_fragments, marks, request_frame, seen, sent_as, spoken, turned_away, turned_away_with}
use Rattle.session_model.specs.Leases.{is_covered}
use Rattle.session_model.specs.Streams.{Heard, arrival_in, gathers_of, heard_in, known, marks_in, more_heard, request_in, turned_away_for, unfinished, while_heard, words}
use Rattle.session_model.specs.Answers.{facts}
use Rattle.session_model.specs.Legal.{Fair, Legal}
use Rattle.session_model.specs.Means.{Does, Means}
use Rattle.session_model.proofs.Fairness.{legal_fair}
use Rattle.session_model.proofs.Meaning.{last_means}
use Rattle.session_model.proofs.Refusals.{names, unrefused}
use Rattle.session_laws.specs.Jobs.{requests}
use Rattle.session_laws.specs.Streams.{IsLawful, stream}
use Rattle.session_laws.specs.Read.{Reading, turn_read, framed_step, more_read, nothing_read, own_in, read, reading, reads}
use Rattle.session_laws.proofs.ReadFragments.{IsMasked, Says, frame_says}
use Rattle.session_laws.proofs.ReadSame.{Same, room_same, same_came, same_got, same_job, same_opens, same_passed, same_pushed, same_sent, same_stray, same_took}
use Rattle.session_laws.proofs.ReadWords.{same_hears}

-- ---- what is kept of messages that are not whole: the same in both

twice : (b : Bool) (x y : Gathered) → cond b (cond b x y) y ≡ cond b x y
twice true x y = refl
twice false x y = refl

mask_again : (most : ℕ) (W : List Mark) (gathered : ℕ → Gathered) → while_heard most W (while_heard most W gathered) ≡ while_heard most W gathered
mask_again most W gathered = fun_ext (λ s. twice (hears_on ((known_after most W).kept s)) (gathered s) nothing)

mask_same : (most : ℕ) (W R : List Mark) (gathered : ℕ → Gathered) → Same most W R → while_heard most R gathered ≡ while_heard most W gathered
unfolding known_after
mask_same most W R gathered h =
    fun_ext (λ s. ap (λ (b : Bool). cond b (gathered s) nothing) (ap (λ (t : Option Turn). hears_on (kept t)) (h.turns s) ∙ same_hears (turn most W s)))

-- what was heard and said on the streams, and what was read of the frames
record IsRead (most : ℕ) (h : Heard) (r : Reading) : Type 0 where
  told : Same most h.words r.marks
  held : r.unfinished ≡ h.unfinished
  masked : IsMasked most r
  none : (s : ℕ) → r.begun s ≡ None

-- after these words, where nothing more is gathered
abbrev on_with : ℕ → Heard → List Mark → Heard
on_with most h W = record { words = W; unfinished = while_heard most W h.unfinished }

-- an entry of which no frame tells
quiet : (most : ℕ) (h : Heard) (r : Reading) (W : List Mark) → IsRead most h r → Same most W r.marks → IsRead most (on_with most h W) r
quiet most h r W is same = record {
  told = same;
  held = sym is.masked ∙ (mask_same most W r.marks r.unfinished same ∙ ap (while_heard most W) is.held);
  masked = is.masked;
  none = is.none;
}

-- a frame that was made, in its fragments
said_more : (most : ℕ) (h : Heard) (r after : Reading) (W own : List Mark) → IsRead most h r → Says most r after own → Same most W (own ++ r.marks) → IsRead most (on_with most h W) after
said_more most h r after W own is says same = record {
  told = subst (Same most W) (sym says.marks) same;
  held = says.unfinished ∙ (mask_same most W (own ++ r.marks) r.unfinished same ∙ ap (while_heard most W) is.held);
  masked = rw (says.marks, says.unfinished) (mask_again most (own ++ r.marks) r.unfinished);
  none = says.none;
}

-- a frame that tells nothing
said_no_more : (most : ℕ) (h : Heard) (r after : Reading) (own : List Mark) → IsRead most h r → Says most r after own → Same most h.words (own ++ r.marks) → IsRead most h after
said_no_more most h r after own is says same =
    let more = said_more most h r after h.words own is says same in
    let before = quiet most h r h.words is is.told in record {
      told = more.told;
      held = more.held ∙ (sym before.held ∙ is.held);
      masked = more.masked;
      none = more.none;
    }

-- what was heard and said, after a frame of the peer's
abbrev on_after : ℕ → Bool → Heard → Frame → Heard
on_after most covered h f = on_with most (record { words = h.words; unfinished = λ s. gathers_of f s (h.unfinished s) }) (option_to_list (option_map heard (arrival_in covered h.unfinished f)) ++ h.words)

-- a frame that was handled
heard_more : (most : ℕ) (covered : Bool) (h : Heard) (r : Reading) (f : Frame) → IsRead most h r
    → Same most (option_to_list (option_map heard (arrival_in covered h.unfinished f)) ++ h.words) (option_to_list (option_map heard (arrival_in covered h.unfinished f)) ++ r.marks)
    → IsRead most (on_after most covered h f) (reads most r (Handled covered f))
heard_more most covered h r f is same =
    let said = option_to_list (option_map heard (arrival_in covered h.unfinished f)) in
    let gathered : ℕ → Gathered = λ s. gathers_of f s (h.unfinished s) in
    let at : IsRead most (on_after most covered h f) (more_read most (said ++ r.marks) gathered r.begun) = record {
      told = same;
      held = mask_same most (said ++ h.words) (said ++ r.marks) gathered same;
      masked = mask_again most (said ++ r.marks) gathered;
      none = is.none;
    } in
    subst (λ (u : ℕ → Gathered). IsRead most (on_after most covered h f) (more_read most (option_to_list (option_map heard (arrival_in covered u f)) ++ r.marks) (λ s. gathers_of f s (u s)) r.begun)) (sym is.held) at

-- ---- the entries

open_response : (u : Turn) → is_over u ≡ false → is_open_response (kept (Some u)) ≡ is_response u.opening.kind
unfolding stream_of
open_response u live = rw (live) refl

not_over : (b : Bool) (u : Turn) (f : Stream) → is_over u ≡ b → kept (Some u) ≡ Some f → b ≡ false
not_over true u f is k = absurd (let none : kept (Some u) ≡ None = rw (is) refl in cc)
not_over false u f is k = refl

own_role : (role : Role) → is_role role role ≡ true
own_role Requester = refl
own_role Responder = refl

and_true : (b : Bool) → (b && true) ≡ b
and_true true = refl
and_true false = refl

-- the payload of a call that is not refused, as its frame has it
next_framed : (g : Settings) (past : List Entry) (s : ℕ) (m : Message) (c : Bool) (f : Stream) → (known g past).kept s ≡ Some f → (u : Turn) → stream g past s ≡ Some u
    → Payload m (c || is_open_response ((known g past).kept s)) true ≡ framed_step u.opening u.opening.role (Payload m c true)
unfolding known_after
next_framed g past s m c f is u there =
    let k : kept (Some u) ≡ Some f = subst (λ (t : Option Turn). kept t ≡ Some f) there is in
    let still = not_over (is_over u) u f refl k in
    rw (there, open_response u still, own_role u.opening.role, and_true (is_response u.opening.kind)) refl

-- after a call that is not refused, and whose frame goes out in fragments
frame_more : (g : Settings) (past : List Entry) (r : Reading) (f : Frame) (W : List Mark) → follows_of f ≡ false → IsRead g.max_streams (heard_in g past) r → Same g.max_streams W (option_to_list (own_in f) ++ r.marks)
    → IsRead g.max_streams (on_with g.max_streams (heard_in g past) W) (reading g.max_streams r (map Made (in_fragments g.mtu f)))
frame_more g past r f W whole is same =
    said_more g.max_streams (heard_in g past) r _ W _ is (frame_says g.max_streams g.mtu r f whole is.masked is.none) same

done_read : (g : Settings) (past : List Entry) (r : Reading) (asked : Call) → Does g (facts g past) (event.Asked asked) → IsRead g.max_streams (heard_in g past) r
    → IsRead g.max_streams (on_with g.max_streams (heard_in g past) (said 0 asked ++ words g past)) (reading g.max_streams r (map Made (sent_as g (spoken (known g past) 0 asked))))
unfolding facts reading
done_read g past r (call.Request kind initial message complete) does is = absurd does
done_read g past r (call.Next s m c) does is =
    let n = names (known g past) s _ (unrefused g (facts g past) (call.Next s m c) does).state in
    frame_more g past r (frame.Payload s false (c || is_open_response ((known g past).kept s)) true m) _ refl is (same_sent g.max_streams (words g past) r.marks s _ _ (next_framed g past s m c n.stream n.kept) is.told)
done_read g past r (call.Done s) does is =
    frame_more g past r (frame.Payload s false true false no_message) _ refl is (same_sent g.max_streams (words g past) r.marks s _ _ (λ u there. refl) is.told)
done_read g past r (call.Grant s n) does is =
    frame_more g past r (frame.RequestN s n) _ refl is (same_sent g.max_streams (words g past) r.marks s _ _ (λ u there. refl) is.told)
done_read g past r (call.Cancel s) does is =
    frame_more g past r (frame.Cancel s) _ refl is (same_sent g.max_streams (words g past) r.marks s _ _ (λ u there. refl) is.told)
done_read g past r (call.Fail s code content) does is =
    frame_more g past r (frame.Error s code content) _ refl is (same_sent g.max_streams (words g past) r.marks s _ _ (λ u there. refl) is.told)
done_read g past r (call.Take s) does is = absurd does
done_read g past r call.TakeJob does is = absurd does
done_read g past r (call.Push metadata) does is = quiet g.max_streams (heard_in g past) r (words g past) is is.told
done_read g past r (call.Lease ttl count metadata) does is = quiet g.max_streams (heard_in g past) r (words g past) is is.told
done_read g past r call.Close does is = quiet g.max_streams (heard_in g past) r (words g past) is is.told

heard_same : (most : ℕ) (W R : List Mark) (o : Option Arrival) → FairMarks most (option_to_list (option_map heard o) ++ W) → Same most W R
    → Same most (option_to_list (option_map heard o) ++ W) (option_to_list (option_map heard o) ++ R)
unfolding FairMarks
heard_same most W R None fair h = h
heard_same most W R (Some (arrival.Asked s kind initial whole)) fair h = same_opens most W R s (theirs kind initial whole) fair.1.fresh h
heard_same most W R (Some (arrival.Whole s m c n)) fair h = same_got most W R s (Payload m c n) h
heard_same most W R (Some (arrival.Granted s n)) fair h = same_got most W R s (RequestN n) h
heard_same most W R (Some (arrival.Canceled s)) fair h = same_got most W R s Cancel h
heard_same most W R (Some (arrival.Failed s code content)) fair h = same_got most W R s (Fail code content) h
heard_same most W R (Some (arrival.PassedOver s)) fair h = same_passed most W R s h
heard_same most W R (Some (arrival.Pushed metadata)) fair h = same_came most W R metadata h

-- after a frame that counts and was handled
counted_read : (most : ℕ) (covered : Bool) (h : Heard) (r : Reading) (f : Frame) → FairMarks most (option_to_list (option_map heard (arrival_in covered h.unfinished f)) ++ h.words) → IsRead most h r
    → IsRead most (on_after most covered h f) (reads most r (Handled covered f))
counted_read most covered h r f fair is = heard_more most covered h r f is (heard_same most h.words r.marks (arrival_in covered h.unfinished f) fair is.told)

abbrev is_push : Frame → Bool
is_push (frame.MetadataPush metadata) = true
is_push f = false

-- any other says nothing on the streams, but for metadata that is pushed
unseen : (covered : Bool) (gathered : ℕ → Gathered) (f : Frame) → is_resumable f ≡ false → is_push f ≡ false → arrival_in covered gathered f ≡ None
unseen covered gathered f off kept = grind (arith, common_steps)

ungathered : (f : Frame) (s : ℕ) (held : Gathered) → is_resumable f ≡ false → gathers_of f s held ≡ held
ungathered f s held off = grind (arith, common_steps)

uncounted : (most : ℕ) (covered : Bool) (h : Heard) (f : Frame) → is_resumable f ≡ false → is_push f ≡ false → on_after most covered h f ≡ on_with most h h.words
uncounted most covered h f off kept =
    rw (unseen covered h.unfinished f off kept) (ap (λ (u : ℕ → Gathered). on_with most (record { words = h.words; unfinished = u }) h.words) (fun_ext (λ s. ungathered f s (h.unfinished s) off)))

came_read : (most : ℕ) (covered : Bool) (h : Heard) (r : Reading) (f : Frame) (b : Bool) → is_resumable f ≡ b → FairMarks most (option_to_list (option_map heard (arrival_in covered h.unfinished f)) ++ h.words) → IsRead most h r
    → IsRead most (on_after most covered h f) (reading most r (map (Handled covered) (cond b (f ∷ []) [])))
unfolding reading
came_read most covered h r f true is fair before = counted_read most covered h r f fair before
came_read most covered h r (frame.MetadataPush metadata) false is fair before = quiet most h r (Pushed metadata ∷ h.words) before (same_pushed most h.words r.marks metadata before.told)
came_read most covered h r f false is fair before = rw (uncounted most covered h f is refl) (quiet most h r h.words before before.told)

-- a request that is turned away has no stream
none_there : (g : Settings) (past : List Entry) (q : Request) (o : Opening) (word : List ℕ) → highest (q.stream % 2) (words g past) < q.stream → turned_away_for g true (known g past) q ≡ Some word → o.role ≡ Responder → o.kind ≡ q.kind
    → turn g.max_streams (Opens q.stream o ∷ words g past) q.stream ≡ None
unfolding known_after
none_there g past q o word below away role kind = rw (turn_opened g.max_streams (words g past) q.stream o below, role, kind) (grind (arith, common_steps))

-- nor has one that is passed over
none_passed : (g : Settings) (past : List Entry) (s : ℕ) → highest (s % 2) (words g past) < s → turn g.max_streams (Passed s ∷ words g past) s ≡ None
none_passed g past s below = turn_passed g.max_streams (words g past) s s ∙ fresh g.max_streams (words g past) s below

-- the marks with a request of the peer's
abbrev asks_more : Settings → List Entry → Bool → Request → List Mark
asks_more g past covered q = heard (request_in covered q) ∷ words g past

none_asked : (g : Settings) (past : List Entry) (q : Request) (covered : Bool) (word : List ℕ) → turned_away_for g covered (known g past) q ≡ Some word → FairMarks g.max_streams (asks_more g past covered q)
    → turn g.max_streams (asks_more g past covered q) q.stream ≡ None
unfolding FairMarks
none_asked g past q true word away fair = none_there g past q _ word fair.1.fresh away refl refl
none_asked g past q false word away fair = none_passed g past q.stream fair.1

request_read : (g : Settings) (past : List Entry) (r : Reading) (q : Request) (covered : Bool) (away : Option (List ℕ)) → turned_away_for g covered (known g past) q ≡ away
    → FairMarks g.max_streams (asks_more g past covered q) → IsRead g.max_streams (heard_in g past) r
    → IsRead g.max_streams (on_after g.max_streams covered (heard_in g past) (frame.Request q)) (reading g.max_streams r (Handled covered (frame.Request q) ∷ map Made (turned_away_with q.stream away)))
unfolding reading
request_read g past r q covered None away fair is = counted_read g.max_streams covered (heard_in g past) r (frame.Request q) fair is
request_read g past r q covered (Some word) away fair is =
    let now = counted_read g.max_streams covered (heard_in g past) r (frame.Request q) fair is in
    said_no_more g.max_streams _ _ _ _ now (frame_says g.max_streams 0 _ (turned_away q.stream word) refl now.masked now.none)
    (same_stray g.max_streams _ _ q.stream _ (none_asked g past q covered word away fair) now.told)

handled_read : (g : Settings) (past : List Entry) (r : Reading) (conn : ℕ) (f : Frame)
    → FairMarks g.max_streams (option_to_list (option_map heard (arrival_in (is_covered g past) (unfinished g past) f)) ++ words g past) → IsRead g.max_streams (heard_in g past) r
    → IsRead g.max_streams (on_after g.max_streams (is_covered g past) (heard_in g past) f) (reading g.max_streams r (marks g (is_covered g past) (known g past) answer.Handled (event.Came conn f)))
handled_read g past r conn (frame.Request q) fair is = request_read g past r q (is_covered g past) (turned_away_for g (is_covered g past) (known g past) q) refl fair is
handled_read g past r conn f fair is =
    let only : marks g (is_covered g past) (known g past) answer.Handled (event.Came conn f) ≡ map (Handled (is_covered g past)) (cond (is_resumable f) (f ∷ []) []) = append-nil _ in
    rw (only) (came_read g.max_streams (is_covered g past) (heard_in g past) r f (is_resumable f) refl fair is)

entry_read : (g : Settings) (past : List Entry) (r : Reading) (a : Answer) (e : Event) → Means g (facts g past) e a → FairMarks g.max_streams (marks_in (is_covered g past) (unfinished g past) a e ++ words g past) → IsRead g.max_streams (heard_in g past) r
    → IsRead g.max_streams (more_heard g.max_streams (marks_in (is_covered g past) (unfinished g past) a e ++ words g past) (heard_in g past) a e) (reading g.max_streams r (marks g (is_covered g past) (known g past) a e))
unfolding reading FairMarks
entry_read g past r (answer.Started id) (event.Asked (call.Request kind initial message complete)) means fair is =
    frame_more g past r (request_frame id kind initial message complete) _ refl is (same_opens g.max_streams (words g past) r.marks id _ fair.1.fresh is.told)
entry_read g past r (answer.Started id) e means fair is = absurd means
entry_read g past r answer.Done (event.Asked asked) means fair is = done_read g past r asked means is
entry_read g past r answer.Done e means fair is = absurd means
entry_read g past r (answer.Got d) (event.Asked (call.Take s)) means fair is = quiet g.max_streams (heard_in g past) r _ is (same_took g.max_streams (words g past) r.marks s d is.told)
entry_read g past r (answer.Got d) e means fair is = absurd means
entry_read g past r (answer.GotJob job) (event.Asked call.TakeJob) means fair is = quiet g.max_streams (heard_in g past) r _ is (same_job g.max_streams (words g past) r.marks is.told)
entry_read g past r (answer.GotJob job) e means fair is = absurd means
entry_read g past r answer.Handled (event.Came conn f) means fair is = handled_read g past r conn f fair is
entry_read g past r answer.Handled e means fair is = absurd means
entry_read g past r a e means fair is = quiet g.max_streams (heard_in g past) r (words g past) is is.told

read_on : (most : ℕ) (r : Reading) (older newer : List Seen) → reading most r (older ++ newer) ≡ reading most (reading most r older) newer
unfolding reading
read_on most r [] newer = refl
read_on most r (m ∷ older) newer = read_on most (reads most r m) older newer

frames_read : (g : Settings) (past : List Entry) → IsLawful g past → IsRead g.max_streams (heard_in g past) (reading g.max_streams nothing_read (seen g past))
unfolding Legal Fair seen heard_in reading turn known_after
frames_read g [] h = record { told = record { turns = λ s. refl; ids = λ p. refl; asked = refl }; held = refl; masked = refl; none = λ s. refl }
frames_read g (x ∷ past) h =
    let before : IsLawful g past = record { legal = h.legal.0; fair = h.fair.0 } in
    let fair = legal_fair g (x ∷ past) h.legal h.fair in
    rw (read_on g.max_streams nothing_read (seen g past) (marks g (is_covered g past) (known g past) x.answer x.event))
    (entry_read g past (reading g.max_streams nothing_read (seen g past)) x.answer x.event (last_means g x past h.legal) fair (frames_read g past before))

-- ---- the law

pub read_streams : (g : Settings) (past : List Entry) (s : ℕ) → IsLawful g past → turn g.max_streams (read g.max_streams (seen g past)) s ≡ turn_read (stream g past s)
read_streams g past s h = (frames_read g past h).told.turns s

pub read_live : (g : Settings) (past : List Entry) → IsLawful g past → live g.max_streams (read g.max_streams (seen g past)) ≡ live g.max_streams (words g past)
read_live g past h = room_same g.max_streams (words g past) (read g.max_streams (seen g past)) (frames_read g past h).told

pub read_highest : (g : Settings) (past : List Entry) (parity : ℕ) → IsLawful g past → highest parity (read g.max_streams (seen g past)) ≡ highest parity (words g past)
read_highest g past parity h = (frames_read g past h).told.ids parity

pub read_requests : (g : Settings) (past : List Entry) → IsLawful g past → requests (jobs g.max_streams (read g.max_streams (seen g past))) ≡ requests (jobs g.max_streams (words g past))
read_requests g past h = (frames_read g past h).told.asked
