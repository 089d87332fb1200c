-- How an end made a frame that ends a message of payloads.
use Rattle.std.proofs.Common.{◌≡◌, ◌≤◌, ◌<◌, ◌%◌, ◌+◌, ◌==◌, ℕ, Bool, true, false, List, [], ◌∷◌, ◌++◌, Option, Some, None, refl, ap, sym, subst, ◌∙◌, arith}
use Rattle.std.proofs.lemmas.Bool.{eqb-true}
use Rattle.std.proofs.lemmas.Bool.Decides.{nat_tests}
use Rattle.rs_wire.specs.Settings.{IsChecked}
use Rattle.rs_wire.specs.declared.message.Message.{Message}
use Rattle.rs_wire.specs.declared.settings.Settings.{Settings}
use Rattle.rs_wire.specs.declared.call.Call.{Call}
use Rattle.rs_wire.specs.declared.call.Call.TheVariants as call
use Rattle.rs_frame.specs.declared.frame.Frame.{Frame}
use Rattle.rs_frame.specs.declared.frame.Frame.TheVariants as frame
use Rattle.rs_frame.specs.declared.frame.Request.{Request}
use Rattle.fragment.specs.Splitting.{fragments, split_of}
use Rattle.fragment.proofs.Splits.{split_fits}
use Rattle.tape.specs.declared.event.Event.{Event}
use Rattle.tape.specs.declared.event.Event.TheVariants as event
use Rattle.tape.specs.declared.answer.Answer.{Answer}
use Rattle.tape.specs.declared.answer.Answer.TheVariants as answer
use Rattle.tape.specs.declared.entry.Entry.{Entry}
use Rattle.stream_model.specs.declared.stream.Stream.{Stream}
use Rattle.stream_model.specs.Streams.{highest, one_if, turn}
use Rattle.stream_model.specs.Kept.{kept}
use Rattle.stream_model.specs.Known.{is_own_parity, known as known_after}
use Rattle.stream_model.specs.Refused.{credit_refused, on_way, outbound_over}
use Rattle.stream_model.specs.Arriving.{no_message}
use Rattle.stream_model.proofs.Fitting.{own_fresh}
use Rattle.session_model.specs.Leases.{is_covered}
use Rattle.session_model.specs.Streams.{known, turned_away_for, words}
use Rattle.session_model.specs.Frames.{in_fragments, makes, sent_as, spoken}
use Rattle.session_model.specs.Answers.{facts}
use Rattle.session_model.specs.Means.{Does, Means}
use Rattle.session_model.proofs.Refusals.{names, unrefused}
use Rattle.session_model.proofs.Spelled.{is_mtu}
use Rattle.honest_laws.proofs.Counts.{Asking, Counts, Cut, Whole, asking, counts, counts_more, counts_none, counts_one, fragments_count, none, payload_count}
use Rattle.honest_laws.proofs.Entries.{next_own}
use Rattle.honest_laws.proofs.Marks.{away_none}

-- ---- a frame that ends a message, among others

-- so many messages end with it and before it
ended_among : (s : ℕ) (front back all : List Frame) (c n : Bool) (m : Message) → front ++ frame.Payload s false c n m ∷ back ≡ all → (counts s front).ended + 1 ≤ (counts s all).ended
ended_among s front back all c n m is =
    let f = frame.Payload s false c n m in
    let same : (s == s) ≡ true = grind (arith, nat_tests) in
    let one : (counts s (f ∷ [])).ended ≡ 1 = ap (λ (k : Counts). k.ended) (counts_one s f) ∙ rw same refl in
    let after = ap (λ (k : Counts). k.ended) (counts_more s (f ∷ []) back) in
    let both = ap (λ (k : Counts). k.ended) (counts_more s front (f ∷ back)) in
    let whole = ap (λ (l : List Frame). (counts s l).ended) is in
    omega (arith, one, after, both, whole)

-- it is none of frames with which no message ends
none_ends : (s : ℕ) (front back all : List Frame) (c n : Bool) (m : Message) → front ++ frame.Payload s false c n m ∷ back ≡ all → counts s all ≡ none → ⊥
none_ends s front back all c n m is zero =
    let some = ended_among s front back all c n m is in
    let no = ap (λ (k : Counts). k.ended) zero in
    absurd (omega (arith, some, no))

-- where one ends on the stream q, it is this one, and q is its stream
record EndsIt (s q : ℕ) (front : List Frame) : Type 0 where
  same : q ≡ s
  ended : (counts s front).ended ≡ 0

same_stream : (q s : ℕ) (b : Bool) → (q == s) ≡ b → 1 ≤ one_if b → q ≡ s
same_stream q s true is some = eqb-true q s is
same_stream q s false is some = absurd (omega arith)

most_one : (b : Bool) → one_if b ≤ 1
most_one true = omega arith
most_one false = omega arith

one_ends : (s q : ℕ) (front back all : List Frame) (c n : Bool) (m : Message) → front ++ frame.Payload s false c n m ∷ back ≡ all → (counts s all).ended ≡ one_if (q == s) → EndsIt s q front
one_ends s q front back all c n m is one =
    let some = ended_among s front back all c n m is in
    let most = most_one (q == s) in
    record { same = same_stream q s (q == s) refl (omega (arith, some, one)); ended = omega (arith, some, one, most) }

-- ---- how it was made

-- with a request in fragments, by an item, or by the end of a way
pub data MadeSo (h : Settings) (earlier : List Entry) (s : ℕ) (next : Bool) (front : List Frame) : Type 0 where
  ByRequest : is_own_parity h.side s ≡ true → highest (s % 2) (words h earlier) < s → 1 ≤ (counts s front).parts → (counts s front).ended ≡ 0 → MadeSo h earlier s next front
  ByItem : (f : Stream) → kept (turn h.max_streams (words h earlier) s) ≡ Some f → on_way (outbound_over f.role f.kind f) ≡ None → credit_refused (Some f) ≡ None → (counts s front).ended ≡ 0 → MadeSo h earlier s next front
  ByEnd : next ≡ false → front ≡ [] → MadeSo h earlier s next front

-- ---- with a request

cut_first : (s : ℕ) (r : Request) (part rest : Message) (k mtu : ℕ) (front back : List Frame) (c n : Bool) (m : Message)
    → front ++ frame.Payload s false c n m ∷ back ≡ frame.Request (record r { follows = true; complete = false; message = part }) ∷ fragments k mtu (frame.Payload r.stream false r.complete true rest)
    → (r.stream ≡ s) × (1 ≤ (counts s front).parts) × ((counts s front).ended ≡ 0)
cut_first s r part rest k mtu [] back c n m is = absurd (cc)
cut_first s r part rest k mtu (y ∷ front) back c n m is =
    let q : Frame = frame.Request (record r { follows = true; complete = false; message = part }) in
    let tail = fragments k mtu (frame.Payload r.stream false r.complete true rest) in
    let first : y ≡ q = cc in
    let left : front ++ frame.Payload s false c n m ∷ back ≡ tail = cc in
    let e = one_ends s r.stream front back tail c n m left (ap (λ (i : Counts). i.ended) (fragments_count s k mtu r.stream r.complete true rest)) in
    let same : (r.stream == s) ≡ true = subst (λ (i : ℕ). (i == s) ≡ true) (sym e.same) (grind (arith, nat_tests)) in
    let one = counts_one s q in
    let parts : (counts s (q ∷ [])).parts ≡ 1 = ap (λ (i : Counts). i.parts) one ∙ rw same refl in
    let ended : (counts s (q ∷ [])).ended ≡ 0 = ap (λ (i : Counts). i.ended) one in
    let both = counts_more s (y ∷ []) front in
    let all_parts = ap (λ (i : Counts). i.parts) both in
    let all_ended = ap (λ (i : Counts). i.ended) both in
    let first_parts : (counts s (y ∷ [])).parts ≡ 1 = ap (λ (i : Frame). (counts s (i ∷ [])).parts) first ∙ parts in
    let first_ended : (counts s (y ∷ [])).ended ≡ 0 = ap (λ (i : Frame). (counts s (i ∷ [])).ended) first ∙ ended in
    let after = e.ended in
    (e.same, omega (arith, all_parts, first_parts), omega (arith, all_ended, first_ended, after))

by_asking : (h : Settings) (earlier : List Entry) (s : ℕ) (r : Request) (all front back : List Frame) (c n : Bool) (m : Message) → Asking r all → front ++ frame.Payload s false c n m ∷ back ≡ all
    → is_own_parity h.side r.stream ≡ true → highest (r.stream % 2) (words h earlier) < r.stream → MadeSo h earlier s n front
by_asking h earlier s r all front back c n m (Whole e) is own above =
    let some = ended_among s front back (frame.Request r ∷ []) c n m (is ∙ e) in
    let none_there = ap (λ (i : Counts). i.ended) (counts_one s (frame.Request r)) in
    absurd (omega (arith, some, none_there))
by_asking h earlier s r all front back c n m (Cut part rest k mtu e) is own above =
    let p = cut_first s r part rest k mtu front back c n m (is ∙ e) in
    ByRequest (subst (λ (i : ℕ). is_own_parity h.side i ≡ true) p.0 own) (subst (λ (i : ℕ). highest (i % 2) (words h earlier) < i) p.0 above) p.1 p.2

-- ---- by a call on a stream

by_item : (h : Settings) (earlier : List Entry) (s q : ℕ) (message : Message) (complete : Bool) (front back : List Frame) (c n : Bool) (m : Message) → Does h (facts h earlier) (event.Asked (call.Next q message complete))
    → front ++ frame.Payload s false c n m ∷ back ≡ sent_as h (spoken (known h earlier) 0 (call.Next q message complete)) → MadeSo h earlier s n front
unfolding facts known_after
by_item h earlier s q message complete front back c n m does is =
    let u = unrefused h (facts h earlier) (call.Next q message complete) does in
    let on = names (known h earlier) q _ u.state in
    let e = one_ends s q front back (sent_as h (spoken (known h earlier) 0 (call.Next q message complete))) c n m is (ap (λ (i : Counts). i.ended) (payload_count s h.mtu q _ true message)) in
    let there : kept (turn h.max_streams (words h earlier) s) ≡ Some on.stream = subst (λ (i : ℕ). kept (turn h.max_streams (words h earlier) i) ≡ Some on.stream) e.same on.kept in
    ByItem on.stream there on.allowed (subst (λ (k : Option Stream). credit_refused k ≡ None) on.kept u.credit) e.ended

-- the end of a way goes out in one frame
end_alone : (h : Settings) (q : ℕ) → IsChecked h → in_fragments h.mtu (frame.Payload q false true false no_message) ≡ frame.Payload q false true false no_message ∷ []
end_alone h q checked =
    let limit = is_mtu h checked in
    let f = frame.Payload q false true false no_message in
    elim (h.mtu == 0) as (λ v. (h.mtu == 0) ≡ v → split_of f h.mtu ≡ f ∷ []) [
      | true ↦ λ is. rw is refl
      | false ↦ λ some.
          let above : 0 < h.mtu = grind (arith, nat_tests) in
          let least = limit.1 above in
          split_fits f h.mtu (omega arith)
    ] refl

alone : (f k : Frame) (front back : List Frame) → front ++ f ∷ back ≡ k ∷ [] → (front ≡ []) × (f ≡ k)
alone f k [] back is = (refl, cc)
alone f k (y ∷ []) back is = absurd (cc)
alone f k (y ∷ z ∷ front) back is = absurd (cc)

by_end : (h : Settings) (earlier : List Entry) (s q : ℕ) (front back : List Frame) (c n : Bool) (m : Message) → IsChecked h → front ++ frame.Payload s false c n m ∷ back ≡ in_fragments h.mtu (frame.Payload q false true false no_message)
    → MadeSo h earlier s n front
by_end h earlier s q front back c n m checked is =
    let one = alone (frame.Payload s false c n m) (frame.Payload q false true false no_message) front back (is ∙ end_alone h q checked) in
    let same = one.1 in
    ByEnd (cc) one.0

done_so : (h : Settings) (earlier : List Entry) (s : ℕ) (asked : Call) (front back : List Frame) (c n : Bool) (m : Message) → IsChecked h → Does h (facts h earlier) (event.Asked asked)
    → front ++ frame.Payload s false c n m ∷ back ≡ sent_as h (spoken (known h earlier) 0 asked) → MadeSo h earlier s n front
done_so h earlier s (call.Request kind initial message complete) front back c n m checked does is = absurd does
done_so h earlier s (call.Next q message complete) front back c n m checked does is = by_item h earlier s q message complete front back c n m does is
done_so h earlier s (call.Done q) front back c n m checked does is = by_end h earlier s q front back c n m checked is
done_so h earlier s (call.Grant q k) front back c n m checked does is =
    let some = ended_among s front back (frame.RequestN q k ∷ []) c n m is in let no = ap (λ (i : Counts). i.ended) (counts_one s (frame.RequestN q k)) in absurd (omega (arith, some, no))
done_so h earlier s (call.Cancel q) front back c n m checked does is = absurd (none_ends s front back (frame.Cancel q ∷ []) c n m is (counts_one s (frame.Cancel q)))
done_so h earlier s (call.Fail q code content) front back c n m checked does is = absurd (none_ends s front back (frame.Error q code content ∷ []) c n m is (counts_one s (frame.Error q code content)))
done_so h earlier s (call.Push metadata) front back c n m checked does is = absurd (none_ends s front back [] c n m is (counts_none s))
done_so h earlier s (call.Lease ttl count metadata) front back c n m checked does is = absurd (none_ends s front back [] c n m is (counts_none s))
done_so h earlier s (call.Take q) front back c n m checked does is = absurd does
done_so h earlier s call.TakeJob front back c n m checked does is = absurd does
done_so h earlier s call.Close front back c n m checked does is = absurd (none_ends s front back [] c n m is (counts_none s))

-- ---- by any entry

pub made_so : (h : Settings) (earlier : List Entry) (s : ℕ) (a : Answer) (e : Event) (front back : List Frame) (c n : Bool) (m : Message) → IsChecked h → Means h (facts h earlier) e a
    → front ++ frame.Payload s false c n m ∷ back ≡ makes h (is_covered h earlier) (known h earlier) a e → MadeSo h earlier s n front
unfolding facts
made_so h earlier s (answer.Started id) (event.Asked (call.Request kind initial message complete)) front back c n m checked means is =
    by_asking h earlier s _ _ front back c n m (asking h.mtu _) is
    (subst (λ (i : ℕ). is_own_parity h.side i ≡ true) (sym means.next) (next_own h.side h.max_streams (words h earlier))) (own_fresh h.max_streams (words h earlier) h.side id means.next)
made_so h earlier s (answer.Started id) e front back c n m checked means is = absurd means
made_so h earlier s answer.Done (event.Asked asked) front back c n m checked means is = done_so h earlier s asked front back c n m checked means is
made_so h earlier s answer.Done e front back c n m checked means is = absurd means
made_so h earlier s answer.Handled (event.Came conn (frame.Request r)) front back c n m checked means is =
    absurd (none_ends s front back _ c n m is (away_none s r.stream (turned_away_for h (is_covered h earlier) (known h earlier) r)))
made_so h earlier s a e front back c n m checked means is = absurd (none_ends s front back [] c n m is (counts_none s))
