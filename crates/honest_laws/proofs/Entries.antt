-- What is kept of each stream of an end, against the sums over the frames that it made and handled, after each of its entries.
use Rattle.std.proofs.Common.{inl, inr, ◌≡◌, ◌<◌, ◌%◌, ◌+◌, ◌&&◌, ◌==◌, ℕ, Bool, true, false, not, cond, List, [], ◌∷◌, Some, None, is_some, option_to_list, refl, ap, sym, subst, ◌∙◌, arith}
use Rattle.std.specs.Prelude.{nat_lt}
use Rattle.std.specs.Option.{option_map}
use Rattle.std.proofs.lemmas.Bool.Decides.{nat_tests}
use Rattle.rs_wire.specs.declared.words.Role.TheVariants.{Requester}
use Rattle.rs_wire.specs.declared.words.Side.{Side}
use Rattle.rs_wire.specs.declared.words.Side.TheVariants.{Client, Server}
use Rattle.rs_wire.specs.declared.message.Message.{Message}
use Rattle.rs_wire.specs.declared.settings.Settings.{Settings}
use Rattle.rs_wire.specs.declared.call.Call.{Call}
use Rattle.rs_wire.specs.declared.call.Call.TheVariants as call
use Rattle.rs_frame.specs.declared.frame.Frame.{Frame}
use Rattle.rs_frame.specs.declared.frame.Frame.TheVariants as frame
use Rattle.rs_frame.specs.declared.frame.Request.{Request}
use Rattle.tape.specs.declared.event.Event.{Event}
use Rattle.tape.specs.declared.event.Event.TheVariants as event
use Rattle.tape.specs.declared.answer.Answer.{Answer}
use Rattle.tape.specs.declared.answer.Answer.TheVariants as answer
use Rattle.tape.specs.declared.entry.Entry.{Entry}
use Rattle.stream_model.specs.declared.arrival.Arrival.TheVariants as arrival
use Rattle.stream_model.specs.declared.stream.Stream.{Stream}
use Rattle.fragment.specs.Joining.{with_part}
use Rattle.stream_model.specs.Marks.{Step, Payload, RequestN, Cancel, Fail, Mark, Sent}
use Rattle.stream_model.specs.Turns.{Said, other}
use Rattle.stream_model.specs.Streams.{highest, one_if, turn}
use Rattle.stream_model.specs.Kept.{kept, stream_of}
use Rattle.stream_model.specs.Known.{highest_at, id_after, is_own_parity, is_peers_next, known as known_after, next_id, other_side}
use Rattle.stream_model.specs.Refused.{inbound_over, on_way, outbound_over}
use Rattle.stream_model.specs.Arriving.{heard, no_message, said}
use Rattle.stream_model.proofs.Fitting.{own_fresh, parity_or_zero, peer_fresh}
use Rattle.stream_model.proofs.Keeping.{live_turn}
use Rattle.session_model.specs.Leases.{is_covered}
use Rattle.session_model.specs.Streams.{heard_in, known, marks_in, turned_away_for, unfinished, words}
use Rattle.session_model.specs.Frames.{handled, handles, made, makes, sent_as, spoken, turned_away_with}
use Rattle.session_model.specs.Answers.{facts}
use Rattle.session_model.specs.Legal.{Legal}
use Rattle.session_model.specs.Means.{Does, Handling, Means}
use Rattle.session_model.proofs.Breaking.{unbroken}
use Rattle.session_model.proofs.Meaning.{last_means}
use Rattle.session_model.proofs.Refusals.{names, unrefused}
use Rattle.honest_laws.proofs.Counts.{Counts, asks_in_parts, counts, counts_more, counts_none, counts_one, none, payload_count}
use Rattle.honest_laws.proofs.Tally.{Adds, any_end, own_end, own_grant, own_item, peers_grant, peers_payload}
use Rattle.honest_laws.proofs.Marks.{At, Went, asked_request, away_none, got_step, job_step, nothing, own_request, pushed_step, said_step, took_step, unheard}

-- ---- parities

-- an id of the peer's is none of this end's
pub other_parity : (side : Side) (s : ℕ) → is_own_parity (other_side side) s ≡ not (is_own_parity side s)
other_parity Client s = elim (s % 2 == 1) as (λ v. (s % 2 == 1) ≡ v → (s % 2 == 0) ≡ not v) [ true ↦ λ is. grind (arith, nat_tests) | false ↦ λ is. grind (arith, nat_tests) ] refl
other_parity Server s = elim (s % 2 == 0) as (λ v. (s % 2 == 0) ≡ v → (s % 2 == 1) ≡ not v) [ true ↦ λ is. grind (arith, nat_tests) | false ↦ λ is. grind (arith, nat_tests) ] refl

own_parity : (first p high : ℕ) → first % 2 ≡ p → (high ≡ 0 → (high == 0) ≡ true) → ((high == 0) ≡ false → high % 2 ≡ p) → id_after first high % 2 ≡ p
own_parity first p high is zero some =
    elim (high == 0) as (λ v. (high == 0) ≡ v → cond v first (high + 2) % 2 ≡ p) [ true ↦ λ none. is | false ↦ λ more. let same = some more in omega arith ] refl

high_parity : (p : ℕ) (W : List Mark) → (highest p W == 0) ≡ false → highest p W % 2 ≡ p
high_parity p W more = elim (parity_or_zero p W) [ inl none ↦ absurd (let zero : (highest p W == 0) ≡ true = grind (arith, nat_tests) in cc) | inr is ↦ is ]

-- the next id is one of this end's
pub next_own : (side : Side) (most : ℕ) (W : List Mark) → is_own_parity side (next_id side (known_after most W)) ≡ true
unfolding known_after
next_own Client most W =
    let is : id_after 1 (highest 1 W) % 2 ≡ 1 = own_parity 1 1 (highest 1 W) refl (λ z. grind (arith, nat_tests)) (high_parity 1 W) in grind (arith, nat_tests)
next_own Server most W =
    let is : id_after 2 (highest 0 W) % 2 ≡ 0 = own_parity 2 0 (highest 0 W) refl (λ z. grind (arith, nat_tests)) (high_parity 0 W) in grind (arith, nat_tests)

and_both : (a b : Bool) → (a && b) ≡ true → (a ≡ true) × (b ≡ true)
and_both true b is = (refl, is)
and_both false b is = absurd (cc)

-- a request of the peer's is on an id of the peer's, above all of its parity
pub peers_id : (side : Side) (most : ℕ) (W : List Mark) (s : ℕ) → is_peers_next side (known_after most W) s ≡ true → (is_own_parity side s ≡ false) × (highest (s % 2) W < s)
peers_id side most W s next =
    let both = and_both (is_own_parity (other_side side) s) (nat_lt (highest_at (known_after most W) s) s) next in
    let other = other_parity side s in
    let above : highest_at (known_after most W) s < s = let lt = both.1 in grind (arith, nat_tests) in
    (elim (is_own_parity side s) as (λ v. is_own_parity (other_side side) s ≡ not v → v ≡ false) [ true ↦ λ is. absurd (let own = both.0 in cc) | false ↦ λ is. refl ] other, peer_fresh most W s above)

-- ---- calls

-- what a call says that is not refused, on a stream of which that is kept
kept_step : (side : Side) (most s : ℕ) (M H : Counts) (W : List Mark) (q : ℕ) (step : Step) (new : List Frame) (m : Bool → Counts) (f : Stream) → kept (turn most W q) ≡ Some f → counts s new ≡ m (q == s) → m false ≡ none
    → ((k : Stream) (parts : Bool) → k ≡ f → (k.role ≡ Requester → k.whole ≡ true) → Adds k (Said k.role step) parts (m true) none) → At side most s M H W → Went side most s M H W new [] (Sent q step ∷ [])
unfolding stream_of
kept_step side most s M H W q step new m f is e zero adds k =
    let l = live_turn (turn most W q) f is in
    said_step side most s M H W q step new m l.0 (q == s) refl e zero l.1 (λ t. adds (stream_of l.0.opening l.0.words) (not (is_some l.0.opening.whole)) l.3 t.own_whole) k

done_keeps : (g : Settings) (past : List Entry) (s : ℕ) (asked : Call) (M H : Counts) → Does g (facts g past) (event.Asked asked) → At g.side g.max_streams s M H (words g past)
    → Went g.side g.max_streams s M H (words g past) (sent_as g (spoken (known g past) 0 asked)) [] (said 0 asked)
unfolding facts known_after
done_keeps g past s (call.Request kind initial message complete) M H does k = absurd does
done_keeps g past s (call.Next q message complete) M H does k =
    let n = names (known g past) q _ (unrefused g (facts g past) (call.Next q message complete) does).state in
    kept_step g.side g.max_streams s M H (words g past) q (Payload message complete true) _ (λ b. record none { ended = one_if b }) n.stream n.kept (payload_count s g.mtu q _ true message) refl
    (λ f parts same mine. own_item f message complete parts (subst (λ (i : Stream). on_way (outbound_over i.role i.kind i) ≡ None) (sym same) n.allowed) mine) k
done_keeps g past s (call.Done q) M H does k =
    let n = names (known g past) q _ (unrefused g (facts g past) (call.Done q) does).state in
    kept_step g.side g.max_streams s M H (words g past) q (Payload no_message true false) _ (λ b. record none { ended = one_if b }) n.stream n.kept (payload_count s g.mtu q true false no_message) refl
    (λ f parts same mine. own_end f no_message parts (subst (λ (i : Stream). on_way (outbound_over i.role i.kind i) ≡ None) (sym same) n.allowed)) k
done_keeps g past s (call.Grant q n) M H does k =
    let on = names (known g past) q _ (unrefused g (facts g past) (call.Grant q n) does).state in
    kept_step g.side g.max_streams s M H (words g past) q (RequestN n) (frame.RequestN q n ∷ []) (λ b. record none { given = cond b n 0 }) on.stream on.kept (counts_one s (frame.RequestN q n)) refl
    (λ f parts same mine. own_grant f n parts (subst (λ (i : Stream). on_way (inbound_over i.role i.kind i) ≡ None) (sym same) on.allowed)) k
done_keeps g past s (call.Cancel q) M H does k =
    let n = names (known g past) q _ (unrefused g (facts g past) (call.Cancel q) does).state in
    kept_step g.side g.max_streams s M H (words g past) q Cancel (frame.Cancel q ∷ []) (λ b. none) n.stream n.kept (counts_one s (frame.Cancel q)) refl
    (λ f parts same mine. any_end f f.role Cancel parts refl) k
done_keeps g past s (call.Fail q code content) M H does k =
    let n = names (known g past) q _ (unrefused g (facts g past) (call.Fail q code content) does).state in
    kept_step g.side g.max_streams s M H (words g past) q (Fail code content) (frame.Error q code content ∷ []) (λ b. none) n.stream n.kept (counts_one s (frame.Error q code content)) refl
    (λ f parts same mine. any_end f f.role (Fail code content) parts refl) k
done_keeps g past s (call.Push metadata) M H does k = nothing g.side g.max_streams s M H (words g past) k
done_keeps g past s (call.Lease ttl count metadata) M H does k = nothing g.side g.max_streams s M H (words g past) k
done_keeps g past s (call.Take q) M H does k = absurd does
done_keeps g past s call.TakeJob M H does k = absurd does
done_keeps g past s call.Close M H does k = nothing g.side g.max_streams s M H (words g past) k

-- ---- frames that are handled

no_parts : (s : ℕ) (f : Frame) → asks_in_parts s f ≡ 0 → (counts s (f ∷ [])).parts ≡ 0
no_parts s f none = ap (λ (c : Counts). c.parts) (counts_one s f) ∙ none

error_none : (s q code : ℕ) (content : List ℕ) (counts_it : Bool) → counts s (cond counts_it (frame.Error q code content ∷ []) []) ≡ none
error_none s q code content true = counts_one s (frame.Error q code content)
error_none s q code content false = counts_none s

error_step : (side : Side) (most s : ℕ) (M H : Counts) (W : List Mark) (q code : ℕ) (content : List ℕ) (hs : List Frame) (nowhere : Bool) → counts s hs ≡ none → At side most s M H W
    → Went side most s M H W [] hs (option_to_list (option_map heard (cond nowhere None (Some (arrival.Failed q code content)))))
error_step side most s M H W q code content hs true zero k = unheard side most s M H W hs (ap (λ (c : Counts). c.parts) zero) k
error_step side most s M H W q code content hs false zero k =
    got_step side most s M H W q (Fail code content) hs (λ b. none) (q == s) refl zero refl refl (λ u. any_end (stream_of u.opening u.words) (other u.opening.role) (Fail code content) (not (is_some u.opening.whole)) refl) k

-- a step of the peer's that is handled
abbrev Handles : Settings → List Entry → ℕ → Counts → Counts → Frame → Type 0
Handles g past s M H f =
    Went g.side g.max_streams s M H (words g past) (makes g (is_covered g past) (known g past) answer.Handled (event.Came 0 f)) (handles answer.Handled (event.Came 0 f))
    (marks_in (is_covered g past) (unfinished g past) answer.Handled (event.Came 0 f))

request_keeps : (g : Settings) (past : List Entry) (s conn : ℕ) (r : Request) (M H : Counts) → Handling g (facts g past) conn (frame.Request r) → At g.side g.max_streams s M H (words g past) → Handles g past s M H (frame.Request r)
unfolding facts
request_keeps g past s conn r M H means k =
    let id = peers_id g.side g.max_streams (words g past) r.stream (unbroken g (facts g past) (frame.Request r) means.may.1).next in
    asked_request g.side g.max_streams s M H (words g past) r (is_covered g past) (r.stream == s) (turned_away_with r.stream (turned_away_for g (is_covered g past) (known g past) r)) refl id.1 id.0
    (away_none s r.stream (turned_away_for g (is_covered g past) (known g past) r)) k

payload_keeps : (g : Settings) (past : List Entry) (s q : ℕ) (follows complete next : Bool) (m : Message) (M H : Counts) → At g.side g.max_streams s M H (words g past) → Handles g past s M H (frame.Payload q follows complete next m)
unfolding stream_of
payload_keeps g past s q true complete next m M H k =
    let f = frame.Payload q true complete next m in
    unheard g.side g.max_streams s M H (words g past) (f ∷ []) (no_parts s f refl) k
payload_keeps g past s q false complete next m M H k =
    let f = frame.Payload q false complete next m in
    let sum = with_part (unfinished g past q) m complete next in
    got_step g.side g.max_streams s M H (words g past) q (Payload sum.message sum.complete sum.next) (f ∷ []) (λ b. record none { ended = one_if (b && true) }) (q == s) refl (counts_one s f) refl refl
    (λ u. peers_payload (stream_of u.opening u.words) sum.message sum.complete sum.next (not (is_some u.opening.whole))) k

handled_keeps : (g : Settings) (past : List Entry) (s conn : ℕ) (f : Frame) (M H : Counts) → Handling g (facts g past) conn f → At g.side g.max_streams s M H (words g past) → Handles g past s M H f
unfolding stream_of
handled_keeps g past s conn (frame.Request r) M H means k = request_keeps g past s conn r M H means k
handled_keeps g past s conn (frame.Payload q follows complete next m) M H means k = payload_keeps g past s q follows complete next m M H k
handled_keeps g past s conn (frame.RequestN q n) M H means k =
    got_step g.side g.max_streams s M H (words g past) q (RequestN n) (frame.RequestN q n ∷ []) (λ b. record none { given = cond b n 0 }) (q == s) refl (counts_one s (frame.RequestN q n)) refl refl
    (λ u. peers_grant (stream_of u.opening u.words) n (not (is_some u.opening.whole))) k
handled_keeps g past s conn (frame.Cancel q) M H means k =
    got_step g.side g.max_streams s M H (words g past) q Cancel (frame.Cancel q ∷ []) (λ b. none) (q == s) refl (counts_one s (frame.Cancel q)) refl refl
    (λ u. any_end (stream_of u.opening u.words) (other u.opening.role) Cancel (not (is_some u.opening.whole)) refl) k
handled_keeps g past s conn (frame.Error q code content) M H means k =
    error_step g.side g.max_streams s M H (words g past) q code content (cond (nat_lt 0 q) (frame.Error q code content ∷ []) []) (q == 0) (error_none s q code content (nat_lt 0 q)) k
handled_keeps g past s conn (frame.MetadataPush metadata) M H means k = pushed_step g.side g.max_streams s M H (words g past) metadata k
handled_keeps g past s conn f M H means k = nothing g.side g.max_streams s M H (words g past) k

-- ---- all entries

entry_keeps : (g : Settings) (past : List Entry) (s : ℕ) (a : Answer) (e : Event) (M H : Counts) → Means g (facts g past) e a → At g.side g.max_streams s M H (words g past)
    → Went g.side g.max_streams s M H (words g past) (makes g (is_covered g past) (known g past) a e) (handles a e) (marks_in (is_covered g past) (unfinished g past) a e)
unfolding facts
entry_keeps g past s (answer.Started id) (event.Asked (call.Request kind initial message complete)) M H means k =
    let W = words g past in
    let most = g.max_streams in
    own_request g.side most s id g.mtu M H W kind initial message complete (id == s) refl (own_fresh most W g.side id means.next)
    (subst (λ (i : ℕ). is_own_parity g.side i ≡ true) (sym means.next) (next_own g.side most W)) k
entry_keeps g past s (answer.Started id) e M H means k = absurd means
entry_keeps g past s answer.Done (event.Asked asked) M H means k = done_keeps g past s asked M H means k
entry_keeps g past s answer.Done e M H means k = absurd means
entry_keeps g past s (answer.Got d) (event.Asked (call.Take q)) M H means k = took_step g.side g.max_streams s M H (words g past) q d (q == s) refl k
entry_keeps g past s (answer.Got d) e M H means k = absurd means
entry_keeps g past s (answer.GotJob job) (event.Asked call.TakeJob) M H means k = job_step g.side g.max_streams s M H (words g past) k
entry_keeps g past s (answer.GotJob job) e M H means k = absurd means
entry_keeps g past s answer.Handled (event.Came conn f) M H means k = handled_keeps g past s conn f M H means k
entry_keeps g past s answer.Handled e M H means k = absurd means
entry_keeps g past s a e M H means k = nothing g.side g.max_streams s M H (words g past) k

-- what is kept of the stream s of an end, against what it made and handled
pub keeps : (g : Settings) (past : List Entry) (s : ℕ) → Legal g past → At g.side g.max_streams s (counts s (made g past)) (counts s (handled past)) (words g past)
unfolding Legal made handled heard_in highest turn
keeps g [] s legal = rw (counts_none s) (record { given = refl; ended = refl; without = refl; fresh = λ below. refl })
keeps g (x ∷ past) s legal =
    rw (counts_more s (made g past) (makes g (is_covered g past) (known g past) x.answer x.event), counts_more s (handled past) (handles x.answer x.event))
    (entry_keeps g past s x.answer x.event (counts s (made g past)) (counts s (handled past)) (last_means g x past legal) (keeps g past s legal.0))
