-- A call that goes out in one frame, once it is applied.
use Rattle.std.proofs.Common.{◌≡◌, ◌+◌, ◌++◌, ◌<◌, ◌≤◌, ◌^◌, ℕ, Bool, true, false, add-zero, List, length, Option, Some, IfSome, refl, ap, sym, subst, ◌∙◌, arith}
use Rattle.rs_wire.specs.declared.settings.Settings.{Settings}
use Rattle.rs_wire.specs.declared.call.Call.{Call}
use Rattle.rs_wire.specs.declared.call.Call.TheVariants as call
use Rattle.rs_frame.specs.declared.frame.Frame.{Frame}
use Rattle.position.specs.Boundaries.{pos}
use Rattle.lease.specs.declared.requester.Terms.{Terms}
use Rattle.tape.specs.declared.entry.Entry.{Entry}
use Rattle.tape.specs.declared.event.Event.TheVariants as event
use Rattle.stream_model.specs.declared.arrival.Arrival.{Arrival}
use Rattle.stream_model.specs.Arriving.{said}
use Rattle.stream_model.specs.Marks.{Mark}
use Rattle.fragment.specs.Joining.{Gathered}
use Rattle.interactions.specs.Seen.{Seen, acted, known_to, stream_of_call}
use Rattle.reassembly.specs.Gathering.{ReassemblyView, gathered_at}
use Rattle.outbox.specs.Waiting.{Waiting}
use Rattle.session_model.specs.declared.facts.Counted.{Counted}
use Rattle.session_model.specs.Frames.{if_agreed, makes, spoken}
use Rattle.session_model.specs.Legal.{IsFair}
use Rattle.session_model.specs.Life.{agrees_leases, agrees_resumption, live_after}
use Rattle.session_model.specs.Streams.{gathers, marks_in}
use Rattle.session_core.specs.declared.state.State.{State}
use Rattle.session_core.specs.After.{IsAfter, IsApplied, more_counted}
use Rattle.session_core.specs.Fits.{Fits, facts_of}
use Rattle.session_core.specs.Gathering.{IsOfHeard, is_that, touches}
use Rattle.session_core.specs.Kept.{HoldsMore}
use Rattle.session_core.specs.Leasing.{LetsStart, covers_next, lease_after}
use Rattle.session_core.specs.Line.{line_of}
use Rattle.session_core.specs.Prepared.{left_in_line, lined_on, with_line}
use Rattle.session_core.specs.Sending.{FindsPosition, IsCallOn, IsLined, LetsGo, MaySend, Sends, answer_on, own_next, spoken_after}
use Rattle.session_core.specs.Speaking.{Acts, CanSay, FindsRoom, speaks_on, with_room}
use Rattle.session_model.proofs.Spelled.{makes_fit}
use Rattle.session_core.specs.Sound.{IsSound}
use Rattle.session_core.proofs.Lined.{lined_held, lined_hold, lined_queue, top_where}
use Rattle.session_core.proofs.Messages.{Goes, kept_parts, still_heard}
use Rattle.session_core.proofs.Saying.{can_say}
use Rattle.session_core.proofs.Standing.{after_act, no_draw, opened_above, or_false, or_none}
use Rattle.session_core.proofs.Sums.{none_counted}
use Rattle.session_core.proofs.SentOnce.{is_spoken, sent_answer, sent_lined, sent_means}
use Rattle.session_core.proofs.Soundness.{end_below, starts_of}

finds_room : (next : ℕ) (asked : Call) (on : ℕ) → IsCallOn next asked on → FindsRoom (speaks_on (answer_on asked on) (event.Asked asked)) (Some on)
finds_room next (call.Request kind initial message complete) on is = refl
finds_room next (call.Next n message complete) on is = ap Some is
finds_room next (call.Done n) on is = ap Some is
finds_room next (call.Grant n amount) on is = ap Some is
finds_room next (call.Cancel n) on is = ap Some is
finds_room next (call.Fail n code content) on is = ap Some is
finds_room next asked on is = absurd is

acts_so : (v : Seen) (next : ℕ) (asked : Call) (on : ℕ) (what : Option Arrival) → IsCallOn next asked on → CanSay v (answer_on asked on) (event.Asked asked) what → Acts v asked
acts_so v next (call.Request kind initial message complete) on what is says = says.acts
acts_so v next (call.Next n message complete) on what is says = says
acts_so v next (call.Done n) on what is says = says
acts_so v next (call.Grant n amount) on what is says = says
acts_so v next (call.Cancel n) on what is says = says
acts_so v next (call.Fail n code content) on what is says = says
acts_so v next asked on what is says = absurd is

pub sent_acts : (g : Settings) (s : State) (past : List Entry) (asked : Call) (on : ℕ) → Fits g s past → length past < 2 ^ 63 → IsFair g (event.Asked asked) → IsCallOn (own_next s.streams) asked on → MaySend g s asked
    → Acts (with_room s (Some on) s.parts s.outbox.room).streams asked
sent_acts g s past asked on fits short fair is may =
    acts_so (with_room s (Some on) s.parts s.outbox.room).streams (own_next s.streams) asked on _ is
    (can_say g s past (Some on) s.parts s.outbox.room (event.Asked asked) (answer_on asked on) fits short fair (sent_means g s asked on fits.limits_are is may) (finds_room (own_next s.streams) asked on is))

-- what a call says is what the marks of its entry are
said_there : (v : Seen) (covered : Bool) (held : ℕ → Gathered) (asked : Call) (on : ℕ) → IsCallOn (own_next v) asked on → said (stream_of_call v asked) asked ≡ marks_in covered held (answer_on asked on) (event.Asked asked)
said_there v covered held (call.Request kind initial message complete) on is = ap (λ (id : ℕ). said id (call.Request kind initial message complete)) (sym is)
said_there v covered held asked on is = refl

-- and it touches that stream
touched : (next : ℕ) (asked : Call) (on : ℕ) → IsCallOn next asked on → touches (answer_on asked on) (event.Asked asked) ≡ Some on
touched next (call.Request kind initial message complete) on is = refl
touched next (call.Next n message complete) on is = ap Some (sym is)
touched next (call.Done n) on is = ap Some (sym is)
touched next (call.Grant n amount) on is = ap Some (sym is)
touched next (call.Cancel n) on is = ap Some (sym is)
touched next (call.Fail n code content) on is = ap Some (sym is)
touched next asked on is = absurd is

still_gathered : (asked : Call) (on s : ℕ) (held : Gathered) → held ≡ gathers (answer_on asked on) (event.Asked asked) s held
still_gathered (call.Request kind initial message complete) on s held = refl
still_gathered asked on s held = refl

-- what is said on its stream, of which nothing is taken in
sent_goes : (old : State) (covered : Bool) (asked : Call) (on : ℕ) (parts : ReassemblyView) → IsCallOn (own_next old.streams) asked on → IsOfHeard (known_to old.streams) old.parts
    → LetsGo (known_to (acted old.streams asked)) on old.parts parts
    → Goes old.streams.limits.max_streams old.streams.marks (acted old.streams asked).marks covered (answer_on asked on) (event.Asked asked) old.parts old.parts parts
sent_goes old covered asked on parts is heard go =
    let there = touched (own_next old.streams) asked on is in
    record {
      said = ap (λ (ms : List Mark). ms ++ old.streams.marks) (said_there old.streams covered (gathered_at old.parts) asked on is);
      before = heard;
      taken = λ s. still_gathered asked on s (gathered_at old.parts s);
      others = λ s off. refl;
      let_go = record {
        heard = go.heard;
        over = λ s here none. go.over s (subst (λ (o : Option ℕ). is_that o s ≡ true) there here) none;
        others = λ s off. go.others s (subst (λ (o : Option ℕ). is_that o s ≡ false) there off);
      };
    }

-- one frame more of that length is counted
one_more : (t : Counted) (ms : List Frame) (n : ℕ) → length ms ≡ 1 → pos ms ≡ n → record { frames = t.frames + 1; position = t.position + n } ≡ more_counted t ms
one_more t ms n one long =
    ap (λ (k : ℕ). record { frames = t.frames + k; position = t.position + n }) (sym one)
    ∙ ap (λ (p : ℕ). record { frames = t.frames + length ms; position = t.position + p }) (sym long)

-- what it leaves
sent_applied : (g : Settings) (old : State) (asked : Call) (on n : ℕ) (parts : ReassemblyView) (kept : Waiting) (lease : Option Terms) → IsCallOn (own_next old.streams) asked on → IsOfHeard (known_to old.streams) old.parts
    → length (makes g (covers_next g old) (known_to old.streams) (answer_on asked on) (event.Asked asked)) ≡ 1
    → pos (makes g (covers_next g old) (known_to old.streams) (answer_on asked on) (event.Asked asked)) ≡ n
    → HoldsMore old.outbox.held (if_agreed (agrees_resumption g old.setup) (makes g (covers_next g old) (known_to old.streams) (answer_on asked on) (event.Asked asked))) 0 kept.held
    → kept.held.hold ≡ old.outbox.held.hold
    → ((id now : ℕ) → lease ≡ lease_after (agrees_leases g old.setup) now (answer_on asked id) (event.Asked asked) old.lease)
    → LetsGo (known_to (acted old.streams asked)) on old.parts parts
    → IsApplied g old (event.Asked asked) (answer_on asked on) (spoken_after old asked n parts kept lease)
sent_applied g old (call.Push metadata) on n parts kept lease is heard one long holds hold leased go = absurd is
sent_applied g old (call.Lease ttl count metadata) on n parts kept lease is heard one long holds hold leased go = absurd is
sent_applied g old (call.Take s) on n parts kept lease is heard one long holds hold leased go = absurd is
sent_applied g old call.TakeJob on n parts kept lease is heard one long holds hold leased go = absurd is
sent_applied g old call.Close on n parts kept lease is heard one long holds hold leased go = absurd is
sent_applied g old asked on n parts kept lease is heard one long holds hold leased go =
    let goes = sent_goes old (covers_next g old) asked on parts is heard go in
    record {
      openings = sym (add-zero old.openings);
      live = refl;
      carrying = refl;
      begun = or_false old.begun;
      setup = or_none old.setup;
      closed = or_none old.closed;
      made = one_more old.made _ n one long;
      handled = none_counted old.handled;
      held = holds;
      hold = hold;
      marks = goes.said;
      limits = refl;
      unfinished = kept_parts _ _ _ _ _ _ _ _ _ goes;
      heard = still_heard _ _ _ _ _ _ _ _ _ goes;
      timer = refl;
      lease = leased on old.timer.moment;
      granted = refl;
    }

stays_lined : (asked : Call) (on n : ℕ) (queue : List ℕ) → queue ≡ left_in_line (answer_on asked on) n queue
stays_lined (call.Request kind initial message complete) on n queue = refl
stays_lined asked on n queue = refl

pub sent_after : (g : Settings) (s : State) (past : List Entry) (ready mid new : State) (asked : Call) (on n : ℕ) (keeps leases : Bool) → Fits g s past → IsCallOn (own_next s.streams) asked on → Sends g s asked on n
    → keeps ≡ agrees_resumption g s.setup → leases ≡ agrees_leases g s.setup
    → ready ≡ with_room s (Some on) s.parts s.outbox.room → mid ≡ record ready { outbox = mid.outbox }
    → IfSome (spoken (known_to s.streams) on asked) (λ f. IsLined keeps f ready.outbox mid.outbox)
    → new ≡ spoken_after mid asked n new.parts mid.outbox new.lease
    → ((id now : ℕ) → new.lease ≡ lease_after leases now (answer_on asked id) (event.Asked asked) mid.lease)
    → LetsGo (known_to (acted mid.streams asked)) on mid.parts new.parts
    → IsAfter g s (event.Asked asked) (answer_on asked on) new
sent_after g s past ready mid new asked on n keeps leases fits is sends kept leased found put lined same lease go =
    let a = answer_on asked on in
    let e = event.Asked asked in
    let ms = makes g (covers_next g s) (known_to s.streams) a e in
    let frame = spoken (known_to s.streams) on asked in
    let old : State = with_room (with_line g s e a) (Some on) s.parts mid.outbox.room in
    let start : State = record (with_room s (Some on) s.parts s.outbox.room) { outbox = mid.outbox } in
    let begun : mid ≡ start = put ∙ ap (λ (k : State). record k { outbox = mid.outbox }) found in
    let of_old : IfSome frame (λ f. IsLined keeps f s.outbox mid.outbox) = subst (λ (k : State). IfSome frame (λ f. IsLined keeps f k.outbox mid.outbox)) found lined in
    let means = sent_means g s asked on fits.limits_are is sends.may in
    let some = is_spoken (known_to s.streams) (own_next s.streams) asked on is in
    let queue : mid.outbox.queue ≡ s.outbox.queue ++ lined_on (live_after a s.live) (line_of g s a e) =
    lined_queue keeps frame s.outbox mid.outbox some of_old ∙ ap (λ (l : List ℕ). s.outbox.queue ++ l) (sent_lined g s asked on is sends.may.out sends.alone) in
    let spoke : new ≡ spoken_after old asked n new.parts mid.outbox new.lease =
    same ∙ ap (λ (k : State). spoken_after k asked n new.parts mid.outbox new.lease) begun
    ∙ ap (λ (q : List ℕ). record (spoken_after start asked n new.parts mid.outbox new.lease) { outbox = record mid.outbox { queue = q } }) queue in
    let gone : LetsGo (known_to (acted old.streams asked)) on old.parts new.parts = subst (λ (k : State). LetsGo (known_to (acted k.streams asked)) on k.parts new.parts) begun go in
    let all : HoldsMore s.outbox.held (if_agreed keeps ms) 0 mid.outbox.held = lined_held keeps frame ms s.outbox mid.outbox some sends.alone of_old in
    let held : HoldsMore s.outbox.held (if_agreed (agrees_resumption g s.setup) ms) 0 mid.outbox.held = subst (λ (b : Bool). HoldsMore s.outbox.held (if_agreed b ms) 0 mid.outbox.held) kept all in
    let lets : (id now : ℕ) → new.lease ≡ lease_after (agrees_leases g s.setup) now (answer_on asked id) e s.lease =
    λ id now. lease id now ∙ ap (λ (b : Bool). lease_after b now (answer_on asked id) e mid.lease) leased ∙ ap (λ (k : State). lease_after (agrees_leases g s.setup) now (answer_on asked id) e k.lease) begun in
    let applied = sent_applied g old asked on n new.parts mid.outbox new.lease is fits.heard sends.one sends.long held (lined_hold keeps frame s.outbox mid.outbox some of_old) lets gone in
    after_act g s new e a (length s.outbox.queue) (Some on) s.parts mid.outbox.room (λ i. refl) (no_draw g (facts_of s) e a means tt) refl (opened_above g (facts_of s) e a means)
    (subst (IsApplied g old e a) (sym spoke) applied) (ap (λ (k : State). k.outbox.queue) spoke ∙ stays_lined asked on (length s.outbox.queue) (with_line g s e a).outbox.queue)

-- the frame ends at a position that can be told
pub sent_top : (g : Settings) (s : State) (past : List Entry) (told : Option (List Entry)) (count : ℕ) (asked : Call) (on n : ℕ) → IsSound g s past told count → IsCallOn (own_next s.streams) asked on
    → Sends g s asked on n → IfSome (spoken (known_to s.streams) on asked) (FindsPosition s.outbox.held)
sent_top g s past told count asked on n sound is sends =
    let a = answer_on asked on in
    let e = event.Asked asked in
    let ms = makes g (covers_next g s) (known_to s.streams) a e in
    let means = sent_means g s asked on sound.fits.limits_are is sends.may in
    let within : s.made.position + pos ms ≤ g.top_position = makes_fit g (facts_of s) e a means sound.made.position in
    let end = end_below g s past sound.fits in
    top_where (spoken (known_to s.streams) on asked) ms s.outbox.held sends.alone (omega (arith, within, end, sound.checked.top_position))

same_lets : (agreed : Bool) (asked : Call) (on id : ℕ) (lease : Option Terms) → LetsStart agreed (answer_on asked on) lease → LetsStart agreed (answer_on asked id) lease
same_lets agreed (call.Request kind initial message complete) on id lease lets = lets
same_lets agreed asked on id lease lets = lets

-- the lease lets a request start
pub sent_lets : (g : Settings) (s : State) (past : List Entry) (told : Option (List Entry)) (count : ℕ) (asked : Call) (on n : ℕ) (leases : Bool) → IsSound g s past told count → IsCallOn (own_next s.streams) asked on
    → Sends g s asked on n → leases ≡ agrees_leases g s.setup → (id : ℕ) → LetsStart leases (answer_on asked id) s.lease
sent_lets g s past told count asked on n leases sound is sends leased id =
    let answer = sent_answer g s past asked on sound.fits is sends.may in
    let starts = starts_of g s past told count (event.Asked asked) (answer_on asked on) sound answer in
    subst (λ (b : Bool). LetsStart b (answer_on asked id) s.lease) (sym leased) (same_lets (agrees_leases g s.setup) asked on id s.lease starts)
