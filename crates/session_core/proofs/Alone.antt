-- What a message leaves that came whole, on a stream where no part of one was gathered.
use Rattle.std.proofs.Common.{◌≡◌, ◌==◌, ◌++◌, ℕ, Bool, true, false, cond, add-zero, List, [], Option, Some, option_to_list, option_map, refl, ap, sym, subst, ◌∙◌, arith}
use Rattle.std.proofs.lemmas.Bool.Decides.{nat_tests}
use Rattle.rs_wire.specs.declared.settings.Settings.{Settings}
use Rattle.rs_frame.specs.declared.frame.Frame.{Frame}
use Rattle.rs_frame.specs.declared.frame.Frame.TheVariants as frame
use Rattle.rs_frame.specs.declared.frame.Request.{Request}
use Rattle.rs_frame.specs.Framed.{framed_all}
use Rattle.tape.specs.declared.event.Event.{Event}
use Rattle.tape.specs.declared.event.Event.TheVariants as event
use Rattle.tape.specs.declared.answer.Answer.{Answer}
use Rattle.tape.specs.declared.answer.Answer.TheVariants as answer
use Rattle.fragment.specs.Joining.{Gathered, left_held, nothing, with_part}
use Rattle.reassembly.specs.Gathering.{ReassemblyView, gathered_at}
use Rattle.keepalive.specs.Times.{Times}
use Rattle.stream_model.specs.declared.stream.Limits.{Limits}
use Rattle.stream_model.specs.declared.arrival.Arrival.TheVariants as arrival
use Rattle.stream_model.specs.Arriving.{heard}
use Rattle.stream_model.specs.Known.{known as known_after}
use Rattle.interactions.specs.Seen.{Seen, known_to}
use Rattle.session_model.specs.declared.facts.Counted.{Counted}
use Rattle.session_model.specs.Frames.{handles, if_agreed, if_carrying, makes, turned_away_with}
use Rattle.session_model.specs.Leases.{covers}
use Rattle.session_model.specs.Life.{agrees_leases, agrees_resumption, carrying_after, told_in}
use Rattle.session_model.specs.Means.{Means}
use Rattle.session_model.specs.Streams.{arrives_whole, gathers, request_in, turned_away_for, whole_in}
use Rattle.session_core.specs.declared.state.State.{State}
use Rattle.session_core.specs.After.{IsAfter, more_counted}
use Rattle.session_core.specs.Alone.{IsAdmitted, IsAlone, said_alone}
use Rattle.session_core.specs.Fits.{facts_of}
use Rattle.session_core.specs.Gathering.{IsOfHeard}
use Rattle.session_core.specs.Kept.{HoldsMore}
use Rattle.session_core.specs.Leasing.{covers_next, lease_after, sum_after}
use Rattle.session_core.specs.Line.{line_of}
use Rattle.session_core.specs.Queued.{is_connected}
use Rattle.session_core.specs.Speaking.{arrival_for}
use Rattle.session_core.proofs.Messages.{Goes, LetGo, kept_parts, marks_said, still_heard}
use Rattle.session_core.proofs.Standing.{holds_same, if_same, nothing_lined, or_false, or_none}
use Rattle.session_core.proofs.Sums.{none_counted}

-- a request that needs no lease is covered
unleased : (g : Settings) (old : State) (r : Request) → IsAdmitted g (facts_of old) r → covers_next g old ≡ true
unleased g old r h = ap (λ agreed. covers agreed old.granted) h.unleased

-- what is said is the message
pub said_is : (g : Settings) (old : State) (e : Event) → IsAlone g (facts_of old) e → said_alone e ≡ arrival_for (covers_next g old) (gathered_at old.parts) answer.Handled e
said_is g old (event.Came conn (frame.Payload s false complete next message)) h = ap (λ (k : Gathered). Some (arrives_whole s (with_part k message complete next))) (sym h)
said_is g old (event.Came conn (frame.Request r)) h =
    ap (λ follows. Some (arrival.Asked r.stream r.kind r.initial (whole_in follows r.message r.complete))) (sym h.whole)
    ∙ ap (λ c. Some (request_in c r)) (sym (unleased g old r h))
said_is g old _ h = absurd h

stays : (held : ℕ → Gathered) (n s : ℕ) (here : Bool) → (n == s) ≡ here → held n ≡ nothing → held s ≡ cond here nothing (held s)
stays held n s true is h = let same : n ≡ s = grind (arith, nat_tests) in subst (λ k. held k ≡ nothing) same h
stays held n s false is h = refl

-- nothing is gathered
pub gathers_none : (g : Settings) (old : State) (e : Event) → IsAlone g (facts_of old) e → (s : ℕ) → gathered_at old.parts s ≡ gathers answer.Handled e s (gathered_at old.parts s)
gathers_none g old (event.Came conn (frame.Payload n false complete next message)) h s = stays (gathered_at old.parts) n s _ refl h
gathers_none g old (event.Came conn (frame.Request r)) h s =
    let held = gathered_at old.parts in
    stays held r.stream s _ refl h.fresh ∙ ap (λ follows. cond (r.stream == s) (left_held follows (with_part (held s) r.message r.complete false)) (held s)) (sym h.whole)
gathers_none g old _ h s = absurd h

-- an event that is handled makes nothing, puts nothing in line and tells no position; leases of both directions stay, and whether frames go out at once
record IsSilent (g : Settings) (old : State) (e : Event) : Type 0 where
  carrying : old.carrying ≡ carrying_after g old.begun answer.Handled e old.carrying
  made : makes g (covers_next g old) (known_to old.streams) answer.Handled e ≡ []
  lined : line_of g old answer.Handled e ≡ []
  told : told_in (agrees_resumption g old.setup) answer.Handled e ≡ 0
  lease : old.lease ≡ lease_after (agrees_leases g old.setup) old.timer.moment answer.Handled e old.lease
  granted : old.granted ≡ sum_after (agrees_leases g old.setup) answer.Handled e old.granted

-- no ERROR answers a request that is admitted
none_made : (g : Settings) (old : State) (conn : ℕ) (r : Request) → IsAdmitted g (facts_of old) r → makes g (covers_next g old) (known_to old.streams) answer.Handled (event.Came conn (frame.Request r)) ≡ []
none_made g old conn r h =
    ap (λ c. turned_away_with r.stream (turned_away_for g c (known_to old.streams) r)) (unleased g old r h)
    ∙ ap (turned_away_with r.stream) h.no_error

silent : (g : Settings) (old : State) (e : Event) → IsAlone g (facts_of old) e → IsSilent g old e
silent g old (event.Came conn (frame.Payload s false complete next message)) h =
    record { carrying = refl; made = refl; lined = nothing_lined old.carrying; told = refl; lease = refl; granted = refl }
silent g old (event.Came conn (frame.Request r)) h =
    let e = event.Came conn (frame.Request r) in
    let none = none_made g old conn r h in
    record {
      carrying = refl;
      made = none;
      lined = ap (λ (fs : List Frame). framed_all (if_carrying old.carrying fs)) none ∙ nothing_lined old.carrying;
      told = refl;
      lease = refl;
      granted = sym (ap (λ agreed. sum_after agreed answer.Handled e old.granted) h.unleased);
    }
silent g old _ h = absurd h

-- a message alone leaves this
pub after_alone : (g : Settings) (old : State) (e : Event) (handled : Counted) (timer : Times) (streams : Seen) (parts : ReassemblyView) → IsAlone g (facts_of old) e → Means g (facts_of old) e answer.Handled
    → IsOfHeard (known_to old.streams) old.parts → handled ≡ more_counted old.handled (handles answer.Handled e) → timer ≡ record old.timer { arrival = old.timer.moment }
    → streams.marks ≡ option_to_list (option_map heard (said_alone e)) ++ old.streams.marks → streams.limits ≡ old.streams.limits → LetGo streams.limits.max_streams streams.marks answer.Handled e old.parts parts
    → IsAfter g old e answer.Handled (record old { handled = handled; timer = timer; streams = streams; parts = parts })
after_alone g old (event.Came conn f) handled timer streams parts alone means off counts came says limits gone =
    let a = answer.Handled in
    let e = event.Came conn f in
    let most = streams.limits.max_streams in
    let covered = covers_next g old in
    let held = old.outbox.held in
    let agreed = agrees_resumption g old.setup in
    let quiet = silent g old e alone in
    let said = marks_said covered (gathered_at old.parts) a e (said_alone e) old.streams.marks streams.marks (said_is g old e alone) says in
    let goes : Goes most old.streams.marks streams.marks covered a e old.parts old.parts parts = record {
      said = said;
      before = subst (λ (l : Limits). IsOfHeard (known_after l.max_streams old.streams.marks) old.parts) (sym limits) off;
      taken = gathers_none g old e alone;
      others = λ i other. refl;
      let_go = gone;
    } in
    record {
      applied = record {
        openings = sym (add-zero old.openings);
        live = refl;
        carrying = quiet.carrying;
        begun = or_false old.begun;
        setup = or_none old.setup;
        closed = or_none old.closed;
        made = none_counted old.made ∙ ap (more_counted old.made) (sym quiet.made);
        handled = counts;
        held = subst (λ (fs : List Frame). HoldsMore held (if_agreed agreed fs) (told_in agreed a e) held) (sym quiet.made)
            (subst (λ n. HoldsMore held (if_agreed agreed []) n held) (sym quiet.told) (holds_same agreed held));
        hold = refl;
        marks = said;
        limits = limits;
        unfinished = kept_parts most old.streams.marks streams.marks covered a e old.parts old.parts parts goes;
        heard = still_heard most old.streams.marks streams.marks covered a e old.parts old.parts parts goes;
        timer = came ∙ ap (λ b. cond b (record old.timer { arrival = old.timer.moment }) old.timer) (sym means.here);
        lease = quiet.lease;
        granted = quiet.granted;
      };
      queue = if_same (is_connected old.live) old.outbox.queue ∙ ap (λ (more : List ℕ). cond (is_connected old.live) (old.outbox.queue ++ more) old.outbox.queue) (sym quiet.lined);
    }
after_alone g old _ handled timer streams parts alone means off counts came says limits gone = absurd alone

-- and so it does where room was made before
pub after_room : (g : Settings) (old new : State) (e : Event) (a : Answer) (ready : Option ℕ) → IsAfter g (record old { streams = record old.streams { ready = ready } }) e a new → IsAfter g old e a new
after_room g old new e a ready after =
    let applied = after.applied in
    record {
      applied = record {
        openings = applied.openings;
        live = applied.live;
        carrying = applied.carrying;
        begun = applied.begun;
        setup = applied.setup;
        closed = applied.closed;
        made = applied.made;
        handled = applied.handled;
        held = applied.held;
        hold = applied.hold;
        marks = applied.marks;
        limits = applied.limits;
        unfinished = applied.unfinished;
        heard = applied.heard;
        timer = applied.timer;
        lease = applied.lease;
        granted = applied.granted;
      };
      queue = after.queue;
    }
