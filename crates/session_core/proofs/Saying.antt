-- What an event says on the streams that means what its answer says can be said.
use Rattle.std.proofs.Common.{◌≡◌, ◌<◌, ◌^◌, ℕ, Bool, true, false, List, length, Option, Some, None, IfSome, IsSome, refl, ap, subst, sym, arith}
use Rattle.std.proofs.lemmas.Grind.{common_steps}
use Rattle.rs_wire.specs.Calls.{CanBeAsked}
use Rattle.rs_wire.specs.declared.settings.Settings.{Settings}
use Rattle.rs_wire.specs.declared.call.Call.{Call}
use Rattle.rs_wire.specs.declared.call.Call.TheVariants as call
use Rattle.rs_frame.specs.declared.frame.Frame.{Frame}
use Rattle.rs_frame.specs.declared.frame.Frame.TheVariants as frame
use Rattle.rs_frame.specs.Spelling.{IsSpellable}
use Rattle.tape.specs.declared.event.Event.{Event}
use Rattle.tape.specs.declared.event.Event.TheVariants as event
use Rattle.tape.specs.declared.answer.Answer.{Answer}
use Rattle.tape.specs.declared.answer.Answer.TheVariants as answer
use Rattle.tape.specs.declared.entry.Entry.{Entry}
use Rattle.stream_model.specs.declared.arrival.Arrival.{Arrival}
use Rattle.stream_model.specs.declared.arrival.Effect.{Effect}
use Rattle.stream_model.specs.declared.arrival.Effect.TheVariants as effect
use Rattle.stream_model.specs.declared.stream.Limits.{Limits}
use Rattle.stream_model.specs.Known.{Known, limits_of, next_id}
use Rattle.stream_model.specs.Refused.{refused_by}
use Rattle.stream_model.specs.Arriving.{CanAct, CanArrive, effect_by, stream_in}
use Rattle.stream_model.proofs.Fitting.{IsCounted}
use Rattle.interactions.specs.Seen.{known_to}
use Rattle.fragment.specs.Joining.{Gathered}
use Rattle.reassembly.specs.Gathering.{ReassemblyView, gathered_at}
use Rattle.session_model.specs.Streams.{arrival_in, known, unfinished}
use Rattle.session_model.specs.Frames.{spoken}
use Rattle.session_model.specs.Answers.{Facts, facts, broken_rule}
use Rattle.session_model.specs.Legal.{IsFair}
use Rattle.outbox.specs.Waiting.{Room}
use Rattle.session_model.specs.Means.{Does, MayCome, Means}
use Rattle.session_model.proofs.Fairness.{arrival_counted, can_act, can_arrive}
use Rattle.session_model.proofs.Refusals.{Unrefused, streams_allow, unrefused}
use Rattle.session_core.specs.declared.state.State.{State}
use Rattle.session_core.specs.Fits.{Fits, facts_of}
use Rattle.session_core.specs.Leasing.{covers_next}
use Rattle.session_core.specs.Speaking.{Acts, CanSay, Comes, FindsRoom, GoesOn, IsNoRule, arrival_for, heard_on, named, speaks_on, with_room}
use Rattle.session_core.proofs.Leases.{covers_is}

-- the streams that a session keeps are those of its entries
same_streams : (g : Settings) (s : State) (past : List Entry) → Fits g s past → known g past ≡ known_to s.streams
unfolding facts
same_streams g s past h = sym (ap (λ (t : Facts). t.streams) h.facts_are)

-- and so is what is gathered
pub same_gathered : (g : Settings) (s : State) (past : List Entry) → Fits g s past → gathered_at s.parts ≡ unfinished g past
unfolding facts
same_gathered g s past h = ap (λ (t : Facts). t.unfinished) h.facts_are

-- the room that was made is that for what is said
heard_there : (covered : Bool) (held : ℕ → Gathered) (f : Frame) (what : Arrival) (ready : Option ℕ) → arrival_in covered held f ≡ Some what → FindsRoom (heard_on f) ready → ready ≡ Some (stream_in what)
heard_there true held f what ready is room = grind (arith, common_steps)
heard_there false held f what ready is room = grind (arith, common_steps)

no_rule : (e : Effect) → IsCounted e → IsNoRule e
no_rule (effect.Broken rule) h = absurd h
no_rule _ h = tt

is_some_room : (ready : Option ℕ) (n : ℕ) → ready ≡ Some n → IsSome ready
is_some_room ready n is = subst IsSome (sym is) refl

-- what a frame says that breaks no rule comes
comes : (g : Settings) (s : State) (past : List Entry) (ready : Option ℕ) (parts : ReassemblyView) (waits : Room) (f : Frame) (o : Option Arrival) → Fits g s past → length past < 2 ^ 63 → IsSpellable f
    → broken_rule g (facts_of s) f ≡ None → arrival_in (covers_next g s) (gathered_at s.parts) f ≡ o → FindsRoom (heard_on f) ready → IfSome o (Comes (with_room s ready parts waits).streams)
comes g s past ready parts waits f None h short spellable unbroken is room = tt
comes g s past ready parts waits f (Some what) h short spellable unbroken is room =
    record {
      room = heard_there (covers_next g s) (gathered_at s.parts) f what ready is room;
      fits = subst (λ (t : Known). CanArrive t what) (same_streams g s past h)
          (can_arrive g past f what h.legal h.fair short spellable
          (subst (λ covered. arrival_in covered (unfinished g past) f ≡ Some what) (covers_is g s past h.facts_are)
          (subst (λ (held : ℕ → Gathered). arrival_in (covers_next g s) held f ≡ Some what) (same_gathered g s past h) is)));
      counts = subst (λ (l : Limits). IsNoRule (effect_by l (known_to s.streams) what)) (sym h.limits_are)
          (no_rule (effect_by (limits_of g) (known_to s.streams) what) (arrival_counted g (facts_of s) f what unbroken is));
    }

-- and so does what may come
may_come : (g : Settings) (s : State) (past : List Entry) (ready : Option ℕ) (parts : ReassemblyView) (waits : Room) (f : Frame) → Fits g s past → length past < 2 ^ 63 → IsSpellable f
    → MayCome g (facts_of s) f → FindsRoom (heard_on f) ready → IfSome (arrival_in (covers_next g s) (gathered_at s.parts) f) (Comes (with_room s ready parts waits).streams)
may_come g s past ready parts waits (frame.ResumeOk position) h short spellable may room = tt
may_come g s past ready parts waits f h short spellable may room = comes g s past ready parts waits f (arrival_in (covers_next g s) (gathered_at s.parts) f) h short spellable may.1 refl room

-- a call that is not refused and has a frame acts
acts : (g : Settings) (s : State) (past : List Entry) (ready : Option ℕ) (parts : ReassemblyView) (waits : Room) (asked : Call) (id : ℕ) (f : Frame) → Fits g s past → length past < 2 ^ 63 → CanBeAsked asked
    → Unrefused g (facts_of s) asked → spoken (known g past) id asked ≡ Some f → IsSome ready → Acts (with_room s ready parts waits).streams asked
acts g s past ready parts waits asked id f h short ask u is room =
    record {
      room = room;
      accepted = subst (λ (l : Limits). refused_by l (known_to s.streams) asked ≡ None) (sym h.limits_are) (streams_allow g (facts_of s) asked u);
      askable = ask;
      fits = subst (λ (t : Known). CanAct t asked) (same_streams g s past h) (can_act g past id asked f h.legal h.fair short is);
    }

-- a call that goes on
goes_on : (g : Settings) (s : State) (past : List Entry) (ready : Option ℕ) (parts : ReassemblyView) (waits : Room) (asked : Call) → Fits g s past → length past < 2 ^ 63 → CanBeAsked asked
    → Does g (facts_of s) (event.Asked asked) → FindsRoom (named asked) ready → GoesOn (with_room s ready parts waits).streams asked
goes_on g s past ready parts waits (call.Request kind initial message complete) h short ask does room = absurd does
goes_on g s past ready parts waits (call.Next n message complete) h short ask does room =
    acts g s past ready parts waits (call.Next n message complete) 0 _ h short ask (unrefused g (facts_of s) (call.Next n message complete) does) refl (is_some_room ready n room)
goes_on g s past ready parts waits (call.Done n) h short ask does room = acts g s past ready parts waits (call.Done n) 0 _ h short ask (unrefused g (facts_of s) (call.Done n) does) refl (is_some_room ready n room)
goes_on g s past ready parts waits (call.Grant n k) h short ask does room = acts g s past ready parts waits (call.Grant n k) 0 _ h short ask (unrefused g (facts_of s) (call.Grant n k) does) refl (is_some_room ready n room)
goes_on g s past ready parts waits (call.Cancel n) h short ask does room = acts g s past ready parts waits (call.Cancel n) 0 _ h short ask (unrefused g (facts_of s) (call.Cancel n) does) refl (is_some_room ready n room)
goes_on g s past ready parts waits (call.Fail n code content) h short ask does room =
    acts g s past ready parts waits (call.Fail n code content) 0 _ h short ask (unrefused g (facts_of s) (call.Fail n code content) does) refl (is_some_room ready n room)
goes_on g s past ready parts waits (call.Push metadata) h short ask does room = tt
goes_on g s past ready parts waits (call.Lease ttl count metadata) h short ask does room = tt
goes_on g s past ready parts waits (call.Take n) h short ask does room = absurd does
goes_on g s past ready parts waits call.TakeJob h short ask does room = absurd does
goes_on g s past ready parts waits call.Close h short ask does room = tt

-- what an event and its answer say can be said, where room was made for it
pub can_say : (g : Settings) (s : State) (past : List Entry) (ready : Option ℕ) (parts : ReassemblyView) (waits : Room) (e : Event) (a : Answer) → Fits g s past → length past < 2 ^ 63 → IsFair g e → Means g (facts_of s) e a
    → FindsRoom (speaks_on a e) ready → CanSay (with_room s ready parts waits).streams a e (arrival_for (covers_next g s) (gathered_at s.parts) a e)
can_say g s past ready parts waits (event.Came conn f) answer.Handled h short fair m room = may_come g s past ready parts waits f h short fair m.may room
can_say g s past ready parts waits e answer.Handled h short fair m room = absurd m
can_say g s past ready parts waits (event.Asked (call.Request kind initial message complete)) (answer.Started id) h short fair m room =
    let asked = call.Request kind initial message complete in
    record {
      acts = acts g s past ready parts waits asked id _ h short fair.0 (unrefused g (facts_of s) asked m.accepted) refl (is_some_room ready id room);
      next = subst (λ (l : Limits). id ≡ next_id l.side (known_to s.streams)) (sym h.limits_are) m.next;
    }
can_say g s past ready parts waits e (answer.Started id) h short fair m room = absurd m
can_say g s past ready parts waits (event.Asked asked) answer.Done h short fair m room = goes_on g s past ready parts waits asked h short fair.0 m room
can_say g s past ready parts waits e answer.Done h short fair m room = absurd m
can_say g s past ready parts waits (event.Asked (call.Take n)) (answer.Got d) h short fair m room = m
can_say g s past ready parts waits e (answer.Got d) h short fair m room = absurd m
can_say g s past ready parts waits (event.Asked call.TakeJob) (answer.GotJob job) h short fair m room = m
can_say g s past ready parts waits e (answer.GotJob job) h short fair m room = absurd m
can_say g s past ready parts waits e a h short fair m room = tt
