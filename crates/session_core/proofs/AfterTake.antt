-- A take where something waits, on a stream or of the jobs: its answer, and what it leaves.
use Rattle.std.proofs.Common.{◌≡◌, ◌∙◌, ◌++◌, ℕ, cond, add-zero, List, ◌∷◌, Option, Some, None, refl, ap, sym, subst, arith}
use Rattle.std.specs.Prelude.{IfSome}
use Rattle.rs_wire.specs.declared.settings.Settings.{Settings}
use Rattle.rs_wire.specs.declared.call.Call.TheVariants as call
use Rattle.rs_wire.specs.declared.delivery.Delivery.{Delivery}
use Rattle.rs_wire.specs.declared.delivery.Job.{Job}
use Rattle.tape.specs.declared.event.Event.TheVariants as event
use Rattle.tape.specs.declared.answer.Answer.TheVariants as answer
use Rattle.stream_model.specs.Arriving.{took_job}
use Rattle.stream_model.specs.Marks.{Took, TookJob}
use Rattle.interactions.specs.Seen.{Seen, known_to}
use Rattle.reassembly.specs.Gathering.{ReassemblyView}
use Rattle.interactions.specs.Seen.{front_of}
use Rattle.session_model.specs.Answers.{Facts, to_call, refused_call}
use Rattle.session_model.specs.Life.{agrees_resumption}
use Rattle.std.proofs.lemmas.Grind.{common_steps}
use Rattle.std.proofs.lemmas.Bool.Decides.{nat_tests}
use Rattle.session_core.specs.declared.state.State.{State}
use Rattle.session_core.specs.After.{IsAfter}
use Rattle.session_core.specs.Gathering.{IsOfHeard}
use Rattle.session_core.specs.Leasing.{covers_next}
use Rattle.session_core.proofs.Messages.{Goes, LetGo, kept_parts, still_heard}
use Rattle.session_core.specs.Queued.{is_connected}
use Rattle.session_core.proofs.Standing.{holds_same, if_same, nothing_lined, or_false, or_none}
use Rattle.session_core.proofs.Sums.{none_counted}

pub after_take : (g : Settings) (old new : State) (s : ℕ) (d : Delivery) (streams : Seen) (parts : ReassemblyView) → IsOfHeard (known_to old.streams) old.parts
    → streams ≡ record old.streams { marks = Took s d ∷ old.streams.marks }
    → LetGo streams.limits.max_streams streams.marks (answer.Got d) (event.Asked (call.Take s)) old.parts parts
    → new ≡ record old { streams = streams; parts = parts } → IsAfter g old (event.Asked (call.Take s)) (answer.Got d) new
after_take g old new s d streams parts off took gone is =
    let a = answer.Got d in
    let e = event.Asked (call.Take s) in
    let most = old.streams.limits.max_streams in
    let covered = covers_next g old in
    let words = Took s d ∷ old.streams.marks in
    let goes : Goes most old.streams.marks words covered a e old.parts old.parts parts = record {
      said = refl;
      before = off;
      taken = λ i. refl;
      others = λ i other. refl;
      let_go = subst (λ (k : Seen). LetGo k.limits.max_streams k.marks a e old.parts parts) took gone;
    } in
    rw (is, took) (record {
      applied = record {
        openings = sym (add-zero old.openings);
        live = refl;
        carrying = refl;
        begun = or_false old.begun;
        setup = or_none old.setup;
        closed = or_none old.closed;
        made = none_counted old.made;
        handled = none_counted old.handled;
        held = holds_same (agrees_resumption g old.setup) old.outbox.held;
        hold = refl;
        marks = refl;
        limits = refl;
        unfinished = kept_parts most old.streams.marks words covered a e old.parts old.parts parts goes;
        heard = still_heard most old.streams.marks words covered a e old.parts old.parts parts goes;
        timer = refl;
        lease = refl;
        granted = refl;
      };
      queue = if_same (is_connected old.live) old.outbox.queue ∙ ap (λ (more : List ℕ). cond (is_connected old.live) (old.outbox.queue ++ more) old.outbox.queue) (sym (nothing_lined old.carrying));
    })

-- a take of a job leaves this, where it gets one
pub after_job : (g : Settings) (old new : State) (o : Option Job) (streams : Seen) → IsOfHeard (known_to old.streams) old.parts
    → streams ≡ record old.streams { marks = took_job o ++ old.streams.marks } → new ≡ record old { streams = streams } → IfSome o (λ j. IsAfter g old (event.Asked call.TakeJob) (answer.GotJob j) new)
after_job g old new None streams off took is = tt
after_job g old new (Some j) streams off took is =
    let a = answer.GotJob j in
    let e = event.Asked call.TakeJob in
    let most = old.streams.limits.max_streams in
    let covered = covers_next g old in
    let words = TookJob ∷ old.streams.marks in
    let goes : Goes most old.streams.marks words covered a e old.parts old.parts old.parts = record {
      said = refl;
      before = off;
      taken = λ i. refl;
      others = λ i other. refl;
      let_go = record { heard = λ i heard. refl; over = λ i on none. absurd (cc); others = λ i other. refl };
    } in
    rw (is, took) (record {
      applied = record {
        openings = sym (add-zero old.openings);
        live = refl;
        carrying = refl;
        begun = or_false old.begun;
        setup = or_none old.setup;
        closed = or_none old.closed;
        made = none_counted old.made;
        handled = none_counted old.handled;
        held = holds_same (agrees_resumption g old.setup) old.outbox.held;
        hold = refl;
        marks = refl;
        limits = refl;
        unfinished = kept_parts most old.streams.marks words covered a e old.parts old.parts old.parts goes;
        heard = still_heard most old.streams.marks words covered a e old.parts old.parts old.parts goes;
        timer = refl;
        lease = refl;
        granted = refl;
      };
      queue = if_same (is_connected old.live) old.outbox.queue ∙ ap (λ (more : List ℕ). cond (is_connected old.live) (old.outbox.queue ++ more) old.outbox.queue) (sym (nothing_lined old.carrying));
    })

-- a take where something waits gets the first of it
pub got_first : (g : Settings) (t : Facts) (s : ℕ) (d : Delivery) → Some d ≡ front_of (t.streams.waits s) → answer.Got d ≡ to_call g t (call.Take s)
unfolding refused_call
got_first g t s d first = grind (arith, common_steps, nat_tests)

pub got_first_job : (g : Settings) (t : Facts) (j : Job) → Some j ≡ front_of t.streams.jobs → answer.GotJob j ≡ to_call g t call.TakeJob
unfolding refused_call
got_first_job g t j first = grind (arith, common_steps, nat_tests)
