-- A tick at which nothing is due leaves all but the moment.
use Rattle.std.proofs.Common.{◌≡◌, ◌∙◌, ◌++◌, ℕ, List, cond, add-zero, refl, ap, sym}
use Rattle.rs_wire.specs.declared.settings.Settings.{Settings}
use Rattle.tape.specs.declared.event.Event.TheVariants as event
use Rattle.tape.specs.declared.answer.Answer.TheVariants as answer
use Rattle.interactions.specs.Seen.{known_to}
use Rattle.session_model.specs.Life.{agrees_resumption}
use Rattle.session_core.specs.declared.state.State.{State}
use Rattle.session_core.specs.After.{IsAfter}
use Rattle.session_core.specs.Gathering.{IsOfHeard}
use Rattle.session_core.specs.Queued.{is_connected}
use Rattle.session_core.specs.Timing.{ticked_to}
use Rattle.session_core.proofs.Standing.{holds_same, if_same, nothing_lined, or_false, or_none, still}
use Rattle.session_core.proofs.Sums.{none_counted}

pub after_quiet : (g : Settings) (old new : State) (now : ℕ) → IsOfHeard (known_to old.streams) old.parts → new ≡ record old { timer = ticked_to now answer.Quiet old.timer } → IsAfter g old (event.Tick now) answer.Quiet new
after_quiet g old new now off is = rw is (record {
  applied = record {
    openings = sym (add-zero old.openings);
    live = refl;
    carrying = refl;
    begun = or_false old.begun;
    setup = or_none old.setup;
    closed = or_none old.closed;
    made = none_counted old.made;
    handled = none_counted old.handled;
    held = holds_same (agrees_resumption g old.setup) old.outbox.held;
    hold = refl;
    marks = refl;
    limits = refl;
    unfinished = still old off;
    heard = off;
    timer = refl;
    lease = refl;
    granted = refl;
  };
  queue = if_same (is_connected old.live) old.outbox.queue ∙ ap (λ (more : List ℕ). cond (is_connected old.live) (old.outbox.queue ++ more) old.outbox.queue) (sym (nothing_lined old.carrying));
})
