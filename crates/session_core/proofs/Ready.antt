-- What is prepared for an event is what has to stand before it is applied.
use Rattle.std.proofs.Common.{◌≡◌, ◌<◌, ◌≤◌, ◌+◌, ◌*◌, ◌^◌, ◌∙◌, ℕ, Bool, List, [], Option, None, length, map, refl, ap, subst, sym, arith, length-append}
use Rattle.std.proofs.Math.Path.{fun_ext}
use Rattle.rs_wire.specs.declared.settings.Settings.{Settings}
use Rattle.rs_frame.specs.declared.frame.Frame.{Frame}
use Rattle.rs_frame.specs.Spelling.{canonical}
use Rattle.position.specs.Boundaries.{pos, pos_by}
use Rattle.tape.specs.declared.entry.Entry.{Entry}
use Rattle.tape.specs.declared.event.Event.{Event}
use Rattle.tape.specs.declared.event.Event.TheVariants as event
use Rattle.tape.specs.declared.answer.Answer.{Answer}
use Rattle.tape.specs.declared.answer.Answer.TheVariants as answer
use Rattle.fragment.specs.Joining.{Gathered}
use Rattle.reassembly.specs.Gathering.{ReassemblyView, gathered_at}
use Rattle.outbox.specs.Waiting.{Room}
use Rattle.interactions.specs.Seen.{known_to}
use Rattle.session_model.specs.Answers.{answer_to}
use Rattle.session_model.specs.Frames.{makes}
use Rattle.session_model.specs.Legal.{IsFair}
use Rattle.session_model.specs.Life.{live_after, setup_in}
use Rattle.session_model.proofs.Spelled.{makes_fit}
use Rattle.session_core.specs.declared.state.State.{State}
use Rattle.session_core.specs.declared.state.Prepared.{Prepared}
use Rattle.session_core.specs.Fits.{HasRoom, facts_of}
use Rattle.session_core.specs.Gathering.{FindsPlaceFor, IsSameGathered, IsSameKept, ready_for}
use Rattle.session_core.specs.Kept.{FindsSpare}
use Rattle.session_core.specs.Leasing.{covers_next}
use Rattle.session_core.specs.Line.{line_of}
use Rattle.session_core.specs.Prepared.{AreReady, lined_on, with_line}
use Rattle.session_core.specs.Queued.{IsOfCut}
use Rattle.session_core.specs.Ready.{IsReadyFor}
use Rattle.session_core.specs.Sound.{IsSound}
use Rattle.session_core.specs.Speaking.{CanSay, FindsRoom, arrival_for, speaks_on, with_room}
use Rattle.session_core.proofs.Saying.{can_say}
use Rattle.session_core.proofs.Soundness.{end_below, held_below, means_of, room_of, starts_of}
use Rattle.session_core.proofs.Standing.{cut_keeps}
use Rattle.session_core.proofs.Sums.{six_each}

-- each frame has 6 bytes and more, and all end at a position that the settings allow
frames_below : (frames position top : ℕ) (more : List Frame) → 6 * frames ≤ position → position + pos more ≤ top → top < 2 ^ 63 → frames + length more < 2 ^ 63
frames_below frames position top more six within low = omega (arith, six_each more)

pub ready_lined : (g : Settings) (s : State) (past : List Entry) (told : Option (List Entry)) (count : ℕ) (e : Event) (a : Answer) (p : Prepared) (ready : Option ℕ) (parts : ReassemblyView) (waits : Room)
    → IsSound g s past told count → a ≡ answer_to g past e → IsFair g e → length past < 2 ^ 63
    → AreReady g s e a p → FindsSpare waits.spare p.spelled.items → FindsRoom (speaks_on a e) ready → FindsPlaceFor parts p.incoming.is_part a e → IsSameGathered s.parts parts → IsSameKept s.parts parts
    → IsReadyFor g (with_room (with_line g s e a) ready parts waits) e a p
ready_lined g s past told count e a p ready parts waits sound is fair short prepared finds room place same kept =
    let means = means_of g s past e a sound.fits is in
    let within : s.made.position + pos (makes g (covers_next g s) (known_to s.streams) a e) ≤ g.top_position = makes_fit g (facts_of s) e a means sound.made.position in
    let held = held_below g s past e a p.spelled.items sound.fits prepared.spelled in
    let top : g.top_position < 2 ^ 63 = omega (arith, sound.checked.top_position) in
    let above : HasRoom s = room_of g s past told count sound short in
    let says = can_say g s past ready parts waits e a sound.fits short fair means room in
    let gathered : gathered_at parts ≡ gathered_at s.parts = fun_ext same in
    let frames = frames_below s.made.frames s.made.position g.top_position (makes g (covers_next g s) (known_to s.streams) a e) sound.made.frames within top in
    record {
      fair = fair;
      setup = prepared.setup;
      made = prepared.made;
      spelled = prepared.spelled;
      covered = prepared.covered;
      arrival = prepared.arrival;
      spellable = prepared.spellable;
      long = prepared.long;
      before = omega (arith, prepared.before, length-append s.outbox.queue (lined_on (live_after a s.live) (line_of g s a e)));
      room = record {
        openings = above.openings;
        made_frames = above.made_frames;
        made = above.made;
        handled_frames = above.handled_frames;
        handled = above.handled;
        granted = above.granted;
      };
      frames = subst (λ (fs : List Frame). s.made.frames + length fs < 2 ^ 63) (sym prepared.made) frames;
      position = subst (λ (fs : List Frame). s.made.position + pos fs < 2 ^ 63) (sym prepared.made) (omega (arith, within, top));
      held_position = omega (arith, held, within, top);
      spare = finds;
      place = place;
      starts = starts_of g s past told count e a sound is;
      says = subst (λ (b : Bool). CanSay (with_room s ready parts waits).streams a e (arrival_for b (gathered_at parts) a e)) (sym prepared.covered)
          (subst (λ (k : ℕ → Gathered). CanSay (with_room s ready parts waits).streams a e (arrival_for (covers_next g s) k a e)) (sym gathered) says);
      heard = λ i off. kept i ∙ sound.fits.heard i off;
    }

-- ---- a cut, for which nothing is prepared

-- what a cut may be answered by says nothing, and makes nothing
record IsIdle (g : Settings) (s : State) (conn : ℕ) (a : Answer) : Type 0 where
  setup : setup_in a (event.Cut conn) ≡ None
  made : makes g (covers_next g s) (known_to s.streams) a (event.Cut conn) ≡ []
  arrival : (covered is_part : Bool) → ready_for covered is_part a (event.Cut conn) ≡ None
  place : (is_part : Bool) → FindsPlaceFor s.parts is_part a (event.Cut conn)
  says : (covered : Bool) → CanSay s.streams a (event.Cut conn) (arrival_for covered (gathered_at s.parts) a (event.Cut conn))

idle_cut : (g : Settings) (s : State) (conn : ℕ) (a : Answer) → IsOfCut a → IsIdle g s conn a
idle_cut g s conn answer.Parted h = record { setup = refl; made = refl; arrival = λ covered is_part. refl; place = λ is_part. tt; says = λ covered. tt }
idle_cut g s conn (answer.Stale n) h = record { setup = refl; made = refl; arrival = λ covered is_part. refl; place = λ is_part. tt; says = λ covered. tt }
idle_cut g s conn _ h = absurd h

pub ready_cut : (g : Settings) (s : State) (past : List Entry) (told : Option (List Entry)) (count conn : ℕ) (a : Answer) (p : Prepared)
    → IsSound g s past told count → length past < 2 ^ 63 → IsOfCut a → a ≡ answer_to g past (event.Cut conn)
    → p.setup ≡ None → p.made.items ≡ [] → p.spelled.items ≡ [] → p.incoming.arrival ≡ None → p.incoming.covered ≡ covers_next g s → p.before ≡ length s.outbox.queue
    → IsReadyFor g s (event.Cut conn) a p
unfolding pos_by
ready_cut g s past told count conn a p sound short of_cut is setup made spelled arrival covered before =
    let idle = idle_cut g s conn a of_cut in
    let above : HasRoom s = room_of g s past told count sound short in
    let end = end_below g s past sound.fits in
    record {
      fair = tt;
      setup = setup ∙ sym idle.setup;
      made = made ∙ sym idle.made;
      spelled = spelled ∙ ap (map canonical) (sym (cut_keeps g s conn a of_cut));
      covered = covered;
      arrival = arrival ∙ sym (idle.arrival p.incoming.covered p.incoming.is_part);
      spellable = rw made tt;
      long = rw spelled tt;
      before = omega (arith, before);
      room = above;
      frames = rw made (omega (arith, above.made_frames));
      position = rw made (omega (arith, above.made));
      held_position = rw spelled (omega (arith, end, above.made));
      spare = rw spelled (record { frames = omega arith; bytes = omega arith });
      place = idle.place p.incoming.is_part;
      starts = starts_of g s past told count (event.Cut conn) a sound is;
      says = idle.says p.incoming.covered;
      heard = sound.fits.heard;
    }
