-- What is due on a connection of a server, against what the server made.
use Rattle.std.proofs.Common.{◌≡◌, ◌<◌, ◌+◌, ◌==◌, ◌&&◌, ℕ, Bool, true, false, not, cond, if◌then◌else◌, List, [], ◌∷◌, ◌++◌, Some, None, refl, ap, sym, ◌∙◌, append-nil, arith}
use Rattle.std.proofs.lemmas.Grind.{common_steps}
use Rattle.std.proofs.lemmas.Bool.Decides.{nat_tests}
use Rattle.rs_wire.specs.Settings.{IsChecked, is_client}
use Rattle.rs_wire.specs.declared.words.Side.TheVariants.{Client, Server}
use Rattle.rs_wire.specs.declared.settings.Settings.{Settings}
use Rattle.rs_frame.specs.declared.frame.Frame.{Frame}
use Rattle.rs_frame.specs.declared.frame.Frame.TheVariants as frame
use Rattle.rs_frame.specs.declared.frame.Setup.{Setup}
use Rattle.rs_frame.specs.declared.frame.Resume.{Resume}
use Rattle.rs_frame.specs.Spelling.{length_of}
use Rattle.position.specs.Boundaries.{frames_from, pos}
use Rattle.position.proofs.Held.{front_of}
use Rattle.tape.specs.declared.event.Event.{Event}
use Rattle.tape.specs.declared.event.Event.TheVariants as event
use Rattle.tape.specs.declared.answer.Answer.{Answer}
use Rattle.tape.specs.declared.answer.Answer.TheVariants as answer
use Rattle.tape.specs.declared.entry.Entry.{Entry}
use Rattle.session_model.specs.Leases.{is_covered}
use Rattle.session_model.specs.Life.{begun, carrying, carrying_after, is_live, live, live_after, openings}
use Rattle.session_model.specs.Streams.{known}
use Rattle.session_model.specs.Frames.{brings, came, due, greets, handled, if_carrying, made, makes, owes}
use Rattle.session_model.specs.Answers.{facts, resume_gone}
use Rattle.session_model.specs.Legal.{Fair, IsFair, Legal}
use Rattle.session_model.specs.Means.{Handling, Means, SuitsFirst}
use Rattle.session_model.proofs.Meaning.{last_means}
use Rattle.session_model.proofs.Openings.{due_later}
use Rattle.session_laws.proofs.Counting.{again_counts, counting, made_counts, owes_counts}
use Rattle.session_laws.proofs.Life.{came_later, fresh_made}
use Rattle.session_laws.proofs.Runs.{Runs, runs_off, runs_on, runs_whole}
use Rattle.session_laws.proofs.Verdict.{kept_boundary, resume_boundary}

-- ---- one connection

-- owed is due on a connection, made is all that was made, came is what came there. here says whether it is live, flowing whether frames go out at once.
pub data Flow (owed made came : List Frame) (here flowing : Bool) : Type 0 where
  Nothing : owed ≡ [] → here ≡ false → Flow owed made came here flowing
  Begun : (s : Setup) (rest : List Frame) → came ≡ frame.Setup s ∷ rest → Runs [] owed made here → (here ≡ true → flowing ≡ true)
      → Flow owed made came here flowing
  Resumed : (r : Resume) (told : ℕ) (front sent rest : List Frame) → came ≡ frame.Resume r ∷ rest → owed ≡ frame.ResumeOk told ∷ sent
      → pos front ≡ r.server_position → Runs front sent made here
      → (here ≡ true → flowing ≡ true) → Flow owed made came here flowing

-- the connection is not live afterwards
flow_off : (owed made came new brought : List Frame) (here flowing flowing' : Bool) → Flow owed made came here flowing
    → Flow owed (made ++ new) (came ++ brought) false flowing'
flow_off owed made came new brought here flowing flowing' (Nothing e h) = Nothing e refl
flow_off owed made came new brought here flowing flowing' (Begun s rest c r h) = Begun s (rest ++ brought) (ap (λ l. l ++ brought) c)
    (runs_off [] owed made new here r) (λ on. absurd (cc))
flow_off owed made came new brought here flowing flowing' (Resumed r told front sent rest c e at i h) =
    Resumed r told front sent (rest ++ brought) (ap (λ l. l ++ brought) c) e at (runs_off front sent made new here i) (λ on. absurd (cc))

chosen : (flowing : Bool) (new : List Frame) → flowing ≡ true → cond flowing new [] ≡ new
chosen true new on = refl
chosen false new on = absurd (cc)

-- what is made goes out
flow_on : (owed made came out new brought : List Frame) (flowing : Bool) → Flow owed made came true flowing → counting out ≡ cond flowing new []
    → Flow (owed ++ out) (made ++ new) (came ++ brought) true flowing
flow_on owed made came out new brought flowing (Nothing e h) is = absurd (cc)
flow_on owed made came out new brought flowing (Begun s rest c r h) is =
    Begun s (rest ++ brought) (ap (λ l. l ++ brought) c) (runs_on [] owed made out new r (is ∙ chosen flowing new (h refl))) h
flow_on owed made came out new brought flowing (Resumed r told front sent rest c e at i h) is =
    Resumed r told front (sent ++ out) (rest ++ brought) (ap (λ l. l ++ brought) c) (ap (λ l. l ++ out) e) at
    (runs_on front sent made out new i (is ∙ chosen flowing new (h refl))) h

-- frames go out at once on each live connection of a server
flows_on : (owed made came : List Frame) (flowing : Bool) → Flow owed made came true flowing → flowing ≡ true
flows_on owed made came flowing (Nothing e h) = absurd (cc)
flows_on owed made came flowing (Begun s rest c r h) = h refl
flows_on owed made came flowing (Resumed r told front sent rest c e at i h) = h refl

-- an entry that opens nothing and parts nothing
flow_other : (owed made came out new brought : List Frame) (here flowing : Bool) → Flow owed made came here flowing → (here ≡ false → out ≡ [])
    → counting out ≡ cond here (cond flowing new []) []
    → Flow (owed ++ out) (made ++ new) (came ++ brought) here flowing
flow_other owed made came out new brought true flowing f off is = flow_on owed made came out new brought flowing f is
flow_other owed made came out new brought false flowing f off is = rw (off refl, append-nil owed) (flow_off owed made came new brought false flowing flowing f)

-- ---- each connection

abbrev pub FlowAt : Settings → List Entry → ℕ → Type 0
FlowAt g past d = Flow (due g past d) (made g past) (came past d) (is_live (live past) d) (carrying g past)

-- the same after an event so answered
abbrev FlowAfter : Settings → List Entry → ℕ → Answer → Event → Type 0
FlowAfter g past d a e =
    Flow (due g past d ++ owes g past d a e) (made g past ++ makes g (is_covered g past) (known g past) a e) (came past d ++ brings past d e)
    (is_live (live_after a (live past)) d) (carrying_after g (begun past) a e (carrying g past))

not_here : (g : Settings) (past : List Entry) (d : ℕ) (a : Answer) (e : Event) → is_live (live_after a (live past)) d ≡ false → owes g past d a e ≡ []
not_here g past d a e off = rw off refl

none_carried : (carrying : Bool) → if_carrying carrying [] ≡ []
none_carried true = refl
none_carried false = refl

resumed_front : (g : Settings) (past : List Entry) (r : Resume) → resume_gone (facts g past) r ≡ None
    → (front : List Frame) × (front ++ frames_from (made g past) r.server_position ≡ made g past) × (pos front ≡ r.server_position)
unfolding facts
resumed_front g past r none = front_of length_of (made g past) r.server_position (kept_boundary g past r.server_position (resume_boundary (facts g past) r none))

-- a server that opens
begins : (g : Settings) (past : List Entry) (f : Frame) (taken flowing : Bool) → IsChecked g → Legal g past
    → SuitsFirst g (facts g past) (Some f) taken → flowing ≡ true
    → Flow (greets g past (event.Open (Some f) taken)) (made g past) (f ∷ []) true flowing
unfolding facts
begins g past (frame.Setup s) taken flowing checked legal suits on = Begun s [] refl
    (runs_whole [] [] (made g past) true (sym (fresh_made g past legal suits.0))) (λ here. on)
begins g past (frame.Resume r) taken flowing checked legal suits on =
    let front = resumed_front g past r suits in
    Resumed r (pos (handled past)) front.0 (frames_from (made g past) r.server_position) [] refl refl front.2
    (runs_whole front.0 (frames_from (made g past) r.server_position) (made g past) true
    (rw (again_counts (made g past) r.server_position (made_counts g past checked legal)) front.1)) (λ here. on)
begins g past f taken flowing checked legal suits on = absurd (cc (suits.1))

brings_first : (past : List Entry) (d : ℕ) (f : Frame) (taken : Bool) → d ≡ openings past + 1 → brings past d (event.Open (Some f) taken) ≡ f ∷ []
brings_first past d f taken next = let same : (openings past + 1 == d) ≡ true = grind (arith, nat_tests) in rw same refl

-- an accepted opening
opened : (g : Settings) (past : List Entry) (d n : ℕ) (f : Frame) (taken : Bool) → IsChecked g → Legal g past → g.side ≡ Server
    → n ≡ openings past + 1 → SuitsFirst g (facts g past) (Some f) taken → FlowAt g past d
    → FlowAfter g past d (answer.Opened n) (event.Open (Some f) taken)
opened g past d n f taken checked legal side next suits k =
    let e = event.Open (Some f) taken in
    elim (is_live n d) as (λ v. is_live n d ≡ v
    → Flow (due g past d ++ owes g past d (answer.Opened n) e) (made g past ++ []) (came past d ++ brings past d e) v
    (carrying_after g (begun past) (answer.Opened n) e (carrying g past))) [
      | true ↦ λ is.
          let at : d ≡ openings past + 1 = grind (arith, nat_tests) in
          let later : openings past < d = omega arith in
          let started = ap (λ s. not (begun past && is_client s)) side in
          rw (
            due_later g past d legal later,
            came_later past d later,
            brings_first past d f taken at,
            is,
            none_carried (carrying g past),
            append-nil
                (made g past),
            append-nil (greets g past e),
          )
          (begins g past f taken (not (begun past && is_client g.side)) checked legal suits (grind (arith, common_steps, started)))
      | false ↦ λ off.
          rw (not_here g past d (answer.Opened n) e off, append-nil (due g past d))
          (flow_off (due g past d) (made g past) (came past d) [] (brings past d e) (is_live (live past) d) (carrying g past)
          (not (begun past && is_client g.side)) k)
    ] refl

-- any other entry
others : (g : Settings) (past : List Entry) (d : ℕ) (a : Answer) (e : Event) → FlowAt g past d → (is_live (live past) d ≡ false → owes g past d a e ≡ [])
    → counting (owes g past d a e) ≡ (if is_live (live past) d then if_carrying (carrying g past) (makes g (is_covered g past) (known g past) a e) else [])
    → Flow (due g past d ++ owes g past d a e) (made g past ++ makes g (is_covered g past) (known g past) a e) (came past d ++ brings past d e) (is_live (live past) d)
    (carrying g past)
others g past d a e k off counts =
    flow_other (due g past d) (made g past) (came past d) (owes g past d a e) (makes g (is_covered g past) (known g past) a e) (brings past d e) (is_live (live past) d)
    (carrying g past) k off counts

-- a frame that is handled: RESUME_OK is none on a live connection of a server
handles_one : (g : Settings) (past : List Entry) (d conn : ℕ) (f : Frame) → IsChecked g → Legal g past → Handling g (facts g past) conn f
    → FlowAt g past d → FlowAfter g past d answer.Handled (event.Came conn f)
unfolding facts
handles_one g past d conn (frame.ResumeOk p) checked legal means k =
    let e = event.Came conn (frame.ResumeOk p) in
    elim (is_live (live past) d) as (λ v. is_live (live past) d ≡ v → Flow (due g past d) (made g past) (came past d) v (carrying g past)
    → Flow (due g past d ++ owes g past d answer.Handled e) (made g past ++ []) (came past d ++ brings past d e) v true) [
      | true ↦ λ is flow. let on = flows_on (due g past d) (made g past) (came past d) (carrying g past) flow in let off = means.may.0 in absurd (cc)
      | false ↦ λ off flow. rw (not_here g past d answer.Handled e off, append-nil (due g past d))
          (flow_off (due g past d) (made g past) (came past d) [] (brings past d e) false (carrying g past) true flow)
    ] refl k
handles_one g past d conn x checked legal means k =
    others g past d answer.Handled (event.Came conn x) k (λ off. not_here g past d answer.Handled (event.Came conn x) off)
    (owes_counts g past d answer.Handled (event.Came conn x) checked legal means)

nowhere : (d : ℕ) → is_live 0 d ≡ false
nowhere d = grind (arith, nat_tests)

parted : (g : Settings) (past : List Entry) (d : ℕ) (e : Event) → FlowAt g past d → FlowAfter g past d answer.Parted e
parted g past d e k =
    rw (not_here g past d answer.Parted e (nowhere d), nowhere d, append-nil (due g past d))
    (flow_off (due g past d) (made g past) (came past d) [] (brings past d e) (is_live (live past) d) (carrying g past) false k)

died : (g : Settings) (past : List Entry) (d last : ℕ) (e : Event) → FlowAt g past d → FlowAfter g past d (answer.Dead last) e
died g past d last e k =
    rw (not_here g past d (answer.Dead last) e (nowhere d), nowhere d, append-nil (due g past d))
    (flow_off (due g past d) (made g past) (came past d) [] (brings past d e) (is_live (live past) d) (carrying g past) false k)

flow_step : (g : Settings) (past : List Entry) (d : ℕ) (a : Answer) (e : Event) → IsChecked g → Legal g past → Means g (facts g past) e a
    → g.side ≡ Server → IsFair g e → FlowAt g past d → FlowAfter g past d a e
unfolding facts
flow_step g past d (answer.Opened n) (event.Open None taken) checked legal means side fair k = let other : Server ≡ Client = sym side ∙ fair in absurd (cc)
flow_step g past d (answer.Opened n) (event.Open (Some f) taken) checked legal means side fair k =
    opened g past d n f taken checked legal side means.next means.suits k
flow_step g past d (answer.Opened n) e checked legal means side fair k = absurd means
flow_step g past d answer.Parted e checked legal means side fair k = parted g past d e k
flow_step g past d (answer.Dead last) e checked legal means side fair k = died g past d last e k
flow_step g past d answer.Handled (event.Came conn f) checked legal means side fair k = handles_one g past d conn f checked legal means k
flow_step g past d answer.Handled e checked legal means side fair k = absurd means
flow_step g past d a e checked legal means side fair k = others g past d a e k (λ off. not_here g past d a e off) (owes_counts g past d a e checked legal means)

-- what is due on connection d
pub flows : (g : Settings) (past : List Entry) (d : ℕ) → IsChecked g → Legal g past → Fair g past → g.side ≡ Server → FlowAt g past d
unfolding Legal Fair due made came live carrying
flows g [] d checked legal fair side = Nothing refl (nowhere d)
flows g (x ∷ past) d checked legal fair side =
    flow_step g past d x.answer x.event checked legal.0 (last_means g x past legal) side fair.1 (flows g past d checked legal.0 fair.0 side)
