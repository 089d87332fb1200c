-- What is due on a connection of a client, against what the client made.
use Rattle.std.proofs.Common.{◌≡◌, ◌<◌, ◌+◌, ◌&&◌, ℕ, Bool, true, false, not, cond, if◌then◌else◌, List, [], ◌∷◌, ◌++◌, Option, Some, None, refl, ap, sym, subst, ◌∙◌, append-nil, arith}
use Rattle.std.proofs.lemmas.Grind.{common_steps}
use Rattle.std.proofs.lemmas.Bool.Decides.{nat_tests}
use Rattle.std.proofs.lemmas.List.Elements.{filter-append}
use Rattle.rs_wire.specs.Settings.{IsChecked, is_client}
use Rattle.rs_wire.specs.declared.words.Side.TheVariants.{Client, Server}
use Rattle.rs_wire.specs.declared.fault.Cause.{Cause}
use Rattle.rs_wire.specs.declared.settings.Settings.{Settings}
use Rattle.rs_frame.specs.declared.frame.Frame.{Frame}
use Rattle.rs_frame.specs.declared.frame.Frame.TheVariants as frame
use Rattle.rs_frame.specs.declared.frame.Setup.{Setup}
use Rattle.rs_frame.specs.declared.frame.Resume.{Resume}
use Rattle.rs_frame.specs.Spelling.{is_resumable, length_of}
use Rattle.position.specs.Boundaries.{frames_from, pos}
use Rattle.position.proofs.Held.{front_of}
use Rattle.tape.specs.declared.event.Event.{Event}
use Rattle.tape.specs.declared.event.Event.TheVariants as event
use Rattle.tape.specs.declared.answer.Answer.{Answer}
use Rattle.tape.specs.declared.answer.Answer.TheVariants as answer
use Rattle.tape.specs.declared.entry.Entry.{Entry}
use Rattle.session_model.specs.Leases.{is_covered}
use Rattle.session_model.specs.Lists.{first_of}
use Rattle.session_model.specs.Life.{begun, carrying, carrying_after, closed, closes, is_live, live, live_after, openings}
use Rattle.session_model.specs.Streams.{known}
use Rattle.session_model.specs.Frames.{bad_in, brings, came, due, first, first_bad, handled, if_carrying, made, makes, owes, resume_frame, setup_frame}
use Rattle.session_model.specs.Answers.{facts}
use Rattle.session_model.specs.Legal.{Fair, IsFair, LeavesEntry, Legal}
use Rattle.session_model.specs.Means.{Handling, Means}
use Rattle.session_model.proofs.Meaning.{last_means}
use Rattle.session_model.proofs.Openings.{due_later, live_le}
use Rattle.session_laws.proofs.Counting.{counting, owes_counts}
use Rattle.session_laws.proofs.Life.{bad_later, came_later, fresh_made}
use Rattle.session_laws.proofs.Quiet.{first_none, is_handled, quiet}
use Rattle.session_laws.proofs.Runs.{Runs, runs_off, runs_on, runs_whole}
use Rattle.session_laws.proofs.Verdict.{kept_boundary, ok_boundary}

-- ---- one connection

-- RESUME_OK is waited for, and nothing came as long as the session is not closed
pub record IsWaiting (came : List Frame) (bad : Option ℕ) (flowing : Bool) (why : Option Cause) : Type 0 where
  pub off : flowing ≡ false
  pub none : why ≡ None → came ≡ []
  pub clean : why ≡ None → bad ≡ None

-- owed is due on a connection, made is all that was made, came is what came there, up to the rule that bad bytes broke. here says whether it
-- is live, flowing whether frames go out at once, and why for what cause the session is closed.
pub data Flow (owed made came : List Frame) (bad : Option ℕ) (here flowing : Bool) (why : Option Cause) : Type 0 where
  Nothing : owed ≡ [] → here ≡ false → Flow owed made came bad here flowing why
  Begun : (s : Setup) (sent : List Frame) → owed ≡ frame.Setup s ∷ sent → Runs [] sent made here → (here ≡ true → flowing ≡ true)
      → Flow owed made came bad here flowing why
  Waiting : (r : Resume) (sent : List Frame) → owed ≡ frame.Resume r ∷ sent → counting sent ≡ [] → (here ≡ true → IsWaiting came bad flowing why)
      → Flow owed made came bad here flowing why
  Resumed : (r : Resume) (p : ℕ) (front sent rest : List Frame) → owed ≡ frame.Resume r ∷ sent → came ≡ frame.ResumeOk p ∷ rest → pos front ≡ p
      → Runs front sent made here
      → (here ≡ true → flowing ≡ true) → Flow owed made came bad here flowing why

-- the connection is not live afterwards
flow_off : (owed made came new brought : List Frame) (bad bad' : Option ℕ) (here flowing flowing' : Bool) (why why' : Option Cause)
    → Flow owed made came bad here flowing why
    → Flow owed (made ++ new) (came ++ brought) bad' false flowing' why'
flow_off owed made came new brought bad bad' here flowing flowing' why why' (Nothing e h) = Nothing e refl
flow_off owed made came new brought bad bad' here flowing flowing' why why' (Begun s sent e r h) = Begun s sent e (runs_off [] sent made new here r)
    (λ on. absurd (cc))
flow_off owed made came new brought bad bad' here flowing flowing' why why' (Waiting r sent e c h) = Waiting r sent e c (λ on. absurd (cc))
flow_off owed made came new brought bad bad' here flowing flowing' why why' (Resumed r p front sent rest e c q i h) =
    Resumed r p front sent (rest ++ brought) e (ap (λ l. l ++ brought) c) q (runs_off front sent made new here i) (λ on. absurd (cc))

-- frames flow, and what is made goes out
flow_on : (owed made came out new brought : List Frame) (bad bad' : Option ℕ) (why why' : Option Cause) → Flow owed made came bad true true why
    → counting out ≡ new
    → Flow (owed ++ out) (made ++ new) (came ++ brought) bad' true true why'
flow_on owed made came out new brought bad bad' why why' (Nothing e h) is = absurd (cc)
flow_on owed made came out new brought bad bad' why why' (Begun s sent e r h) is = Begun s (sent ++ out) (ap (λ l. l ++ out) e)
    (runs_on [] sent made out new r is) (λ on. refl)
flow_on owed made came out new brought bad bad' why why' (Waiting r sent e c h) is = let off : true ≡ false = (h refl).off in absurd (cc)
flow_on owed made came out new brought bad bad' why why' (Resumed r p front sent rest e c q i h) is =
    Resumed r p front (sent ++ out) (rest ++ brought) (ap (λ l. l ++ out) e) (ap (λ l. l ++ brought) c) q (runs_on front sent made out new i is) (λ on. refl)

none_more : (xs ys : List Frame) → counting xs ≡ [] → counting ys ≡ [] → counting (xs ++ ys) ≡ []
none_more xs ys x y = rw (filter-append is_resumable xs ys, x, y) refl

-- nothing comes, and no bad bytes, as long as the session is not closed
record StaysEmpty (brought : List Frame) (bad bad' : Option ℕ) (why why' : Option Cause) : Type 0 where
  free : why' ≡ None → why ≡ None
  none : why' ≡ None → brought ≡ []
  clean : why' ≡ None → bad ≡ None → bad' ≡ None

-- nothing flows yet
flow_wait : (owed made came out new brought : List Frame) (bad bad' : Option ℕ) (why why' : Option Cause) → Flow owed made came bad true false why
    → counting out ≡ []
    → StaysEmpty brought bad bad' why why' → Flow (owed ++ out) (made ++ new) (came ++ brought) bad' true false why'
flow_wait owed made came out new brought bad bad' why why' (Nothing e h) is k = absurd (cc)
flow_wait owed made came out new brought bad bad' why why' (Begun s sent e r h) is k = let no : false ≡ true = h refl in absurd (cc)
flow_wait owed made came out new brought bad bad' why why' (Waiting r sent e c h) is k =
    Waiting r (sent ++ out) (ap (λ l. l ++ out) e) (none_more sent out c is) (λ on. record {
      off = refl;
      none = λ free. rw ((h refl).none (k.free free), k.none free) refl;
      clean = λ free. k.clean free ((h refl).clean (k.free free));
    })
flow_wait owed made came out new brought bad bad' why why' (Resumed r p front sent rest e c q i h) is k = let no : false ≡ true = h refl in absurd (cc)

-- the other end resumes
flow_resume : (owed made came front rest out brought : List Frame) (p : ℕ) (bad bad' : Option ℕ) (why why' : Option Cause)
    → Flow owed made came bad true false why → why ≡ None
    → front ++ rest ≡ made → pos front ≡ p → counting out ≡ rest → (bad ≡ None → brought ≡ frame.ResumeOk p ∷ [])
    → Flow (owed ++ out) (made ++ []) (came ++ brought) bad' true true why'
flow_resume owed made came front rest out brought p bad bad' why why' (Nothing e h) free all at is b = absurd (cc)
flow_resume owed made came front rest out brought p bad bad' why why' (Begun s sent e r h) free all at is b = let no : false ≡ true = h refl in absurd (cc)
flow_resume owed made came front rest out brought p bad bad' why why' (Waiting r sent e c h) free all at is b =
    let w = h refl in
    Resumed r p front (sent ++ out) [] (ap (λ l. l ++ out) e) (rw (w.none free) (b (w.clean free))) at
    (runs_whole front (sent ++ out) (made ++ []) true (rw (filter-append is_resumable sent out, c, is) (all ∙ sym (append-nil made)))) (λ on. refl)
flow_resume owed made came front rest out brought p bad bad' why why' (Resumed r q f sent after e c at i h) free all told is b =
    let no : false ≡ true = h refl in absurd (cc)

-- an entry that opens nothing, parts nothing and resumes nothing
flow_other : (owed made came out new brought : List Frame) (bad bad' : Option ℕ) (here flowing : Bool) (why why' : Option Cause)
    → Flow owed made came bad here flowing why
    → (here ≡ false → out ≡ []) → counting out ≡ cond here (cond flowing new []) [] → (here ≡ true → flowing ≡ false → StaysEmpty brought bad bad' why why')
    → Flow (owed ++ out) (made ++ new) (came ++ brought) bad' here flowing why'
flow_other owed made came out new brought bad bad' true true why why' f off is k = flow_on owed made came out new brought bad bad' why why' f is
flow_other owed made came out new brought bad bad' true false why why' f off is k = flow_wait owed made came out new brought bad bad' why why' f is
    (k refl refl)
flow_other owed made came out new brought bad bad' false flowing why why' f off is k =
    rw (off refl, append-nil owed) (flow_off owed made came new brought bad bad' false flowing flowing why why' f)

-- ---- each connection

abbrev pub FlowAt : Settings → List Entry → ℕ → Type 0
FlowAt g past c = Flow (due g past c) (made g past) (came past c) (first_bad past c) (is_live (live past) c) (carrying g past) (closed g past)

-- the same after an event so answered
abbrev FlowAfter : Settings → List Entry → ℕ → Answer → Event → Type 0
FlowAfter g past c a e =
    Flow (due g past c ++ owes g past c a e) (made g past ++ makes g (is_covered g past) (known g past) a e) (came past c ++ brings past c e)
    (first_of (first_bad past c) (bad_in past c e))
    (is_live (live_after a (live past)) c) (carrying_after g (begun past) a e (carrying g past)) (first_of (closed g past) (closes g past a e))

-- a client that opens
begins : (g : Settings) (handled first : ℕ) (made came : List Frame) (bad : Option ℕ) (before flowing : Bool) (why : Option Cause)
    → flowing ≡ not before → (before ≡ false → made ≡ []) → came ≡ [] → bad ≡ None
    → Flow ((if before then resume_frame g handled first else setup_frame g) ∷ []) made came bad true flowing why
begins g handled first made came bad true flowing why is fresh none clean =
    Waiting _ [] refl refl (λ on. record { off = is; none = λ free. none; clean = λ free. clean })
begins g handled first made came bad false flowing why is fresh none clean = Begun _ [] refl (runs_whole [] [] made true (sym (fresh refl))) (λ on. is)

none_carried : (carrying : Bool) → if_carrying carrying [] ≡ []
none_carried true = refl
none_carried false = refl

not_here : (past : List Entry) (c : ℕ) (g : Settings) (a : Answer) (e : Event) → is_live (live_after a (live past)) c ≡ false → owes g past c a e ≡ []
not_here past c g a e off = rw off refl

-- an accepted opening
opened : (g : Settings) (past : List Entry) (c n : ℕ) (taken : Bool) → Legal g past → g.side ≡ Client → n ≡ openings past + 1 → FlowAt g past c
    → FlowAfter g past c (answer.Opened n) (event.Open None taken)
opened g past c n taken legal side next f =
    elim (is_live n c) as (λ v. is_live n c ≡ v
    → Flow (due g past c ++ owes g past c (answer.Opened n) (event.Open None taken)) (made g past ++ []) (came past c ++ [])
    (first_of (first_bad past c) None) v
    (carrying_after g (begun past) (answer.Opened n) (event.Open None taken) (carrying g past)) (first_of (closed g past) None)) [
      | true ↦ λ is.
          let later : openings past < c = grind (arith, nat_tests) in
          let started = ap (λ s. not (begun past && is_client s)) side in
          rw (due_later g past c legal later, came_later past c later, bad_later past c later, is, none_carried (carrying g past), append-nil (made g past))
          (begins g (pos (handled past)) (first g past) (made g past) [] None (begun past) (not (begun past && is_client g.side))
          (first_of (closed g past) None)
          (grind (arith, common_steps, started)) (λ fresh. fresh_made g past legal fresh) refl refl)
      | false ↦ λ off.
          rw (not_here past c g (answer.Opened n) (event.Open None taken) off, append-nil (due g past c))
          (flow_off (due g past c) (made g past) (came past c) [] [] (first_bad past c) (first_of (first_bad past c) None) (is_live (live past) c)
          (carrying g past) (not (begun past && is_client g.side)) (closed g past) (first_of (closed g past) None) f)
    ] refl

-- where RESUME_OK is accepted, what goes out follows a front of what was made
accepted_front : (g : Settings) (past : List Entry) (conn p : ℕ) → Handling g (facts g past) conn (frame.ResumeOk p)
    → (front : List Frame) × (front ++ frames_from (made g past) p ≡ made g past) × (pos front ≡ p)
unfolding facts
accepted_front g past conn p means = front_of length_of (made g past) p (kept_boundary g past p (ok_boundary (facts g past) p means.may.1))

-- RESUME_OK is accepted
resumes : (g : Settings) (past : List Entry) (c conn p : ℕ) → IsChecked g → Legal g past → Handling g (facts g past) conn (frame.ResumeOk p)
    → FlowAt g past c → FlowAfter g past c answer.Handled (event.Came conn (frame.ResumeOk p))
unfolding facts
resumes g past c conn p checked legal means f =
    let e = event.Came conn (frame.ResumeOk p) in
    let out = owes g past c answer.Handled e in
    let front = accepted_front g past conn p means in
    elim (is_live (live past) c) as (λ v. is_live (live past) c ≡ v
    → Flow (due g past c) (made g past) (came past c) (first_bad past c) v (carrying g past) (closed g past)
    → Flow (due g past c ++ out) (made g past ++ []) (came past c ++ brings past c e) (first_of (first_bad past c) None) v true
    (first_of (closed g past) None)) [
      | true ↦ λ is k.
          let within = live_le g past legal in
          let here = means.here in
          let counts : counting out ≡ frames_from (made g past) p = owes_counts g past c answer.Handled e checked legal means ∙ rw
          (is, none_carried (carrying g past)) (append-nil (frames_from (made g past) p)) in
          flow_resume (due g past c) (made g past) (came past c) front.0 (frames_from (made g past) p) out (brings past c e) p (first_bad past c)
          (first_of (first_bad past c) None) (closed g past) (first_of (closed g past) None)
          (subst (λ b. Flow (due g past c) (made g past) (came past c) (first_bad past c) true b (closed g past)) means.may.0 k)
          means.free front.1 front.2 counts (λ clean. grind (arith, common_steps))
      | false ↦ λ off k.
          rw (not_here past c g answer.Handled e off, append-nil (due g past c))
          (flow_off (due g past c) (made g past) (came past c) [] (brings past c e) (first_bad past c) (first_of (first_bad past c) None) false
          (carrying g past) true (closed g past) (first_of (closed g past) None) k)
    ] refl f

-- any other entry
others : (g : Settings) (past : List Entry) (c : ℕ) (a : Answer) (e : Event) → FlowAt g past c → (is_live (live past) c ≡ false → owes g past c a e ≡ [])
    → counting (owes g past c a e) ≡ (if is_live (live past) c then if_carrying (carrying g past) (makes g (is_covered g past) (known g past) a e) else [])
    → (is_live (live past) c ≡ true → carrying g past ≡ false
    → StaysEmpty (brings past c e) (first_bad past c) (first_of (first_bad past c) (bad_in past c e)) (closed g past)
    (first_of (closed g past) (closes g past a e)))
    → Flow (due g past c ++ owes g past c a e) (made g past ++ makes g (is_covered g past) (known g past) a e) (came past c ++ brings past c e)
    (first_of (first_bad past c) (bad_in past c e))
    (is_live (live past) c) (carrying g past) (first_of (closed g past) (closes g past a e))
others g past c a e f off counts stays =
    flow_other (due g past c) (made g past) (came past c) (owes g past c a e) (makes g (is_covered g past) (known g past) a e) (brings past c e) (first_bad past c)
    (first_of (first_bad past c) (bad_in past c e))
    (is_live (live past) c) (carrying g past) (closed g past) (first_of (closed g past) (closes g past a e)) f off counts stays

-- a frame that is handled
handles_one : (g : Settings) (past : List Entry) (c conn : ℕ) (f : Frame) → IsChecked g → Legal g past → Handling g (facts g past) conn f
    → FlowAt g past c → FlowAfter g past c answer.Handled (event.Came conn f)
unfolding facts
handles_one g past c conn (frame.ResumeOk p) checked legal means f = resumes g past c conn p checked legal means f
handles_one g past c conn x checked legal means f =
    others g past c answer.Handled (event.Came conn x) f (λ off. not_here past c g answer.Handled (event.Came conn x) off)
    (owes_counts g past c answer.Handled (event.Came conn x) checked legal means)
    (λ here off. let on = means.may.0 in absurd (cc))

-- what is not handled brings nothing as long as the session is not closed
stays : (g : Settings) (past : List Entry) (c : ℕ) (a : Answer) (e : Event) → Legal g past → LeavesEntry a → Means g (facts g past) e a
    → is_handled a ≡ false → is_live (live past) c ≡ true
    → StaysEmpty (brings past c e) (first_bad past c) (first_of (first_bad past c) (bad_in past c e)) (closed g past)
    (first_of (closed g past) (closes g past a e))
stays g past c a e legal leaves means idle here = record {
  free = λ free. (first_none (closed g past) (closes g past a e) free).0;
  none = λ free. (quiet g past c a e legal leaves means idle here free).frames;
  clean = λ free clean. rw (clean, (quiet g past c a e legal leaves means idle here free).bytes) refl;
}

nowhere : (c : ℕ) → is_live 0 c ≡ false
nowhere c = grind (arith, nat_tests)

-- a connection that ends
parted : (g : Settings) (past : List Entry) (c : ℕ) (e : Event) → FlowAt g past c → FlowAfter g past c answer.Parted e
parted g past c e f =
    rw (not_here past c g answer.Parted e (nowhere c), nowhere c, append-nil (due g past c))
    (flow_off (due g past c) (made g past) (came past c) [] (brings past c e) (first_bad past c) (first_of (first_bad past c) (bad_in past c e))
    (is_live (live past) c) (carrying g past) false (closed g past) (first_of (closed g past) (closes g past answer.Parted e)) f)

died : (g : Settings) (past : List Entry) (c last : ℕ) (e : Event) → FlowAt g past c → FlowAfter g past c (answer.Dead last) e
died g past c last e f =
    rw (not_here past c g (answer.Dead last) e (nowhere c), nowhere c, append-nil (due g past c))
    (flow_off (due g past c) (made g past) (came past c) [] (brings past c e) (first_bad past c) (first_of (first_bad past c) (bad_in past c e))
    (is_live (live past) c) (carrying g past) false (closed g past) (first_of (closed g past) (closes g past (answer.Dead last) e)) f)

flow_step : (g : Settings) (past : List Entry) (c : ℕ) (a : Answer) (e : Event) → IsChecked g → Legal g past → LeavesEntry a
    → Means g (facts g past) e a → g.side ≡ Client → IsFair g e → FlowAt g past c → FlowAfter g past c a e
unfolding facts
flow_step g past c (answer.Opened n) (event.Open None taken) checked legal leaves means side fair f = opened g past c n taken legal side means.next f
flow_step g past c (answer.Opened n) (event.Open (Some x) taken) checked legal leaves means side fair f = let other : Client ≡ Server =
    sym side ∙ fair.0 in absurd (cc)
flow_step g past c (answer.Opened n) e checked legal leaves means side fair f = absurd means
flow_step g past c answer.Parted e checked legal leaves means side fair f = parted g past c e f
flow_step g past c (answer.Dead last) e checked legal leaves means side fair f = died g past c last e f
flow_step g past c answer.Handled (event.Came conn x) checked legal leaves means side fair f = handles_one g past c conn x checked legal means f
flow_step g past c answer.Handled e checked legal leaves means side fair f = absurd means
flow_step g past c a e checked legal leaves means side fair f =
    others g past c a e f (λ off. not_here past c g a e off) (owes_counts g past c a e checked legal means)
    (λ here off. stays g past c a e legal leaves means refl here)

-- what is due on connection c
pub flows : (g : Settings) (past : List Entry) (c : ℕ) → IsChecked g → Legal g past → Fair g past → g.side ≡ Client → FlowAt g past c
unfolding Legal Fair due made came first_bad live carrying closed
flows g [] c checked legal fair side = Nothing refl (nowhere c)
flows g (x ∷ past) c checked legal fair side =
    flow_step g past c x.answer x.event checked legal.0 legal.1.leaves (last_means g x past legal) side fair.1 (flows g past c checked legal.0 fair.0 side)
