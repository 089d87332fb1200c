-- The frames due on a connection: one that begins it may stand first, and none after that.
use Rattle.std.proofs.Common.{◌≡◌, ◌≤◌, ◌<◌, ◌+◌, ◌==◌, ℕ, Bool, true, false, cond, if◌then◌else◌, List, [], ◌∷◌, ◌++◌, Option, Some, None, refl, ap, sym, subst, append-nil, arith}
use Rattle.std.proofs.lemmas.Bool.Decides.{nat_tests}
use Rattle.std.specs.List.{AllByRecursion}
use Rattle.rs_wire.specs.Settings.{IsChecked}
use Rattle.rs_wire.specs.declared.words.Side.{Side}
use Rattle.rs_wire.specs.declared.words.Side.TheVariants.{Client}
use Rattle.rs_wire.specs.declared.settings.Settings.{Settings}
use Rattle.rs_wire.specs.declared.call.Call.TheVariants as call
use Rattle.rs_frame.specs.declared.frame.Frame.{Frame}
use Rattle.rs_frame.specs.declared.frame.Frame.TheVariants as frame
use Rattle.rs_frame.specs.declared.frame.Setup.{Setup}
use Rattle.rs_frame.specs.declared.frame.Resume.{Resume}
use Rattle.rs_frame.specs.Spelling.{is_resumable, length_of}
use Rattle.position.specs.Boundaries.{frames_from, pos, pos_by}
use Rattle.position.proofs.Boundaries.{pos-append}
use Rattle.tape.specs.declared.event.Event.{Event}
use Rattle.tape.specs.declared.event.Event.TheVariants as event
use Rattle.tape.specs.declared.answer.Answer.{Answer}
use Rattle.tape.specs.declared.answer.Answer.TheVariants as answer
use Rattle.tape.specs.declared.entry.Entry.{Entry}
use Rattle.session_model.specs.Leases.{is_covered}
use Rattle.session_model.specs.Lists.{IsPrefix}
use Rattle.session_model.specs.Life.{begun, carrying, is_live, is_opened, live, live_after, openings}
use Rattle.session_model.specs.Streams.{known}
use Rattle.session_model.specs.Frames.{answers_keepalive, beside, brings, came, closing_error, due, first, greets, handled, handles, if_carrying, lines_up, made, makes, owes, position_told, resume_frame, setup_frame, tells}
use Rattle.session_model.specs.Answers.{facts}
use Rattle.session_model.specs.Legal.{Fair, IsFair, Legal}
use Rattle.session_model.specs.Means.{Means, SuitsFirst}
use Rattle.session_model.proofs.Meaning.{last_means}
use Rattle.session_model.proofs.Openings.{due_later}
use Rattle.session_model.proofs.Spelled.{makes_count}
use Rattle.session_laws.proofs.Counting.{again_counts, counting, made_counts}
use Rattle.session_laws.proofs.Life.{came_later}

-- a frame that does not begin a connection, of a type that is known; a KEEPALIVE tells that position at most
abbrev pub IsPlain : ℕ → Frame → Type 0
IsPlain top (frame.Setup s) = ⊥
IsPlain top (frame.Resume r) = ⊥
IsPlain top (frame.ResumeOk position) = ⊥
IsPlain top (frame.Ext stream flags extended rest) = ⊥
IsPlain top (frame.Unknown stream number flags rest) = ⊥
IsPlain top (frame.Keepalive respond position content) = position ≤ top
IsPlain top f = Unit {0}

abbrev pub ArePlain : ℕ → List Frame → Type 0
ArePlain top fs = AllByRecursion (IsPlain top) fs

pub all_both : (P : Frame → Type 0) (xs ys : List Frame) → AllByRecursion P xs → AllByRecursion P ys → AllByRecursion P (xs ++ ys)
all_both P [] ys h k = k
all_both P (x ∷ xs) ys h k = (h.0, all_both P xs ys h.1 k)

-- what holds of all holds of the last of some first ones
pub all_last : (P : Frame → Type 0) (xs ys : List Frame) (f : Frame) → AllByRecursion P ys → IsPrefix (xs ++ f ∷ []) ys → P f
all_last P [] ys f all p = (subst (AllByRecursion P) (sym p.1) all).0
all_last P (x ∷ xs) ys f all p = all_last P xs ((xs ++ f ∷ []) ++ p.0) f (subst (AllByRecursion P) (sym p.1) all).1 (p.0, refl)

-- ---- frames that count

counted_plain : (top : ℕ) (f : Frame) → is_resumable f ≡ true → IsPlain top f
counted_plain top (frame.Setup s) counts = absurd (cc)
counted_plain top (frame.Resume r) counts = absurd (cc)
counted_plain top (frame.ResumeOk position) counts = absurd (cc)
counted_plain top (frame.Ext stream flags extended rest) counts = absurd (cc)
counted_plain top (frame.Unknown stream number flags rest) counts = absurd (cc)
counted_plain top (frame.Keepalive respond position content) counts = absurd (cc)
counted_plain top f counts = tt

all_counted_plain : (top : ℕ) (fs : List Frame) → ArePlain top (counting fs)
all_counted_plain top [] = tt
all_counted_plain top (f ∷ fs) =
    elim (is_resumable f) as (λ v. is_resumable f ≡ v → ArePlain top (cond v (f ∷ counting fs) (counting fs))) [
      | true ↦ λ counts. (counted_plain top f counts, all_counted_plain top fs)
      | false ↦ λ off. all_counted_plain top fs
    ] refl

counts_plain : (top : ℕ) (fs : List Frame) → counting fs ≡ fs → ArePlain top fs
counts_plain top fs all = subst (ArePlain top) all (all_counted_plain top fs)

-- ---- what an entry puts in line, but for an opening

told_below : (agreed : Bool) (handled top : ℕ) → handled ≤ top → tells agreed handled ≤ top
told_below true handled top le = le
told_below false handled top le = omega arith

answered_plain : (top : ℕ) (respond : Bool) (position : ℕ) (content : List ℕ) → position ≤ top → ArePlain top (answers_keepalive respond position content)
answered_plain top true position content le = (le, tt)
answered_plain top false position content le = tt

closes_plain : (top : ℕ) (carrying : Bool) → ArePlain top (if carrying then closing_error [] ∷ [] else [])
closes_plain top true = (tt, tt)
closes_plain top false = tt

beside_plain : (g : Settings) (past : List Entry) (a : Answer) (e : Event) (top : ℕ) → counting (made g past) ≡ made g past → position_told g past ≤ top → is_opened a ≡ false
    → ArePlain top (beside g past a e)
beside_plain g past (answer.Opened n) e top all le other = absurd (cc)
beside_plain g past (answer.Violation rule) e top all le other = (tt, tt)
beside_plain g past (answer.ResumeRefused gone) (event.Came conn f) top all le other = (tt, tt)
beside_plain g past answer.Handled (event.Came conn (frame.ResumeOk position)) top all le other =
    counts_plain top (frames_from (made g past) position) (again_counts (made g past) position all)
beside_plain g past answer.Handled (event.Came conn (frame.Keepalive respond position content)) top all le other =
    answered_plain top respond (position_told g past) content le
beside_plain g past answer.Sent e top all le other = (le, tt)
beside_plain g past answer.Done (event.Asked (call.Push metadata)) top all le other = (tt, tt)
beside_plain g past answer.Done (event.Asked (call.Lease ttl count metadata)) top all le other = (tt, tt)
beside_plain g past answer.Done (event.Asked call.Close) top all le other = closes_plain top (carrying g past)
beside_plain g past a e top all le other = tt

carried_plain : (top : ℕ) (carrying : Bool) (fs : List Frame) → ArePlain top fs → ArePlain top (if_carrying carrying fs)
carried_plain top true fs all = all
carried_plain top false fs all = tt

makes_plain : (g : Settings) (past : List Entry) (a : Answer) (e : Event) (top : ℕ) → IsChecked g → Means g (facts g past) e a
    → ArePlain top (makes g (is_covered g past) (known g past) a e)
unfolding facts
makes_plain g past a e top checked means = counts_plain top _ (makes_count g (facts g past) e a checked means)

lines_plain : (g : Settings) (past : List Entry) (a : Answer) (e : Event) (top : ℕ) → IsChecked g → Legal g past → Means g (facts g past) e a
    → pos (handled past) ≤ top → is_opened a ≡ false → ArePlain top (lines_up g past a e)
lines_plain g past a e top checked legal means le other =
    let new = makes g (is_covered g past) (known g past) a e in
    all_both (IsPlain top) (beside g past a e) (if_carrying (carrying g past) new)
    (beside_plain g past a e top (made_counts g past checked legal) (told_below _ (pos (handled past)) top le) other)
    (carried_plain top (carrying g past) new (makes_plain g past a e top checked means))

-- ---- one connection

-- the frame that begins what is due: of a client SETUP or RESUME, of a server RESUME_OK, where a RESUME came
abbrev pub FirstFits : Side → Frame → List Frame → Type 0
FirstFits side (frame.Setup s) came = side ≡ Client
FirstFits side (frame.Resume r) came = side ≡ Client
FirstFits side (frame.ResumeOk position) came = (r : Resume) × (rest : List Frame) × (came ≡ frame.Resume r ∷ rest)
FirstFits side f came = ⊥

-- owed is due on a connection, and came is what came there; here says whether it is live
pub data Line (side : Side) (top : ℕ) (owed came : List Frame) (here : Bool) : Type 0 where
  Silent : owed ≡ [] → here ≡ false → Line side top owed came here
  Begun : (s : Setup) (rest : List Frame) → came ≡ frame.Setup s ∷ rest → ArePlain top owed → Line side top owed came here
  Greeted : (f : Frame) (sent : List Frame) → owed ≡ f ∷ sent → FirstFits side f came → ArePlain top sent → Line side top owed came here

first_more : (side : Side) (f : Frame) (came brought : List Frame) → FirstFits side f came → FirstFits side f (came ++ brought)
first_more side (frame.Setup s) came brought fits = fits
first_more side (frame.Resume r) came brought fits = fits
first_more side (frame.ResumeOk position) came brought fits = (fits.0, fits.1 ++ brought, ap (λ l. l ++ brought) fits.2)
first_more side f came brought fits = absurd fits

line_more : (side : Side) (top : ℕ) (owed came out brought : List Frame) (here here' : Bool) → Line side top owed came here → ArePlain top out → (here ≡ false → (here' ≡ false) × (out ≡ []))
    → Line side top (owed ++ out) (came ++ brought) here'
line_more side top owed came out brought here here' (Silent e off) plain none = Silent (rw (e, (none off).1) refl) (none off).0
line_more side top owed came out brought here here' (Begun s rest c all) plain none = Begun s (rest ++ brought) (ap (λ l. l ++ brought) c) (all_both (IsPlain top) owed out all plain)
line_more side top owed came out brought here here' (Greeted f sent e fits all) plain none =
    Greeted f (sent ++ out) (ap (λ l. l ++ out) e) (first_more side f came brought fits) (all_both (IsPlain top) sent out all plain)

-- what stands after the first is plain
pub line_rest : (side : Side) (top : ℕ) (owed came : List Frame) (here : Bool) (f : Frame) (more : List Frame) → Line side top owed came here → owed ≡ f ∷ more → ArePlain top more
line_rest side top owed came here f more (Silent e off) is = absurd (cc)
line_rest side top owed came here f more (Begun s rest c all) is = (subst (ArePlain top) is all).1
line_rest side top owed came here f more (Greeted q sent e fits all) is = let same : sent ≡ more = cc in subst (ArePlain top) same all

-- ---- each connection

abbrev pub LineAt : Settings → ℕ → List Entry → ℕ → Type 0
LineAt g top past c = Line g.side top (due g past c) (came past c) (is_live (live past) c)

abbrev LineAfter : Settings → ℕ → List Entry → ℕ → Answer → Event → Type 0
LineAfter g top past c a e = Line g.side top (due g past c ++ owes g past c a e) (came past c ++ brings past c e) (is_live (live_after a (live past)) c)

greeting : (g : Settings) (top handled first : ℕ) (begun : Bool) (came : List Frame) (here : Bool) → g.side ≡ Client → Line g.side top ((if begun then resume_frame g handled first else setup_frame g) ∷ []) came here
greeting g top handled first true came here side = Greeted _ [] refl side tt
greeting g top handled first false came here side = Greeted _ [] refl side tt

none_carried : (carrying : Bool) → if_carrying carrying [] ≡ []
none_carried true = refl
none_carried false = refl

opens : (g : Settings) (past : List Entry) (f : Option Frame) (taken : Bool) (top n : ℕ) → IsChecked g → Legal g past → IsFair g (event.Open f taken) → SuitsFirst g (facts g past) f taken → n ≡ openings past + 1
    → Line g.side top (greets g past (event.Open f taken)) (brings past n (event.Open f taken)) true
unfolding facts
opens g past None taken top n checked legal fair suits next = greeting g top (pos (handled past)) (first g past) (begun past) [] true fair
opens g past (Some (frame.Setup s)) taken top n checked legal fair suits next =
    let same : (openings past + 1 == n) ≡ true = grind (arith, nat_tests) in
    rw same (Begun s [] refl tt)
opens g past (Some (frame.Resume r)) taken top n checked legal fair suits next =
    let same : (openings past + 1 == n) ≡ true = grind (arith, nat_tests) in
    rw same (Greeted _ _ refl (r, [], refl)
    (counts_plain top (frames_from (made g past) r.server_position) (again_counts (made g past) r.server_position (made_counts g past checked legal))))
opens g past (Some f) taken top n checked legal fair suits next = absurd (cc (suits.1))

not_here : (g : Settings) (past : List Entry) (c : ℕ) (a : Answer) (e : Event) → is_live (live_after a (live past)) c ≡ false → owes g past c a e ≡ []
not_here g past c a e off = rw off refl

owes_plain : (g : Settings) (past : List Entry) (c top : ℕ) (a : Answer) (e : Event) → ArePlain top (lines_up g past a e) → ArePlain top (owes g past c a e)
owes_plain g past c top a e lines = elim (is_live (live_after a (live past)) c) as (λ v. ArePlain top (cond v (lines_up g past a e) [])) [ true ↦ lines | false ↦ tt ]

-- an accepted opening
opened : (g : Settings) (past : List Entry) (c n top : ℕ) (f : Option Frame) (taken : Bool) → IsChecked g → Legal g past → IsFair g (event.Open f taken) → SuitsFirst g (facts g past) f taken
    → n ≡ openings past + 1 → LineAt g top past c → LineAfter g top past c (answer.Opened n) (event.Open f taken)
opened g past c n top f taken checked legal fair suits next line =
    let e = event.Open f taken in
    elim (is_live n c) as (λ v. is_live n c ≡ v → Line g.side top (due g past c ++ owes g past c (answer.Opened n) e) (came past c ++ brings past c e) v) [
      | true ↦ λ is.
          let same : c ≡ n = grind (arith, nat_tests) in
          let later : openings past < c = omega arith in
          rw (due_later g past c legal later, came_later past c later, is, none_carried (carrying g past), append-nil (greets g past e))
          (opens g past f taken top c checked legal fair suits (omega arith))
      | false ↦ λ off. line_more g.side top (due g past c) (came past c) (owes g past c (answer.Opened n) e) (brings past c e) (is_live (live past) c) false line
          (subst (ArePlain top) (sym (not_here g past c (answer.Opened n) e off)) tt) (λ gone. (refl, not_here g past c (answer.Opened n) e off))
    ] refl

stays_off : (a : Answer) (before c : ℕ) → is_opened a ≡ false → is_live before c ≡ false → is_live (live_after a before) c ≡ false
stays_off (answer.Opened n) before c other off = absurd (cc)
stays_off answer.Parted before c other off = grind (arith, nat_tests)
stays_off (answer.Dead last) before c other off = grind (arith, nat_tests)
stays_off a before c other off = off

-- any other entry
others : (g : Settings) (past : List Entry) (c top : ℕ) (a : Answer) (e : Event) → IsChecked g → Legal g past → Means g (facts g past) e a → pos (handled past) ≤ top → is_opened a ≡ false
    → LineAt g top past c → LineAfter g top past c a e
others g past c top a e checked legal means le other line =
    line_more g.side top (due g past c) (came past c) (owes g past c a e) (brings past c e) (is_live (live past) c) (is_live (live_after a (live past)) c) line
    (owes_plain g past c top a e (lines_plain g past a e top checked legal means le other))
    (λ off. let gone = stays_off a (live past) c other off in (gone, not_here g past c a e gone))

line_step : (g : Settings) (past : List Entry) (c top : ℕ) (a : Answer) (e : Event) → IsChecked g → Legal g past → Means g (facts g past) e a → IsFair g e → pos (handled past) ≤ top
    → LineAt g top past c → LineAfter g top past c a e
unfolding facts
line_step g past c top (answer.Opened n) (event.Open f taken) checked legal means fair le line = opened g past c n top f taken checked legal fair means.suits means.next line
line_step g past c top (answer.Opened n) e checked legal means fair le line = absurd means
line_step g past c top a e checked legal means fair le line = others g past c top a e checked legal means le refl line

nowhere : (c : ℕ) → is_live 0 c ≡ false
nowhere c = grind (arith, nat_tests)

earlier_handled : (x : Entry) (past : List Entry) (top : ℕ) → pos (handled (x ∷ past)) ≤ top → pos (handled past) ≤ top
unfolding handled pos_by
earlier_handled x past top le = omega (arith, le, pos-append length_of (handled past) (handles x.answer x.event))

-- where what this end handled ends at that position, or before it
pub lines : (g : Settings) (past : List Entry) (c top : ℕ) → IsChecked g → Legal g past → Fair g past → pos (handled past) ≤ top → LineAt g top past c
unfolding Legal Fair due came live
lines g [] c top checked legal fair le = Silent refl (nowhere c)
lines g (x ∷ past) c top checked legal fair le =
    let less = earlier_handled x past top le in
    line_step g past c top x.answer x.event checked legal.0 (last_means g x past legal) fair.1 less (lines g past c top checked legal.0 fair.0 less)
