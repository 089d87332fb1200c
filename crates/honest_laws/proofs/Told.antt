-- What one end was told the other has handled.
use Rattle.std.proofs.Common.{◌≡◌, ◌≤◌, ◌<◌, ◌+◌, ◌==◌, inl, inr, ℕ, Bool, true, false, cond, if◌then◌else◌, List, [], ◌∷◌, ◌++◌, max, Option, Some, None, is_some, refl, ap, sym, subst, ◌∙◌, append_assoc, arith}
use Rattle.std.proofs.lemmas.Bool.Decides.{nat_tests}
use Rattle.std.proofs.lemmas.Grind.{common_steps}
use Rattle.std.specs.List.{AllByRecursion}
use Rattle.rs_wire.specs.Settings.{IsChecked}
use Rattle.rs_wire.specs.declared.settings.Settings.{Settings}
use Rattle.rs_wire.specs.declared.call.Call.TheVariants as call
use Rattle.rs_frame.specs.declared.frame.Frame.{Frame}
use Rattle.rs_frame.specs.declared.frame.Frame.TheVariants as frame
use Rattle.rs_frame.specs.Spelling.{is_resumable, length_of}
use Rattle.position.specs.Boundaries.{acked, frames_from, pos, pos_by}
use Rattle.position.proofs.Boundaries.{acked-at_most, pos-append}
use Rattle.tape.specs.declared.event.Event.{Event}
use Rattle.tape.specs.declared.event.Event.TheVariants as event
use Rattle.tape.specs.declared.answer.Answer.{Answer}
use Rattle.tape.specs.declared.answer.Answer.TheVariants as answer
use Rattle.tape.specs.declared.entry.Entry.{Entry}
use Rattle.session_model.specs.Leases.{is_covered}
use Rattle.session_model.specs.Lists.{IsPrefix}
use Rattle.session_model.specs.Life.{begun, carrying, is_live, live, live_after, openings, openings_in, resumption_agreed, told, told_in}
use Rattle.session_model.specs.Streams.{known}
use Rattle.session_model.specs.Frames.{answers_keepalive, beside, brings, came, closing_error, due, first, greets, handled, handles, if_carrying, lines_up, made, makes, owes, position_told, refusal, resume_frame, setup_frame, tells}
use Rattle.session_model.specs.Joined.{IsOpening, frames_offered, only, refused, refuses, unless_refused}
use Rattle.session_model.specs.Answers.{facts}
use Rattle.session_model.specs.Legal.{Fair, Legal}
use Rattle.session_model.specs.Means.{Handling, Means}
use Rattle.session_model.proofs.Openings.{live_le}
use Rattle.session_model.proofs.Meaning.{last_means}
use Rattle.session_model.proofs.Spelled.{makes_count}
use Rattle.session_laws.specs.Ends.{AreJoined}
use Rattle.session_laws.specs.Resumption.{IsHeldFrom}
use Rattle.session_laws.specs.Streams.{IsLawful}
use Rattle.session_laws.proofs.Counting.{again_counts, counting, made_counts}
use Rattle.session_laws.proofs.Crossing.{boundary, client_joins, crossed_down, crossed_up, handled_down, handled_up, search, server_joins}
use Rattle.session_laws.proofs.Follows.{Joins}
use Rattle.session_laws.proofs.Growth.{handled_grows}
use Rattle.session_laws.proofs.Lawful.{before_lawful}
use Rattle.session_laws.proofs.Life.{came_later}
use Rattle.session_laws.proofs.Prefixes.{prefix_trans}
use Rattle.honest_laws.proofs.Arrives.{came_grows, comes, earlier_joins, live_at}
use Rattle.honest_laws.proofs.Plain.{all_both}

-- a frame tells that position at most, of what its sender handled
abbrev pub Tells : ℕ → Frame → Type 0
Tells top (frame.Keepalive respond position content) = position ≤ top
Tells top (frame.Resume r) = r.server_position ≤ top
Tells top (frame.ResumeOk position) = position ≤ top
Tells top f = Unit {0}

abbrev pub AllTell : ℕ → List Frame → Type 0
AllTell top fs = AllByRecursion (Tells top) fs

-- ---- what is due

-- what counts in the positions tells none
counted_tells : (top : ℕ) (f : Frame) → is_resumable f ≡ true → Tells top f
counted_tells top f is = grind (arith, common_steps)

all_counted : (top : ℕ) (fs : List Frame) → AllTell top (counting fs)
all_counted top [] = tt
all_counted top (f ∷ fs) =
    elim (is_resumable f) as (λ v. is_resumable f ≡ v → AllTell top (cond v (f ∷ counting fs) (counting fs))) [
      | true ↦ λ is. (counted_tells top f is, all_counted top fs)
      | false ↦ λ is. all_counted top fs
    ] refl

counts_tell : (top : ℕ) (fs : List Frame) → counting fs ≡ fs → AllTell top fs
counts_tell top fs same = subst (AllTell top) same (all_counted top fs)

told_below : (agreed : Bool) (handled top : ℕ) → handled ≤ top → tells agreed handled ≤ top
told_below true handled top le = le
told_below false handled top le = omega arith

answered_tells : (top : ℕ) (respond : Bool) (position : ℕ) (content : List ℕ) → position ≤ top → AllTell top (answers_keepalive respond position content)
answered_tells top true position content le = (le, tt)
answered_tells top false position content le = tt

greeting_tells : (g : Settings) (top handled first : ℕ) (begun : Bool) → handled ≤ top → AllTell top (cond begun (resume_frame g handled first) (setup_frame g) ∷ [])
greeting_tells g top handled first true le = (le, tt)
greeting_tells g top handled first false le = (tt, tt)

closes_tell : (top : ℕ) (carrying : Bool) → AllTell top (if carrying then closing_error [] ∷ [] else [])
closes_tell top true = (tt, tt)
closes_tell top false = tt

beside_tells : (g : Settings) (past : List Entry) (a : Answer) (e : Event) (top : ℕ) → counting (made g past) ≡ made g past → pos (handled past) ≤ top → AllTell top (beside g past a e)
beside_tells g past (answer.Opened n) (event.Open None taken) top same le = greeting_tells g top (pos (handled past)) (first g past) (begun past) le
beside_tells g past (answer.Opened n) (event.Open (Some (frame.Resume r)) taken) top same le = (le, counts_tell top (frames_from (made g past) r.server_position) (again_counts (made g past) r.server_position same))
beside_tells g past (answer.Opened n) e top same le = tt
beside_tells g past (answer.Violation rule) e top same le = (tt, tt)
beside_tells g past (answer.ResumeRefused gone) (event.Came conn f) top same le = (tt, tt)
beside_tells g past answer.Handled (event.Came conn (frame.ResumeOk position)) top same le = counts_tell top (frames_from (made g past) position) (again_counts (made g past) position same)
beside_tells g past answer.Handled (event.Came conn (frame.Keepalive respond position content)) top same le =
    answered_tells top respond (position_told g past) content (told_below (resumption_agreed g past) (pos (handled past)) top le)
beside_tells g past answer.Sent e top same le = (told_below (resumption_agreed g past) (pos (handled past)) top le, tt)
beside_tells g past answer.Done (event.Asked (call.Push metadata)) top same le = (tt, tt)
beside_tells g past answer.Done (event.Asked (call.Lease ttl count metadata)) top same le = (tt, tt)
beside_tells g past answer.Done (event.Asked call.Close) top same le = closes_tell top (carrying g past)
beside_tells g past a e top same le = tt

carried_tells : (top : ℕ) (carrying : Bool) (fs : List Frame) → AllTell top fs → AllTell top (if_carrying carrying fs)
carried_tells top true fs all = all
carried_tells top false fs all = tt

owes_tells : (g : Settings) (past : List Entry) (c top : ℕ) (a : Answer) (e : Event) → IsChecked g → Legal g past → Means g (facts g past) e a → pos (handled past) ≤ top → AllTell top (owes g past c a e)
unfolding facts
owes_tells g past c top a e checked legal means le =
    let new = makes g (is_covered g past) (known g past) a e in
    let lines = all_both (Tells top) (beside g past a e) (if_carrying (carrying g past) new) (beside_tells g past a e top (made_counts g past checked legal) le)
    (carried_tells top (carrying g past) new (counts_tell top new (makes_count g (facts g past) e a checked means))) in
    elim (is_live (live_after a (live past)) c) as (λ v. AllTell top (cond v (lines_up g past a e) [])) [ true ↦ lines | false ↦ tt ]

earlier_handled : (x : Entry) (past : List Entry) (top : ℕ) → pos (handled (x ∷ past)) ≤ top → pos (handled past) ≤ top
unfolding handled pos_by
earlier_handled x past top le = omega (arith, le, pos-append length_of (handled past) (handles x.answer x.event))

pub due_tells : (g : Settings) (past : List Entry) (c top : ℕ) → IsChecked g → Legal g past → pos (handled past) ≤ top → AllTell top (due g past c)
unfolding due Legal
due_tells g [] c top checked legal le = tt
due_tells g (x ∷ past) c top checked legal le =
    let less = earlier_handled x past top le in
    all_both (Tells top) (due g past c) (owes g past c x.answer x.event) (due_tells g past c top checked legal.0 less)
    (owes_tells g past c top x.answer x.event checked legal.0 (last_means g x past legal) less)

-- ---- what came

front_tells : (top : ℕ) (xs ys : List Frame) → IsPrefix xs ys → AllTell top ys → AllTell top xs
front_tells top [] ys p all = tt
front_tells top (x ∷ xs) [] p all = absurd (cc (p.1))
front_tells top (x ∷ xs) (y ∷ ys) p all =
    let same : y ≡ x = cc (p.1) in
    let rest : xs ++ p.0 ≡ ys = cc (p.1) in
    (subst (Tells top) same all.0, front_tells top xs ys (p.0, rest) all.1)

refusal_tells : (top : ℕ) (a : Answer) → AllTell top (only (refusal a))
refusal_tells top a = grind (arith, common_steps)

refuses_tells : (past : List Entry) (d top : ℕ) (a : Answer) (e : Event) → AllTell top (refuses past d a e)
refuses_tells past d top a (event.Open (Some f) taken) = elim (openings past + 1 == d) as (λ v. AllTell top (cond v (only (refusal a)) [])) [ true ↦ refusal_tells top a | false ↦ tt ]
refuses_tells past d top a e = tt

refused_tells : (past : List Entry) (d top : ℕ) → AllTell top (refused past d)
unfolding refused
refused_tells [] d top = tt
refused_tells (x ∷ past) d top = all_both (Tells top) (refused past d) (refuses past d x.answer x.event) (refused_tells past d top) (refuses_tells past d top x.answer x.event)

either_tells : (top : ℕ) (refusals owed : List Frame) → AllTell top refusals → AllTell top owed → AllTell top (unless_refused refusals owed refusals)
either_tells top [] owed all more = more
either_tells top (f ∷ fs) owed all more = all

-- at the server
pub came_up : (g h : Settings) (C S : List Entry) (pair : ℕ → ℕ) (d : ℕ) → AreJoined g h C S pair → IsOpening S d → AllTell (pos (handled C)) (came S d)
came_up g h C S pair d j is =
    let e = j.ends in
    front_tells (pos (handled C)) (came S d) (due g C (pair d)) (crossed_up g h C S pair d j is) (due_tells g C (pair d) (pos (handled C)) e.client_checked e.client_legal (omega arith))

-- at the client
pub came_down : (g h : Settings) (C S : List Entry) (pair : ℕ → ℕ) (c : ℕ) → AreJoined g h C S pair → AllTell (pos (handled S)) (came C c)
came_down g h C S pair c j =
    let e = j.ends in
    let top = pos (handled S) in
    elim (search (openings S) c pair) [
      | inl found ↦
          let opening : IsOpening S found.0 = record { above = found.1; within = found.2 } in
          let offered = crossed_down g h C S pair found.0 j opening in
          let all = either_tells top (refused S found.0) (due h S found.0) (refused_tells S found.0 top) (due_tells h S found.0 top e.server_checked e.server_legal (omega arith)) in
          subst (λ n. AllTell top (came C n)) found.3 (front_tells top (came C (pair found.0)) (frames_offered h S found.0) offered all)
      | inr none ↦ subst (AllTell top) (sym (j.joined.unpaired c (λ d is. none d is.above is.within)).0) tt
    ]

-- ---- what is told

last_tells : (top : ℕ) (xs : List Frame) (f : Frame) → AllTell top (xs ++ f ∷ []) → Tells top f
last_tells top [] f all = all.0
last_tells top (x ∷ xs) f all = last_tells top xs f all.1

abbrev ComeTelling : ℕ → List Entry → Type 0
ComeTelling top past = (c : ℕ) → IsOpening past c → AllTell top (came past c)

-- a frame that is handled tells what a frame that came may tell
by_came : (g : Settings) (made : List Frame) (x : Entry) (past : List Entry) (top conn : ℕ) (f : Frame) → IsLawful g (x ∷ past) → Joins g made (x ∷ past) → ComeTelling top (x ∷ past)
    → x.event ≡ event.Came conn f → Handling g (facts g past) conn f → Tells top f
unfolding facts Legal Fair openings
by_came g made x past top conn f lawful joins all at means =
    let before : IsLawful g past = record { legal = lawful.legal.0; fair = lawful.fair.0 } in
    let c = comes g made past x conn f before joins (record { is = at; here = means.here; free = means.free; error = means.error }) in
    let live_is = live_at (live past) conn means.here in
    let within = live_le g past before.legal in
    let opening : IsOpening (x ∷ past) conn = record { above = omega (arith, live_is.0, live_is.1); within = omega (arith, live_is.0, within) } in
    last_tells top (came past conn) f (subst (AllTell top) c.brought (all conn opening))

-- and so does one by which a connection is opened
by_opening : (g : Settings) (x : Entry) (past : List Entry) (top n : ℕ) (f : Frame) (taken : Bool) → ComeTelling top (x ∷ past) → x.event ≡ event.Open (Some f) taken → n ≡ openings past + 1 → Tells top f
unfolding openings came
by_opening g x past top n f taken all at next =
    let same : (openings past + 1 == n) ≡ true = grind (arith, nat_tests) in
    let later : openings past < n = omega arith in
    let brought : came past n ++ brings past n x.event ≡ f ∷ [] = ap (λ e. came past n ++ brings past n e) at ∙ rw (came_later past n later, same) refl in
    let one : openings_in x.event ≡ 1 = ap openings_in at in
    let opening : IsOpening (x ∷ past) n = record { above = omega (arith, next); within = omega (arith, next, one) } in
    (subst (AllTell top) brought (all n opening)).0

told_by : (g : Settings) (made : List Frame) (x : Entry) (past : List Entry) (top : ℕ) (agreed : Bool) (a : Answer) (e : Event) → IsLawful g (x ∷ past) → Joins g made (x ∷ past) → ComeTelling top (x ∷ past)
    → x.event ≡ e → Means g (facts g past) e a → told_in agreed a e ≤ top
unfolding facts
told_by g made x past top agreed (answer.Opened n) (event.Open (Some (frame.Resume r)) taken) lawful joins all at means = by_opening g x past top n (frame.Resume r) taken all at means.next
told_by g made x past top agreed answer.Handled (event.Came conn (frame.ResumeOk position)) lawful joins all at means = by_came g made x past top conn (frame.ResumeOk position) lawful joins all at means
told_by g made x past top agreed answer.Handled (event.Came conn (frame.Keepalive respond position content)) lawful joins all at means =
    let tells = by_came g made x past top conn (frame.Keepalive respond position content) lawful joins all at means in
    elim agreed as (λ v. (if v then position else 0) ≤ top) [ true ↦ tells | false ↦ omega arith ]
told_by g made x past top agreed a e lawful joins all at means = omega arith

openings_grow : (newer past : List Entry) → openings past ≤ openings (newer ++ past)
unfolding openings
openings_grow [] past = omega arith
openings_grow (x ∷ newer) past = omega (arith, openings_grow newer past)

still_opening : (newer past : List Entry) (c : ℕ) → IsOpening past c → IsOpening (newer ++ past) c
still_opening newer past c is = let more = openings_grow newer past in let within = is.within in record { above = is.above; within = omega arith }

-- ---- the two ends

server_front : (g h : Settings) (C newer past : List Entry) (pair : ℕ → ℕ) → AreJoined g h C (newer ++ past) pair → told h past ≤ pos (handled C)
unfolding told
server_front g h C newer [] pair j = omega arith
server_front g h C newer (x ∷ past) pair j =
    let e = j.ends in
    let S = newer ++ x ∷ past in
    let top = pos (handled C) in
    let lawful = before_lawful h newer (x ∷ past) (record { legal = e.server_legal; fair = e.server_fair }) in
    let joins = earlier_joins h (made g C) newer (x ∷ past) (server_joins g h C S pair j) in
    let all : ComeTelling top (x ∷ past) = λ c is. front_tells top (came (x ∷ past) c) (came S c) (came_grows newer (x ∷ past) c) (came_up g h C S pair c j (still_opening newer (x ∷ past) c is)) in
    let last = told_by h (made g C) x past top (resumption_agreed h past) x.answer x.event lawful joins all refl (last_means h x past lawful.legal) in
    let before = server_front g h C (newer ++ x ∷ []) past pair (subst (λ l. AreJoined g h C l pair) (sym (append_assoc newer (x ∷ []) past)) j) in
    omega (arith, last, before)

client_front : (g h : Settings) (newer past S : List Entry) (pair : ℕ → ℕ) → AreJoined g h (newer ++ past) S pair → told g past ≤ pos (handled S)
unfolding told
client_front g h newer [] S pair j = omega arith
client_front g h newer (x ∷ past) S pair j =
    let e = j.ends in
    let C = newer ++ x ∷ past in
    let top = pos (handled S) in
    let lawful = before_lawful g newer (x ∷ past) (record { legal = e.client_legal; fair = e.client_fair }) in
    let joins = earlier_joins g (made h S) newer (x ∷ past) (client_joins g h C S pair j) in
    let all : ComeTelling top (x ∷ past) = λ c is. front_tells top (came (x ∷ past) c) (came C c) (came_grows newer (x ∷ past) c) (came_down g h C S pair c j) in
    let last = told_by g (made h S) x past top (resumption_agreed g past) x.answer x.event lawful joins all refl (last_means g x past lawful.legal) in
    let before = client_front g h (newer ++ x ∷ []) past S pair (subst (λ l. AreJoined g h l S pair) (sym (append_assoc newer (x ∷ []) past)) j) in
    omega (arith, last, before)

-- what the server was told the client has handled, and the other way round
pub told_up : (g h : Settings) (C S : List Entry) (pair : ℕ → ℕ) → AreJoined g h C S pair → told h S ≤ pos (handled C)
told_up g h C S pair j = server_front g h C [] S pair j

pub told_down : (g h : Settings) (C S : List Entry) (pair : ℕ → ℕ) → AreJoined g h C S pair → told g C ≤ pos (handled S)
told_down g h C S pair j = client_front g h [] C S pair j

-- ---- a resumption where all is kept

-- what is held begins where it is acknowledged
abbrev pub HoldsAll : Settings → List Entry → Type 0
HoldsAll g past = first g past ≡ acked (made g past) (told g past)

pub server_holds : (g h : Settings) (C S : List Entry) (pair : ℕ → ℕ) → AreJoined g h C S pair → HoldsAll h S → IsHeldFrom h S (pos (handled C))
server_holds g h C S pair j all =
    let below = acked-at_most length_of (made h S) (told h S) in
    record { held = omega (arith, all, below, told_up g h C S pair j); boundary = boundary (handled C) (made h S) (handled_down g h C S pair j) }

pub client_holds : (g h : Settings) (C S : List Entry) (pair : ℕ → ℕ) → AreJoined g h C S pair → HoldsAll g C → first g C ≤ pos (handled S)
client_holds g h C S pair j all = omega (arith, all, acked-at_most length_of (made g C) (told g C), told_down g h C S pair j)

-- the position that RESUME_OK tells was handled by the server when it answered, and the client was told no more by then
pub goes_on_from : (g h : Settings) (C newer older : List Entry) (pair : ℕ → ℕ) → AreJoined g h C (newer ++ older) pair → HoldsAll g C → told g C ≤ pos (handled older) → IsHeldFrom g C (pos (handled older))
goes_on_from g h C newer older pair j all told_less =
    let more = handled_grows newer older in
    let whole = prefix_trans (handled older) (handled (newer ++ older)) (made g C) more (handled_up g h C (newer ++ older) pair j) in
    record { held = omega (arith, all, acked-at_most length_of (made g C) (told g C), told_less); boundary = boundary (handled older) (made g C) whole }
