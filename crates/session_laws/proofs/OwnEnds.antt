-- Nothing is taken of a stream after an own step ended the way on which this end receives.
use Rattle.std.proofs.Common.{◌≡◌, ℕ, Bool, true, false, cond, List, [], ◌∷◌, ◌++◌, Option, Some, None, refl, ap, subst, sym, ◌∙◌, arith, ltb}
use Rattle.std.proofs.lemmas.Bool.Decides.{nat_tests}
use Rattle.std.proofs.lemmas.Grind.{common_steps}
use Rattle.rs_wire.specs.declared.settings.Settings.{Settings}
use Rattle.rs_wire.specs.declared.words.Role.{Role}
use Rattle.rs_wire.specs.declared.words.Role.TheVariants.{Requester, Responder}
use Rattle.rs_wire.specs.declared.delivery.Delivery.{Delivery}
use Rattle.tape.specs.declared.entry.Entry.{Entry}
use Rattle.stream_model.specs.Marks.{Mark, Opens, Passed, Sent, Got, Pushed, Took, TookJob, Step}
use Rattle.stream_model.specs.Turns.{Turn, Said, Taken, taken, waiting, is_role, other}
use Rattle.stream_model.specs.Streams.{turn, turn_after, goes_on, live, on}
use Rattle.stream_model.specs.Fair.{Fair as FairMarks, Fits, FitsTurn}
use Rattle.stream_model.specs.Laws.{own_end}
use Rattle.stream_model.proofs.Delivered.{dropped}
use Rattle.stream_model.proofs.Ids.{fresh, turn_sent}
use Rattle.stream_model.proofs.Streams.{fair_words, fits_here}
use Rattle.session_model.specs.Leases.{is_covered}
use Rattle.session_model.specs.Streams.{heard_in, marks_in, unfinished, words}
use Rattle.session_model.specs.Legal.{Fair, Legal}
use Rattle.session_laws.specs.Streams.{EndsReceiving, IsLawful, stream}
use Rattle.session_laws.proofs.Lawful.{fair_marks}

-- an own step ended the way on which this end receives, when this had been taken
abbrev pub EndedAt : List Delivery → Option Turn → Type 0
EndedAt before None = ⊥
EndedAt before (Some u) = (own_end u.opening u.words ≡ true) × (taken u.words ≡ before)

-- the words that go on keep it
said_on : (before : List Delivery) (t : Option Turn) (by : Role → Role) (step : Step) → EndedAt before t → EndedAt before (goes_on t (λ role. Said (by role) step))
unfolding own_end taken
said_on before None by step ended = absurd ended
said_on before (Some u) by step ended = (rw ended.0 refl, ended.1)

-- what waits was dropped, so nothing is taken
took_on : (most : ℕ) (seen : List Mark) (s : ℕ) (d : Delivery) (before : List Delivery) (t : Option Turn) → turn most seen s ≡ t → FairMarks most seen
    → FitsTurn t (λ role. Taken d) → EndedAt before t → EndedAt before (goes_on t (λ role. Taken d))
took_on most seen s d before None is fair fits ended = absurd ended
took_on most seen s d before (Some u) is fair fits ended =
    let none = dropped u.opening u.words (fair_words most seen s u fair is) ended.0 in
    let first = fits.take.1 in
    absurd (cc)

opened_on : (most : ℕ) (seen : List Mark) (s q : ℕ) (before : List Delivery) → EndedAt before (turn most seen s) → turn most seen q ≡ None → q ≡ s → ⊥
opened_on most seen s q before ended none same = let gone : turn most seen s ≡ None = subst (λ k. turn most seen k ≡ None) same none in subst (EndedAt before) gone ended

mark_on : (most : ℕ) (seen : List Mark) (m : Mark) (s : ℕ) (room : Bool) (before : List Delivery) → FairMarks most seen → Fits most seen m → on s m ≡ true
    → EndedAt before (turn most seen s) → EndedAt before (turn_after room m (turn most seen s))
mark_on most seen (Opens q o) s room before fair fits is ended = absurd (opened_on most seen s q before ended (fresh most seen q fits.fresh) (grind (arith, nat_tests)))
mark_on most seen (Passed q) s room before fair fits is ended = ended
mark_on most seen (Sent q step) s room before fair fits is ended = said_on before (turn most seen s) (λ role. role) step ended
mark_on most seen (Got q step) s room before fair fits is ended = said_on before (turn most seen s) (λ role. other role) step ended
mark_on most seen (Pushed metadata) s room before fair fits is ended = ended
mark_on most seen (Took q d) s room before fair fits is ended = took_on most seen s d before (turn most seen s) refl fair (fits_here most seen q s is (λ role. Taken d) fits) ended
mark_on most seen TookJob s room before fair fits is ended = ended

-- and so does every mark
marks_on : (most : ℕ) (more seen : List Mark) (s : ℕ) (before : List Delivery) → FairMarks most (more ++ seen) → EndedAt before (turn most seen s) → EndedAt before (turn most (more ++ seen) s)
unfolding FairMarks turn
marks_on most [] seen s before fair ended = ended
marks_on most (m ∷ more) seen s before fair ended =
    let here = marks_on most more seen s before fair.0 ended in
    let room = ltb (live most (more ++ seen)) most in
    elim (on s m) as (λ v. on s m ≡ v → EndedAt before (cond v (turn_after room m (turn most (more ++ seen) s)) (turn most (more ++ seen) s))) [
      | true ↦ λ is. mark_on most (more ++ seen) m s room before fair.0 fair.1 is here
      | false ↦ λ is. here
    ] refl

entries_on : (g : Settings) (more past : List Entry) (s : ℕ) (before : List Delivery) → IsLawful g (more ++ past) → EndedAt before (stream g past s) → EndedAt before (stream g (more ++ past) s)
unfolding Legal Fair heard_in
entries_on g [] past s before h ended = ended
entries_on g (x ∷ more) past s before h ended =
    let earlier : IsLawful g (more ++ past) = record { legal = h.legal.0; fair = h.fair.0 } in
    marks_on g.max_streams (marks_in (is_covered g (more ++ past)) (unfinished g (more ++ past)) x.answer x.event) (words g (more ++ past)) s before (fair_marks g (x ∷ (more ++ past)) h) (entries_on g more past s before earlier ended)

same_role : (r : Role) → is_role r r ≡ true
same_role Requester = refl
same_role Responder = refl

ended_now : (g : Settings) (past : List Entry) (x : Entry) (s : ℕ) (t : Turn) → EndsReceiving g past x s t → EndedAt (taken t.words) (stream g (x ∷ past) s)
unfolding heard_in own_end taken
ended_now g past x s t e =
    let after = turn_sent g.max_streams (words g past) s e.step in
    let going : goes_on (stream g past s) (λ role. Said role e.step) ≡ Some (record { opening = t.opening; words = Said t.opening.role e.step ∷ t.words }) = ap (λ o. goes_on o (λ role. Said role e.step)) e.there in
    let mine = same_role t.opening.role in
    subst (λ marks. EndedAt (taken t.words) (turn g.max_streams (marks ++ words g past) s)) (sym e.own)
    (subst (EndedAt (taken t.words)) (sym (after ∙ going)) (rw (e.receiving, mine, e.last) (grind (arith, common_steps)), refl))

ended_later : (g : Settings) (more past : List Entry) (x : Entry) (s : ℕ) (t u : Turn) → IsLawful g (more ++ x ∷ past) → EndsReceiving g past x s t → stream g (more ++ x ∷ past) s ≡ Some u
    → EndedAt (taken t.words) (Some u)
ended_later g more past x s t u h e is = subst (EndedAt (taken t.words)) is (entries_on g more (x ∷ past) s (taken t.words) h (ended_now g past x s t e))

pub takes_no_more : (g : Settings) (more past : List Entry) (x : Entry) (s : ℕ) (t u : Turn) → IsLawful g (more ++ x ∷ past) → EndsReceiving g past x s t → stream g (more ++ x ∷ past) s ≡ Some u
    → taken u.words ≡ taken t.words
takes_no_more g more past x s t u h e is = (ended_later g more past x s t u h e is).1

pub nothing_waits : (g : Settings) (more past : List Entry) (x : Entry) (s : ℕ) (t u : Turn) → IsLawful g (more ++ x ∷ past) → EndsReceiving g past x s t → stream g (more ++ x ∷ past) s ≡ Some u
    → waiting u.opening u.words ≡ []
nothing_waits g more past x s t u h e is =
    dropped u.opening u.words (fair_words g.max_streams (words g (more ++ x ∷ past)) s u (fair_marks g (more ++ x ∷ past) h) is) (ended_later g more past x s t u h e is).0
