-- The ids of the requests that an end made, and of those that it handled.
use Rattle.std.proofs.Common.{◌≡◌, ◌≤◌, ◌%◌, ◌+◌, ◌==◌, ◌⊎◌, inl, inr, ℕ, Bool, true, false, cond, max, List, [], ◌∷◌, ◌++◌, Some, None, option_to_list, refl, ap, sym, subst, ◌∙◌, arith}
use Rattle.std.specs.Option.{option_map}
use Rattle.std.proofs.lemmas.Bool.{cases_lt, eqb-true}
use Rattle.rs_wire.specs.declared.words.Side.{Side}
use Rattle.rs_wire.specs.declared.settings.Settings.{Settings}
use Rattle.rs_wire.specs.declared.call.Call.{Call}
use Rattle.rs_wire.specs.declared.call.Call.TheVariants as call
use Rattle.rs_frame.specs.declared.frame.Frame.{Frame}
use Rattle.rs_frame.specs.declared.frame.Frame.TheVariants as frame
use Rattle.rs_frame.specs.declared.frame.Request.{Request}
use Rattle.tape.specs.declared.event.Event.{Event}
use Rattle.tape.specs.declared.event.Event.TheVariants as event
use Rattle.tape.specs.declared.answer.Answer.{Answer}
use Rattle.tape.specs.declared.answer.Answer.TheVariants as answer
use Rattle.tape.specs.declared.entry.Entry.{Entry}
use Rattle.fragment.specs.Joining.{Gathered}
use Rattle.stream_model.specs.declared.arrival.Arrival.TheVariants as arrival
use Rattle.stream_model.specs.Marks.{Mark, Opens, Passed}
use Rattle.stream_model.specs.Streams.{higher, highest, one_if}
use Rattle.stream_model.specs.Known.{is_own_parity, next_id}
use Rattle.stream_model.specs.Arriving.{heard, said}
use Rattle.stream_model.proofs.Ids.{same_id}
use Rattle.session_model.specs.Leases.{is_covered}
use Rattle.session_model.specs.Streams.{arrival_in, heard_in, known, marks_in, request_in, turned_away_for, unfinished, words}
use Rattle.session_model.specs.Frames.{handled, handles, in_fragments, made, makes, sent_as, spoken}
use Rattle.session_model.specs.Answers.{Facts, facts}
use Rattle.session_model.specs.Legal.{Legal}
use Rattle.session_model.specs.Means.{Does, Means}
use Rattle.session_model.proofs.Meaning.{last_means}
use Rattle.honest_laws.proofs.Counts.{Counts, asks, counts, counts_more, counts_none, counts_one, payload_count, request_counted, total}
use Rattle.honest_laws.proofs.Entries.{next_own}
use Rattle.honest_laws.proofs.Marks.{away_none, higher_keeps, higher_reaches}

-- how often these frames ask for the stream s
abbrev pub asked_in : ℕ → List Frame → ℕ
asked_in s fs = (counts s fs).asked

pub asked_more : (s : ℕ) (xs ys : List Frame) → asked_in s (xs ++ ys) ≡ asked_in s xs + asked_in s ys
asked_more s xs ys = ap (λ (c : Counts). c.asked) (counts_more s xs ys)

asked_one : (s : ℕ) (f : Frame) → asked_in s (f ∷ []) ≡ asks s f
asked_one s f = ap (λ (c : Counts). c.asked) (counts_one s f)

-- ---- what an entry asks for

-- a call asks for a stream exactly where it starts one
asked_by_request : (s mtu : ℕ) (r : Request) → asked_in s (in_fragments mtu (frame.Request r)) ≡ one_if (r.stream == s)
asked_by_request s mtu r = (request_counted s mtu r).asked

asked_by_others : (g : Settings) (past : List Entry) (s : ℕ) (asked : Call) → Does g (facts g past) (event.Asked asked) → asked_in s (sent_as g (spoken (known g past) 0 asked)) ≡ 0
asked_by_others g past s (call.Request kind initial message complete) does = absurd does
asked_by_others g past s (call.Next q message complete) does = ap (λ (c : Counts). c.asked) (payload_count s g.mtu q _ true message)
asked_by_others g past s (call.Done q) does = ap (λ (c : Counts). c.asked) (payload_count s g.mtu q true false _)
asked_by_others g past s (call.Grant q n) does = asked_one s (frame.RequestN q n)
asked_by_others g past s (call.Cancel q) does = asked_one s (frame.Cancel q)
asked_by_others g past s (call.Fail q code content) does = asked_one s (frame.Error q code content)
asked_by_others g past s (call.Push metadata) does = ap (λ (c : Counts). c.asked) (counts_none s)
asked_by_others g past s (call.Lease ttl count metadata) does = ap (λ (c : Counts). c.asked) (counts_none s)
asked_by_others g past s (call.Take q) does = absurd does
asked_by_others g past s call.TakeJob does = absurd does
asked_by_others g past s call.Close does = ap (λ (c : Counts). c.asked) (counts_none s)

-- ---- the highest ids

highest_grows : (parity : ℕ) (more W : List Mark) → highest parity W ≤ highest parity (more ++ W)
unfolding highest
highest_grows parity [] W = omega arith
highest_grows parity (Opens s o ∷ more) W = let before = highest_grows parity more W in let on = higher_keeps parity s (highest parity (more ++ W)) in omega (arith, before, on)
highest_grows parity (Passed s ∷ more) W = let before = highest_grows parity more W in let on = higher_keeps parity s (highest parity (more ++ W)) in omega (arith, before, on)
highest_grows parity (m ∷ more) W = highest_grows parity more W

-- the marks of a call that starts nothing raise none
said_same : (parity : ℕ) (W : List Mark) (g : Settings) (t : Facts) (asked : Call) → Does g t (event.Asked asked) → highest parity (said 0 asked ++ W) ≡ highest parity W
unfolding highest
said_same parity W g t (call.Request kind initial message complete) does = absurd does
said_same parity W g t (call.Next q message complete) does = refl
said_same parity W g t (call.Done q) does = refl
said_same parity W g t (call.Grant q n) does = refl
said_same parity W g t (call.Cancel q) does = refl
said_same parity W g t (call.Fail q code content) does = refl
said_same parity W g t (call.Push metadata) does = refl
said_same parity W g t (call.Lease ttl count metadata) does = refl
said_same parity W g t (call.Take q) does = refl
said_same parity W g t call.TakeJob does = refl
said_same parity W g t call.Close does = refl

abbrev is_request : Frame → Bool
is_request (frame.Request r) = true
is_request f = false

-- nor does a frame that is no request
heard_same : (parity : ℕ) (W : List Mark) (covered : Bool) (gathered : ℕ → Gathered) (f : Frame) → is_request f ≡ false
    → highest parity (option_to_list (option_map heard (arrival_in covered gathered f)) ++ W) ≡ highest parity W
unfolding highest
heard_same parity W covered gathered (frame.Request r) other = absurd (cc)
heard_same parity W covered gathered (frame.Payload q true complete next message) other = refl
heard_same parity W covered gathered (frame.Payload q false complete next message) other = refl
heard_same parity W covered gathered (frame.Error q code content) other =
    elim (q == 0) as (λ v. highest parity (option_to_list (option_map heard (cond v None (Some (arrival.Failed q code content)))) ++ W) ≡ highest parity W) [ true ↦ refl | false ↦ refl ]
heard_same parity W covered gathered f other = refl

heard_raises : (parity : ℕ) (W : List Mark) (covered : Bool) (r : Request) → highest parity (heard (request_in covered r) ∷ W) ≡ higher parity r.stream (highest parity W)
unfolding highest
heard_raises parity W true r = refl
heard_raises parity W false r = refl

abbrev pub marks_of : Settings → List Entry → Answer → Event → List Mark
marks_of g past a e = marks_in (is_covered g past) (unfinished g past) a e

abbrev pub frames_of : Settings → List Entry → Answer → Event → List Frame
frames_of g past a e = makes g (is_covered g past) (known g past) a e

-- an entry raises the highest id of a parity to that of a request
abbrev Raises : Settings → List Entry → Answer → Event → ℕ → Type 0
Raises g past a e s = (parity : ℕ) → highest parity (marks_of g past a e ++ words g past) ≡ higher parity s (highest parity (words g past))

-- what an entry makes asks for the stream of a request that it starts, and for no other
pub data AsksFor (g : Settings) (past : List Entry) (a : Answer) (e : Event) : Type 0 where
  One : (r : Request) → r.stream ≡ next_id g.side (known g past) → frames_of g past a e ≡ in_fragments g.mtu (frame.Request r) → handles a e ≡ [] → Raises g past a e r.stream → AsksFor g past a e
  Another : (r : Request) → handles a e ≡ frame.Request r ∷ [] → Raises g past a e r.stream → ((s : ℕ) → asked_in s (frames_of g past a e) ≡ 0) → AsksFor g past a e
  Nobody : ((parity : ℕ) → highest parity (marks_of g past a e ++ words g past) ≡ highest parity (words g past)) → ((s : ℕ) → asked_in s (frames_of g past a e) ≡ 0) → AsksFor g past a e

nothing_asked : (s : ℕ) → asked_in s [] ≡ 0
nothing_asked s = ap (λ (c : Counts). c.asked) (counts_none s)

pub asks_for : (g : Settings) (past : List Entry) (a : Answer) (e : Event) → Means g (facts g past) e a → AsksFor g past a e
unfolding facts highest
asks_for g past (answer.Started id) (event.Asked (call.Request kind initial message complete)) means = One _ means.next refl refl (λ parity. refl)
asks_for g past (answer.Started id) e means = absurd means
asks_for g past answer.Done (event.Asked asked) means =
    Nobody (λ parity. said_same parity (words g past) g (facts g past) asked means) (λ s. asked_by_others g past s asked means)
asks_for g past answer.Done e means = absurd means
asks_for g past (answer.Got d) (event.Asked (call.Take q)) means = Nobody (λ parity. refl) nothing_asked
asks_for g past (answer.Got d) e means = absurd means
asks_for g past (answer.GotJob job) (event.Asked call.TakeJob) means = Nobody (λ parity. refl) nothing_asked
asks_for g past (answer.GotJob job) e means = absurd means
asks_for g past answer.Handled (event.Came conn (frame.Request r)) means =
    Another r refl (λ parity. heard_raises parity (words g past) (is_covered g past) r)
    (λ s. ap (λ (c : Counts). c.asked) (away_none s r.stream (turned_away_for g (is_covered g past) (known g past) r)))
asks_for g past answer.Handled (event.Came conn f) means = Nobody (λ parity. heard_same parity (words g past) (is_covered g past) (unfinished g past) f refl) nothing_asked
asks_for g past answer.Handled e means = absurd means
asks_for g past a e means = Nobody (λ parity. refl) nothing_asked

-- ---- an id that was asked for is no higher than the highest

asked_before : (s a b : ℕ) (same : Bool) → b ≡ one_if same → same ≡ false → 1 ≤ a + b → 1 ≤ a
asked_before s a b true is other some = absurd (cc)
asked_before s a b false is other some = omega (arith, is)

below_step : (g : Settings) (past : List Entry) (a : Answer) (e : Event) (s n : ℕ) → AsksFor g past a e → (1 ≤ n → s ≤ highest (s % 2) (words g past)) → 1 ≤ n + asked_in s (frames_of g past a e)
    → s ≤ highest (s % 2) (marks_of g past a e ++ words g past)
below_step g past a e s n (One r next made none raises) before some =
    rw (raises (s % 2)) (elim (r.stream == s) as (λ v. (r.stream == s) ≡ v → s ≤ higher (s % 2) r.stream (highest (s % 2) (words g past))) [
      | true ↦ λ is. subst (λ (i : ℕ). s ≤ higher (s % 2) i (highest (s % 2) (words g past))) (sym (eqb-true r.stream s is)) (higher_reaches s (highest (s % 2) (words g past)))
      | false ↦ λ is.
          let asked = ap (asked_in s) made ∙ asked_by_request s g.mtu r in
          let le = before (asked_before s n (asked_in s (frames_of g past a e)) (r.stream == s) asked is some) in
          let on = higher_keeps (s % 2) r.stream (highest (s % 2) (words g past)) in
          omega (arith, le, on)
    ] refl)
below_step g past a e s n (Another r handled raises none) before some =
    let zero = none s in
    let le = before (omega (arith, zero, some)) in
    let on = highest_grows (s % 2) (marks_of g past a e) (words g past) in
    omega (arith, le, on)
below_step g past a e s n (Nobody same none) before some =
    let zero = none s in
    let le = before (omega (arith, zero, some)) in
    let on = highest_grows (s % 2) (marks_of g past a e) (words g past) in
    omega (arith, le, on)

pub asked_below : (g : Settings) (past : List Entry) (s : ℕ) → Legal g past → 1 ≤ asked_in s (made g past) → s ≤ highest (s % 2) (words g past)
unfolding Legal made heard_in counts total
asked_below g [] s legal some = absurd (omega (arith, some))
asked_below g (x ∷ past) s legal some =
    below_step g past x.answer x.event s (asked_in s (made g past)) (asks_for g past x.answer x.event (last_means g x past legal)) (asked_below g past s legal.0)
    (subst (λ (n : ℕ). 1 ≤ n) (asked_more s (made g past) (frames_of g past x.answer x.event)) some)

-- ---- the highest id of the peer's was asked for

-- no id of this end's has that parity
abbrev pub IsPeersParity : Side → ℕ → Type 0
IsPeersParity side p = (s : ℕ) → is_own_parity side s ≡ true → (s % 2 == p) ≡ false

-- the id is 0, or one of these frames asks for it
abbrev pub WasAsked : List Frame → ℕ → Type 0
WasAsked fs s = (s ≡ 0) ⊎ (1 ≤ asked_in s fs)

asked_still : (fs more : List Frame) (s : ℕ) → WasAsked fs s → WasAsked (fs ++ more) s
asked_still fs more s (inl zero) = inl zero
asked_still fs more s (inr some) = let both = asked_more s fs more in inr (omega (arith, some, both))

larger_of : (fs : List Frame) (r : Request) (high : ℕ) → WasAsked fs high → WasAsked (fs ++ frame.Request r ∷ []) (max r.stream high)
larger_of fs r high was = elim (cases_lt high r.stream) [
  | inl less ↦
      let same : max r.stream high ≡ r.stream = omega arith in
      let one : asked_in r.stream (frame.Request r ∷ []) ≡ 1 = asked_one r.stream (frame.Request r) ∙ rw (same_id r.stream) refl in
      let both = asked_more r.stream fs (frame.Request r ∷ []) in
      subst (WasAsked (fs ++ frame.Request r ∷ [])) (sym same) (inr (omega (arith, one, both)))
  | inr more ↦ let same : max r.stream high ≡ high = omega arith in subst (WasAsked (fs ++ frame.Request r ∷ [])) (sym same) (asked_still fs (frame.Request r ∷ []) high was)
]

handled_step : (g : Settings) (past : List Entry) (a : Answer) (e : Event) (p : ℕ) → IsPeersParity g.side p → AsksFor g past a e → WasAsked (handled past) (highest p (words g past))
    → WasAsked (handled past ++ handles a e) (highest p (marks_of g past a e ++ words g past))
handled_step g past a e p peers (One r next made none raises) was =
    let own : is_own_parity g.side r.stream ≡ true = subst (λ (i : ℕ). is_own_parity g.side i ≡ true) (sym next) (next_own g.side g.max_streams (words g past)) in
    let same : higher p r.stream (highest p (words g past)) ≡ highest p (words g past) = rw (peers r.stream own) refl in
    subst (WasAsked (handled past ++ handles a e)) (sym (raises p ∙ same)) (asked_still (handled past) (handles a e) (highest p (words g past)) was)
handled_step g past a e p peers (Another r handled_one raises none) was =
    subst (WasAsked (handled past ++ handles a e)) (sym (raises p)) (subst (λ l. WasAsked (handled past ++ l) (higher p r.stream (highest p (words g past)))) (sym handled_one)
    (elim (r.stream % 2 == p) as (λ v. WasAsked (handled past ++ frame.Request r ∷ []) (cond v (max r.stream (highest p (words g past))) (highest p (words g past)))) [
      | true ↦ larger_of (handled past) r (highest p (words g past)) was
      | false ↦ asked_still (handled past) (frame.Request r ∷ []) (highest p (words g past)) was
    ]))
handled_step g past a e p peers (Nobody same none) was = subst (WasAsked (handled past ++ handles a e)) (sym (same p)) (asked_still (handled past) (handles a e) (highest p (words g past)) was)

pub highest_handled : (g : Settings) (past : List Entry) (p : ℕ) → Legal g past → IsPeersParity g.side p → WasAsked (handled past) (highest p (words g past))
unfolding Legal handled heard_in highest
highest_handled g [] p legal peers = inl refl
highest_handled g (x ∷ past) p legal peers =
    handled_step g past x.answer x.event p peers (asks_for g past x.answer x.event (last_means g x past legal)) (highest_handled g past p legal.0 peers)
