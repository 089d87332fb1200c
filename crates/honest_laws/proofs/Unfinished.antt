-- Whether what came of a message that is not whole yet has N: only where a fragment had it that was handled since the last whole message.
use Rattle.std.proofs.Common.{◌≡◌, ◌-◌, ◌==◌, ◌||◌, ℕ, zero, suc, Bool, true, false, cond, if◌then◌else◌, List, [], ◌∷◌, ◌++◌, Option, Some, None, refl, ap, sym, subst, ◌∙◌, arith}
use Rattle.std.specs.Prelude.{nat_le, nat_lt}
use Rattle.std.proofs.lemmas.Grind.{common_steps}
use Rattle.rs_wire.specs.declared.message.Message.{Message}
use Rattle.rs_wire.specs.declared.settings.Settings.{Settings}
use Rattle.rs_wire.specs.declared.call.Call.{Call}
use Rattle.rs_wire.specs.declared.call.Call.TheVariants as call
use Rattle.rs_frame.specs.declared.frame.Frame.{Frame}
use Rattle.rs_frame.specs.declared.frame.Frame.TheVariants as frame
use Rattle.rs_frame.specs.declared.frame.Request.{Request}
use Rattle.rs_frame.specs.Spelling.{length_of}
use Rattle.tape.specs.declared.event.Event.{Event}
use Rattle.tape.specs.declared.event.Event.TheVariants as event
use Rattle.tape.specs.declared.answer.Answer.{Answer}
use Rattle.tape.specs.declared.answer.Answer.TheVariants as answer
use Rattle.tape.specs.declared.entry.Entry.{Entry}
use Rattle.fragment.specs.Joining.{Gathered, left_held, nothing, with_part}
use Rattle.fragment.specs.Splitting.{first_fragment, fragments, left_part, rest_after}
use Rattle.stream_model.specs.Known.{hears_on, known as known_after}
use Rattle.session_model.specs.Leases.{is_covered}
use Rattle.session_model.specs.Streams.{gathers, gathers_of, heard_in, known, turned_away_for, unfinished, words}
use Rattle.session_model.specs.Frames.{handled, handles, in_fragments, made, makes, sent_as, spoken, turned_away_with}
use Rattle.session_model.specs.Answers.{facts}
use Rattle.session_model.specs.Legal.{Legal}
use Rattle.session_model.specs.Means.{Does, Means}
use Rattle.session_model.proofs.Meaning.{last_means}
use Rattle.honest_laws.proofs.Counts.{Asking, Cut, Whole, asking}

-- whether a fragment had N on the stream s since the last whole message there, after a frame more
abbrev pub next_after : ℕ → Bool → Frame → Bool
next_after s b (frame.Request r) = if r.stream == s then (if r.follows then b else false) else b
next_after s b (frame.Payload q follows complete next message) = if q == s then (if follows then b || next else false) else b
next_after s b f = b

unfoldable pub nexts : ℕ → Bool → List Frame → Bool
nexts s b [] = b
nexts s b (f ∷ fs) = nexts s (next_after s b f) fs

nexts_more : (s : ℕ) (b : Bool) (xs ys : List Frame) → nexts s b (xs ++ ys) ≡ nexts s (nexts s b xs) ys
unfolding nexts
nexts_more s b [] ys = refl
nexts_more s b (x ∷ xs) ys = nexts_more s (next_after s b x) xs ys

-- ---- what is gathered

part_next : (follows b next : Bool) (held : Gathered) (m : Message) (c : Bool) → (held.next ≡ true → b ≡ true) → (left_held follows (with_part held m c next)).next ≡ true → cond follows (b || next) false ≡ true
part_next true b true held m c before is = grind (arith, common_steps)
part_next true b false held m c before is = let had : held.next ≡ true = grind (arith, common_steps) in rw (before had) refl
part_next false b next held m c before is = absurd (cc)

or_false : (b : Bool) → (b || false) ≡ true → b ≡ true
or_false true is = refl
or_false false is = absurd (cc)

request_next : (follows b : Bool) (held : Gathered) (m : Message) (c : Bool) → (held.next ≡ true → b ≡ true) → (left_held follows (with_part held m c false)).next ≡ true → cond follows b false ≡ true
request_next true b held m c before is = before (or_false held.next is)
request_next false b held m c before is = absurd (cc)

next_more : (s : ℕ) (held : Gathered) (b : Bool) (f : Frame) → (held.next ≡ true → b ≡ true) → (gathers_of f s held).next ≡ true → next_after s b f ≡ true
next_more s held b (frame.Request r) before is =
    elim (r.stream == s) as (λ v. (cond v (left_held r.follows (with_part held r.message r.complete false)) held).next ≡ true → cond v (cond r.follows b false) b ≡ true) [
      | true ↦ λ is. request_next r.follows b held r.message r.complete before is
      | false ↦ λ is. before is
    ] is
next_more s held b (frame.Payload q follows complete next m) before is =
    elim (q == s) as (λ v. (cond v (left_held follows (with_part held m complete next)) held).next ≡ true → cond v (cond follows (b || next) false) b ≡ true) [
      | true ↦ λ is. part_next follows b next held m complete before is
      | false ↦ λ is. before is
    ] is
next_more s held b f before is = before is

error_next : (s : ℕ) (b counts_it : Bool) (q code : ℕ) (content : List ℕ) → nexts s b (cond counts_it (frame.Error q code content ∷ []) []) ≡ b
unfolding nexts
error_next s b true q code content = refl
error_next s b false q code content = refl

entry_next : (s : ℕ) (held : Gathered) (b : Bool) (a : Answer) (e : Event) → (held.next ≡ true → b ≡ true) → (gathers a e s held).next ≡ true → nexts s b (handles a e) ≡ true
unfolding nexts
entry_next s held b answer.Handled (event.Came conn (frame.Request r)) before is = next_more s held b (frame.Request r) before is
entry_next s held b answer.Handled (event.Came conn (frame.Payload q follows complete next m)) before is = next_more s held b (frame.Payload q follows complete next m) before is
entry_next s held b answer.Handled (event.Came conn (frame.Error q code content)) before is = error_next s b (nat_lt 0 q) q code content ∙ before is
entry_next s held b answer.Handled (event.Came conn f) before is = before is
entry_next s held b a e before is = before is

masked_next : (hears : Bool) (held : Gathered) → (cond hears held nothing).next ≡ true → held.next ≡ true
masked_next true held is = is
masked_next false held is = absurd (cc)

-- what is gathered has N only where a fragment had it
pub unfinished_next : (g : Settings) (past : List Entry) (s : ℕ) → (unfinished g past s).next ≡ true → nexts s false (handled past) ≡ true
unfolding heard_in handled nexts
unfinished_next g [] s is = absurd (cc)
unfinished_next g (x ∷ past) s is =
    let had = masked_next (hears_on ((known_after g.max_streams (words g (x ∷ past))).kept s)) (gathers x.answer x.event s (unfinished g past s)) is in
    nexts_more s false (handled past) (handles x.answer x.event)
    ∙ entry_next s (unfinished g past s) (nexts s false (handled past)) x.answer x.event (unfinished_next g past s) had

-- ---- what is made

either_false : (b : Bool) → cond b false false ≡ false
either_false true = refl
either_false false = refl

fragments_next : (n mtu s q : ℕ) (complete next : Bool) (m : Message) (b : Bool) → nexts s b (fragments n mtu (frame.Payload q false complete next m)) ≡ cond (q == s) false b
unfolding nexts fragments
fragments_next zero mtu s q complete next m b = refl
fragments_next (suc n) mtu s q complete next m b =
    let f = frame.Payload q false complete next m in
    elim (nat_le (length_of f) mtu) as (λ v. nexts s b (cond v (f ∷ []) (first_fragment mtu f ∷ fragments n mtu (rest_after mtu f))) ≡ cond (q == s) false b) [
      | true ↦ refl
      | false ↦
          fragments_next n mtu s q complete next (left_part (mtu - 6) m) (cond (q == s) (b || next) b)
          ∙ elim (q == s) as (λ v. cond v false (cond v (b || next) b) ≡ cond v false b) [ true ↦ refl | false ↦ refl ]
    ]

payload_next : (mtu s q : ℕ) (complete next : Bool) (m : Message) → nexts s false (in_fragments mtu (frame.Payload q false complete next m)) ≡ false
unfolding nexts
payload_next mtu s q complete next m =
    let f = frame.Payload q false complete next m in
    elim (mtu == 0) as (λ v. nexts s false (cond v (f ∷ []) (fragments (length_of f) mtu f)) ≡ false) [
      | true ↦ either_false (q == s)
      | false ↦ fragments_next (length_of f) mtu s q complete next m false ∙ either_false (q == s)
    ]

never_next : (b : Bool) → cond b false (cond b false false) ≡ false
never_next true = refl
never_next false = refl

asking_next : (s : ℕ) (r : Request) (fs : List Frame) → Asking r fs → r.follows ≡ false → nexts s false fs ≡ false
unfolding nexts
asking_next s r fs (Whole e) whole = rw (e, whole) (either_false (r.stream == s))
asking_next s r fs (Cut part rest n mtu e) whole =
    subst (λ (l : List Frame). nexts s false l ≡ false) (sym e)
    (fragments_next n mtu s r.stream r.complete true rest (cond (r.stream == s) false false) ∙ never_next (r.stream == s))

done_next : (g : Settings) (past : List Entry) (s : ℕ) (asked : Call) → Does g (facts g past) (event.Asked asked) → nexts s false (sent_as g (spoken (known g past) 0 asked)) ≡ false
unfolding nexts
done_next g past s (call.Request kind initial message complete) does = absurd does
done_next g past s (call.Next q message complete) does = payload_next g.mtu s q _ true message
done_next g past s (call.Done q) does = payload_next g.mtu s q true false _
done_next g past s (call.Grant q n) does = refl
done_next g past s (call.Cancel q) does = refl
done_next g past s (call.Fail q code content) does = refl
done_next g past s (call.Push metadata) does = refl
done_next g past s (call.Lease ttl count metadata) does = refl
done_next g past s (call.Take q) does = absurd does
done_next g past s call.TakeJob does = absurd does
done_next g past s call.Close does = refl

away_next : (s q : ℕ) (word : Option (List ℕ)) → nexts s false (turned_away_with q word) ≡ false
unfolding nexts
away_next s q None = refl
away_next s q (Some word) = refl

makes_next : (g : Settings) (past : List Entry) (s : ℕ) (a : Answer) (e : Event) → Means g (facts g past) e a → nexts s false (makes g (is_covered g past) (known g past) a e) ≡ false
unfolding nexts facts
makes_next g past s (answer.Started id) (event.Asked (call.Request kind initial message complete)) means = asking_next s _ _ (asking g.mtu _) refl
makes_next g past s (answer.Started id) e means = absurd means
makes_next g past s answer.Done (event.Asked asked) means = done_next g past s asked means
makes_next g past s answer.Done e means = absurd means
makes_next g past s answer.Handled (event.Came conn (frame.Request r)) means = away_next s r.stream (turned_away_for g (is_covered g past) (known g past) r)
makes_next g past s a e means = refl

-- between two entries no message that an end makes is open
pub made_next : (g : Settings) (past : List Entry) (s : ℕ) → Legal g past → nexts s false (made g past) ≡ false
unfolding Legal made nexts
made_next g [] s legal = refl
made_next g (x ∷ past) s legal =
    let new = makes g (is_covered g past) (known g past) x.answer x.event in
    nexts_more s false (made g past) new ∙ (ap (λ b. nexts s b new) (made_next g past s legal.0) ∙ makes_next g past s x.answer x.event (last_means g x past legal))
