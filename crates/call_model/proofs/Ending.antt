-- When the end of a call has come, and what goes on until then.
use Rattle.std.proofs.lemmas.Bool.Decides.{nat_tests}
use Rattle.std.proofs.lemmas.Grind.{common_steps}
use Rattle.std.proofs.Common.{◌≡◌, ◌||◌, ◌∙◌, inl, inr, ℕ, Bool, true, false, true≢false, List, [], ◌∷◌, ◌++◌, Some, None, refl, sym, ap, subst, arith}
use Rattle.rs_wire.specs.declared.settings.Settings.{Settings}
use Rattle.rs_wire.specs.declared.words.Side.TheVariants.{Client}
use Rattle.rs_wire.specs.declared.delivery.Delivery.{Delivery}
use Rattle.rs_wire.specs.declared.call.Call.TheVariants as call
use Rattle.fragment.specs.Joining.{Gathered}
use Rattle.stream_model.specs.Marks.{Mark}
use Rattle.stream_model.specs.Streams.{turn}
use Rattle.tape.specs.declared.event.Event.{Event}
use Rattle.tape.specs.declared.event.Event.TheVariants as event
use Rattle.tape.specs.declared.answer.Answer.{Answer}
use Rattle.tape.specs.declared.answer.Answer.TheVariants as answer
use Rattle.tape.specs.declared.entry.Entry.{Entry}
use Rattle.session_model.specs.Leases.{is_covered}
use Rattle.session_model.specs.Streams.{heard_in, marks_in, unfinished, words}
use Rattle.session_model.specs.Answers.{answer_to, facts}
use Rattle.session_model.specs.Life.{setup, setup_in}
use Rattle.session_model.specs.Moments.{moment}
use Rattle.session_model.specs.Legal.{Fair, IsFair, Legal}
use Rattle.session_model.specs.Means.{Means}
use Rattle.session_model.proofs.Meaning.{last_means}
use Rattle.session_laws.specs.Streams.{IsLawful}
use Rattle.call_model.specs.Saying.{GetsNothing, delivered_of, delivered_on, got_on, has_end, is_end}
use Rattle.call_model.specs.Ran.{FindsDead, HasDied}
use Rattle.call_model.proofs.Takes.{taken_first, taken_whole}

-- ---- ends

pub end_more : (xs ys : List Delivery) → has_end xs ≡ true → has_end (xs ++ ys) ≡ true
end_more [] ys is = absurd (true≢false (sym is))
end_more (d ∷ xs) ys is = by (is_end d) refl (end_more xs ys)
  where
    by : (b : Bool) → is_end d ≡ b → (has_end xs ≡ true → has_end (xs ++ ys) ≡ true) → (is_end d || has_end (xs ++ ys)) ≡ true
    by true one more = rw one refl
    by false one more = rw one (more (sym (ap (λ b. b || has_end xs) one) ∙ is))

pub end_last : (xs : List Delivery) (d : Delivery) → has_end (xs ++ d ∷ []) ≡ (has_end xs || is_end d)
end_last [] d = never (is_end d)
  where
    never : (b : Bool) → (b || false) ≡ (false || b)
    never true = refl
    never false = refl
end_last (x ∷ xs) d = ap (λ b. is_end x || b) (end_last xs d) ∙ joins (is_end x) (has_end xs) (is_end d)
  where
    joins : (a b c : Bool) → (a || (b || c)) ≡ ((a || b) || c)
    joins true b c = refl
    joins false b c = refl

-- what was taken has an end, and so has what was delivered
pub ended_on : (g : Settings) (past : List Entry) (s : ℕ) → IsLawful g past → has_end (got_on past s) ≡ true → has_end (delivered_on g past s) ≡ true
ended_on g past s h is = let p = taken_first g past s h in subst (λ (l : List Delivery). has_end l ≡ true) p.1 (end_more (got_on past s) p.0 is)

-- all was taken, and no end was among it
pub goes_on_on : (g : Settings) (past : List Entry) (s : ℕ) → IsLawful g past → GetsNothing (answer_to g past (event.Asked (call.Take s))) → has_end (got_on past s) ≡ false → has_end (delivered_on g past s) ≡ false
goes_on_on g past s h gets is = subst (λ (l : List Delivery). has_end l ≡ false) (taken_whole g past s h gets) is

-- ---- entries that deliver nothing

abbrev pub says_none : Answer → Event → Type 0
says_none a e = (covered : Bool) (held : ℕ → Gathered) → marks_in covered held a e ≡ []

words_same : (g : Settings) (past : List Entry) (x : Entry) → says_none x.answer x.event → words g (x ∷ past) ≡ words g past
unfolding heard_in
words_same g past x none = rw (none (is_covered g past) (unfinished g past)) refl

pub delivered_same : (g : Settings) (past : List Entry) (x : Entry) (s : ℕ) → says_none x.answer x.event → delivered_on g (x ∷ past) s ≡ delivered_on g past s
delivered_same g past x s none = ap (λ (w : List Mark). delivered_of (turn g.max_streams w s)) (words_same g past x none)

pub cut_says_none : (a : Answer) (c : ℕ) → says_none a (event.Cut c)
cut_says_none answer.Handled c covered held = refl
cut_says_none (answer.Started id) c covered held = refl
cut_says_none answer.Done c covered held = refl
cut_says_none (answer.Got d) c covered held = refl
cut_says_none (answer.GotJob j) c covered held = refl
cut_says_none _ c covered held = refl

pub tick_says_none : (a : Answer) (now : ℕ) → says_none a (event.Tick now)
tick_says_none answer.Handled now covered held = refl
tick_says_none (answer.Started id) now covered held = refl
tick_says_none answer.Done now covered held = refl
tick_says_none (answer.Got d) now covered held = refl
tick_says_none (answer.GotJob j) now covered held = refl
tick_says_none _ now covered held = refl

pub refused_says_none : (why : _) (e : Event) → says_none (answer.Refused why) e
refused_says_none why e covered held = refl

-- ---- a peer that is dead

setup_none : (g : Settings) (past : List Entry) → g.side ≡ Client → Fair g past → setup past ≡ None
unfolding setup Fair
setup_none g [] client fair = refl
setup_none g (x ∷ past) client fair = rw (setup_none g past client fair.0, none_in x.answer x.event fair.1) refl
  where
    none_in : (a : Answer) (e : Event) → IsFair g e → setup_in a e ≡ None
    none_in (answer.Opened n) (event.Open None taken) f = refl
    none_in (answer.Opened n) (event.Open (Some first) taken) f = (let server = f.0 in absurd (cc))
    none_in a e f = grind (arith, common_steps)

pub dead_late : (g : Settings) (past : List Entry) (x : Entry) (now last : ℕ) → g.side ≡ Client → IsLawful g (x ∷ past) → x.event ≡ event.Tick now → x.answer ≡ answer.Dead last → FindsDead g past x last
unfolding Legal Fair facts moment
dead_late g past x now last client h is dead =
    let m : Means g (facts g past) (event.Tick now) (answer.Dead last) = subst (λ (a : Answer). Means g (facts g past) (event.Tick now) a) dead (subst (λ (e : Event). Means g (facts g past) e x.answer) is (last_means g x past h.legal)) in
    let none = setup_none g past client h.fair.0 in
    let due = m.due in
    record {
      now = now;
      tick = is;
      dead = dead;
      late = rw is (grind (arith, nat_tests, common_steps, none, due));
    }

pub died_more : (g : Settings) (more past : List Entry) (last : ℕ) → HasDied g past last → HasDied g (more ++ past) last
unfolding HasDied
died_more g [] past last h = h
died_more g (x ∷ more) past last h = inr (died_more g more past last h)

pub died_here : (g : Settings) (past : List Entry) (x : Entry) (last : ℕ) → FindsDead g past x last → HasDied g (x ∷ past) last
unfolding HasDied
died_here g past x last h = inl h
