-- What one event comes to, and why.
use Rattle.std.proofs.Common.{◌≡◌, ◌≤◌, ◌^◌, ◌∙◌, inl, inr, ℕ, Bool, true, false, cond, List, [], ◌∷◌, length, Option, refl, sym, ap, subst, arith, true≢false}
use Rattle.std.proofs.lemmas.List.{length-append}
use Rattle.std.proofs.lemmas.Bool.Decides.{nat_tests}
use Rattle.rs_wire.specs.declared.settings.Settings.{Settings}
use Rattle.tape.specs.Answers.{leaves}
use Rattle.tape.specs.Told.{entry_of}
use Rattle.tape.specs.declared.entry.Entry.{Entry}
use Rattle.tape.specs.declared.event.Event.{Event}
use Rattle.tape.specs.declared.event.Event.TheVariants as event
use Rattle.tape.specs.declared.answer.Answer.{Answer}
use Rattle.tape.specs.declared.answer.Answer.TheVariants as answer
use Rattle.session_model.specs.Answers.{answer_to, facts}
use Rattle.session_model.specs.Legal.{CanBring}
use Rattle.session_model.specs.Means.{Means}
use Rattle.session_model.proofs.Meaning.{meaning}
use Rattle.session_core.specs.Seen.{IsNoDrawEvent, IsOrOutOfMemory}
use Rattle.conn_shared.specs.Calls.{IsCalled}
use Rattle.conn_shared.specs.Members.{Continues, Knowledge}
use Rattle.link_model.specs.Carrying.{Between}
use Rattle.link_model.specs.Reading.{IsInFront}
use Rattle.pump.specs.declared.bringing.Brought.{Brought}
use Rattle.pump.specs.declared.bringing.Brought.TheVariants as brings
use Rattle.pump.specs.Turns.{Arrives, BroughtFor, HasArrived, HasBrought, IfBusy, IfDone, IsPumped, Names, Ticks, WasNoted, after_some, brought_by, leaves_by}
use Rattle.pump.proofs.Adding.{called_continues, continues_both, continues_same}

pub leaves_is : (a : Answer) → leaves a ≡ leaves_by (brought_by a)
leaves_is answer.NotYet = refl
leaves_is (answer.OutBusy q) = refl
leaves_is (answer.Stale n) = refl
leaves_is (answer.Dead n) = refl
leaves_is answer.TapeFull = refl
leaves_is answer.OutOfMemory = refl
leaves_is _ = refl

-- ---- causes

was_noted : (P : Event → Type 0) (g : Settings) (me : Knowledge) (e : Event) (a : Answer) (new : List Entry) → P e → (c : IsCalled g me e a new) → a ≡ answer_to g c.before e → Continues (entry_of me.number e a ∷ c.before) new → WasNoted P g me new a
was_noted P g me e a new p c is until = record {
  entry = entry_of me.number e a;
  before = c.before;
  is = p;
  answered = refl;
  own = refl;
  right = is;
  since = (c.follows.0, c.follows.1);
  until = until;
}

pub longer_still : (d e : List Entry) → Continues d e → 2 ^ 63 ≤ length d → 2 ^ 63 ≤ length e
longer_still d e k le = subst (λ t. 2 ^ 63 ≤ length t) (sym k.1) (omega (arith, length-append k.0 d, le))

pub brought_for : (P : Event → Type 0) (g : Settings) (me : Knowledge) (e : Event) (b : Brought) (new : List Entry) → P e → HasBrought g me e b new → BroughtFor P g me new b
brought_for P g me e b new p h = subst (BroughtFor P g me new) (sym h.is) (by_answer h.answer h.called)
  where
    by_answer : (a : Answer) → (c : IsCalled g me e a new) → BroughtFor P g me new (brought_by a)
    by_answer (answer.Stale n) c = was_noted P g me e (answer.Stale n) new p c c.step.answered ([], c.step.after)
    by_answer (answer.Dead n) c = was_noted P g me e (answer.Dead n) new p c c.step.answered ([], c.step.after)
    by_answer answer.TapeFull c = longer_still c.before new (called_continues g me e answer.TapeFull new c) (c.step.full.0 refl)
    by_answer _ c = tt

-- the cause over a longer stretch, of which less is said
pub was_wider : (P Q : Event → Type 0) (g : Settings) (was me : Knowledge) (d e : List Entry) (x : Answer) → ((v : Event) → P v → Q v) → me.number ≡ was.number → Continues was.front me.front → Continues d e → WasNoted P g me d x → WasNoted Q g was e x
was_wider P Q g was me d e x f number h k w = record {
  entry = w.entry;
  before = w.before;
  is = f w.entry.event w.is;
  answered = w.answered;
  own = w.own ∙ number;
  right = w.right;
  since = continues_both was.front me.front w.before h w.since;
  until = continues_both (w.entry ∷ w.before) d e w.until k;
}

pub brought_wider : (P Q : Event → Type 0) (g : Settings) (was me : Knowledge) (d e : List Entry) (x : Brought) → ((v : Event) → P v → Q v) → me.number ≡ was.number → Continues was.front me.front → Continues d e → BroughtFor P g me d x → BroughtFor Q g was e x
brought_wider P Q g was me d e (brings.Displaced n) f number h k w = was_wider P Q g was me d e (answer.Stale n) f number h k w
brought_wider P Q g was me d e (brings.Dead n) f number h k w = was_wider P Q g was me d e (answer.Dead n) f number h k w
brought_wider P Q g was me d e brings.TapeFull f number h k w = longer_still d e k w
brought_wider P Q g was me d e _ f number h k w = tt

-- ---- what came

pub arrives_names : (c : ℕ) (e : Event) → Arrives c e → Names c e
arrives_names c (event.Came conn f) h = grind (arith, nat_tests, h)
arrives_names c (event.Bad conn rule) h = grind (arith, nat_tests, h)
arrives_names c _ h = absurd h

pub front_arrives : (c : ℕ) (bytes : List ℕ) (most : ℕ) (e : Event) → IsInFront c bytes most e → Arrives c e
front_arrives c bytes most (event.Came conn f) h = h.0
front_arrives c bytes most (event.Bad conn rule) h = h.0
front_arrives c bytes most _ h = absurd h

pub front_fair : (g : Settings) (c : ℕ) (bytes : List ℕ) (most : ℕ) (e : Event) → IsInFront c bytes most e → CanBring g e
front_fair g c bytes most (event.Came conn f) h = h.3
front_fair g c bytes most (event.Bad conn rule) h = (h.2, h.3)
front_fair g c bytes most _ h = absurd h

pub front_no_draw : (c : ℕ) (bytes : List ℕ) (most : ℕ) (e : Event) → IsInFront c bytes most e → IsNoDrawEvent e
front_no_draw c bytes most (event.Draw conn room) h = h
front_no_draw c bytes most _ h = tt

pub means_of : (g : Settings) (past : List Entry) (e : Event) (a : Answer) → a ≡ answer_to g past e → Means g (facts g past) e a
unfolding facts
means_of g past e a is = subst (Means g (facts g past) e) (sym is) (meaning g (facts g past) e)

-- a tick alone finds the peer dead
pub dead_ticks : (moments : Option (List ℕ)) (c : ℕ) (g : Settings) (me : Knowledge) (new : List Entry) (n : ℕ) → WasNoted (IsPumped moments c) g me new (answer.Dead n) → WasNoted (Ticks moments) g me new (answer.Dead n)
dead_ticks moments c g me new n w = record {
  entry = w.entry;
  before = w.before;
  is = ticks w.entry.event w.is (means_of g w.before w.entry.event (answer.Dead n) w.right);
  answered = w.answered;
  own = w.own;
  right = w.right;
  since = w.since;
  until = w.until;
}
  where
    ticks : (e : Event) → IsPumped moments c e → Means g (facts g w.before) e (answer.Dead n) → Ticks moments e
    ticks e (inl h) m = h
    ticks (event.Draw conn room) (inr h) m = absurd m
    ticks (event.Came conn f) (inr h) m = absurd m
    ticks (event.Bad conn rule) (inr h) m = absurd m
    ticks (event.Tick now) (inr h) m = absurd (true≢false (sym h))
    ticks (event.Open first taken) (inr h) m = absurd m
    ticks (event.Cut conn) (inr h) m = absurd m
    ticks (event.Asked call) (inr h) m = absurd m

-- a tick finds no other connection live
pub stale_names : (moments : Option (List ℕ)) (c : ℕ) (g : Settings) (me : Knowledge) (new : List Entry) (n : ℕ) → WasNoted (IsPumped moments c) g me new (answer.Stale n) → WasNoted (Names c) g me new (answer.Stale n)
stale_names moments c g me new n w = record {
  entry = w.entry;
  before = w.before;
  is = names w.entry.event w.is (means_of g w.before w.entry.event (answer.Stale n) w.right);
  answered = w.answered;
  own = w.own;
  right = w.right;
  since = w.since;
  until = w.until;
}
  where
    names : (e : Event) → IsPumped moments c e → Means g (facts g w.before) e (answer.Stale n) → Names c e
    names e (inr h) m = h
    names (event.Tick now) (inl h) m = absurd m
    names (event.Draw conn room) (inl h) m = absurd h
    names (event.Came conn f) (inl h) m = absurd h
    names (event.Bad conn rule) (inl h) m = absurd h
    names (event.Open first taken) (inl h) m = absurd h
    names (event.Cut conn) (inl h) m = absurd h
    names (event.Asked call) (inl h) m = absurd h

-- what comes is never told to wait for something to come
not_yet : (g : Settings) (past : List Entry) (c : ℕ) (e : Event) → Arrives c e → answer.NotYet ≡ answer_to g past e → ⊥
not_yet g past c (event.Came conn f) h is = means_of g past (event.Came conn f) answer.NotYet is
not_yet g past c (event.Bad conn rule) h is = means_of g past (event.Bad conn rule) answer.NotYet is
not_yet g past c _ h is = absurd h

abbrev is_nothing : Brought → Bool
is_nothing brings.Nothing = true
is_nothing _ = false

waited : (a : Answer) → is_nothing (brought_by a) ≡ true → a ≡ answer.NotYet
waited answer.NotYet h = refl
waited _ h = absurd (true≢false (sym h))

pub arrives_some : (g : Settings) (me : Knowledge) (c : ℕ) (e : Event) (b : Brought) (new : List Entry) → Arrives c e → HasBrought g me e b new → b ≡ brings.Nothing → ⊥
arrives_some g me c e b new h brought is =
    let wait : brought.answer ≡ answer.NotYet = waited brought.answer (ap is_nothing (sym brought.is ∙ is)) in
    not_yet g brought.called.before c e h (subst (λ a. IsOrOutOfMemory a (answer_to g brought.called.before e)) wait brought.called.step.answered)

-- an entry that is left says what came
pub arrived : (g : Settings) (me : Knowledge) (c : ℕ) (e : Event) (b : Brought) (new : List Entry) → Arrives c e → leaves_by b ≡ true → HasBrought g me e b new → HasArrived c me new
arrived g me c e b new h some brought =
    let called = brought.called in
    let left : leaves brought.answer ≡ true = leaves_is brought.answer ∙ (ap leaves_by (sym brought.is) ∙ some) in
    record {
      entry = entry_of me.number e brought.answer;
      before = called.before;
      arrives = h;
      own = refl;
      since = (called.follows.0, called.follows.1);
      until = subst (Continues (entry_of me.number e brought.answer ∷ called.before)) (sym (called.step.after ∙ left_one me.number e brought.answer called.before left)) (continues_same _);
    }
  where
    left_one : (n : ℕ) (x : Event) (a : Answer) (past : List Entry) → leaves a ≡ true → (cond (leaves a) (entry_of n x a ∷ past) past) ≡ entry_of n x a ∷ past
    left_one n x a past is = rw is refl

pub arrived_wider : (c : ℕ) (was me : Knowledge) (d new : List Entry) → me.number ≡ was.number → Continues was.front me.front → Continues d new → HasArrived c me d → HasArrived c was new
arrived_wider c was me d new number h k a = record {
  entry = a.entry;
  before = a.before;
  arrives = a.arrives;
  own = a.own ∙ number;
  since = continues_both was.front me.front a.before h a.since;
  until = continues_both (a.entry ∷ a.before) d new a.until k;
}

-- what finds no room leaves no entry
pub busy_by : (g : Settings) (me : Knowledge) (e : Event) (b : Brought) (new : List Entry) (x : Between) → IsInFront x.conn x.rest x.max_in e → HasBrought g me e b new → leaves_by b ≡ false → IfBusy g new x b
busy_by g me e b new x front h none = subst (IfBusy g new x) (sym h.is) (by_answer h.answer h.called)
  where
    by_answer : (a : Answer) → (c : IsCalled g me e a new) → IfBusy g new x (brought_by a)
    by_answer (answer.OutBusy q) c = record { event = e; front = front; answered = subst (λ es. answer.OutBusy q ≡ answer_to g es e) (sym c.step.after) c.step.answered }
    by_answer (answer.Stale n) c = tt
    by_answer (answer.Dead n) c = tt
    by_answer answer.NotYet c = tt
    by_answer answer.TapeFull c = tt
    by_answer answer.OutOfMemory c = tt
    by_answer _ c = tt

-- an answer that leaves an entry is not of a full queue
pub busy_none : (g : Settings) (past : List Entry) (x : Between) (b : Brought) → leaves_by b ≡ true → IfBusy g past x b
busy_none g past x (brings.Busy q) h = absurd (true≢false (sym h))
busy_none g past x _ h = tt

-- ---- after several

pub for_after : (P : Event → Type 0) (g : Settings) (a : Knowledge) (b : List Entry) (noted : Bool) (x : Brought) → BroughtFor P g a b x → BroughtFor P g a b (after_some noted x)
for_after P g a b true brings.Nothing h = tt
for_after P g a b true (brings.Displaced n) h = h
for_after P g a b true (brings.Dead n) h = h
for_after P g a b true brings.TapeFull h = h
for_after P g a b true _ h = tt
for_after P g a b false (brings.Displaced n) h = h
for_after P g a b false (brings.Dead n) h = h
for_after P g a b false brings.TapeFull h = h
for_after P g a b false _ h = tt

pub busy_after : (g : Settings) (past : List Entry) (x : Between) (noted : Bool) (b : Brought) → IfBusy g past x b → IfBusy g past x (after_some noted b)
busy_after g past x true brings.Nothing h = tt
busy_after g past x true (brings.Busy q) h = h
busy_after g past x true _ h = tt
busy_after g past x false (brings.Busy q) h = h
busy_after g past x false _ h = tt

pub done_after : (P : Type 0) (noted : Bool) (b : Brought) → (b ≡ brings.Noted → ⊥) → (b ≡ brings.Nothing → P) → IfDone (after_some noted b) P
done_after P true brings.Nothing none p = p refl
done_after P false brings.Nothing none p = p refl
done_after P true brings.Noted none p = absurd (none refl)
done_after P false brings.Noted none p = absurd (none refl)
done_after P true _ none p = tt
done_after P false _ none p = tt

-- it comes to Noted where something was noted before, and to Nothing where nothing was
pub noted_after : (noted : Bool) (b : Brought) → (b ≡ brings.Noted → ⊥) → after_some noted b ≡ brings.Noted → noted ≡ true
noted_after true b none is = refl
noted_after false b none is = absurd (none is)

pub nothing_after : (noted : Bool) (b : Brought) → after_some noted b ≡ brings.Nothing → (noted ≡ false) × (b ≡ brings.Nothing)
nothing_after false b is = (refl, is)
nothing_after true b is = absurd (some b is)
  where
    some : (b : Brought) → after_some true b ≡ brings.Nothing → ⊥
    some brings.Nothing is = true≢false (ap is_nothing (sym is))
    some brings.Noted is = true≢false (ap is_nothing (sym is))
    some (brings.Busy q) is = true≢false (ap is_nothing (sym is))
    some (brings.Displaced n) is = true≢false (ap is_nothing (sym is))
    some (brings.Dead n) is = true≢false (ap is_nothing (sym is))
    some brings.TapeFull is = true≢false (ap is_nothing (sym is))
    some brings.OutOfMemory is = true≢false (ap is_nothing (sym is))
