-- Why a turn came out as it did, from what its parts said.
use Rattle.std.proofs.Common.{◌≡◌, ◌∙◌, ◌≤◌, ◌<◌, ◌+◌, ◌⊎◌, inl, inr, ℕ, true, false, List, [], length, Option, Some, None, refl, sym, ap, subst, arith, append-nil, true≢false}
use Rattle.std.specs.Io.KnownBytes.{append_known}
use Rattle.rs_wire.specs.declared.fault.Cause.{Cause}
use Rattle.rs_wire.specs.declared.settings.Settings.{Settings}
use Rattle.outside.specs.Causes.{Rose}
use Rattle.outside.specs.Links.{Counts, NoneFell, Shown}
use Rattle.tape.specs.declared.entry.Entry.{Entry}
use Rattle.tape.specs.declared.answer.Answer.TheVariants as answer
use Rattle.session_model.specs.Frames.{queued}
use Rattle.session_model.specs.Life.{closed}
use Rattle.conn_shared.specs.declared.looked.Looked.{Looked}
use Rattle.conn_shared.specs.Members.{Continues, Follows, Knowledge}
use Rattle.link_model.specs.Carrying.{Between}
use Rattle.pump.specs.declared.bringing.Brought.{Brought}
use Rattle.pump.specs.declared.bringing.Brought.TheVariants as brings
use Rattle.pump.specs.declared.outgoing.Gave.{Gave}
use Rattle.pump.specs.declared.outgoing.Gave.TheVariants as gaves
use Rattle.pump.specs.declared.incoming.Took.{Took}
use Rattle.pump.specs.declared.incoming.Took.TheVariants as tooks
use Rattle.pump.specs.declared.turned.Turned.{Turned}
use Rattle.pump.specs.declared.turned.Turned.TheVariants as turned
use Rattle.pump.specs.Moves.{HasGave, HasGrown, HasTook, IsGrown, given_in, taken_in}
use Rattle.pump.specs.Parts.{RulesOutOf, SomeMoved, SumsUp, is_fine}
use Rattle.pump.specs.Turns.{BroughtFor, HasArrived, IfBusy, IfDone, IsEmptied, IsPumped, IsReadOut, Names, RulesOut, Ticks, TurnedFor, WasBusy, ended_by, is_done, is_ended, is_early, is_last, is_over}
use Rattle.pump.specs.Runs.{HasLulled, RanFor, lulls_in}
use Rattle.pump.specs.declared.numbers.TheConstants.{PIECE}
use Rattle.pump.proofs.Adding.{continues_both, continues_same}
use Rattle.pump.proofs.Events.{arrived_wider, dead_ticks, longer_still, stale_names, was_wider}
use Rattle.pump.proofs.Drawing.{none_left}

-- ---- bytes and counts

nothing_more : (o : Option (List ℕ)) → append_known o [] ≡ o
nothing_more None = refl
nothing_more (Some xs) = ap Some (append-nil xs)

grown_none : (old new : Option (List ℕ)) → new ≡ old → IsGrown 0 old new
grown_none old new is = ([], refl, is ∙ sym (nothing_more old))

pub gave_grown : (s m : Shown) (gave : Gave) → HasGave s m gave → IsGrown (given_in gave) s.given m.given
gave_grown s m gaves.Nothing h = grown_none s.given m.given (ap (λ (x : Shown). x.given) h)
gave_grown s m (gaves.Count n) h = h.2
gave_grown s m gaves.Stalled h = grown_none s.given m.given h.0
gave_grown s m gaves.Failed h = grown_none s.given m.given h.0

pub took_grown : (m t : Shown) (gave : Gave) (took : Took) → is_fine gave took ≡ true → HasTook m t took → IsGrown (taken_in took) m.taken t.taken
took_grown m t gave tooks.Nothing fine h = grown_none m.taken t.taken (ap (λ (x : Shown). x.taken) h)
took_grown m t gave (tooks.Count n) fine h = h.2
took_grown m t gave tooks.Lull fine h = grown_none m.taken t.taken h.0
took_grown m t gave tooks.End fine h = grown_none m.taken t.taken h.0
took_grown m t gave tooks.Failed fine h = grown_none m.taken t.taken h.0
took_grown m t gave tooks.OutOfMemory fine h = absurd (true≢false (sym fine))

pub no_more : (o : Option (List ℕ)) → HasGrown o o
no_more o = ([], sym (nothing_more o))

pub gave_more : (s m : Shown) (gave : Gave) → HasGave s m gave → HasGrown s.given m.given
gave_more s m gave h = let grown = gave_grown s m gave h in (grown.0, grown.2)

pub took_more : (m t : Shown) (took : Took) → HasTook m t took → HasGrown m.taken t.taken
took_more m t tooks.Nothing h = subst (HasGrown m.taken) (sym (ap (λ (x : Shown). x.taken) h)) (no_more m.taken)
took_more m t (tooks.Count n) h = (h.2.0, h.2.2)
took_more m t tooks.Lull h = subst (HasGrown m.taken) (sym h.0) (no_more m.taken)
took_more m t tooks.End h = subst (HasGrown m.taken) (sym h.0) (no_more m.taken)
took_more m t tooks.Failed h = subst (HasGrown m.taken) (sym h.0) (no_more m.taken)
took_more m t tooks.OutOfMemory h = h

pub rose_from : (a b c : ℕ) → a ≤ b → Rose b c → Rose a c
rose_from a b c le (inl h) = inl (omega arith)
rose_from a b c le (inr h) = inr h

pub none_fell_both : (a b c : Counts) → NoneFell a b → NoneFell b c → NoneFell a c
none_fell_both a b c h k = record { faults = omega (arith, h.faults, k.faults); lulls = omega (arith, h.lulls, k.lulls); stalls = omega (arith, h.stalls, k.stalls); ends = omega (arith, h.ends, k.ends) }

pub none_fell : (a : Counts) → NoneFell a a
none_fell a = record { faults = omega arith; lulls = omega arith; stalls = omega arith; ends = omega arith }

-- ---- a turn that ended before bytes moved

pub ended_last : (b : Brought) (r : Turned) → ended_by b ≡ Some r → is_last r ≡ true
ended_last (brings.Displaced n) r is = let e : turned.Displaced n ≡ r = cc in ap is_last (sym e)
ended_last (brings.Dead n) r is = let e : turned.Dead n ≡ r = cc in ap is_last (sym e)
ended_last brings.TapeFull r is = let e : turned.TapeFull ≡ r = cc in ap is_last (sym e)
ended_last brings.OutOfMemory r is = let e : turned.OutOfMemory ≡ r = cc in ap is_last (sym e)
ended_last brings.Nothing r is = absurd (let e : None ≡ Some r = is in cc)
ended_last brings.Noted r is = absurd (let e : None ≡ Some r = is in cc)
ended_last (brings.Busy q) r is = absurd (let e : None ≡ Some r = is in cc)

pub ended_early : (b : Brought) (r : Turned) → ended_by b ≡ Some r → is_early r ≡ true
ended_early (brings.Displaced n) r is = let e : turned.Displaced n ≡ r = cc in ap is_early (sym e)
ended_early (brings.Dead n) r is = let e : turned.Dead n ≡ r = cc in ap is_early (sym e)
ended_early brings.TapeFull r is = let e : turned.TapeFull ≡ r = cc in ap is_early (sym e)
ended_early brings.OutOfMemory r is = let e : turned.OutOfMemory ≡ r = cc in ap is_early (sym e)
ended_early brings.Nothing r is = absurd (let e : None ≡ Some r = is in cc)
ended_early brings.Noted r is = absurd (let e : None ≡ Some r = is in cc)
ended_early (brings.Busy q) r is = absurd (let e : None ≡ Some r = is in cc)

pub none_ended : (b : Brought) → ended_by b ≡ None → is_ended b ≡ false
none_ended (brings.Displaced n) is = absurd (let e : Some (turned.Displaced n) ≡ None = is in cc)
none_ended (brings.Dead n) is = absurd (let e : Some (turned.Dead n) ≡ None = is in cc)
none_ended brings.TapeFull is = absurd (let e : Some turned.TapeFull ≡ None = is in cc)
none_ended brings.OutOfMemory is = absurd (let e : Some turned.OutOfMemory ≡ None = is in cc)
none_ended _ is = refl

-- what ends a turn at once rules out nothing
pub ruled_out : (g : Settings) (new : List Entry) (b : Between) (x : Brought) (r : Turned) → ended_by x ≡ Some r → RulesOut g new b r
ruled_out g new b (brings.Displaced n) r is = let e : turned.Displaced n ≡ r = cc in subst (RulesOut g new b) e tt
ruled_out g new b (brings.Dead n) r is = let e : turned.Dead n ≡ r = cc in subst (RulesOut g new b) e tt
ruled_out g new b brings.TapeFull r is = let e : turned.TapeFull ≡ r = cc in subst (RulesOut g new b) e tt
ruled_out g new b brings.OutOfMemory r is = let e : turned.OutOfMemory ≡ r = cc in subst (RulesOut g new b) e tt
ruled_out g new b brings.Nothing r is = absurd (let e : None ≡ Some r = is in cc)
ruled_out g new b brings.Noted r is = absurd (let e : None ≡ Some r = is in cc)
ruled_out g new b (brings.Busy q) r is = absurd (let e : None ≡ Some r = is in cc)

pub began_for : (g : Settings) (moments : Option (List ℕ)) (me : Knowledge) (new : List Entry) (s t : Shown) (b : Between) (x : Brought) (r : Turned) → ended_by x ≡ Some r → BroughtFor (IsPumped moments b.conn) g me new x → TurnedFor g moments me new s t b r
began_for g moments me new s t b (brings.Displaced n) r is w = let e : turned.Displaced n ≡ r = cc in subst (TurnedFor g moments me new s t b) e (stale_names moments b.conn g me new n w)
began_for g moments me new s t b (brings.Dead n) r is w = let e : turned.Dead n ≡ r = cc in subst (TurnedFor g moments me new s t b) e (dead_ticks moments b.conn g me new n w)
began_for g moments me new s t b brings.TapeFull r is w = let e : turned.TapeFull ≡ r = cc in subst (TurnedFor g moments me new s t b) e w
began_for g moments me new s t b brings.OutOfMemory r is w = let e : turned.OutOfMemory ≡ r = cc in subst (TurnedFor g moments me new s t b) e tt
began_for g moments me new s t b brings.Nothing r is w = absurd (let e : None ≡ Some r = is in cc)
began_for g moments me new s t b brings.Noted r is w = absurd (let e : None ≡ Some r = is in cc)
began_for g moments me new s t b (brings.Busy q) r is w = absurd (let e : None ≡ Some r = is in cc)

-- ---- a whole turn

-- the caller was `me`, is `mid` after the draw and `last` after the frames, and its front is `new` after the look; the link showed `s`, `m` after the give, and shows `t`
pub record Parts (g : Settings) (moments : Option (List ℕ)) (me mid last : Knowledge) (new : List Entry) (s m t : Shown) (b : Between) (gave : Gave) (took : Took) (heard : Brought) (looked : Looked) (left : ℕ) : Type 0 where
  pub number : mid.number ≡ me.number
  pub before : Continues me.front mid.front
  pub between : Continues mid.front last.front
  pub follows : Follows me.names last.front new
  pub cause : BroughtFor (Names b.conn) g mid last.front heard
  pub busy : IfBusy g last.front b heard
  pub arrived : heard ≡ brings.Noted → HasArrived b.conn mid last.front
  pub gave_is : HasGave s m gave
  pub given_still : t.given ≡ m.given
  pub taken_still : m.taken ≡ s.taken
  pub took_is : HasTook m t took
  pub give_counted : NoneFell s.counts m.counts
  pub take_counted : NoneFell m.counts t.counts
  pub failed : gave ≡ gaves.Failed → took ≡ tooks.Nothing
  pub some : took ≡ tooks.Nothing → (gave ≡ gaves.Failed → ⊥) → heard ≡ brings.Nothing → ⊥
  pub closed_is : looked.cause ≡ closed g new
  pub waits : looked.queued ≡ queued g new
  pub left_is : left ≡ length b.left

last_on : (g : Settings) (moments : Option (List ℕ)) (me mid last : Knowledge) (new : List Entry) (s m t : Shown) (b : Between) (gave : Gave) (took : Took) (heard : Brought) (looked : Looked) (left : ℕ) → Parts g moments me mid last new s m t b gave took heard looked left → Continues last.front new
last_on g moments me mid last new s m t b gave took heard looked left p = (p.follows.0, p.follows.1)

not_failed : (took : Took) → is_fine gaves.Failed took ≡ true → ⊥
not_failed tooks.Nothing fine = true≢false (sym fine)
not_failed (tooks.Count n) fine = true≢false (sym fine)
not_failed tooks.Lull fine = true≢false (sym fine)
not_failed tooks.End fine = true≢false (sym fine)
not_failed tooks.Failed fine = true≢false (sym fine)
not_failed tooks.OutOfMemory fine = true≢false (sym fine)

failed_not : (gave : Gave) (took : Took) → is_fine gave took ≡ true → gave ≡ gaves.Failed → ⊥
failed_not gave took fine is = not_failed took (subst (λ x. is_fine x took ≡ true) is fine)

no_gift : (s m : Shown) (gave : Gave) → HasGave s m gave → given_in gave ≡ 0 → m.given ≡ s.given
no_gift s m gaves.Nothing h zero = ap (λ (x : Shown). x.given) h
no_gift s m (gaves.Count n) h zero = absurd (omega (arith, h.0, zero))
no_gift s m gaves.Stalled h zero = h.0
no_gift s m gaves.Failed h zero = h.0

few_given : (s m : Shown) (gave : Gave) → HasGave s m gave → given_in gave ≤ PIECE
few_given s m (gaves.Count n) h = h.1
few_given s m _ h = omega arith

few_taken : (m t : Shown) (took : Took) → HasTook m t took → taken_in took ≤ PIECE
few_taken m t (tooks.Count n) h = h.1
few_taken m t _ h = omega arith

-- nothing was given: where bytes were left the link stalled
pub stall_of : (s m : Shown) (left : List ℕ) (gave : Gave) (took : Took) → is_fine gave took ≡ true → HasGave s m gave → (gave ≡ gaves.Nothing → left ≡ []) → given_in gave ≡ 0 → (left ≡ []) ⊎ Rose s.counts.stalls m.counts.stalls
stall_of s m left gaves.Nothing took fine h nothing zero = inl (nothing refl)
stall_of s m left (gaves.Count n) took fine h nothing zero = absurd (omega (arith, h.0, zero))
stall_of s m left gaves.Stalled took fine h nothing zero = inr h.1
stall_of s m left gaves.Failed took fine h nothing zero = absurd (not_failed took fine)

-- nothing was taken: where a take was made it lulled
lull_of : (m t : Shown) (gave : Gave) (took : Took) → is_fine gave took ≡ true → HasTook m t took → taken_in took ≡ 0 → (took ≡ tooks.Nothing → ⊥) → Rose m.counts.lulls t.counts.lulls × (t.taken ≡ m.taken)
lull_of m t gave tooks.Nothing fine h zero some = absurd (some refl)
lull_of m t gave (tooks.Count n) fine h zero some = absurd (omega (arith, h.0, zero))
lull_of m t gave tooks.Lull fine h zero some = (h.1, h.0)
lull_of m t gave tooks.End fine h zero some = absurd (true≢false (sym fine))
lull_of m t gave tooks.Failed fine h zero some = absurd (true≢false (sym fine))
lull_of m t gave tooks.OutOfMemory fine h zero some = absurd (true≢false (sym fine))

some_moved : (given taken : ℕ) (heard : Brought) (A : Type 0) → (heard ≡ brings.Noted → A) → SomeMoved given taken heard → (0 < given) ⊎ (0 < taken) ⊎ A
some_moved given taken heard A f (inl h) = inl h
some_moved given taken heard A f (inr (inl h)) = inr (inl h)
some_moved given taken heard A f (inr (inr h)) = inr (inr (f h))

was_busy : (g : Settings) (moments : Option (List ℕ)) (me mid last : Knowledge) (new : List Entry) (s m t : Shown) (b : Between) (gave : Gave) (took : Took) (heard : Brought) (looked : Looked) (left q : ℕ) → Parts g moments me mid last new s m t b gave took heard looked left → heard ≡ brings.Busy q → WasBusy g me b new q
was_busy g moments me mid last new s m t b gave took heard looked left q p is = record {
  before = last.front;
  since = continues_both me.front mid.front last.front p.before p.between;
  follows = p.follows;
  busy = subst (IfBusy g last.front b) is p.busy;
}

pub turned_for : (g : Settings) (moments : Option (List ℕ)) (me mid last : Knowledge) (new : List Entry) (s m t : Shown) (b : Between) (gave : Gave) (took : Took) (heard : Brought) (looked : Looked) (left : ℕ) (r : Turned)
    → Parts g moments me mid last new s m t b gave took heard looked left → SumsUp gave took heard looked left r → (is_last r ≡ false → is_fine gave took ≡ true) → TurnedFor g moments me new s t b r
turned_for g moments me mid last new s m t b gave took heard looked left (turned.Moved x y) p o fine = (
  subst (λ k. IsGrown k s.given t.given) (sym o.0) (subst (λ z. IsGrown (given_in gave) s.given z) (sym p.given_still) (gave_grown s m gave p.gave_is)),
  subst (λ k. IsGrown k s.taken t.taken) (sym o.1) (subst (λ z. IsGrown (taken_in took) z t.taken) p.taken_still (took_grown m t gave took (fine refl) p.took_is)),
  some_moved x y heard (HasArrived b.conn me new) (λ noted. arrived_wider b.conn me mid last.front new p.number p.before (last_on g moments me mid last new s m t b gave took heard looked left p) (p.arrived noted)) o.2,
  subst (λ k. k ≤ PIECE) (sym o.0) (few_given s m gave p.gave_is),
  subst (λ k. k ≤ PIECE) (sym o.1) (few_taken m t took p.took_is),
)
turned_for g moments me mid last new s m t b gave took heard looked left (turned.Busy q) p o fine = was_busy g moments me mid last new s m t b gave took heard looked left q p o
turned_for g moments me mid last new s m t b gave took heard looked left (turned.Over cause) p o fine = (
  sym p.closed_is ∙ o.0,
  sym p.waits ∙ o.1,
  none_left b.left (sym p.left_is ∙ o.2),
)
turned_for g moments me mid last new s m t b gave took heard looked left (turned.Displaced n) p o fine =
    was_wider (Names b.conn) (Names b.conn) g me mid last.front new (answer.Stale n) (λ v h. h) p.number p.before (last_on g moments me mid last new s m t b gave took heard looked left p) (subst (BroughtFor (Names b.conn) g mid last.front) o p.cause)
turned_for g moments me mid last new s m t b gave took heard looked left turned.Lull p o fine =
    let lull = lull_of m t gave took (fine refl) p.took_is o.1 (λ nothing. p.some nothing (failed_not gave took (fine refl)) o.2) in (
      rose_from s.counts.lulls m.counts.lulls t.counts.lulls p.give_counted.lulls lull.0,
      p.given_still ∙ no_gift s m gave p.gave_is o.0,
      lull.1 ∙ p.taken_still,
    )
turned_for g moments me mid last new s m t b gave took heard looked left turned.End p o fine =
    rose_from s.counts.ends m.counts.ends t.counts.ends p.give_counted.ends (subst (HasTook m t) o p.took_is).1
turned_for g moments me mid last new s m t b gave took heard looked left turned.LinkFault p (inl o) fine =
    rose_from s.counts.faults m.counts.faults t.counts.faults p.give_counted.faults (subst (HasTook m t) o p.took_is).1
turned_for g moments me mid last new s m t b gave took heard looked left turned.LinkFault p (inr o) fine =
    let still : t ≡ m = subst (HasTook m t) (p.failed o) p.took_is in
    subst (λ (x : Shown). Rose s.counts.faults x.counts.faults) (sym still) (subst (HasGave s m) o p.gave_is).1
turned_for g moments me mid last new s m t b gave took heard looked left (turned.Dead n) p o fine =
    dead_ticks moments b.conn g me new n (was_wider (Names b.conn) (IsPumped moments b.conn) g me mid last.front new (answer.Dead n) (λ v h. inr h) p.number p.before (last_on g moments me mid last new s m t b gave took heard looked left p) (subst (BroughtFor (Names b.conn) g mid last.front) o p.cause))
turned_for g moments me mid last new s m t b gave took heard looked left turned.TapeFull p o fine =
    longer_still last.front new (last_on g moments me mid last new s m t b gave took heard looked left p) (subst (BroughtFor (Names b.conn) g mid last.front) o p.cause)
turned_for g moments me mid last new s m t b gave took heard looked left turned.OutOfMemory p o fine = tt

-- ---- what a result rules out

over_as : (c d : Option Cause) (q r x y : ℕ) → c ≡ d → q ≡ r → x ≡ y → is_over c q x ≡ false → is_over d r y ≡ false
over_as c d q r x y cause waits left h = subst (λ k. is_over k r y ≡ false) cause (subst (λ k. is_over c k y ≡ false) waits (subst (λ k. is_over c q k ≡ false) left h))

done_of : (heard : Brought) (P : Type 0) → is_done heard ≡ true → IfDone heard P → P
done_of brings.Nothing P is p = p
done_of brings.Noted P is p = p
done_of _ P is p = absurd (true≢false (sym is))

pub rules_out : (g : Settings) (new : List Entry) (b : Between) (heard : Brought) (looked : Looked) (left : ℕ) (r : Turned) → looked.cause ≡ closed g new → looked.queued ≡ queued g new → left ≡ length b.left → IfDone heard (IsEmptied b) → RulesOutOf looked left heard r → RulesOut g new b r
rules_out g new b heard looked left (turned.Moved x y) cause waits is done h = (over_as _ _ _ _ _ _ cause waits is h.0, done_of heard (IsEmptied b) h.1 done)
rules_out g new b heard looked left (turned.Busy q) cause waits is done h = over_as _ _ _ _ _ _ cause waits is h
rules_out g new b heard looked left turned.Lull cause waits is done h = (over_as _ _ _ _ _ _ cause waits is h.0, done_of heard (IsEmptied b) h.1 done)
rules_out g new b heard looked left _ cause waits is done h = tt

-- all that stood in front was brought, or found no room
pub read_out : (g : Settings) (me : Knowledge) (last new : List Entry) (b : Between) (heard : Brought) → Continues me.front last → Follows me.names last new → IfBusy g last b heard → IfDone heard (IsEmptied b) → ended_by heard ≡ None → IsReadOut g me b new
read_out g me last new b brings.Nothing since follows busy done none = inl done
read_out g me last new b brings.Noted since follows busy done none = inl done
read_out g me last new b (brings.Busy q) since follows busy done none = inr (q, record { before = last; since = since; follows = follows; busy = busy })
read_out g me last new b (brings.Displaced n) since follows busy done none = absurd (let e : Some (turned.Displaced n) ≡ None = none in cc)
read_out g me last new b (brings.Dead n) since follows busy done none = absurd (let e : Some (turned.Dead n) ≡ None = none in cc)
read_out g me last new b brings.TapeFull since follows busy done none = absurd (let e : Some turned.TapeFull ≡ None = none in cc)
read_out g me last new b brings.OutOfMemory since follows busy done none = absurd (let e : Some turned.OutOfMemory ≡ None = none in cc)

-- ---- runs

pub read_wider : (g : Settings) (was me : Knowledge) (b : Between) (new : List Entry) → me.names ≡ was.names → Continues was.front me.front → IsReadOut g me b new → IsReadOut g was b new
read_wider g was me b new names c (inl h) = inl h
read_wider g was me b new names c (inr h) = inr (h.0, record { before = h.1.before; since = continues_both was.front me.front h.1.before c h.1.since; follows = subst (λ ns. Follows ns h.1.before new) names h.1.follows; busy = h.1.busy })

still : (s m t : Shown) (met more : ℕ) → NoneFell m.counts t.counts → HasLulled s.counts.lulls met m.counts.lulls → more ≤ met → HasLulled s.counts.lulls more t.counts.lulls
still s m t met more f (inl h) le = inl (omega (arith, h, f.lulls, le))
still s m t met more f (inr h) le = inr (omega (arith, h, f.lulls))

-- what ends turns for good ends a run
pub ran_for : (g : Settings) (moments : Option (List ℕ)) (lulls : ℕ) (was me : Knowledge) (new : List Entry) (s m t : Shown) (b : Between) (r : Turned) → me.number ≡ was.number → is_last r ≡ true → Continues was.front me.front → NoneFell s.counts m.counts → TurnedFor g moments me new m t b r → RanFor g moments lulls was new s t b r
ran_for g moments lulls was me new s m t b (turned.Moved x y) number last c f h = absurd (true≢false (sym last))
ran_for g moments lulls was me new s m t b (turned.Busy q) number last c f h = absurd (true≢false (sym last))
ran_for g moments lulls was me new s m t b turned.Lull number last c f h = absurd (true≢false (sym last))
ran_for g moments lulls was me new s m t b (turned.Over cause) number last c f h = h
ran_for g moments lulls was me new s m t b (turned.Displaced n) number last c f h = was_wider (Names b.conn) (Names b.conn) g was me new new (answer.Stale n) (λ v k. k) number c (continues_same new) h
ran_for g moments lulls was me new s m t b turned.End number last c f h = rose_from s.counts.ends m.counts.ends t.counts.ends f.ends h
ran_for g moments lulls was me new s m t b turned.LinkFault number last c f h = rose_from s.counts.faults m.counts.faults t.counts.faults f.faults h
ran_for g moments lulls was me new s m t b (turned.Dead n) number last c f h = was_wider (Ticks moments) (Ticks moments) g was me new new (answer.Dead n) (λ v k. k) number c (continues_same new) h
ran_for g moments lulls was me new s m t b turned.TapeFull number last c f h = h
ran_for g moments lulls was me new s m t b turned.OutOfMemory number last c f h = tt

-- one turn more
pub lulled_more : (g : Settings) (moments : Option (List ℕ)) (me : Knowledge) (new : List Entry) (s m t : Shown) (b : Between) (r : Turned) (met more : ℕ) → NoneFell m.counts t.counts → HasLulled s.counts.lulls met m.counts.lulls → TurnedFor g moments me new m t b r → more ≤ met + lulls_in r → HasLulled s.counts.lulls more t.counts.lulls
lulled_more g moments me new s m t b turned.Lull met more f (inl h) (inl rose, given, taken) le = inl (omega (arith, h, rose, le))
lulled_more g moments me new s m t b turned.Lull met more f (inl h) (inr top, given, taken) le = inr (omega (arith, top))
lulled_more g moments me new s m t b turned.Lull met more f (inr h) rose le = inr (omega (arith, h, f.lulls))
lulled_more g moments me new s m t b (turned.Moved x y) met more f h rose le = still s m t met more f h (omega (arith, le))
lulled_more g moments me new s m t b (turned.Busy q) met more f h rose le = still s m t met more f h (omega (arith, le))
lulled_more g moments me new s m t b _ met more f h rose le = still s m t met more f h (omega (arith, le))
