-- Whether the end of a call has come, by a caller that is alone.
use Rattle.std.proofs.Common.{◌≡◌, ◌≢◌, ◌==◌, ◌&&◌, ◌⊎◌, inl, inr, ◌∙◌, ℕ, Bool, true, false, true≢false, List, [], ◌++◌, length, Option, Some, None, IfSome, IfOk, Result, Ok, Err, refl, sym, ap, subst, arith, append-nil}
use Rattle.std.proofs.lemmas.Bool.Decides.{nat_tests}
use Rattle.rs_wire.specs.declared.words.Kind.{Kind}
use Rattle.rs_wire.specs.declared.words.Kind.TheVariants as kind
use Rattle.rs_wire.specs.declared.settings.Settings.{Settings}
use Rattle.outside.specs.Links.{Shown}
use Rattle.tape.specs.declared.entry.Entry.{Entry}
use Rattle.session_model.specs.Frames.{queued}
use Rattle.session_model.specs.Life.{carrying, live}
use Rattle.session_laws.specs.Streams.{IsLawful}
use Rattle.conn_shared.specs.declared.looked.Looked.{Looked}
use Rattle.conn_shared.specs.Members.{Follows, Knowledge}
use Rattle.call_model.specs.Saying.{HasEnded, HasEndedOf, HasNotEnded, GoesOnOf, IsSent, IsUnsent, delivered_on, end_line, got_of, got_on, has_end, lines_of, said, sent_line, started}
use Rattle.call_model.specs.Present.{HasDrawnAll}
use Rattle.call_model.proofs.Ending.{ended_on}
use Rattle.call_model.proofs.Present.{sent_whole, unsent_left, unsent_queued}
use Rattle.client.specs.Alone.{IsOwn}
use Rattle.client.specs.Takes.{AddsRefused, HasPrinted, IsTakenIn, IsWhole, Prints, SentSo, TakesFor, TakesSo, is_dry}
use Rattle.client.proofs.Alone.{IsSame, own_follows}
use Rattle.client.proofs.OverTakes.{asks_none}

-- ---- a fire-and-forget

both_true : (a b : Bool) → (a && b) ≡ true → (a ≡ true) × (b ≡ true)
both_true true true is = (refl, refl)
both_true true false is = absurd (true≢false (sym is))
both_true false b is = absurd (true≢false (sym is))

one_false : (a b : Bool) → (a && b) ≡ false → (a ≡ false) ⊎ (b ≡ false)
one_false true b is = inr is
one_false false b is = inl refl

is_one : (m n : ℕ) → (m == n) ≡ true → m ≡ n
is_one m n is = grind (arith, nat_tests)

not_one : (m n : ℕ) → (m == n) ≡ false → m ≢ n
not_one m n is same = absurd (grind (arith, nat_tests))

-- by what is seen of the session
pub looks_so : (g : Settings) (past : List Entry) (looked : Looked) (c : ℕ) (left : List ℕ) (result : Bool) → left ≡ [] → looked.live ≡ live past → looked.carrying ≡ carrying g past → looked.queued ≡ queued g past → result ≡ is_dry looked c → (link : Shown) → HasDrawnAll g past link c left → SentSo result g past link c
looks_so g past looked c left true none live_is carrying_is queued_is is link drawn =
    let first = both_true ((looked.live == c) && looked.carrying) (looked.queued == 0) (sym is) in
    let second = both_true (looked.live == c) looked.carrying first.0 in
    sent_whole g past link c left drawn none (sym live_is ∙ is_one looked.live c second.0) (sym carrying_is ∙ second.1) (sym queued_is ∙ is_one looked.queued 0 first.1)
looks_so g past looked c left false none live_is carrying_is queued_is is link drawn = by (one_false ((looked.live == c) && looked.carrying) (looked.queued == 0) (sym is)) (looked.live == c) refl
  where
    by : (((looked.live == c) && looked.carrying) ≡ false) ⊎ ((looked.queued == 0) ≡ false) → (b : Bool) → (looked.live == c) ≡ b → IsUnsent g past link c
    by how false off = inl (λ here. not_one looked.live c off (live_is ∙ here))
    by (inr some) true on = unsent_queued g past link c left drawn (sym live_is ∙ is_one looked.live c on) (λ none. not_one looked.queued 0 some (queued_is ∙ none))
    by (inl not) true on = inr (inl (sym carrying_is ∙ (sym (ap (λ b. b && looked.carrying) on) ∙ not)))

-- where drawn bytes are left, it is not sent
pub left_so : (g : Settings) (past : List Entry) (c : ℕ) (left : List ℕ) → length left ≢ 0 → (link : Shown) → HasDrawnAll g past link c left → SentSo false g past link c
left_so g past c left some link drawn = unsent_left g past link c left drawn (λ none. some (ap length none))

pub look_own : (was now : Knowledge) (looked : Looked) (c : ℕ) (left : List ℕ) (result : Bool) → IsSame was now → Follows was.names was.front now.front → left ≡ [] → looked.live ≡ live now.front → looked.carrying ≡ carrying was.of.settings now.front → looked.queued ≡ queued was.of.settings now.front → result ≡ is_dry looked c
    → IsOwn now → IsOwn was × (now.front ≡ was.front) × ((link : Shown) → HasDrawnAll was.of.settings was.front link c left → SentSo result was.of.settings was.front link c)
look_own was now looked c left result same follows none live_is carrying_is queued_is is own =
    let h = own_follows was now same follows own in (
      h.0,
      h.1,
      looks_so was.of.settings was.front looked c left result none (live_is ∙ ap live h.1) (carrying_is ∙ ap (carrying was.of.settings) h.1) (queued_is ∙ ap (queued was.of.settings) h.1) is,
    )

-- ---- by kind

ended_for : (k : Kind) (g : Settings) (past : List Entry) (link : Shown) (c s : ℕ) → k ≢ kind.Fnf → started past ≡ Some s → has_end (delivered_on g past s) ≡ true → HasEnded k g past link c
ended_for k g past link c s plain on ends = subst (HasEndedOf k g past link c) (sym on) (by k plain)
  where
    by : (k : Kind) → k ≢ kind.Fnf → HasEndedOf k g past link c (Some s)
    by kind.Fnf other = absurd (other refl)
    by _ other = ends

not_ended_for : (k : Kind) (g : Settings) (past : List Entry) (link : Shown) (c s : ℕ) → k ≢ kind.Fnf → started past ≡ Some s → has_end (delivered_on g past s) ≡ false → HasNotEnded k g past link c
not_ended_for k g past link c s plain on goes = subst (GoesOnOf k g past link c) (sym on) (by k plain)
  where
    by : (k : Kind) → k ≢ kind.Fnf → GoesOnOf k g past link c (Some s)
    by kind.Fnf other = absurd (other refl)
    by _ other = goes

no_line : (k : Kind) (ended : Bool) → k ≢ kind.Fnf → end_line k ended ≡ []
no_line kind.Fnf ended plain = absurd (plain refl)
no_line _ ended plain = refl

no_line_yet : (k : Kind) → end_line k false ≡ []
no_line_yet kind.Fnf = refl
no_line_yet _ = refl

said_of : (k : Kind) (ended : Bool) (past : List Entry) (s : ℕ) → started past ≡ Some s → end_line k ended ≡ [] → said k ended past ≡ lines_of (got_on past s)
said_of k ended past s on none = ap (λ (l : List ℕ). lines_of (got_of past (started past)) ++ l) none ∙ (append-nil (lines_of (got_of past (started past))) ∙ ap (λ (o : Option ℕ). lines_of (got_of past o)) on)

printed_for : (k : Kind) (ended : Bool) (was new : List Entry) (s : ℕ) (out out' : List ℕ) → k ≢ kind.Fnf → started was ≡ Some s → started new ≡ Some s → Prints s was new out out' → HasPrinted k ended was new out out'
printed_for k ended was new s out out' plain on_was on_new p = record {
  more = p.more;
  printed = p.printed;
  says = said_of k ended new s on_new (no_line k ended plain) ∙ (p.got ∙ ap (λ (l : List ℕ). l ++ p.more) (sym (said_of k false was s on_was (no_line_yet k))));
}

printed_none : (k : Kind) (was : List Entry) (out : List ℕ) → HasPrinted k false was was out out
printed_none k was out = record { more = []; printed = sym (append-nil out); says = sym (append-nil (said k false was)) }

-- what is taken in whole
whole_in : (k : Kind) (g : Settings) (past : List Entry) (s : ℕ) → k ≢ kind.Fnf → started past ≡ Some s → IsWhole g past s → IsTakenIn k g past
whole_in kind.Fnf g past s plain on whole = absurd (plain refl)
whole_in _ g past s plain on whole = λ q is. (let same : q ≡ s = (let e : Some q ≡ Some s = sym is ∙ on in cc) in subst (IsWhole g past) (sym same) whole)

in_whole : (k : Kind) (g : Settings) (past : List Entry) (s : ℕ) → k ≢ kind.Fnf → started past ≡ Some s → IsTakenIn k g past → IsWhole g past s
in_whole kind.Fnf g past s plain on is = absurd (plain refl)
in_whole _ g past s plain on is = is s on

-- ---- all of it

refused_same : (was : List Entry) → AddsRefused was was
refused_same was = record { more = []; on = refl; all = tt }

-- nothing was done: the request is not started, or a fire-and-forget is not sent yet
pub taken_idle : (k : Kind) (count : ℕ) (g : Settings) (link : Shown) (c : ℕ) (was : List Entry) (stream : Option ℕ) (fresh : ℕ) (out : List ℕ) → (started was ≡ stream → HasNotEnded k g was link c × IsTakenIn k g was) → TakesFor false k count g link c stream was was fresh fresh out out
taken_idle k count g link c was stream fresh out goes = record {
  asks = asks_none was;
  none = λ is. refl;
  stands = λ w moments is_kind is_count st. st;
  prints = λ knows. printed_none k was out;
  ends = λ knows. (λ unended. (unended, λ place. goes (sym knows)));
  idle = λ goes knows whole. refused_same was;
}

pub taken_unstarted : (k : Kind) (count : ℕ) (g : Settings) (link : Shown) (c : ℕ) (was : List Entry) (fresh : ℕ) (out : List ℕ) → TakesFor false k count g link c None was was fresh fresh out out
taken_unstarted k count g link c was fresh out = taken_idle k count g link c was None fresh out (λ is. (subst (GoesOnOf k g was link c) (sym is) tt, by k is))
  where
    by : (k : Kind) → started was ≡ None → IsTakenIn k g was
    by kind.Fnf is = tt
    by _ is = λ q on. absurd (let no : None ≡ Some q = sym is ∙ on in cc)

pub taken_unsent : (count : ℕ) (g : Settings) (link : Shown) (c : ℕ) (was : List Entry) (s fresh : ℕ) (out : List ℕ) → IsUnsent g was link c → TakesFor false kind.Fnf count g link c (Some s) was was fresh fresh out out
taken_unsent count g link c was s fresh out unsent = taken_idle kind.Fnf count g link c was (Some s) fresh out (λ is. (subst (GoesOnOf kind.Fnf g was link c) (sym is) unsent, tt))

pub taken_sent : (count : ℕ) (g : Settings) (link : Shown) (c : ℕ) (was : List Entry) (s fresh : ℕ) (out : List ℕ) → IsSent g was link c → TakesFor true kind.Fnf count g link c (Some s) was was fresh fresh out (out ++ sent_line)
taken_sent count g link c was s fresh out sent = record {
  asks = asks_none was;
  none = λ is. refl;
  stands = λ w moments is_kind is_count st. st;
  prints = λ knows. record { more = sent_line; printed = refl; says = ap (λ (l : List ℕ). l ++ sent_line) (sym (append-nil (lines_of (got_of was (started was))))) };
  ends = λ knows. subst (HasEndedOf kind.Fnf g was link c) knows sent;
  idle = λ goes knows whole. absurd (true≢false goes);
}

pub taken_for : (ended : Bool) (k : Kind) (count s : ℕ) (g : Settings) (link : Shown) (c : ℕ) (was new : List Entry) (fresh fresh' : ℕ) (out out' : List ℕ) → k ≢ kind.Fnf → IsLawful g new → TakesSo ended k count s g was new fresh fresh' out out' → TakesFor ended k count g link c (Some s) was new fresh fresh' out out'
taken_for true k count s g link c was new fresh fresh' out out' plain lawful h = record {
  asks = h.asks;
  none = λ is. absurd (let no : Some s ≡ None = is in cc);
  stands = h.stands;
  prints = λ knows. printed_for k true was new s out out' plain (sym knows) (h.knows (sym knows)) h.prints;
  ends = λ knows. ended_for k g new link c s plain (h.knows (sym knows)) (ended_on g new s lawful h.ended);
  idle = λ goes knows whole. absurd (true≢false goes);
}
taken_for false k count s g link c was new fresh fresh' out out' plain lawful h = record {
  asks = h.asks;
  none = λ is. absurd (let no : Some s ≡ None = is in cc);
  stands = h.stands;
  prints = λ knows. printed_for k false was new s out out' plain (sym knows) (h.knows (sym knows)) h.prints;
  ends = λ knows unended. (
    h.unended (sym knows) unended,
    λ place. (
      not_ended_for k g new link c s plain (h.knows (sym knows)) (subst (λ ds. has_end ds ≡ false) (h.whole place) (subst (λ (o : Option ℕ). IfSome o (λ q. has_end (got_on new q) ≡ false)) (h.knows (sym knows)) (h.unended (sym knows) unended))),
      whole_in k g new s plain (h.knows (sym knows)) (h.whole place),
    ),
  );
  idle = λ goes knows whole. h.idle (in_whole k g was s plain (sym knows) whole);
}

pub if_ok : {X E : Type 0} {P Q : X → Type 0} → (r : Result X E) → ((x : X) → P x → Q x) → IfOk r P → IfOk r Q
if_ok (Ok x) f h = f x h
if_ok (Err e) f h = h
