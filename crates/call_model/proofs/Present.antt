-- The present connection goes on, and when its link may be left.
use Rattle.std.proofs.lemmas.Bool.Decides.{nat_tests}
use Rattle.std.proofs.lemmas.Grind.{common_steps}
use Rattle.std.proofs.Math.Seq.{take-length}
use Rattle.std.specs.List.{AllByRecursion}
use Rattle.std.proofs.Common.{◌≡◌, ◌≢◌, ◌&&◌, ◌||◌, ◌≤◌, ◌<◌, ◌+◌, ◌-◌, ◌^◌, ◌∙◌, inl, inr, ℕ, Bool, true, false, true≢false, List, [], ◌∷◌, ◌++◌, length, take, None, IfSome, refl, sym, ap, subst, arith, append-nil}
use Rattle.std.proofs.lemmas.List.{length-append, length-take}
use Rattle.rs_wire.specs.declared.settings.Settings.{Settings}
use Rattle.rs_frame.specs.Framed.{framed_all}
use Rattle.outside.specs.Links.{IsNew, Shown}
use Rattle.tape.specs.declared.event.Event.{Event}
use Rattle.tape.specs.declared.event.Event.TheVariants as event
use Rattle.tape.specs.declared.answer.Answer.{Answer}
use Rattle.tape.specs.declared.answer.Answer.TheVariants as answer
use Rattle.tape.specs.declared.entry.Entry.{Entry}
use Rattle.session_model.specs.Answers.{facts}
use Rattle.session_model.specs.Life.{carrying, closed, is_live, live, openings, openings_in}
use Rattle.session_model.specs.Frames.{drawn, due, given as bytes_drawn, queued}
use Rattle.session_model.specs.Legal.{Legal}
use Rattle.session_model.specs.Means.{Means}
use Rattle.session_model.proofs.Meaning.{last_means}
use Rattle.session_model.proofs.Openings.{live_le}
use Rattle.link_model.specs.Carrying.{Between, Keeps, is_of}
use Rattle.link_model.specs.Giving.{HasGiven}
use Rattle.link_model.specs.Leaving.{ComesInTime, Heard, IsAllGiven, IsBroken, IsReadOut, Left, displaced, parted, takes_place}
use Rattle.link_model.proofs.Bytes.{if_some}
use Rattle.link_model.proofs.Fresh.{fresh_keeps}
use Rattle.link_model.proofs.Heard.{keeps_heard}
use Rattle.link_model.proofs.Kept.{keeps_other}
use Rattle.link_laws.specs.Staying.{ends}
use Rattle.link_laws.proofs.Staying.{never_parted, on_or_displaced}
use Rattle.link_laws.proofs.Ended.{early, in_time, not_local}
use Rattle.link_laws.proofs.Ending.{left_broken}
use Rattle.link_laws.proofs.Fresh.{opened_fresh}
use Rattle.call_model.specs.Saying.{IsSent, IsUnsent}
use Rattle.call_model.specs.Present.{HasDrawnAll, HasJoined, IsServed}

-- ---- the opening

free_is : (g : Settings) (past : List Entry) (x : Entry) (c : ℕ) → Legal g (x ∷ past) → x.event ≡ event.Open None false → x.answer ≡ answer.Opened c → (c ≡ openings past + 1) × (closed g past ≡ None)
unfolding facts
free_is g past x c legal is opened =
    let m : Means g (facts g past) (event.Open None false) (answer.Opened c) = subst (λ (a : Answer). Means g (facts g past) (event.Open None false) a) opened (subst (λ (e : Event). Means g (facts g past) e x.answer) is (last_means g x past legal)) in
    (m.next, m.free)

legal_before : (g : Settings) (x : Entry) (before : List Entry) → Legal g (x ∷ before) → Legal g before
unfolding Legal
legal_before g x before legal = legal.0

pub joined_opened : (g : Settings) (past : List Entry) (x : Entry) (c : ℕ) → Legal g (x ∷ past) → x.event ≡ event.Open None false → x.answer ≡ answer.Opened c → HasJoined g (x ∷ past) c
unfolding live openings closed parted ComesInTime
joined_opened g past x c legal is opened =
    let number = free_is g past x c legal is opened in
    let earlier = legal_before g x past legal in
    let lt : openings past < c = omega (arith, number.0) in
    let le = live_le g past earlier in
    let off : is_live (live past) c ≡ false = grind (arith, common_steps, nat_tests) in
    record {
      base = x ∷ past;
      more = [];
      parts = refl;
      last = rw is (omega (arith, number.0));
      here = rw opened (grind (arith, common_steps, nat_tests));
      joined = rw (never_parted g past c earlier lt, off) refl;
      free = rw (number.1, is, opened) refl;
      in_time = (early g past c earlier lt number.1, rw is (λ came. absurd (true≢false (sym came))));
      stays = tt;
    }

never_displaced : (g : Settings) (past : List Entry) (c : ℕ) → Legal g past → openings past < c → displaced past c ≡ false
unfolding Legal displaced openings
never_displaced g [] c legal lt = refl
never_displaced g (x ∷ past) c legal lt =
    let le = live_le g past legal.0 in
    let before = never_displaced g past c legal.0 (omega (arith, lt)) in
    let off : is_live (live past) c ≡ false = grind (arith, common_steps, nat_tests) in
    rw (before, off) refl

pub still_opened : (g : Settings) (past : List Entry) (x : Entry) (c : ℕ) → Legal g (x ∷ past) → x.event ≡ event.Open None false → x.answer ≡ answer.Opened c → displaced (x ∷ past) c ≡ false
unfolding displaced
still_opened g past x c legal is opened =
    let number = free_is g past x c legal is opened in
    let earlier = legal_before g x past legal in
    let lt : openings past < c = omega (arith, number.0) in
    let le = live_le g past earlier in
    let off : is_live (live past) c ≡ false = grind (arith, common_steps, nat_tests) in
    rw (never_displaced g past c earlier lt, off) refl

pub served_opened : (g : Settings) (past : List Entry) (x : Entry) (link : Shown) (c most : ℕ) → Legal g (x ∷ past) → x.event ≡ event.Open None false → x.answer ≡ answer.Opened c → IsNew link
    → IsServed g (x ∷ past) link c (record { conn = c; left = []; rest = []; max_in = most; bad = false }) false
served_opened g past x link c most legal is opened new = record {
  joined = joined_opened g past x c legal is opened;
  conn = refl;
  kept = λ on. fresh_keeps g (x ∷ past) link c most [] (opened_fresh g past x link false c legal is opened new);
  given = λ full. absurd (true≢false (sym full));
  place = λ full. absurd (true≢false (sym full));
}

-- ---- one entry more

pub joined_on : (g : Settings) (past : List Entry) (x : Entry) (c : ℕ) → ends c x.event ≡ false → openings_in x.event ≡ 0 → HasJoined g past c → HasJoined g (x ∷ past) c
unfolding openings
joined_on g past x c stays none h = record {
  base = h.base;
  more = x ∷ h.more;
  parts = ap (λ (l : List Entry). x ∷ l) h.parts;
  last = rw none (omega (arith, h.last));
  here = h.here;
  joined = h.joined;
  free = h.free;
  in_time = h.in_time;
  stays = (stays, h.stays);
}

pub still_on : (past : List Entry) (x : Entry) (c : ℕ) → takes_place x.answer ≡ false → displaced past c ≡ false → displaced (x ∷ past) c ≡ false
unfolding displaced
still_on past x c none still = rw (still, none) (never (is_live (live past) c))
  where
    never : (b : Bool) → (false || (b && false)) ≡ false
    never true = refl
    never false = refl

pub served_on : (g : Settings) (past : List Entry) (x : Entry) (link : Shown) (c : ℕ) (b : Between) (full : Bool) → length past < 2 ^ 63 → is_of c x.event ≡ false → ends c x.event ≡ false → openings_in x.event ≡ 0 → IsServed g past link c b full → IsServed g (x ∷ past) link c b full
served_on g past x link c b full place apart stays none h = record {
  joined = joined_on g past x c stays none h.joined;
  conn = h.conn;
  kept = λ on. keeps_other g past x link b (subst (λ n. is_of n x.event ≡ false) (sym h.conn) apart) (h.kept on);
  given = λ is. absurd (let no = h.place is in omega (arith, no, place));
  place = λ is. absurd (let no = h.place is in omega (arith, no, place));
}

-- ---- it is live, and frames come in time

pub is_here : (g : Settings) (past : List Entry) (c : ℕ) → Legal g past → HasJoined g past c → displaced past c ≡ false → is_live (live past) c ≡ true
is_here g past c legal h still = elim (on_or_displaced g c h.more h.base (subst (Legal g) h.parts legal) h.stays (inl h.here)) [
  | inl on ↦ subst (λ (l : List Entry). is_live (live l) c ≡ true) (sym h.parts) on
  | inr gone ↦ absurd (true≢false (sym gone ∙ subst (λ (l : List Entry). displaced l c ≡ false) h.parts still))
]

pub comes_in_time : (g : Settings) (past : List Entry) (c : ℕ) → Legal g past → HasJoined g past c → displaced past c ≡ false → ComesInTime g past c
comes_in_time g past c legal h still =
    subst (λ (l : List Entry). ComesInTime g l c) (sym h.parts)
    (in_time g c h.more h.base (subst (Legal g) h.parts legal) h.stays h.joined h.in_time (subst (λ (l : List Entry). displaced l c ≡ false) h.parts still) (not_local g c h.more h.base h.stays h.free))

pub heard_here : (g : Settings) (past : List Entry) (link : Shown) (c : ℕ) (b : Between) → Legal g past → HasJoined g past c → displaced past c ≡ false → b.conn ≡ c → Keeps g past link b → IsReadOut g past c b.rest → Heard g past link c
heard_here g past link c b legal h still at k out =
    subst (Heard g past link) at (keeps_heard g past link b k (subst (ComesInTime g past) (sym at) (comes_in_time g past c legal h still)) (subst (λ n. IsReadOut g past n b.rest) (sym at) out))

-- a broken link may be left
pub left_here : (g : Settings) (past : List Entry) (link : Shown) (c : ℕ) (b : Between) → Legal g past → HasJoined g past c → b.conn ≡ c → Keeps g past link b → IsReadOut g past c b.rest → IsBroken link → Left g past link c
left_here g past link c b legal h at k out broken =
    subst (λ (l : List Entry). Left g l link c) (sym h.parts)
    (subst (Left g (h.more ++ h.base) link) at
    (left_broken g link b h.more h.base
    (subst (Legal g) h.parts legal)
    (subst (λ n. AllByRecursion (λ (x : Entry). ends n x.event ≡ false) h.more) (sym at) h.stays)
    (subst (λ n. parted h.base n ≡ false) (sym at) h.joined)
    h.free
    (subst (ComesInTime g h.base) (sym at) h.in_time)
    (subst (λ (l : List Entry). Keeps g l link b) h.parts k)
    (subst (λ n. IsReadOut g (h.more ++ h.base) n b.rest) (sym at) (subst (λ (l : List Entry). IsReadOut g l c b.rest) h.parts out))
    broken))

-- ---- what was given

keeps_drawn : (g : Settings) (past : List Entry) (link : Shown) (c : ℕ) (b : Between) → b.conn ≡ c → Keeps g past link b → HasDrawnAll g past link c b.left
keeps_drawn g past link c b at k = record {
  within = subst (λ n. drawn past n ≤ length (framed_all (due g past n))) at k.within;
  given = subst (λ n. IfSome link.given (λ bytes. HasGiven g past n b.left bytes)) at k.given;
}

pub served_drawn : (g : Settings) (past : List Entry) (link : Shown) (c : ℕ) (b : Between) (full : Bool) → IsServed g past link c b full → HasDrawnAll g past link c b.left
served_drawn g past link c b true h = h.given refl
served_drawn g past link c b false h = keeps_drawn g past link c b h.conn (h.kept refl)

pub nothing_in : (xs : List ℕ) → length xs ≡ 0 → xs ≡ []
nothing_in [] is = refl
nothing_in (x ∷ xs) is = absurd (omega arith)

queued_here : (g : Settings) (past : List Entry) (c : ℕ) → live past ≡ c → queued g past ≡ length (framed_all (due g past c)) - drawn past c
unfolding queued
queued_here g past c here = ap (λ n. length (framed_all (due g past n)) - drawn past n) here

-- all that is due was given
pub all_given : (g : Settings) (past : List Entry) (link : Shown) (c : ℕ) (left : List ℕ) → HasDrawnAll g past link c left → left ≡ [] → live past ≡ c → queued g past ≡ 0 → IsAllGiven g past link c
all_given g past link c left h none here empty =
    let D = framed_all (due g past c) in
    let zero = sym (queued_here g past c here) ∙ empty in
    let all : drawn past c ≡ length D = (let w = h.within in omega (arith, zero, w)) in
    let whole : bytes_drawn g past c ≡ D = ap (λ (n : ℕ). take n D) all ∙ take-length D in
    if_some link.given (λ (bytes : List ℕ) (k : HasGiven g past c left bytes).
    sym (append-nil bytes) ∙ (ap (λ (l : List ℕ). bytes ++ l) (sym none) ∙ (k.all ∙ whole))) h.given

pub sent_whole : (g : Settings) (past : List Entry) (link : Shown) (c : ℕ) (left : List ℕ) → HasDrawnAll g past link c left → left ≡ [] → live past ≡ c → carrying g past ≡ true → queued g past ≡ 0 → IsSent g past link c
sent_whole g past link c left h none here carries empty = record {
  here = here;
  carries = carries;
  given = all_given g past link c left h none here empty;
}

-- some of it was not
few_drawn : (n : ℕ) (D : List ℕ) → length (take n D) ≤ length D
few_drawn n D = omega (arith, length-take n D)

pub unsent_left : (g : Settings) (past : List Entry) (link : Shown) (c : ℕ) (left : List ℕ) → HasDrawnAll g past link c left → left ≢ [] → IsUnsent g past link c
unsent_left g past link c left h some =
    inr (inr (if_some link.given (λ (bytes : List ℕ) (k : HasGiven g past c left bytes) (is : bytes ≡ framed_all (due g past c)).
    some (nothing_in left (let few = few_drawn (drawn past c) (framed_all (due g past c)) in
    let both = sym (length-append bytes left) ∙ ap length k.all in
    let same = ap length is in omega (arith, few, both, same)))) h.given))

pub unsent_queued : (g : Settings) (past : List Entry) (link : Shown) (c : ℕ) (left : List ℕ) → HasDrawnAll g past link c left → live past ≡ c → queued g past ≢ 0 → IsUnsent g past link c
unsent_queued g past link c left h here some =
    inr (inr (if_some link.given (λ (bytes : List ℕ) (k : HasGiven g past c left bytes) (is : bytes ≡ framed_all (due g past c)).
    some (queued_here g past c here ∙ (
    let few = least (drawn past c) (framed_all (due g past c)) in
    let both = sym (length-append bytes left) ∙ ap length k.all in
    let same = ap length is in omega (arith, few, both, same)))) h.given))
  where
    least : (n : ℕ) (D : List ℕ) → length (take n D) ≤ n
    least n D = omega (arith, length-take n D)
