-- A request that comes is on the next id of the peer's.
use Rattle.std.proofs.Common.{◌≡◌, ◌≤◌, ◌<◌, ◌%◌, ◌+◌, ◌&&◌, ◌==◌, ◌⊎◌, inl, inr, ℕ, Bool, true, false, not, List, [], ◌∷◌, ◌++◌, refl, ap, sym, subst, ◌∙◌, arith}
use Rattle.std.specs.Prelude.{nat_lt}
use Rattle.std.proofs.lemmas.Bool.{cases_lt, eqb-true}
use Rattle.std.proofs.lemmas.Bool.Decides.{nat_tests}
use Rattle.rs_wire.specs.declared.words.Side.{Side}
use Rattle.rs_wire.specs.declared.words.Side.TheVariants.{Client, Server}
use Rattle.rs_wire.specs.declared.settings.Settings.{Settings}
use Rattle.rs_frame.specs.declared.frame.Frame.{Frame}
use Rattle.rs_frame.specs.declared.frame.Frame.TheVariants as frame
use Rattle.rs_frame.specs.declared.frame.Request.{Request}
use Rattle.tape.specs.declared.entry.Entry.{Entry}
use Rattle.stream_model.specs.Streams.{highest, one_if}
use Rattle.stream_model.specs.Known.{highest_at, is_own_parity, is_peers_next, next_id, other_side}
use Rattle.stream_model.proofs.Fitting.{highest_is, own_fresh, parity_or_zero}
use Rattle.stream_model.proofs.Ids.{same_id}
use Rattle.session_model.specs.Streams.{known, words}
use Rattle.session_model.specs.Frames.{handled, in_fragments, made}
use Rattle.session_model.specs.Legal.{Legal}
use Rattle.honest_laws.proofs.Arrives.{Arrives}
use Rattle.honest_laws.proofs.Counts.{Counts, counts_one, request_counted}
use Rattle.honest_laws.proofs.Entries.{next_own, other_parity}
use Rattle.honest_laws.proofs.Ids.{Another, AsksFor, Nobody, One, WasAsked, asked_below, asked_in, asked_more, asks_for, frames_of, highest_handled}
use Rattle.honest_laws.proofs.Made.{MadeAt, before_it, lawful_at, made_at, means_at}

-- among frames is one that asks for s
asked_among : (s : ℕ) (front back all : List Frame) (r : Request) → front ++ frame.Request r ∷ back ≡ all → r.stream ≡ s → asked_in s front + 1 ≤ asked_in s all
asked_among s front back all r is here =
    let one : asked_in s (frame.Request r ∷ []) ≡ 1 = ap (λ (c : Counts). c.asked) (counts_one s (frame.Request r)) ∙ rw (here, same_id s) refl in
    let after = asked_more s (frame.Request r ∷ []) back in
    let both = asked_more s front (frame.Request r ∷ back) in
    let same = ap (asked_in s) is in
    omega (arith, one, after, both, same)

-- and so many do at least as among some first ones
asked_front : (s : ℕ) (front back all : List Frame) (f : Frame) → front ++ f ∷ back ≡ all → asked_in s front ≤ asked_in s all
asked_front s front back all f is = let both = asked_more s front (f ∷ back) in let same = ap (asked_in s) is in omega (arith, both, same)

one_at : (q s : ℕ) (b : Bool) → (q == s) ≡ b → 1 ≤ one_if b → q ≡ s
one_at q s true is some = eqb-true q s is
one_at q s false is some = absurd (omega arith)

one_most : (b : Bool) → one_if b ≤ 1
one_most true = omega arith
one_most false = omega arith

-- the request that was made at that entry is the one that it started
record StartedAs (h : Settings) (earlier : List Entry) (front : List Frame) (s : ℕ) : Type 0 where
  next : s ≡ next_id h.side (known h earlier)
  -- no request stands before it there
  alone : (q : ℕ) → 1 ≤ asked_in q front → ⊥

started_as : (h : Settings) (peer : List Entry) (before : List Frame) (r : Request) → (m : MadeAt h peer before (frame.Request r)) → AsksFor h m.earlier m.x.answer m.x.event → StartedAs h m.earlier m.front r.stream
started_as h peer before r m (One q next is none raises) =
    let all = m.among ∙ is in
    let one : (s : ℕ) → asked_in s (in_fragments h.mtu (frame.Request q)) ≡ one_if (q.stream == s) = λ s. (request_counted s h.mtu q).asked in
    let some = asked_among r.stream m.front m.back (in_fragments h.mtu (frame.Request q)) r all refl in
    let here = one r.stream in
    let same : q.stream ≡ r.stream = one_at q.stream r.stream (q.stream == r.stream) refl (omega (arith, some, here)) in
    record {
      next = sym same ∙ next;
      alone = λ s more.
          let fewer = asked_front s m.front m.back (in_fragments h.mtu (frame.Request q)) (frame.Request r) all in
          let there = one s in
          let at : q.stream ≡ s = one_at q.stream s (q.stream == s) refl (omega (arith, more, fewer, there)) in
          let twice = asked_among s m.front m.back (in_fragments h.mtu (frame.Request q)) r all (sym same ∙ at) in
          let most = one_most (q.stream == s) in
          absurd (omega (arith, more, twice, there, most));
    }
started_as h peer before r m (Another q handled_one raises none) =
    let some = asked_among r.stream m.front m.back (frames_of h m.earlier m.x.answer m.x.event) r m.among refl in let zero = none r.stream in absurd (omega (arith, some, zero))
started_as h peer before r m (Nobody same none) =
    let some = asked_among r.stream m.front m.back (frames_of h m.earlier m.x.answer m.x.event) r m.among refl in let zero = none r.stream in absurd (omega (arith, some, zero))

-- ids of the two ends have different parities
parities_apart : (side : Side) (s r : ℕ) → is_own_parity side s ≡ true → is_own_parity side r ≡ false → (s % 2 == r % 2) ≡ false
parities_apart Client s r own other = grind (arith, nat_tests)
parities_apart Server s r own other = grind (arith, nat_tests)

pub peers_own : (side : Side) (s : ℕ) → is_own_parity (other_side side) s ≡ true → is_own_parity side s ≡ false
peers_own side s theirs =
    elim (is_own_parity side s) as (λ v. is_own_parity (other_side side) s ≡ not v → v ≡ false) [ true ↦ λ is. absurd (cc) | false ↦ λ is. refl ] (other_parity side s)

both_true : (a b : Bool) → a ≡ true → b ≡ true → (a && b) ≡ true
both_true true b is also = also
both_true false b is also = absurd (cc)

-- an id that was asked for before is below one that is started now
asked_less : (h : Settings) (earlier : List Entry) (front : List Frame) (s hi : ℕ) → StartedAs h earlier front s → Legal h earlier → highest (s % 2) (words h earlier) < s → (hi ≡ 0) ⊎ (hi % 2 ≡ s % 2) → WasAsked (made h earlier ++ front) hi → hi < s
asked_less h earlier front s hi starts legal above parity (inl zero) = omega arith
asked_less h earlier front s hi starts legal above (inl zero) (inr some) = omega arith
asked_less h earlier front s hi starts legal above (inr same) (inr some) =
    let both = asked_more hi (made h earlier) front in
    elim (cases_lt (asked_in hi front) 1) [
      | inl none ↦
          let le : hi ≤ highest (hi % 2) (words h earlier) = asked_below h earlier hi legal (omega (arith, both, some, none)) in
          let at : hi ≤ highest (s % 2) (words h earlier) = subst (λ (p : ℕ). hi ≤ highest p (words h earlier)) same le in
          omega (arith, at, above)
      | inr one ↦ absurd (starts.alone hi one)
    ]

pub next_peers_id : (g h : Settings) (before peer : List Entry) (r : Request) → Arrives g h before peer (frame.Request r) → is_peers_next g.side (known g before) r.stream ≡ true
next_peers_id g h before peer r a =
    let m = made_at h peer (handled before) (frame.Request r) a.next in
    let lawful = lawful_at h m.newer m.x m.earlier peer m.is a.peer_lawful in
    let earlier = before_it h m.x m.earlier lawful in
    let starts = started_as h peer (handled before) r m (asks_for h m.earlier m.x.answer m.x.event (means_at h m.x m.earlier lawful)) in
    let own : is_own_parity h.side r.stream ≡ true = subst (λ (i : ℕ). is_own_parity h.side i ≡ true) (sym starts.next) (next_own h.side h.max_streams (words h m.earlier)) in
    let theirs : is_own_parity (other_side g.side) r.stream ≡ true = subst (λ (side : Side). is_own_parity side r.stream ≡ true) a.sides own in
    let not_own = peers_own g.side r.stream theirs in
    let above = own_fresh h.max_streams (words h m.earlier) h.side r.stream starts.next in
    let hi = highest (r.stream % 2) (words g before) in
    let was = highest_handled g before (r.stream % 2) a.lawful.legal (λ s mine. parities_apart g.side s r.stream mine not_own) in
    let less : hi < r.stream = asked_less h m.earlier m.front r.stream hi starts earlier.legal above (parity_or_zero (r.stream % 2) (words g before)) (subst (λ l. WasAsked l hi) m.before_is was) in
    let at : highest_at (known g before) r.stream < r.stream = subst (λ (n : ℕ). n < r.stream) (sym (highest_is g.max_streams (words g before) r.stream)) less in
    both_true (is_own_parity (other_side g.side) r.stream) (nat_lt (highest_at (known g before) r.stream) r.stream) theirs (grind (arith, nat_tests))
