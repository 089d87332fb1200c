-- Each stream of an end, or the id of none, against the sums over the frames that it made and handled.
use Rattle.std.proofs.Common.{◌≡◌, ◌≤◌, ◌<◌, ◌+◌, ◌&&◌, ℕ, Bool, true, false, not, [], ◌∷◌, Option, Some, None, is_some, refl, sym, subst, arith}
use Rattle.rs_wire.specs.declared.words.Kind.{Kind}
use Rattle.rs_wire.specs.declared.words.Role.{Role}
use Rattle.rs_wire.specs.declared.words.Side.{Side}
use Rattle.rs_wire.specs.declared.message.Message.{Message}
use Rattle.stream_model.specs.Marks.{Opening}
use Rattle.stream_model.specs.Turns.{Word, Turn, needs_credit}
use Rattle.stream_model.specs.Streams.{goes_on, one_if}
use Rattle.stream_model.specs.Kept.{requested, stream_of}
use Rattle.stream_model.specs.Known.{is_own_parity}
use Rattle.stream_model.specs.Arriving.{or_zero, ours, theirs}
use Rattle.stream_model.proofs.Keeping.{stream_first, stream_more}
use Rattle.honest_laws.proofs.Counts.{Counts, none, plus}
use Rattle.honest_laws.proofs.Tally.{Adds, Bare, Tally, tally_idle, tally_more}

-- ---- the request

-- what a request adds where this end makes it
pub record OwnRequest (kind : Kind) (initial : ℕ) (m : Counts) : Type 0 where
  pub given : m.given ≡ initial
  pub without : m.without ≡ one_if (not (needs_credit kind))
  pub ended : m.ended ≤ m.parts

pub own_opens : (side : Side) (s high : ℕ) (M H m : Counts) (kind : Kind) (initial : Option ℕ) (message : Message) (complete : Bool) → Bare s M H high → OwnRequest kind (or_zero initial) m → is_own_parity side s ≡ true
    → Tally side s (plus M m) (plus H none) (requested (ours kind initial message complete)) false
own_opens side s high M H m kind initial message complete b a own = record {
  part = sym own;
  own_whole = λ mine. refl;
  granted_in = λ needs. rw needs (let x = b.given in let y = a.given in omega (arith, x, y));
  granted_out = λ needs. omega arith;
  used_in = λ needs. omega arith;
  used_out = λ needs still. let x = b.ended in let y = a.ended in omega (arith, x, y);
  parts_in = λ theirs. absurd (cc);
  without_own = λ mine. let x = b.without in let y = a.without in omega (arith, x, y);
  without_peer = λ theirs. absurd (cc);
}

-- and where its peer does
pub record PeersRequest (kind : Kind) (initial : ℕ) (parts : Bool) (h : Counts) : Type 0 where
  pub given : h.given ≡ initial
  pub without : h.without ≡ one_if (not (needs_credit kind))
  pub parts_are : h.parts ≡ one_if parts

pub peer_opens : (side : Side) (s high : ℕ) (M H h : Counts) (kind : Kind) (initial : Option ℕ) (whole : Option (Message × Bool)) → Bare s M H high → high < s → PeersRequest kind (or_zero initial) (not (is_some whole)) h
    → is_own_parity side s ≡ false → Tally side s (plus M none) (plus H h) (requested (theirs kind initial whole)) (not (is_some whole))
peer_opens side s high M H h kind initial whole b fresh a own = record {
  part = sym own;
  own_whole = λ mine. absurd (cc);
  granted_in = λ needs. let x = b.given in omega (arith, x);
  granted_out = λ needs. rw needs (let y = a.given in omega (arith, y));
  used_in = λ needs. elim (is_some whole) as (λ v. 0 + one_if (not v && v) ≤ H.ended + h.ended) [ true ↦ omega arith | false ↦ omega arith ];
  used_out = λ needs still. let x = b.ended in omega (arith, x);
  parts_in = λ theirs. let x = b.fresh fresh in let y = a.parts_are in omega (arith, x, y);
  without_own = λ mine. absurd (cc);
  without_peer = λ theirs. let y = a.without in omega (arith, y);
}

-- ---- a stream, or none

abbrev pub Keeps : Side → ℕ → Counts → Counts → ℕ → Option Turn → Type 0
Keeps side s made handled high None = Bare s made handled high
Keeps side s made handled high (Some t) = Tally side s made handled (stream_of t.opening t.words) (not (is_some t.opening.whole))

pub keeps_idle : (side : Side) (s : ℕ) (M H h : Counts) (high high' : ℕ) (t : Option Turn) → high ≤ high' → h.parts ≡ 0 → Keeps side s M H high t → Keeps side s M (plus H h) high' t
keeps_idle side s M H h high high' None le zero k = record {
  given = k.given;
  ended = k.ended;
  without = k.without;
  fresh = λ below. let x = k.fresh (omega arith) in omega (arith, x, zero);
}
keeps_idle side s M H h high high' (Some t) le zero k = tally_idle side s M H h (stream_of t.opening t.words) (not (is_some t.opening.whole)) zero k

-- a request that opens no stream leaves the id used
pub keeps_used : (side : Side) (s : ℕ) (M H h : Counts) (high high' : ℕ) → s ≤ high' → Bare s M H high → Keeps side s M (plus H h) high' None
keeps_used side s M H h high high' used k = record { given = k.given; ended = k.ended; without = k.without; fresh = λ below. absurd (omega arith) }

pub keeps_first : (side : Side) (s : ℕ) (M H : Counts) (high : ℕ) (o : Opening) → Tally side s M H (requested o) (not (is_some o.whole)) → Keeps side s M H high (Some (record { opening = o; words = [] }))
keeps_first side s M H high o t = subst (λ f. Tally side s M H f (not (is_some o.whole))) (sym (stream_first o)) t

said_more : (side : Side) (s : ℕ) (M H m h : Counts) (u : Turn) (x : Word) → Tally side s M H (stream_of u.opening u.words) (not (is_some u.opening.whole)) → Adds (stream_of u.opening u.words) x (not (is_some u.opening.whole)) m h
    → Tally side s (plus M m) (plus H h) (stream_of u.opening (x ∷ u.words)) (not (is_some u.opening.whole))
said_more side s M H m h u x t a =
    subst (λ f. Tally side s (plus M m) (plus H h) f (not (is_some u.opening.whole))) (sym (stream_more u.opening u.words x))
    (tally_more side s M H m h (stream_of u.opening u.words) x (not (is_some u.opening.whole)) t a)

-- a word of this end's, or of its callers'
pub keeps_own : (side : Side) (s : ℕ) (M H m h : Counts) (high : ℕ) (t : Option Turn) (u : Turn) (word : Role → Word) → t ≡ Some u → Keeps side s M H high t
    → Adds (stream_of u.opening u.words) (word u.opening.role) (not (is_some u.opening.whole)) m h → Keeps side s (plus M m) (plus H h) high (goes_on t word)
keeps_own side s M H m h high t u word is k a =
    subst (λ o. Keeps side s (plus M m) (plus H h) high (goes_on o word)) (sym is) (said_more side s M H m h u (word u.opening.role) (subst (Keeps side s M H high) is k) a)

-- a word that adds nothing to what was made, on a stream or on none
pub keeps_any : (side : Side) (s : ℕ) (M H h : Counts) (high : ℕ) (t : Option Turn) (word : Role → Word) → h.parts ≡ 0 → Keeps side s M H high t
    → ((u : Turn) → Adds (stream_of u.opening u.words) (word u.opening.role) (not (is_some u.opening.whole)) none h) → Keeps side s (plus M none) (plus H h) high (goes_on t word)
keeps_any side s M H h high None word zero k a = record {
  given = let x = k.given in omega (arith, x);
  ended = let x = k.ended in omega (arith, x);
  without = let x = k.without in omega (arith, x);
  fresh = λ below. let x = k.fresh below in omega (arith, x, zero);
}
keeps_any side s M H h high (Some u) word zero k a = said_more side s M H none h u (word u.opening.role) k (a u)
