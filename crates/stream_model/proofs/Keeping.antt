-- What is kept of a stream goes on, word by word, to be what the definitions say.
use Rattle.std.proofs.Common.{◌≡◌, ◌<◌, ◌%◌, ◌+◌, ◌&&◌, ◌||◌, ℕ, Bool, true, false, not, cond, List, [], ◌∷◌, length, Option, Some, None, is_some, option_to_list, refl, ap, ◌∙◌, length-append, arith}
use Rattle.std.proofs.Math.Bool.{or-false}
use Rattle.rs_wire.specs.declared.words.Kind.{Kind}
use Rattle.rs_wire.specs.declared.words.Role.{Role}
use Rattle.rs_wire.specs.declared.words.Way.{Way}
use Rattle.rs_wire.specs.declared.words.Way.TheVariants as way
use Rattle.rs_wire.specs.declared.message.Message.{Message}
use Rattle.rs_wire.specs.declared.delivery.Delivery.{Delivery}
use Rattle.credit.specs.declared.Credit.{Credit}
use Rattle.stream_model.specs.declared.stream.Stream.{Stream}
use Rattle.stream_model.specs.Marks.{Opening, Step, Payload, Mark, Opens, Sent, Got, Took}
use Rattle.stream_model.specs.Turns.{Turn, Word, Said, Taken, carries, needs_credit, over, is_over, ends, is_whole, item_next, items, used, granted, other}
use Rattle.stream_model.specs.Streams.{turn, highest, goes_on, is_admitted, is_live, has_room, one_if}
use Rattle.stream_model.specs.Kept.{stream_of, credit_of, credit_after, kept, requested, after, kept_after, items_in, unless_done}
use Rattle.stream_model.proofs.Ids.{turn_opened, turn_sent, turn_got, turn_took}

-- ---- one stream

one_item : (ended some : Bool) (m : Message) → length (option_to_list (cond ended None (cond some (Some m) None))) ≡ cond ended 0 (one_if some)
one_item true some m = refl
one_item false true m = refl
one_item false false m = refl

no_item : (ended : Bool) → length (option_to_list {X = Message} (cond ended None None)) ≡ 0
no_item true = refl
no_item false = refl

-- where credit counts items, a word has as many as it adds
items_next : (o : Opening) (xs : List Word) (w : Way) (x : Word) → needs_credit o.kind ≡ true → length (option_to_list (item_next o xs w x)) ≡ items_in (over o xs w) o.kind (is_whole o xs) w x
items_next o xs w (Said by (Payload m complete next)) needs = rw needs (one_item (over o xs w) (next && carries o.kind (is_whole o xs) w by) m)
items_next o xs w (Said by _) needs = no_item (over o xs w)
items_next o xs w (Taken d) needs = no_item (over o xs w)

used_more : (o : Opening) (xs : List Word) (x : Word) (w : Way) → needs_credit o.kind ≡ true → used o (x ∷ xs) w ≡ used o xs w + items_in (over o xs w) o.kind (is_whole o xs) w x
unfolding used items
used_more o xs x w needs = length-append (items o xs w) (option_to_list (item_next o xs w x)) ∙ ap (λ n. length (items o xs w) + n) (items_next o xs w x needs)

-- where it counts none, a word has none
none_counted : (ended : Bool) (kind : Kind) (whole : Bool) (w : Way) (x : Word) → needs_credit kind ≡ false → items_in ended kind whole w x ≡ 0
none_counted true kind whole w (Said by (Payload m complete next)) none = refl
none_counted false kind whole w (Said by (Payload m complete next)) none = rw none refl
none_counted ended kind whole w (Said by _) none = refl
none_counted ended kind whole w (Taken d) none = refl

credit_more : (o : Opening) (xs : List Word) (x : Word) (w : Way) → credit_of o (x ∷ xs) w ≡ credit_after (credit_of o xs w) (over o xs w) o.kind (is_whole o xs) w x
unfolding granted
credit_more o xs x w =
    elim (needs_credit o.kind) as (λ v. needs_credit o.kind ≡ v → credit_of o (x ∷ xs) w ≡ credit_after (credit_of o xs w) (over o xs w) o.kind (is_whole o xs) w x) [
      | true ↦ λ needs. rw (needs, used_more o xs x w needs) refl
      | false ↦ λ none. rw (none, none_counted (over o xs w) o.kind (is_whole o xs) w x none) refl
    ] refl

pub stream_more : (o : Opening) (xs : List Word) (x : Word) → stream_of o (x ∷ xs) ≡ after (stream_of o xs) x
unfolding stream_of over is_whole
stream_more o xs x = rw (credit_more o xs x way.Request, credit_more o xs x way.Reply) refl

first_credit : (needs : Bool) (n : ℕ) → ◌≡◌ {A = Credit} (cond needs (record { granted = n; used = 0 }) (record { granted = 0; used = 0 })) (record { granted = cond needs n 0; used = 0 })
first_credit true n = refl
first_credit false n = refl

no_credit : (needs : Bool) → ◌≡◌ {A = Credit} (cond needs (record { granted = 0; used = 0 }) (record { granted = 0; used = 0 })) (record { granted = 0; used = 0 })
no_credit true = refl
no_credit false = refl

pub stream_first : (o : Opening) → stream_of o [] ≡ requested o
unfolding stream_of over is_whole granted used items
stream_first o = rw (no_credit (needs_credit o.kind), first_credit (needs_credit o.kind) o.initial) refl

over_kept : (a b c d : Bool) (f : Stream) → (a && b) ≡ true → cond ((a || c) && (b || d)) None (Some f) ≡ None
over_kept true true c d f is = refl
over_kept true false c d f is = absurd (cc)
over_kept false b c d f is = absurd (cc)

-- what is kept after a word
pub kept_said : (o : Opening) (xs : List Word) (x : Word) → kept (Some (record { opening = o; words = x ∷ xs })) ≡ kept_after (kept (Some (record { opening = o; words = xs }))) x
unfolding over stream_of
kept_said o xs x =
    elim (is_over (record { opening = o; words = xs })) as (λ v. is_over (record { opening = o; words = xs }) ≡ v → kept (Some (record { opening = o; words = x ∷ xs })) ≡ kept_after (cond v None (Some (stream_of o xs))) x) [
      | true ↦ λ is. over_kept (over o xs way.Request) (over o xs way.Reply) (ends o.kind way.Request x) (ends o.kind way.Reply x) (stream_of o (x ∷ xs)) is
      | false ↦ λ is. ap unless_done (stream_more o xs x)
    ] refl

-- and after the request
pub kept_first : (o : Opening) → kept (Some (record { opening = o; words = [] })) ≡ unless_done (requested o)
unfolding over stream_of
kept_first o = ap unless_done (stream_first o)

-- something is kept of the streams that are open
pub live_kept : (t : Option Turn) → is_some (kept t) ≡ is_live t
live_kept None = refl
live_kept (Some t) = elim (is_over t) as (λ v. is_some (cond v None (Some (stream_of t.opening t.words))) ≡ not v) [ true ↦ refl | false ↦ refl ]

-- a stream of which something is kept
pub live_turn : (t : Option Turn) (f : Stream) → kept t ≡ Some f → (u : Turn) × (t ≡ Some u) × (is_over u ≡ false) × (stream_of u.opening u.words ≡ f)
live_turn None f is = absurd (cc)
live_turn (Some u) f is =
    elim (is_over u) as (λ v. is_over u ≡ v → cond v None (Some (stream_of u.opening u.words)) ≡ Some f → (k : Turn) × (Some u ≡ Some k) × (is_over k ≡ false) × (stream_of k.opening k.words ≡ f)) [
      | true ↦ λ over is. absurd (cc)
      | false ↦ λ over is. (u, refl, over, cc)
    ] refl is

-- ---- taking changes nothing

taken_credit : (c : Credit) (needs : Bool) → ◌≡◌ {A = Credit} (record { granted = c.granted + cond needs 0 0; used = c.used + 0 }) c
taken_credit c true = let g : c.granted + 0 ≡ c.granted = omega arith in let u : c.used + 0 ≡ c.used = omega arith in simp (g, u)
taken_credit c false = let g : c.granted + 0 ≡ c.granted = omega arith in let u : c.used + 0 ≡ c.used = omega arith in simp (g, u)

pub after_taken : (f : Stream) (d : Delivery) → after f (Taken d) ≡ f
after_taken f d = simp (or-false f.whole, or-false f.request_over, or-false f.reply_over, taken_credit f.request (needs_credit f.kind), taken_credit f.reply (needs_credit f.kind))

-- ---- all streams

-- what is kept after a word that the part of this end decides
abbrev pub kept_going : Option Stream → (Role → Word) → Option Stream
kept_going None word = None
kept_going (Some f) word = unless_done (after f (word f.role))

by_role : (o : Opening) (xs : List Word) (word : Role → Word) → kept_after (kept (Some (record { opening = o; words = xs }))) (word o.role) ≡ kept_going (kept (Some (record { opening = o; words = xs }))) word
unfolding stream_of
by_role o xs word = elim (is_over (record { opening = o; words = xs })) as (λ v. kept_after (cond v None (Some (stream_of o xs))) (word o.role) ≡ kept_going (cond v None (Some (stream_of o xs))) word) [ true ↦ refl | false ↦ refl ]

pub kept_on : (t : Option Turn) (word : Role → Word) → kept (goes_on t word) ≡ kept_going (kept t) word
kept_on None word = refl
kept_on (Some t) word = kept_said t.opening t.words (word t.opening.role) ∙ by_role t.opening t.words word

pub kept_opened : (most : ℕ) (seen : List Mark) (s : ℕ) (o : Opening) → highest (s % 2) seen < s → kept (turn most (Opens s o ∷ seen) s) ≡ cond (is_admitted (has_room most seen) o) (unless_done (requested o)) None
kept_opened most seen s o h =
    ap kept (turn_opened most seen s o h)
    ∙ elim (is_admitted (has_room most seen) o) as (λ v. kept (cond v (Some (record { opening = o; words = [] })) None) ≡ cond v (unless_done (requested o)) None) [ true ↦ kept_first o | false ↦ refl ]

pub kept_sent : (most : ℕ) (seen : List Mark) (s : ℕ) (step : Step) → kept (turn most (Sent s step ∷ seen) s) ≡ kept_going (kept (turn most seen s)) (λ role. Said role step)
kept_sent most seen s step = ap kept (turn_sent most seen s step) ∙ kept_on (turn most seen s) (λ role. Said role step)

pub kept_got : (most : ℕ) (seen : List Mark) (s : ℕ) (step : Step) → kept (turn most (Got s step ∷ seen) s) ≡ kept_going (kept (turn most seen s)) (λ role. Said (other role) step)
kept_got most seen s step = ap kept (turn_got most seen s step) ∙ kept_on (turn most seen s) (λ role. Said (other role) step)

live_done : (t : Turn) → is_over t ≡ false → unless_done (stream_of t.opening t.words) ≡ Some (stream_of t.opening t.words)
unfolding stream_of
live_done t is = rw is refl

taken_going : (t : Option Turn) (d : Delivery) → kept_going (kept t) (λ role. Taken d) ≡ kept t
taken_going None d = refl
taken_going (Some t) d =
    elim (is_over t) as (λ v. is_over t ≡ v → kept_going (cond v None (Some (stream_of t.opening t.words))) (λ role. Taken d) ≡ cond v None (Some (stream_of t.opening t.words))) [
      | true ↦ λ is. refl
      | false ↦ λ is. ap unless_done (after_taken (stream_of t.opening t.words) d) ∙ live_done t is
    ] refl

pub kept_took : (most : ℕ) (seen : List Mark) (s : ℕ) (d : Delivery) → kept (turn most (Took s d ∷ seen) s) ≡ kept (turn most seen s)
kept_took most seen s d = ap kept (turn_took most seen s d) ∙ (kept_on (turn most seen s) (λ role. Taken d) ∙ taken_going (turn most seen s) d)
