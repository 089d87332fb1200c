-- The words of a stream, and the words that its frames say.
use Rattle.std.proofs.Common.{◌≡◌, ◌||◌, Bool, true, false, cond, List, [], ◌∷◌, ◌++◌, Option, Some, None, option_to_list, refl, sym, ◌∙◌, arith}
use Rattle.std.proofs.lemmas.Grind.{common_steps}
use Rattle.rs_wire.specs.declared.words.Role.{Role}
use Rattle.rs_wire.specs.declared.words.Way.{Way}
use Rattle.rs_wire.specs.declared.words.Way.TheVariants as way
use Rattle.stream_model.specs.Marks.{Opening, Step, Payload, RequestN, Cancel, Fail}
use Rattle.stream_model.specs.Turns.{Word, Said, Taken, Turn, ends, over, is_of_requester, is_over, is_whole, item_in, items, grants, granted, other}
use Rattle.stream_model.specs.Streams.{is_live, goes_on}
use Rattle.stream_model.specs.declared.stream.Stream.{Stream}
use Rattle.stream_model.specs.Kept.{kept, stream_of}
use Rattle.stream_model.specs.Known.{hears, hears_on}
use Rattle.session_laws.specs.Read.{turn_read, framed_step, framed_words}

pub same_ends : (o : Opening) (by : Role) (step : Step) (w : Way) → ends o.kind w (Said by (framed_step o by step)) ≡ ends o.kind w (Said by step)
same_ends o by step w = grind (arith, common_steps)

same_whole_word : (o : Opening) (by : Role) (step : Step) → is_of_requester (Said by (framed_step o by step)) ≡ is_of_requester (Said by step)
same_whole_word o by step = grind (arith, common_steps)

pub same_item : (o : Opening) (whole : Bool) (by : Role) (step : Step) (w : Way) → item_in o.kind whole w (Said by (framed_step o by step)) ≡ item_in o.kind whole w (Said by step)
same_item o whole by (Payload m c n) w = refl
same_item o whole by (RequestN n) w = refl
same_item o whole by Cancel w = refl
same_item o whole by (Fail code content) w = refl

same_grant : (o : Opening) (by : Role) (step : Step) (w : Way) → grants o.kind w (Said by (framed_step o by step)) ≡ grants o.kind w (Said by step)
same_grant o by (Payload m c n) w = refl
same_grant o by (RequestN n) w = refl
same_grant o by Cancel w = refl
same_grant o by (Fail code content) w = refl

pub no_more : (b : Bool) → (b || false) ≡ b
no_more true = refl
no_more false = refl

pub same_over : (o : Opening) (xs : List Word) (w : Way) → over o (framed_words o xs) w ≡ over o xs w
unfolding over framed_words
same_over o [] w = refl
same_over o (Said by step ∷ xs) w = rw (same_over o xs w, same_ends o by step w) refl
same_over o (Taken d ∷ xs) w = same_over o xs w ∙ sym (no_more (over o xs w))

pub same_whole : (o : Opening) (xs : List Word) → is_whole o (framed_words o xs) ≡ is_whole o xs
unfolding is_whole framed_words
same_whole o [] = refl
same_whole o (Said by step ∷ xs) = rw (same_whole o xs, same_whole_word o by step, same_over o xs way.Request) refl
same_whole o (Taken d ∷ xs) = same_whole o xs ∙ sym (no_more (is_whole o xs))

nothing_added : {A : Type 0} (xs ys : List A) (b : Bool) → xs ≡ ys → xs ≡ ys ++ option_to_list (cond {A = Option A} b None None)
nothing_added xs ys b is = grind (arith, common_steps)

pub same_items : (o : Opening) (xs : List Word) (w : Way) → items o (framed_words o xs) w ≡ items o xs w
unfolding items framed_words
same_items o [] w = refl
same_items o (Said by step ∷ xs) w = rw (same_items o xs w, same_over o xs w, same_whole o xs, same_item o (is_whole o xs) by step w) refl
same_items o (Taken d ∷ xs) w = nothing_added (items o (framed_words o xs) w) (items o xs w) (over o xs w) (same_items o xs w)

pub same_granted : (o : Opening) (xs : List Word) (w : Way) → granted o (framed_words o xs) w ≡ granted o xs w
unfolding granted framed_words
same_granted o [] w = refl
same_granted o (Said by step ∷ xs) w = rw (same_granted o xs w, same_grant o by step w) refl
same_granted o (Taken d ∷ xs) w = let before = same_granted o xs w in omega (arith, before)

pub same_live : (t : Option Turn) → is_live (turn_read t) ≡ is_live t
same_live None = refl
same_live (Some t) = rw (same_over t.opening t.words way.Request, same_over t.opening t.words way.Reply) refl

hears_same : (t : Turn) → hears (stream_of t.opening (framed_words t.opening t.words)) ≡ hears (stream_of t.opening t.words)
unfolding stream_of
hears_same t = rw (same_whole t.opening t.words, same_over t.opening t.words way.Request, same_over t.opening t.words way.Reply) refl

unless_over : (over : Bool) (f f' : Stream) → hears f ≡ hears f' → hears_on (cond over None (Some f)) ≡ hears_on (cond over None (Some f'))
unless_over true f f' same = refl
unless_over false f f' same = same

pub same_hears : (t : Option Turn) → hears_on (kept (turn_read t)) ≡ hears_on (kept t)
same_hears None = refl
same_hears (Some t) =
    rw (same_over t.opening t.words way.Request, same_over t.opening t.words way.Reply)
    (unless_over (is_over t) (stream_of t.opening (framed_words t.opening t.words)) (stream_of t.opening t.words) (hears_same t))

-- ---- one word more

-- an own step
pub framed_own : (t : Option Turn) (step step' : Step) → ((u : Turn) → t ≡ Some u → step' ≡ framed_step u.opening u.opening.role step) → goes_on (turn_read t) (λ role. Said role step') ≡ turn_read (goes_on t (λ role. Said role step))
unfolding framed_words
framed_own None step step' same = refl
framed_own (Some t) step step' same = rw (same t refl) refl

peers_step : (o : Opening) (step : Step) → framed_step o (other o.role) step ≡ step
peers_step o step = grind (arith, common_steps)

-- a step of the peer's
pub framed_peers : (t : Option Turn) (step : Step) → goes_on (turn_read t) (λ role. Said (other role) step) ≡ turn_read (goes_on t (λ role. Said (other role) step))
unfolding framed_words
framed_peers None step = refl
framed_peers (Some t) step = rw (peers_step t.opening step) refl

pub framed_taken : (t : Option Turn) (word : Role → Word) → ((role : Role) (o : Opening) (xs : List Word) → framed_words o (word role ∷ xs) ≡ framed_words o xs) → turn_read t ≡ turn_read (goes_on t word)
framed_taken None word same = refl
framed_taken (Some t) word same = rw (same t.opening.role t.opening t.words) refl
