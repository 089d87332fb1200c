-- One end at most, and as the last.
use Rattle.std.proofs.Common.{◌≡◌, ◌&&◌, ◌||◌, Bool, true, false, cond, List, [], ◌∷◌, ◌++◌, Option, Some, None, refl, ap, subst, sym, ◌∙◌}
use Rattle.std.proofs.Math.Bool.{or-false}
use Rattle.rs_wire.specs.declared.delivery.Delivery.{Delivery}
use Rattle.rs_wire.specs.declared.delivery.Delivery.TheVariants as delivery
use Rattle.rs_wire.specs.declared.words.Role.{Role}
use Rattle.rs_wire.specs.declared.words.Role.TheVariants.{Requester, Responder}
use Rattle.stream_model.specs.Marks.{Opening}
use Rattle.rs_wire.specs.declared.message.Message.{Message}
use Rattle.rs_wire.specs.declared.words.Way.TheVariants as way
use Rattle.stream_model.specs.Turns.{Word, Said, Taken, over, ends, inbound, is_role, is_fnf, is_channel, opening_ends, brings, is_whole, delivered, taken, waiting, item_in, item_deliveries, end_of}
use Rattle.stream_model.specs.Fair.{FairWords}
use Rattle.stream_model.specs.Laws.{is_end, EndsLast}
use Rattle.stream_model.proofs.Words.{taken_first, delivered_said}

-- there is no end among these
abbrev pub NoEnd : List Delivery → Type 0
NoEnd [] = Unit {0}
NoEnd (d ∷ ds) = (is_end d ≡ false) × NoEnd ds

none_front : (xs ys : List Delivery) → NoEnd (xs ++ ys) → NoEnd xs
none_front [] ys h = tt
none_front (d ∷ xs) ys h = (h.0, none_front xs ys h.1)

none_more : (xs ys : List Delivery) → NoEnd xs → NoEnd ys → NoEnd (xs ++ ys)
none_more [] ys h k = k
none_more (d ∷ xs) ys h k = (h.0, none_more xs ys h.1 k)

last_of_none : (xs : List Delivery) → NoEnd xs → EndsLast xs
last_of_none [] h = tt
last_of_none (d ∷ []) h = tt
last_of_none (d ∷ e ∷ xs) h = (h.0, last_of_none (e ∷ xs) h.1)

last_more : (xs ys : List Delivery) → NoEnd xs → EndsLast ys → EndsLast (xs ++ ys)
last_more [] ys h k = k
last_more (d ∷ []) [] h k = tt
last_more (d ∷ []) (y ∷ ys) h k = (h.0, k)
last_more (d ∷ e ∷ xs) ys h k = (h.0, last_more (e ∷ xs) ys h.1 k)

item_none : (o : Option Message) → NoEnd (item_deliveries o)
item_none None = tt
item_none (Some m) = (refl, tt)

-- while inbound is not over there is no end, and then at most one, as the last
abbrev pub Ends : Bool → List Delivery → Type 0
Ends over ds = (over ≡ false → NoEnd ds) × EndsLast ds

brought : (fnf e : Bool) (item : Option Message) (d : Delivery) → Ends e (cond fnf [] (item_deliveries item ++ cond e (d ∷ []) []))
brought true e item d = (λ _. tt, tt)
brought false true item d = (λ f. absurd (cc), last_more (item_deliveries item) (d ∷ []) (item_none item) tt)
brought false false item d = (λ _. none_more (item_deliveries item) [] (item_none item) tt, last_of_none _ (none_more (item_deliveries item) [] (item_none item) tt))

ends_said : (over mine e : Bool) (taken rest before more : List Delivery) → taken ++ rest ≡ before → Ends over before → Ends e more → Ends (over || e) (delivered_said over mine e taken before more)
ends_said true mine e taken rest before more s h k = (λ f. absurd (cc), h.1)
ends_said false true true taken rest before more s h k = (λ f. absurd (cc), last_of_none taken (none_front taken rest (subst NoEnd (sym s) (h.0 refl))))
ends_said false true false taken rest before more s h k = h
ends_said false false e taken rest before more s h k = (λ f. none_more before more (h.0 refl) (k.0 f), last_more before more (h.0 refl) k.1)

first_ends : (role : Role) (channel e other : Bool) → (role ≡ Responder → other ≡ e) → Ends other (cond (is_role role Responder && channel && e) (delivery.Complete ∷ []) [])
first_ends Requester channel e other h = (λ _. tt, tt)
first_ends Responder false e other h = (λ _. tt, tt)
first_ends Responder true true other h = (λ f. let t = h refl in absurd (cc), tt)
first_ends Responder true false other h = (λ _. tt, tt)

in_request : (role : Role) → role ≡ Responder → inbound role ≡ way.Request
in_request Requester h = absurd (cc)
in_request Responder h = refl

pub one_end : (o : Opening) (xs : List Word) → FairWords o xs → Ends (over o xs (inbound o.role)) (delivered o xs)
unfolding over delivered FairWords
one_end o [] h = first_ends o.role (is_channel o.kind) (opening_ends o.kind o.whole way.Request) (opening_ends o.kind o.whole (inbound o.role)) (λ is. ap (opening_ends o.kind o.whole) (in_request o.role is))
one_end o (Taken d ∷ xs) h = let e = one_end o xs h.0 in (λ f. e.0 (sym (or-false (over o xs (inbound o.role))) ∙ f), e.1)
one_end o (Said by step ∷ xs) h =
    ends_said (over o xs (inbound o.role)) (is_role o.role by) (ends o.kind (inbound o.role) (Said by step)) (taken xs) (waiting o xs) (delivered o xs) (brings o.kind (is_whole o xs) (inbound o.role) by step)
    (taken_first o xs h.0) (one_end o xs h.0) (brought (is_fnf o.kind) (ends o.kind (inbound o.role) (Said by step)) (item_in o.kind (is_whole o xs) (inbound o.role) (Said by step)) (end_of step))
