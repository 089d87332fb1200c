-- What is delivered are the items of the way that this end receives, and then its end.
use Rattle.std.proofs.Common.{◌≡◌, ◌&&◌, ◌||◌, Bool, true, false, not, cond, List, [], ◌∷◌, ◌++◌, Option, Some, None, option_to_list, refl, ap, subst, sym, ◌∙◌, append-nil}
use Rattle.std.proofs.Math.Bool.{or-false}
use Rattle.rs_wire.specs.declared.words.Kind.{Kind}
use Rattle.rs_wire.specs.declared.words.Kind.TheVariants.{Response, Fnf, Stream, Channel}
use Rattle.rs_wire.specs.declared.words.Role.{Role}
use Rattle.rs_wire.specs.declared.words.Role.TheVariants.{Requester, Responder}
use Rattle.rs_wire.specs.declared.words.Way.{Way}
use Rattle.rs_wire.specs.declared.words.Way.TheVariants as way
use Rattle.rs_wire.specs.declared.message.Message.{Message}
use Rattle.rs_wire.specs.declared.delivery.Delivery.{Delivery}
use Rattle.rs_wire.specs.declared.delivery.Delivery.TheVariants as delivery
use Rattle.stream_model.specs.Marks.{Opening, Step, Payload, RequestN, Cancel, Fail}
use Rattle.stream_model.specs.Turns.{Word, Said, Taken, carries, is_fnf, is_channel, is_role, other, inbound, over, ends, opening_ends, end_of, is_whole, item_in, item_deliveries, items, brings, delivered, taken, waiting}
use Rattle.stream_model.specs.Laws.{is_end, own_end, items_of, has_end}
use Rattle.stream_model.specs.Fair.{FairWords}
use Rattle.stream_model.proofs.Words.{waits_said, waiting_said}

-- ---- an own end drops what waits

own_over_by : (over mine e before : Bool) → (before ≡ true → over ≡ true) → (before || (not over && (mine && e))) ≡ true → (over || e) ≡ true
own_over_by true mine e before h is = refl
own_over_by false true true before h is = refl
own_over_by false true false true h is = absurd (let t = h refl in cc)
own_over_by false true false false h is = absurd (cc)
own_over_by false false e true h is = absurd (let t = h refl in cc)
own_over_by false false e false h is = absurd (cc)

kept_over : (over before : Bool) → (before ≡ true → over ≡ true) → (before || false) ≡ true → (over || false) ≡ true
kept_over true before h is = refl
kept_over false true h is = absurd (let t = h refl in cc)
kept_over false false h is = absurd (cc)

-- the way is over then
pub own_end_over : (o : Opening) (xs : List Word) → own_end o xs ≡ true → over o xs (inbound o.role) ≡ true
unfolding own_end over
own_end_over o [] is = absurd (cc)
own_end_over o (Said by step ∷ xs) is = own_over_by (over o xs (inbound o.role)) (is_role o.role by) (ends o.kind (inbound o.role) (Said by step)) (own_end o xs) (own_end_over o xs) is
own_end_over o (Taken d ∷ xs) is = kept_over (over o xs (inbound o.role)) (own_end o xs) (own_end_over o xs) is

none_left : (over mine e before : Bool) (waits more : List Delivery) → (before ≡ true → over ≡ true) → (before ≡ true → waits ≡ []) → (before || (not over && (mine && e))) ≡ true → waits_said over mine e waits more ≡ []
none_left true mine e true waits more h none is = none refl
none_left true mine e false waits more h none is = absurd (cc)
none_left false mine e true waits more h none is = absurd (let t = h refl in cc)
none_left false true true false waits more h none is = refl
none_left false true false false waits more h none is = absurd (cc)
none_left false false e false waits more h none is = absurd (cc)

-- nothing waits after an own act that ended the way, and nothing more comes
pub dropped : (o : Opening) (xs : List Word) → FairWords o xs → own_end o xs ≡ true → waiting o xs ≡ []
unfolding own_end FairWords
dropped o [] h is = absurd (cc)
dropped o (Said by step ∷ xs) h is =
    waiting_said o xs by step h.0
    ∙ none_left (over o xs (inbound o.role)) (is_role o.role by) (ends o.kind (inbound o.role) (Said by step)) (own_end o xs) (waiting o xs) (brings o.kind (is_whole o xs) (inbound o.role) by step) (own_end_over o xs) (dropped o xs h.0) is
dropped o (Taken d ∷ xs) h is =
    let none : waiting o xs ≡ [] = dropped o xs h.0 (sym (or-false (own_end o xs)) ∙ is) in
    let first = h.1.take.1 in
    absurd (cc)

-- ---- items

items_append : (ds es : List Delivery) → items_of (ds ++ es) ≡ items_of ds ++ items_of es
items_append [] es = refl
items_append (delivery.Item m ∷ ds) es = ap (λ l. m ∷ l) (items_append ds es)
items_append (d ∷ ds) es = items_append ds es

end_has_no_item : (step : Step) → items_of (end_of step ∷ []) ≡ []
end_has_no_item Cancel = refl
end_has_no_item (Fail code content) = refl
end_has_no_item (Payload m complete next) = refl
end_has_no_item (RequestN n) = refl

item_of : (item : Option Message) (e : Bool) (step : Step) → items_of (item_deliveries item ++ cond e (end_of step ∷ []) []) ≡ option_to_list item
item_of None true step = end_has_no_item step
item_of None false step = refl
item_of (Some m) true step = ap (λ l. m ∷ l) (end_has_no_item step)
item_of (Some m) false step = refl

none_by_responder : (kind : Kind) (whole : Bool) → carries kind whole way.Request Responder ≡ false
none_by_responder Channel whole = refl
none_by_responder Stream whole = refl
none_by_responder Response whole = refl
none_by_responder Fnf whole = refl

none_by_requester : (kind : Kind) (whole : Bool) → carries kind whole way.Reply Requester ≡ false
none_by_requester Channel whole = refl
none_by_requester Stream whole = refl
none_by_requester Response whole = refl
none_by_requester Fnf whole = refl

none_fnf : (whole : Bool) (w : Way) (by : Role) → carries Fnf whole w by ≡ false
none_fnf whole way.Request Requester = refl
none_fnf whole way.Request Responder = refl
none_fnf whole way.Reply Requester = refl
none_fnf whole way.Reply Responder = refl

no_next : (next : Bool) (m : Message) → cond (next && false) (Some m) None ≡ None
no_next true m = refl
no_next false m = refl

no_own_item : (kind : Kind) (whole : Bool) (role : Role) (step : Step) → carries kind whole (inbound role) role ≡ false → item_in kind whole (inbound role) (Said role step) ≡ None
no_own_item kind whole role (Payload m complete next) none = rw none (no_next next m)
no_own_item kind whole role (RequestN n) none = refl
no_own_item kind whole role Cancel none = refl
no_own_item kind whole role (Fail code content) none = refl

same_role : (a b : Role) → is_role a b ≡ true → a ≡ b
same_role Requester Requester is = refl
same_role Responder Responder is = refl
same_role Requester Responder is = absurd (cc)
same_role Responder Requester is = absurd (cc)

-- an end sends no items on the way that it receives
none_own : (kind : Kind) (whole : Bool) (role : Role) → carries kind whole (inbound role) role ≡ false
none_own kind whole Responder = none_by_responder kind whole
none_own kind whole Requester = none_by_requester kind whole

own_item : (o : Opening) (whole : Bool) (by : Role) (step : Step) → is_role o.role by ≡ true → item_in o.kind whole (inbound o.role) (Said by step) ≡ None
own_item o whole by step is = subst (λ r. item_in o.kind whole (inbound o.role) (Said r step) ≡ None) (same_role o.role by is) (no_own_item o.kind whole o.role step (none_own o.kind whole o.role))

fnf_item : (kind : Kind) (whole : Bool) (w : Way) (by : Role) (step : Step) → is_fnf kind ≡ true → item_in kind whole w (Said by step) ≡ None
fnf_item Fnf whole w by (Payload m complete next) is = rw (none_fnf whole w by) (no_next next m)
fnf_item Fnf whole w by (RequestN n) is = refl
fnf_item Fnf whole w by Cancel is = refl
fnf_item Fnf whole w by (Fail code content) is = refl
fnf_item Response whole w by step is = absurd (cc)
fnf_item Stream whole w by step is = absurd (cc)
fnf_item Channel whole w by step is = absurd (cc)

items_brought : (kind : Kind) (whole : Bool) (w : Way) (by : Role) (step : Step) → items_of (brings kind whole w by step) ≡ option_to_list (item_in kind whole w (Said by step))
items_brought kind whole w by step =
    elim (is_fnf kind) as (λ v. is_fnf kind ≡ v → items_of (cond v [] (item_deliveries (item_in kind whole w (Said by step)) ++ cond (ends kind w (Said by step)) (end_of step ∷ []) [])) ≡ option_to_list (item_in kind whole w (Said by step))) [
      | true ↦ λ is. rw (fnf_item kind whole w by step is) refl
      | false ↦ λ is. item_of (item_in kind whole w (Said by step)) (ends kind w (Said by step)) step
    ] refl

items_said : (over mine e before : Bool) (ds took more : List Delivery) (xs : List Message) (item : Option Message) → (mine ≡ true → item ≡ None) → items_of more ≡ option_to_list item → (before ≡ false → items_of ds ≡ xs)
    → (before || (not over && (mine && e))) ≡ false → items_of (cond over ds (cond mine (cond e took ds) (ds ++ more))) ≡ xs ++ option_to_list (cond over None item)
items_said over mine e true ds took more xs item own m h is = absurd (cc)
items_said true mine e false ds took more xs item own m h is = h refl ∙ sym (append-nil xs)
items_said false true true false ds took more xs item own m h is = absurd (cc)
items_said false true false false ds took more xs item own m h is = rw (own refl) (h refl ∙ sym (append-nil xs))
items_said false false e false ds took more xs item own m h is = items_append ds more ∙ rw (h refl, m) refl

first_items : (b : Bool) → items_of (cond b (delivery.Complete ∷ []) []) ≡ []
first_items true = refl
first_items false = refl

no_item_taken : (over : Bool) → option_to_list (cond {A = Option Message} over None None) ≡ []
no_item_taken true = refl
no_item_taken false = refl

-- until an own act ends the way, its items are delivered, in order
pub items_delivered : (o : Opening) (xs : List Word) → own_end o xs ≡ false → items_of (delivered o xs) ≡ items o xs (inbound o.role)
unfolding own_end delivered items
items_delivered o [] is = first_items (is_role o.role Responder && is_channel o.kind && opening_ends o.kind o.whole way.Request)
items_delivered o (Said by step ∷ xs) is =
    items_said (over o xs (inbound o.role)) (is_role o.role by) (ends o.kind (inbound o.role) (Said by step)) (own_end o xs) (delivered o xs) (taken xs) (brings o.kind (is_whole o xs) (inbound o.role) by step)
    (items o xs (inbound o.role)) (item_in o.kind (is_whole o xs) (inbound o.role) (Said by step)) (own_item o (is_whole o xs) by step) (items_brought o.kind (is_whole o xs) (inbound o.role) by step) (items_delivered o xs) is
items_delivered o (Taken d ∷ xs) is =
    items_delivered o xs (sym (or-false (own_end o xs)) ∙ is) ∙ (sym (append-nil (items o xs (inbound o.role))) ∙ ap (λ l. items o xs (inbound o.role) ++ l) (sym (no_item_taken (over o xs (inbound o.role)))))

-- ---- the end

or_assoc : (a b c : Bool) → (a || (b || c)) ≡ ((a || b) || c)
or_assoc true b c = refl
or_assoc false b c = refl

end_append : (ds es : List Delivery) → has_end (ds ++ es) ≡ (has_end ds || has_end es)
end_append [] es = refl
end_append (d ∷ ds) es = ap (λ b. is_end d || b) (end_append ds es) ∙ or_assoc (is_end d) (has_end ds) (has_end es)

end_is_one : (step : Step) → is_end (end_of step) ≡ true
end_is_one Cancel = refl
end_is_one (Fail code content) = refl
end_is_one (Payload m complete next) = refl
end_is_one (RequestN n) = refl

end_brought : (item : Option Message) (e : Bool) (step : Step) → has_end (item_deliveries item ++ cond e (end_of step ∷ []) []) ≡ e
end_brought None true step = rw (end_is_one step) refl
end_brought None false step = refl
end_brought (Some m) true step = rw (end_is_one step) refl
end_brought (Some m) false step = refl

end_said : (over mine e before : Bool) (ds took more : List Delivery) → (before ≡ true → over ≡ true) → has_end more ≡ e → (before ≡ false → has_end ds ≡ over)
    → (before || (not over && (mine && e))) ≡ false → has_end (cond over ds (cond mine (cond e took ds) (ds ++ more))) ≡ (over || e)
end_said over mine e true ds took more o m h is = absurd (cc)
end_said true mine e false ds took more o m h is = h refl
end_said false true true false ds took more o m h is = absurd (cc)
end_said false true false false ds took more o m h is = h refl
end_said false false e false ds took more o m h is = end_append ds more ∙ rw (h refl, m) refl

first_end : (role : Role) (kind : Kind) (whole : Option (Message × Bool)) → is_fnf kind ≡ false
    → has_end (cond (is_role role Responder && is_channel kind && opening_ends kind whole way.Request) (delivery.Complete ∷ []) []) ≡ opening_ends kind whole (inbound role)
first_end Requester Channel (Some m) is = elim m.1 as (λ v. false ≡ (v && false)) [ true ↦ refl | false ↦ refl ]
first_end Requester Channel None is = refl
first_end Responder Channel (Some m) is = elim m.1 as (λ v. has_end (cond (v && true) (delivery.Complete ∷ []) []) ≡ (v && true)) [ true ↦ refl | false ↦ refl ]
first_end Responder Channel None is = refl
first_end role Fnf whole is = absurd (cc)
first_end Requester Response (Some m) is = refl
first_end Requester Response None is = refl
first_end Requester Stream (Some m) is = refl
first_end Requester Stream None is = refl
first_end Responder Response (Some m) is = refl
first_end Responder Response None is = refl
first_end Responder Stream (Some m) is = refl
first_end Responder Stream None is = refl

-- and an end is delivered exactly where the way is over
pub end_delivered : (o : Opening) (xs : List Word) → is_fnf o.kind ≡ false → own_end o xs ≡ false → has_end (delivered o xs) ≡ over o xs (inbound o.role)
unfolding own_end delivered over
end_delivered o [] other is = first_end o.role o.kind o.whole other
end_delivered o (Said by step ∷ xs) other is =
    let more : has_end (brings o.kind (is_whole o xs) (inbound o.role) by step) ≡ ends o.kind (inbound o.role) (Said by step)
    = rw other (end_brought (item_in o.kind (is_whole o xs) (inbound o.role) (Said by step)) (ends o.kind (inbound o.role) (Said by step)) step) in
    end_said (over o xs (inbound o.role)) (is_role o.role by) (ends o.kind (inbound o.role) (Said by step)) (own_end o xs) (delivered o xs) (taken xs) (brings o.kind (is_whole o xs) (inbound o.role) by step)
    (own_end_over o xs) more (end_delivered o xs other) is
end_delivered o (Taken d ∷ xs) other is = end_delivered o xs other (sym (or-false (own_end o xs)) ∙ is) ∙ sym (or-false (over o xs (inbound o.role)))
