-- The laws of one stream.
use Rattle.std.proofs.Common.{◌≡◌, ◌≤◌, ◌<◌, ◌+◌, ℕ, Bool, true, false, cond, List, [], ◌∷◌, ◌++◌, length, drop, Option, Some, None, IsSome, option_to_list, refl, ap, subst, sym, ◌∙◌, arith, append-nil, append_assoc, length-append}
use Rattle.std.proofs.Math.Seq.{drop-append_seam}
use Rattle.rs_wire.specs.declared.words.Way.{Way}
use Rattle.rs_wire.specs.declared.message.Message.{Message}
use Rattle.rs_wire.specs.declared.delivery.Delivery.{Delivery}
use Rattle.rs_wire.specs.declared.words.Role.{Role}
use Rattle.stream_model.specs.Marks.{Opening, Step}
use Rattle.stream_model.specs.Turns.{Word, Said, Taken, over, is_whole, ends, item_next, items, used, granted, delivered, taken, waiting, inbound, is_role, brings, needs_credit}
use Rattle.stream_model.specs.Fair.{FairWords}

pub over_stays : (o : Opening) (xs : List Word) (x : Word) (w : Way) → over o xs w ≡ true → over o (x ∷ xs) w ≡ true
unfolding over
over_stays o xs x w is = rw is refl

one_more : (item : Option Message) (u g : ℕ) → u ≤ g → (IsSome item → u < g) → u + length (option_to_list item) ≤ g
one_more None u g le h = omega arith
one_more (Some m) u g le h = let lt : u < g = h refl in omega arith

pub used_within : (o : Opening) (xs : List Word) (w : Way) → needs_credit o.kind ≡ true → FairWords o xs → used o xs w ≤ granted o xs w
unfolding used items granted FairWords
used_within o [] w needs h = omega arith
used_within o (x ∷ xs) w needs h =
    let one = one_more (item_next o xs w x) (length (items o xs w)) (granted o xs w) (used_within o xs w needs h.0) (h.1.credit needs w) in
    omega (arith, length-append (items o xs w) (option_to_list (item_next o xs w x)))

-- what is left of a list behind its front
left : {A : Type 0} (front rest whole : List A) → front ++ rest ≡ whole → drop (length front) whole ≡ rest
left front rest whole e = subst (λ l. drop (length front) l ≡ rest) e (drop-append_seam front rest)

whole_again : {A : Type 0} (front rest whole : List A) → front ++ rest ≡ whole → front ++ drop (length front) whole ≡ whole
whole_again front rest whole e = ap (λ l. front ++ l) (left front rest whole e) ∙ e

-- what is delivered after a step
abbrev pub delivered_said : Bool → Bool → Bool → List Delivery → List Delivery → List Delivery → List Delivery
delivered_said over mine ends taken before more = cond over before (cond mine (cond ends taken before) (before ++ more))

-- what waits after a step
abbrev pub waits_said : Bool → Bool → Bool → List Delivery → List Delivery → List Delivery
waits_said over mine ends before more = cond over before (cond mine (cond ends [] before) (before ++ more))

seam_said : (over mine ends : Bool) (front rest whole more : List Delivery) → front ++ rest ≡ whole → front ++ waits_said over mine ends rest more ≡ delivered_said over mine ends front whole more
seam_said true mine ends front rest whole more e = e
seam_said false true true front rest whole more e = append-nil front
seam_said false true false front rest whole more e = e
seam_said false false ends front rest whole more e = sym (append_assoc front rest more) ∙ ap (λ l. l ++ more) e

pub taken_first : (o : Opening) (xs : List Word) → FairWords o xs → taken xs ++ waiting o xs ≡ delivered o xs
unfolding taken delivered waiting FairWords
taken_first o [] h = refl
taken_first o (Taken d ∷ xs) h =
    let e : taken xs ++ waiting o xs ≡ delivered o xs = taken_first o xs h.0 in
    let rest = h.1.take.0 in
    whole_again (taken xs ++ d ∷ []) rest (delivered o xs) (append_assoc (taken xs) (d ∷ []) rest ∙ (ap (λ l. taken xs ++ l) (sym h.1.take.1) ∙ e))
taken_first o (Said by step ∷ xs) h =
    whole_again (taken xs) _ _ (seam_said (over o xs (inbound o.role)) (is_role o.role by) (ends o.kind (inbound o.role) (Said by step)) (taken xs) (waiting o xs) (delivered o xs) (brings o.kind (is_whole o xs) (inbound o.role) by step) (taken_first o xs h.0))

-- what waits after a step of either end
pub waiting_said : (o : Opening) (xs : List Word) (by : Role) (step : Step) → FairWords o xs
    → waiting o (Said by step ∷ xs) ≡ waits_said (over o xs (inbound o.role)) (is_role o.role by) (ends o.kind (inbound o.role) (Said by step)) (waiting o xs) (brings o.kind (is_whole o xs) (inbound o.role) by step)
unfolding taken delivered waiting FairWords
waiting_said o xs by step h =
    left (taken xs) _ _ (seam_said (over o xs (inbound o.role)) (is_role o.role by) (ends o.kind (inbound o.role) (Said by step)) (taken xs) (waiting o xs) (delivered o xs) (brings o.kind (is_whole o xs) (inbound o.role) by step) (taken_first o xs h))

-- what waits once the first was taken
pub waiting_taken : (o : Opening) (xs : List Word) (d : Delivery) (rest : List Delivery) → FairWords o xs → waiting o xs ≡ d ∷ rest → waiting o (Taken d ∷ xs) ≡ rest
unfolding taken delivered waiting FairWords
waiting_taken o xs d rest h is =
    left (taken xs ++ d ∷ []) rest (delivered o xs) (append_assoc (taken xs) (d ∷ []) rest ∙ (ap (λ l. taken xs ++ l) (sym is) ∙ taken_first o xs h))
