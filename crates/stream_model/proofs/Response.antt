-- A response carries one payload at most.
use Rattle.std.proofs.Common.{◌≡◌, ◌≤◌, ◌⊎◌, inl, inr, ◌+◌, ◌||◌, ℕ, Bool, true, false, cond, List, [], ◌∷◌, ◌++◌, length, Option, None, option_to_list, refl, ap, subst, sym, ◌∙◌, arith, length-append}
use Rattle.rs_wire.specs.declared.words.Kind.{Kind}
use Rattle.rs_wire.specs.declared.words.Kind.TheVariants.{Response}
use Rattle.rs_wire.specs.declared.words.Role.TheVariants.{Requester, Responder}
use Rattle.rs_wire.specs.declared.words.Way.TheVariants as way
use Rattle.rs_wire.specs.declared.message.Message.{Message}
use Rattle.stream_model.specs.Marks.{Opening, Payload}
use Rattle.stream_model.specs.Turns.{Word, Said, Taken, is_response, over, ends, is_whole, item_in, item_next, items}

-- the item of a word ends the way
item_ends : (kind : Kind) (whole : Bool) (x : Word) → is_response kind ≡ true
    → (length (option_to_list (item_in kind whole way.Reply x)) ≡ 0) ⊎ ((length (option_to_list (item_in kind whole way.Reply x)) ≡ 1) × (ends kind way.Reply x ≡ true))
item_ends Response whole (Said Requester (Payload m complete true)) is = inl refl
item_ends Response whole (Said Requester (Payload m complete false)) is = inl refl
item_ends Response whole (Said Responder (Payload m complete true)) is = inr (refl, refl)
item_ends Response whole (Said Responder (Payload m complete false)) is = inl refl
item_ends Response whole (Said by _) is = inl refl
item_ends Response whole (Taken d) is = inl refl
item_ends kind whole x is = absurd (cc)

-- none until the way is over, and one at most
abbrev pub OneAtMost : Bool → ℕ → Type 0
OneAtMost over n = (over ≡ false → n ≡ 0) × (n ≤ 1)

one_more : (over ends : Bool) (n k : ℕ) → OneAtMost over n → (k ≡ 0) ⊎ ((k ≡ 1) × (ends ≡ true)) → OneAtMost (over || ends) (n + cond over 0 k)
one_more true ends n k h e = (λ f. absurd (cc), let l = h.1 in omega arith)
one_more false ends n k h (inl none) = (λ f. let z = h.0 refl in omega arith, let z = h.0 refl in omega arith)
one_more false true n k h (inr one) = (λ f. absurd (cc), let z = h.0 refl in let o = one.0 in omega arith)
one_more false false n k h (inr one) = absurd (let e = one.1 in cc)

none_or : (over : Bool) (item : Option Message) → length (option_to_list (cond over None item)) ≡ cond over 0 (length (option_to_list item))
none_or true item = refl
none_or false item = refl

pub one_response : (o : Opening) (xs : List Word) → is_response o.kind ≡ true → OneAtMost (over o xs way.Reply) (length (items o xs way.Reply))
unfolding over items
one_response o [] is = (λ f. refl, omega arith)
one_response o (x ∷ xs) is =
    let item = item_in o.kind (is_whole o xs) way.Reply x in
    let more : length (items o xs way.Reply ++ option_to_list (item_next o xs way.Reply x)) ≡ length (items o xs way.Reply) + cond (over o xs way.Reply) 0 (length (option_to_list item))
    = length-append (items o xs way.Reply) (option_to_list (item_next o xs way.Reply x)) ∙ ap (λ n. length (items o xs way.Reply) + n) (none_or (over o xs way.Reply) item) in
    subst (OneAtMost (over o xs way.Reply || ends o.kind way.Reply x)) (sym more)
    (one_more (over o xs way.Reply) (ends o.kind way.Reply x) _ (length (option_to_list item)) (one_response o xs is) (item_ends o.kind (is_whole o xs) x is))
