-- So many own bytes and then held ones: what is left of them.
use Rattle.std.proofs.Common.{◌≡◌, ℕ, ◌+◌, ◌-◌, ◌<◌, ◌≤◌, List, [], ◌∷◌, ◌++◌, length, take, drop, replicate, map, Option, None, Some, refl, sym, ap, ◌∙◌, append_assoc, append-nil, arith}
use Rattle.std.proofs.lemmas.List.{drop_at, drop-append-le, drop-map, length-append, length-map, length-replicate, length-take-le, map-append, replicate-append-replicate, take_at, take-append-drop, take-append-le, take-map}
use Rattle.std.proofs.Math.Seq.{drop-append-add, take-append-add}
use Rattle.outbox.specs.Line.{run}

-- what some of the bytes are, and the others
pub record Cut (bytes : List (Option ℕ)) (n : ℕ) (front rest : List (Option ℕ)) : Type 0 where
  pub front_is : take n bytes ≡ front
  pub rest_is : drop n bytes ≡ rest
  pub within : n ≤ length bytes

at : (bytes front rest : List (Option ℕ)) (n : ℕ) → bytes ≡ front ++ rest → length front ≡ n → Cut bytes n front rest
at bytes front rest n is size = record {
  front_is = ap (take n) is ∙ take_at front rest n size;
  rest_is = ap (drop n) is ∙ drop_at front rest n size;
  within = omega (arith, ap length is, length-append front rest, size);
}

-- some of a list and what comes after it
pub cut_first : (xs ys : List (Option ℕ)) (n : ℕ) (front rest : List (Option ℕ)) → Cut xs n front rest → Cut (xs ++ ys) n front (rest ++ ys)
cut_first xs ys n front rest c = record {
  front_is = take-append-le n xs ys c.within ∙ c.front_is;
  rest_is = drop-append-le n xs ys c.within ∙ ap (λ l. l ++ ys) c.rest_is;
  within = omega (arith, c.within, length-append xs ys);
}

-- and what comes before it
pub cut_last : (xs ys : List (Option ℕ)) (n : ℕ) (front rest : List (Option ℕ)) → Cut ys n front rest → Cut (xs ++ ys) (length xs + n) (xs ++ front) rest
cut_last xs ys n front rest c = record {
  front_is = take-append-add xs ys n ∙ ap (λ l. xs ++ l) c.front_is;
  rest_is = drop-append-add xs ys n ∙ c.rest_is;
  within = omega (arith, c.within, length-append xs ys);
}

pub length-run : (own : ℕ) (held : List ℕ) → length (run own held) ≡ own + length held
length-run own held =
    let first : length (replicate own (the_none)) ≡ own = length-replicate own the_none in
    length-append (replicate own the_none) (map Some held) ∙ (λ i. first i + length-map held Some i)
  where
    the_none : Option ℕ
    the_none = None

-- the first own ones
pub own_first : (own n : ℕ) (held : List ℕ) → n ≤ own → Cut (run own held) n (replicate n None) (run (own - n) held)
own_first own n held le =
    let sum : n + (own - n) ≡ own = omega (arith, le) in
    let parts : run own held ≡ replicate n None ++ run (own - n) held =
    ap (λ k. replicate k None ++ map Some held) (sym sum) ∙ ap (λ l. l ++ map Some held) (sym (replicate-append-replicate n (own - n) None))
    ∙ append_assoc (replicate n None) (replicate (own - n) None) (map Some held) in
    at (run own held) (replicate n None) (run (own - n) held) n parts (length-replicate n None)

-- the first held ones
pub held_first : (n : ℕ) (held : List ℕ) → n ≤ length held → Cut (run 0 held) n (map Some (take n held)) (run 0 (drop n held))
held_first n held le = record {
  front_is = take-map Some n held;
  rest_is = drop-map Some n held;
  within = omega (arith, le, length-map held Some);
}

-- without the last held ones
pub held_last : (own n : ℕ) (held : List ℕ) → n ≤ length held → Cut (run own held) (own + n) (run own (take n held)) (map Some (drop n held))
held_last own n held le =
    let parts : run own held ≡ run own (take n held) ++ map Some (drop n held) =
    ap (λ l. replicate own None ++ map Some l) (sym (take-append-drop n held)) ∙ ap (λ l. replicate own None ++ l) (map-append Some (take n held) (drop n held))
    ∙ sym (append_assoc (replicate own None) (map Some (take n held)) (map Some (drop n held))) in
    at (run own held) (run own (take n held)) (map Some (drop n held)) (own + n) parts
    (length-run own (take n held) ∙ ap (λ k. own + k) (length-take-le n held le))

-- held ones more
pub run-more : (own : ℕ) (held more : List ℕ) → run own (held ++ more) ≡ run own held ++ run 0 more
run-more own held more =
    ap (λ l. replicate own None ++ l) (map-append Some held more) ∙ sym (append_assoc (replicate own None) (map Some held) (map Some more))
