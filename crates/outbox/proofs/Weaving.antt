-- The line and the other own bytes: what comes at the end, and what leaves.
use Rattle.std.proofs.Common.{◌≡◌, ℕ, zero, suc, ◌+◌, ◌-◌, ◌<◌, ◌≤◌, List, [], ◌∷◌, ◌++◌, length, take, drop, replicate, map, Option, None, Some, refl, sym, ap, ◌∙◌, append-nil, arith}
use Rattle.std.proofs.lemmas.List.{length-append, length-take-le, take-append-drop, take_all, take_at}
use Rattle.outbox.specs.Line.{own_in, run, weave}

-- ---- how many own bytes

pub own_in-append : (bs cs : List (Option ℕ)) → own_in (bs ++ cs) ≡ own_in bs + own_in cs
unfolding own_in
own_in-append [] cs = omega arith
own_in-append (None ∷ bs) cs = omega (arith, own_in-append bs cs)
own_in-append (Some x ∷ bs) cs = own_in-append bs cs

pub own_in-nil : own_in [] ≡ 0
unfolding own_in
own_in-nil = refl

pub own_in-none : (n : ℕ) → own_in (replicate n None) ≡ n
unfolding own_in
own_in-none zero = refl
own_in-none (suc n) = ap suc (own_in-none n)

pub own_in-some : (xs : List ℕ) → own_in (map Some xs) ≡ 0
unfolding own_in
own_in-some [] = refl
own_in-some (x ∷ xs) = own_in-some xs

pub own_in-run : (n : ℕ) (xs : List ℕ) → own_in (run n xs) ≡ n
own_in-run n xs = omega (arith, own_in-append (replicate n None) (map Some xs), own_in-none n, own_in-some xs)

pub own_in-le : (bs : List (Option ℕ)) → own_in bs ≤ length bs
unfolding own_in
own_in-le [] = omega arith
own_in-le (None ∷ bs) = omega (arith, own_in-le bs)
own_in-le (Some x ∷ bs) = omega (arith, own_in-le bs)

pub own_in-parts : (bs : List (Option ℕ)) (n : ℕ) → own_in (take n bs) + own_in (drop n bs) ≡ own_in bs
own_in-parts bs n = sym (own_in-append (take n bs) (drop n bs)) ∙ ap own_in (take-append-drop n bs)

-- ---- what waits

pub weave-nil : (own : List ℕ) → weave [] own ≡ own
unfolding weave
weave-nil own = refl

pub length-weave : (bs : List (Option ℕ)) (own : List ℕ) → own_in bs ≤ length own → length (weave bs own) + own_in bs ≡ length bs + length own
unfolding weave own_in
length-weave [] own le = omega arith
length-weave (Some x ∷ bs) own le = omega (arith, length-weave bs own le)
length-weave (None ∷ bs) [] le = absurd (omega (arith, le))
length-weave (None ∷ bs) (x ∷ own) le = omega (arith, length-weave bs own (omega (arith, le)))

-- more own bytes come at the end
pub weave-more : (bs : List (Option ℕ)) (own more : List ℕ) → own_in bs ≤ length own → weave bs (own ++ more) ≡ weave bs own ++ more
unfolding weave own_in
weave-more [] own more le = refl
weave-more (Some x ∷ bs) own more le = ap (λ l. x ∷ l) (weave-more bs own more le)
weave-more (None ∷ bs) [] more le = absurd (omega (arith, le))
weave-more (None ∷ bs) (x ∷ own) more le = ap (λ l. x ∷ l) (weave-more bs own more (omega (arith, le)))

weave-held : (xs : List ℕ) → weave (map Some xs) [] ≡ xs
unfolding weave
weave-held [] = refl
weave-held (x ∷ xs) = ap (λ l. x ∷ l) (weave-held xs)

weave-run : (n : ℕ) (own xs : List ℕ) → n ≡ length own → weave (run n xs) own ≡ own ++ xs
unfolding weave
weave-run zero [] xs is = weave-held xs
weave-run zero (y ∷ own) xs is = absurd (omega (arith, is))
weave-run (suc n) [] xs is = absurd (omega (arith, is))
weave-run (suc n) (y ∷ own) xs is = ap (λ l. y ∷ l) (weave-run n own xs (omega (arith, is)))

-- all own bytes stand in the line, and then these
pub weave-last : (bs : List (Option ℕ)) (n : ℕ) (own xs : List ℕ) → own_in bs + n ≡ length own → weave (bs ++ run n xs) own ≡ weave bs own ++ xs
unfolding weave own_in
weave-last [] n own xs is = weave-run n own xs (omega (arith, is))
weave-last (Some x ∷ bs) n own xs is = ap (λ l. x ∷ l) (weave-last bs n own xs is)
weave-last (None ∷ bs) n [] xs is = absurd (omega (arith, is))
weave-last (None ∷ bs) n (x ∷ own) xs is = ap (λ l. x ∷ l) (weave-last bs n own xs (omega (arith, is)))

-- the first bytes of the line
pub weave-take : (bs : List (Option ℕ)) (n : ℕ) (own : List ℕ) → n ≤ length bs → own_in bs ≤ length own → take n (weave bs own) ≡ weave (take n bs) (take (own_in (take n bs)) own)
unfolding weave own_in
weave-take bs zero own within le = refl
weave-take [] (suc n) own within le = absurd (omega arith)
weave-take (Some x ∷ bs) (suc n) own within le = ap (λ l. x ∷ l) (weave-take bs n own (omega arith) le)
weave-take (None ∷ bs) (suc n) [] within le = absurd (omega (arith, le))
weave-take (None ∷ bs) (suc n) (x ∷ own) within le = ap (λ l. x ∷ l) (weave-take bs n own (omega arith) (omega (arith, le)))

pub weave-drop : (bs : List (Option ℕ)) (n : ℕ) (own : List ℕ) → n ≤ length bs → own_in bs ≤ length own → drop n (weave bs own) ≡ weave (drop n bs) (drop (own_in (take n bs)) own)
unfolding weave own_in
weave-drop bs zero own within le = refl
weave-drop [] (suc n) own within le = absurd (omega arith)
weave-drop (Some x ∷ bs) (suc n) own within le = weave-drop bs n own (omega arith) le
weave-drop (None ∷ bs) (suc n) [] within le = absurd (omega (arith, le))
weave-drop (None ∷ bs) (suc n) (x ∷ own) within le = weave-drop bs n own (omega arith) (omega (arith, le))

-- the first ones, where they are own or held

pub own-first : (bs : List (Option ℕ)) (n : ℕ) (own : List ℕ) → n ≤ length bs → own_in bs ≤ length own → take n bs ≡ replicate n None → take n (weave bs own) ≡ take n own
own-first bs n own within le are =
    let count : own_in (take n bs) ≡ n = ap own_in are ∙ own_in-none n in
    let few : n ≤ length own = omega (arith, count, own_in-parts bs n, le) in
    weave-take bs n own within le ∙ (λ i. weave (are i) (take (count i) own)) ∙ ap (λ l. weave l (take n own)) (sym (append-nil (replicate n None)))
    ∙ weave-run n (take n own) [] (sym (length-take-le n own few)) ∙ append-nil (take n own)

pub held-first : (bs : List (Option ℕ)) (n : ℕ) (own xs : List ℕ) → n ≤ length bs → own_in bs ≤ length own → take n bs ≡ map Some xs → take n (weave bs own) ≡ xs
held-first bs n own xs within le are =
    let count : own_in (take n bs) ≡ 0 = ap own_in are ∙ own_in-some xs in
    weave-take bs n own within le ∙ (λ i. weave (are i) (take (count i) own)) ∙ weave-held xs

-- without the last own bytes
pub without_last : (bs : List (Option ℕ)) (m : ℕ) (own : List ℕ) → own_in bs ≤ m → m ≤ length own → weave bs (take m own) ≡ take (length (weave bs own) - (length own - m)) (weave bs own)
without_last bs m own low le =
    let size = length-take-le m own le in
    let cut : weave bs own ≡ weave bs (take m own) ++ drop m own = ap (weave bs) (sym (take-append-drop m own)) ∙ weave-more bs (take m own) (drop m own) (omega (arith, size, low)) in
    let count : length (weave bs (take m own)) ≡ length (weave bs own) - (length own - m) =
    omega (arith, length-weave bs own (omega (arith, low, le)), length-weave bs (take m own) (omega (arith, size, low)), size) in
    sym (ap (take (length (weave bs own) - (length own - m))) cut ∙ take_at (weave bs (take m own)) (drop m own) (length (weave bs own) - (length own - m)) count)
