-- What stood in front has come.
use Rattle.std.proofs.lemmas.List.{length-append}
use Rattle.std.proofs.Common.{◌≡◌, ◌≤◌, ◌+◌, ◌∙◌, ℕ, true, false, true≢false, List, [], ◌∷◌, ◌++◌, length, refl, sym, ap, subst, arith, append-nil}
use Rattle.rs_frame.specs.declared.frame.Frame.{Frame}
use Rattle.rs_frame.specs.Spelling.{Spells}
use Rattle.rs_chunk.specs.Stream.{IsCut, IsWhole, after_frame, first_frame}
use Rattle.outside.specs.Links.{Counts, counts_after_take}
use Rattle.outside.specs.declared.link.Taken.{Taken}
use Rattle.outside.specs.declared.link.Taken.TheVariants as takes
use Rattle.tape.specs.Told.{entry_of}
use Rattle.tape.specs.declared.event.Event.{Event}
use Rattle.tape.specs.declared.event.Event.TheVariants as event
use Rattle.link_model.specs.Carrying.{Keeps}
use Rattle.link_model.specs.Reading.{BeginsBad, IsInFront, IsPart, IsWaiting}
use Rattle.link_model.proofs.Bytes.{waits_still}
use Rattle.link_model.proofs.Kept.{keeps_bad, keeps_came}
use Rattle.pump.specs.declared.inner.Inner.{Inner}
use Rattle.pump.specs.Moves.{Comes, all_of}
use Rattle.pump.specs.Turns.{Steps, has, is_bad}

pub whole_rest : (i : Comes) → i.waits ≡ [] → all_of i ≡ i.bytes
whole_rest i none = ap (λ t. i.bytes ++ t) none ∙ append-nil i.bytes

settle_came : (p : Inner) (j : Comes) (conn : ℕ) (f : Frame) → p.incoming.waits ≡ [] → p.bad ≡ false → IsInFront p.conn p.incoming.bytes p.incoming.max_in (event.Came conn f)
    → j ≡ record p.incoming { bytes = after_frame p.incoming.bytes }
    → ((fed : List ℕ) (passed : List (List ℕ)) → IsCut fed passed p.incoming.bytes → IsCut fed (passed ++ first_frame p.incoming.bytes ∷ []) j.bytes)
    → Steps p (record p { incoming = j }) (event.Came conn f)
settle_came p j conn f none good h is passes g past who a s limit k =
    let rest : all_of p.incoming ≡ p.incoming.bytes = whole_rest p.incoming none in
    let left : all_of j ≡ j.bytes = whole_rest j (ap (λ (i : Comes). i.waits) is ∙ none) in
    let most : j.max_in ≡ p.incoming.max_in = ap (λ (i : Comes). i.max_in) is in
    let spells : Spells f (first_frame (all_of p.incoming)) = subst (λ t. Spells f (first_frame t)) (sym rest) h.2 in
    let pass : (fed : List ℕ) (passed : List (List ℕ)) → IsCut fed passed (all_of p.incoming) → IsCut fed (passed ++ first_frame (all_of p.incoming) ∷ []) (all_of j) =
    λ fed passed cut. subst (λ t. IsCut fed (passed ++ first_frame t ∷ []) (all_of j)) (sym rest) (subst (IsCut fed (passed ++ first_frame p.incoming.bytes ∷ [])) (sym left) (passes fed passed (subst (IsCut fed passed) rest cut))) in
    let done : Keeps g (entry_of who (event.Came p.conn f) a ∷ past) s (record (has p) { rest = all_of j }) = keeps_came g past who f a s (has p) (all_of j) good spells pass k in
    subst (λ m. Keeps g (entry_of who (event.Came conn f) a ∷ past) s (record (has p) { rest = all_of j; max_in = m })) (sym most)
    (subst (λ c. Keeps g (entry_of who (event.Came c f) a ∷ past) s (record (has p) { rest = all_of j })) (sym h.0) done)

settle_bad : (p : Inner) (conn rule : ℕ) → p.incoming.waits ≡ [] → p.bad ≡ false → IsInFront p.conn p.incoming.bytes p.incoming.max_in (event.Bad conn rule) → Steps p (record p { bad = true }) (event.Bad conn rule)
settle_bad p conn rule none good h g past who a s limit k =
    let begins : BeginsBad rule g.max_in (all_of p.incoming) = subst (λ t. BeginsBad rule g.max_in t) (sym (whole_rest p.incoming none)) (subst (λ m. BeginsBad rule m p.incoming.bytes) limit h.1) in
    subst (λ c. Keeps g (entry_of who (event.Bad c rule) a ∷ past) s (record (has p) { bad = true })) (sym h.0) (keeps_bad g past who rule a s (has p) good begins k)

-- what stands in front is a whole frame, or it is bad
pub front_whole : (c : ℕ) (bytes : List ℕ) (most : ℕ) (e : Event) → IsInFront c bytes most e → is_bad e ≡ false → IsWhole bytes most
front_whole c bytes most (event.Came conn f) h is = h.1
front_whole c bytes most (event.Bad conn rule) h is = absurd (true≢false is)
front_whole c bytes most _ h is = absurd h

pub settles_came : (p : Inner) (j : Comes) (e : Event) → p.incoming.waits ≡ [] → p.bad ≡ false → j ≡ record p.incoming { bytes = after_frame p.incoming.bytes }
    → ((fed : List ℕ) (passed : List (List ℕ)) → IsCut fed passed p.incoming.bytes → IsCut fed (passed ++ first_frame p.incoming.bytes ∷ []) j.bytes)
    → is_bad e ≡ false → IsInFront p.conn p.incoming.bytes p.incoming.max_in e → Steps p (record p { incoming = j }) e
settles_came p j (event.Came conn f) none good is passes came h = settle_came p j conn f none good h is passes
settles_came p j (event.Bad conn rule) none good is passes came h = absurd (true≢false came)
settles_came p j _ none good is passes came h = absurd h

pub settles_bad : (p : Inner) (e : Event) → p.incoming.waits ≡ [] → p.bad ≡ false → is_bad e ≡ true → IsInFront p.conn p.incoming.bytes p.incoming.max_in e → Steps p (record p { bad = true }) e
settles_bad p (event.Came conn f) none good bad h = absurd (true≢false (sym bad))
settles_bad p (event.Bad conn rule) none good bad h = settle_bad p conn rule none good h
settles_bad p _ none good bad h = absurd h

-- where what waits is dropped
pub waits_gone : (i j : Comes) → j ≡ record i { waits = [] } → length (all_of j) ≤ length (all_of i)
waits_gone i j is =
    let before : length (all_of i) ≡ length i.bytes + length i.waits = length-append i.bytes i.waits in
    let after : length (all_of j) ≡ length i.bytes = ap (λ (c : Comes). length (all_of c)) is ∙ ap length (append-nil i.bytes) in
    omega arith

-- what stands in front of the reader stands in front of all
pub waiting_all : (i : Comes) → IsWaiting i.bytes i.max_in → IsWaiting (all_of i) i.max_in
waiting_all i h = waits_still i.bytes i.waits i.max_in h

pub part_all : (i : Comes) → i.waits ≡ [] → IsPart i.bytes i.max_in → IsPart (all_of i) i.max_in
part_all i none h = subst (λ t. IsPart t i.max_in) (sym (whole_rest i none)) h

pub front_all : (c : ℕ) (i : Comes) (e : Event) → i.waits ≡ [] → IsInFront c i.bytes i.max_in e → IsInFront c (all_of i) i.max_in e
front_all c i e none h = subst (λ t. IsInFront c t i.max_in e) (sym (whole_rest i none)) h

-- a take changes no count of stalls
pub stalls_still : (r : Taken) (c : Counts) → (counts_after_take r c).stalls ≡ c.stalls
stalls_still (takes.Took n) c = refl
stalls_still takes.Lull c = refl
stalls_still takes.End c = refl
stalls_still takes.Failed c = refl
