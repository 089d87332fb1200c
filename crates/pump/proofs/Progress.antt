-- What has moved in a turn.
use Rattle.std.proofs.Common.{◌≡◌, ◌∙◌, ◌<◌, ◌+◌, ◌⊎◌, inl, inr, ℕ, true, List, [], Option, Some, None, is_some, refl, sym, ap, subst, arith, true≢false}
use Rattle.std.proofs.lemmas.List.{length-append}
use Rattle.outside.specs.Causes.{Rose}
use Rattle.outside.specs.Links.{NoneFell, Shown}
use Rattle.link_model.specs.Carrying.{Between}
use Rattle.pump.specs.declared.outgoing.Gave.{Gave}
use Rattle.pump.specs.declared.outgoing.Gave.TheVariants as gaves
use Rattle.pump.specs.declared.incoming.Took.{Took}
use Rattle.pump.specs.declared.incoming.Took.TheVariants as tooks
use Rattle.pump.specs.Moves.{HasGave, HasTook, IsGrown, given_in}
use Rattle.pump.specs.Parts.{is_fine}
use Rattle.pump.specs.Turns.{HasMoved, HasWaiting, length_shown}
use Rattle.pump.proofs.Outcomes.{gave_grown, none_fell_both, rose_from, took_grown}

grown_length : (n : ℕ) (old new : Option (List ℕ)) → is_some old ≡ true → IsGrown n old new → length_shown new ≡ length_shown old + n
grown_length n None new is h = absurd (true≢false (sym is))
grown_length n (Some xs) new is h = ap length_shown h.2 ∙ omega (arith, length-append xs h.0, h.1)

-- where something has grown
has_moved : (s t : Shown) (x y : ℕ) → IsGrown x s.given t.given → IsGrown y s.taken t.taken → NoneFell s.counts t.counts → (0 < x) ⊎ (0 < y) ⊎ Rose s.counts.lulls t.counts.lulls ⊎ Rose s.counts.stalls t.counts.stalls → HasMoved s t
has_moved s t x y gx gy f (inl h) a b = inl (let u = grown_length x s.given t.given a gx in let v = grown_length y s.taken t.taken b gy in omega (arith, f.lulls, f.stalls, h, u, v))
has_moved s t x y gx gy f (inr (inl h)) a b = inl (let u = grown_length x s.given t.given a gx in let v = grown_length y s.taken t.taken b gy in omega (arith, f.lulls, f.stalls, h, u, v))
has_moved s t x y gx gy f (inr (inr (inl (inl h)))) a b = inl (let u = grown_length x s.given t.given a gx in let v = grown_length y s.taken t.taken b gy in omega (arith, f.lulls, f.stalls, h, u, v))
has_moved s t x y gx gy f (inr (inr (inl (inr h)))) a b = inr (inl h)
has_moved s t x y gx gy f (inr (inr (inr (inl h)))) a b = inl (let u = grown_length x s.given t.given a gx in let v = grown_length y s.taken t.taken b gy in omega (arith, f.lulls, f.stalls, h, u, v))
has_moved s t x y gx gy f (inr (inr (inr (inr h)))) a b = inr (inr h)

-- where neither way failed
pub progress : (s m t : Shown) (b : Between) (left : List ℕ) (gave : Gave) (took : Took) → is_fine gave took ≡ true → HasGave s m gave → HasTook m t took → t.given ≡ m.given → m.taken ≡ s.taken
    → NoneFell s.counts m.counts → NoneFell m.counts t.counts → (gave ≡ gaves.Nothing → left ≡ []) → (took ≡ tooks.Nothing → (gave ≡ gaves.Failed → ⊥) → HasWaiting b) → HasMoved s t ⊎ (HasWaiting b × (left ≡ []))
progress s m t b left gave (tooks.Count n) fine g k given taken f h nothing waits = inl (has_moved s t (given_in gave) n (subst (λ z. IsGrown (given_in gave) s.given z) (sym given) (gave_grown s m gave g)) (subst (λ z. IsGrown n z t.taken) taken k.2) (none_fell_both s.counts m.counts t.counts f h) (inr (inl k.0)))
progress s m t b left gave tooks.Lull fine g k given taken f h nothing waits = inl (has_moved s t (given_in gave) 0 (subst (λ z. IsGrown (given_in gave) s.given z) (sym given) (gave_grown s m gave g)) (subst (λ z. IsGrown 0 z t.taken) taken (took_grown m t gave tooks.Lull fine k)) (none_fell_both s.counts m.counts t.counts f h) (inr (inr (inl (rose_from s.counts.lulls m.counts.lulls t.counts.lulls f.lulls k.1)))))
progress s m t b left gaves.Nothing tooks.Nothing fine g k given taken f h nothing waits = inr (waits refl (λ is. (let e : gaves.Nothing ≡ gaves.Failed = is in cc)), nothing refl)
progress s m t b left (gaves.Count n) tooks.Nothing fine g k given taken f h nothing waits = inl (has_moved s t n 0 (subst (λ z. IsGrown n s.given z) (sym given) g.2) (subst (λ z. IsGrown 0 z t.taken) taken (took_grown m t (gaves.Count n) tooks.Nothing fine k)) (none_fell_both s.counts m.counts t.counts f h) (inl g.0))
progress s m t b left gaves.Stalled tooks.Nothing fine g k given taken f h nothing waits = inl (has_moved s t 0 0 (subst (λ z. IsGrown 0 s.given z) (sym given) (gave_grown s m gaves.Stalled g)) (subst (λ z. IsGrown 0 z t.taken) taken (took_grown m t gaves.Stalled tooks.Nothing fine k)) (none_fell_both s.counts m.counts t.counts f h) (inr (inr (inr (subst (λ (z : Shown). Rose s.counts.stalls z.counts.stalls) (sym k) g.1)))))
progress s m t b left gaves.Failed tooks.Nothing fine g k given taken f h nothing waits = absurd (true≢false (sym fine))
progress s m t b left gave tooks.End fine g k given taken f h nothing waits = absurd (true≢false (sym fine))
progress s m t b left gave tooks.Failed fine g k given taken f h nothing waits = absurd (true≢false (sym fine))
progress s m t b left gave tooks.OutOfMemory fine g k given taken f h nothing waits = absurd (true≢false (sym fine))
