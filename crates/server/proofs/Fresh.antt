-- What is kept of a link from its opening on, before a pump moves its bytes.
use Rattle.std.proofs.Common.{◌≡◌, ◌≤◌, ◌^◌, ◌∙◌, ◌⊎◌, inl, inr, ℕ, Bool, true, false, true≢false, List, [], length, Option, Some, None, refl, sym, ap, subst, arith}
use Rattle.rs_wire.specs.declared.settings.Settings.{Settings}
use Rattle.outside.specs.Links.{Shown}
use Rattle.tape.specs.declared.answer.Answer.{Answer}
use Rattle.tape.specs.declared.answer.Answer.TheVariants as answer
use Rattle.tape.specs.declared.entry.Entry.{Entry}
use Rattle.conn_shared.specs.Members.{Knowledge}
use Rattle.link_model.specs.Carrying.{Between, IsFresh}
use Rattle.link_model.proofs.Fresh.{fresh_keeps}
use Rattle.pump.specs.declared.turned.Turned.{Turned}
use Rattle.pump.specs.declared.turned.Turned.TheVariants as turned
use Rattle.pump.specs.Turns.{IsKept, Spares, TurnedFor, is_early, is_last}
use Rattle.pump.proofs.Adding.{IsOn, goes_as, goes_none}
use Rattle.pump.proofs.Going.{kept_goes}
use Rattle.server.specs.Attending.{Grants, HaveFewTicks, IsAttended, ticks_by}
use Rattle.server.specs.Running.{Ran, ended_by}
use Rattle.server.proofs.Helped.{IsLeased, leased_goes, leased_no_tick, leased_spares}
use Rattle.server.proofs.Ticking.{IsNoTick, none_goes}

-- what stands between the two before anything moves
abbrev pub nothing_between : ℕ → List ℕ → ℕ → Between
nothing_between c rest most = record { conn = c; left = []; rest = rest; max_in = most; bad = false }

pub fresh_kept : (g : Settings) (me : Knowledge) (link : Shown) (c most : ℕ) (rest : List ℕ) → me.of.settings ≡ g → IsFresh g me.front link c rest → IsKept me link (nothing_between c rest most)
fresh_kept g me link c most rest is fresh own = fresh_keeps me.of.settings me.front link c most rest (subst (λ h. IsFresh h me.front link c rest) (sym is) fresh)

pub leased_kept : (g : Settings) (grant : Option ℕ) (was now : Knowledge) (link : Shown) (b : Between) (lease : Answer) → IsOn was now → Grants g grant was lease now.front → IsKept was link b → IsKept now link b
leased_kept g grant was now link b lease on grants k = kept_goes was now link b on (goes_as IsLeased (Spares b.conn) was now.front (leased_spares b.conn) (leased_goes g grant was lease now.front grants)) k

-- no tick was added by the lease
pub leased_ticks : (g : Settings) (grant : Option ℕ) (was now : Knowledge) (lease : Answer) → Grants g grant was lease now.front → ticks_by was.names now.front ≡ ticks_by was.names was.front
leased_ticks g grant was now lease grants = none_goes was now.front (goes_as IsLeased IsNoTick was now.front leased_no_tick (leased_goes g grant was lease now.front grants))

-- a lease whose answer ends the connection found the tape full, or no memory
full_by : (g : Settings) (grant : Option ℕ) (was : Knowledge) (new : List Entry) → Grants g grant was answer.TapeFull new → 2 ^ 63 ≤ length new
full_by g None was new h = absurd (cc)
full_by g (Some count) was new h = subst (λ (es : List Entry). 2 ^ 63 ≤ length es) (sym h.step.after) (h.step.full.0 refl)

-- the connection ended before a pump was made: the lease was so answered, or there was no memory for a pump
pub ran_early : (g : Settings) (moments : Option (List ℕ)) (helps : Bool) (grant : Option ℕ) (was now : Knowledge) (s t : Shown) (c : ℕ) (rest : List ℕ) (lease : Answer) (r : Turned)
    → was.of.settings ≡ g → IsOn was now → IsFresh g was.front s c rest → t ≡ s → Grants g grant was lease now.front → (ended_by lease ≡ Some r) ⊎ (r ≡ turned.OutOfMemory) → Ran g moments helps grant was now s t c r
ran_early g moments helps grant was now s t c rest lease r is on fresh same grants ends = record {
  lease = lease;
  leased = now.front;
  grants = grants;
  want = λ none. want lease r none ends;
  goes = goes_none (IsAttended moments helps c) (record was { front = now.front; note = None });
  between = b;
  conn = refl;
  limit = refl;
  kept = subst (λ l. IsKept now l b) (sym same) (leased_kept g grant was now s b lease on grants (fresh_kept g was s c g.max_in rest is fresh));
  last = last lease r ends;
  cause = cause lease r ends grants;
  read = λ late. absurd (true≢false (sym (early lease r ends) ∙ late));
  ticks = λ own. subst (λ l. HaveFewTicks 2 was.names was.front now.front s l) (sym same) (λ given taken. inl (let none = leased_ticks g grant was now lease grants in omega (arith, none)));
}
  where
    b : Between
    b = nothing_between c rest g.max_in

    want : (lease : Answer) (r : Turned) → lease ≡ answer.OutOfMemory → (ended_by lease ≡ Some r) ⊎ (r ≡ turned.OutOfMemory) → r ≡ turned.OutOfMemory
    want lease r none (inl is) = let e : Some turned.OutOfMemory ≡ Some r = subst (λ (x : Answer). ended_by x ≡ Some r) none is in cc
    want lease r none (inr is) = is

    last : (lease : Answer) (r : Turned) → (ended_by lease ≡ Some r) ⊎ (r ≡ turned.OutOfMemory) → is_last r ≡ true
    last answer.TapeFull r (inl is) = let e : turned.TapeFull ≡ r = cc in ap is_last (sym e)
    last answer.OutOfMemory r (inl is) = let e : turned.OutOfMemory ≡ r = cc in ap is_last (sym e)
    last _ r (inl is) = absurd (let e : None ≡ Some r = is in cc)
    last lease r (inr is) = ap is_last is

    early : (lease : Answer) (r : Turned) → (ended_by lease ≡ Some r) ⊎ (r ≡ turned.OutOfMemory) → is_early r ≡ true
    early answer.TapeFull r (inl is) = let e : turned.TapeFull ≡ r = cc in ap is_early (sym e)
    early answer.OutOfMemory r (inl is) = let e : turned.OutOfMemory ≡ r = cc in ap is_early (sym e)
    early _ r (inl is) = absurd (let e : None ≡ Some r = is in cc)
    early lease r (inr is) = ap is_early is

    cause : (lease : Answer) (r : Turned) → (ended_by lease ≡ Some r) ⊎ (r ≡ turned.OutOfMemory) → Grants g grant was lease now.front → TurnedFor g moments was now.front s t b r
    cause answer.TapeFull r (inl is) h = let e : turned.TapeFull ≡ r = cc in subst (TurnedFor g moments was now.front s t b) e (full_by g grant was now.front h)
    cause answer.OutOfMemory r (inl is) h = let e : turned.OutOfMemory ≡ r = cc in subst (TurnedFor g moments was now.front s t b) e tt
    cause _ r (inl is) h = absurd (let e : None ≡ Some r = is in cc)
    cause lease r (inr is) h = subst (TurnedFor g moments was now.front s t b) (sym is) tt
