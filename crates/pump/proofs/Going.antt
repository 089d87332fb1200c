-- What holds of all turns.
use Rattle.std.specs.List.{AllByRecursion}
use Rattle.std.proofs.Common.{◌≡◌, ◌<◌, ◌∙◌, inl, inr, ℕ, Bool, true, false, true≢false, List, [], ◌∷◌, ◌++◌, Option, Some, None, ◌&&◌, refl, sym, subst}
use Rattle.rs_wire.specs.declared.settings.Settings.{Settings}
use Rattle.outside.specs.Links.{Shown}
use Rattle.tape.specs.declared.answer.Answer.{Answer}
use Rattle.tape.specs.declared.event.Event.TheVariants as event
use Rattle.tape.specs.declared.entry.Entry.{Entry}
use Rattle.conn_lock.specs.Callers.{times}
use Rattle.conn_shared.specs.Members.{Continues, Knowledge}
use Rattle.link_model.specs.Carrying.{Between, IsAlone, Keeps, is_of}
use Rattle.link_model.proofs.Kept.{keeps_other}
use Rattle.pump.specs.declared.numbers.TheConstants.{PIECE}
use Rattle.pump.specs.Turns.{Arrives, Begins, DrawsWhere, GoesOn, IsKept, IsPumped, IsTurn, Spares, goes_on_after, is_empty}
use Rattle.pump.proofs.Adding.{IsOn, IsOwn, goes_as, goes_both, goes_called, goes_continues, goes_none}
use Rattle.pump.proofs.Events.{arrives_names}
use Rattle.pump.proofs.Drawing.{names_draw}
use Rattle.pump.proofs.Keeping.{alone_before, kept_now}

-- such an entry is of another connection, or of none
apart : (c n : ℕ) (names : List ℕ) (e : Entry) → 0 < times n names → (is_of c e.event ≡ true → e.who ≡ n) → IsOwn (Spares c) names n e → is_of c e.event ≡ false
apart c n names e named alone own = elim (is_of c e.event) as (λ v. (is_of c e.event) ≡ v → v ≡ false) [
  | true ↦ λ is. absurd (true≢false (sym is ∙ (own (subst (λ k. 0 < times k names) (sym (alone is)) named)).1))
  | false ↦ λ is. refl
] refl

keeps_goes : (g : Settings) (n : ℕ) (names : List ℕ) (old more : List Entry) (s : Shown) (p : Between) → 0 < times n names → AllByRecursion (IsOwn (Spares p.conn) names n) more → IsAlone p.conn n (more ++ old) → Keeps g old s p → Keeps g (more ++ old) s p
keeps_goes g n names old [] s p named own alone k = k
keeps_goes g n names old (e ∷ more) s p named own alone k =
    keeps_other g (more ++ old) e s p (apart p.conn n names e named alone.0 own.0) (keeps_goes g n names old more s p named own.1 alone.1 k)

pub kept_goes : (was now : Knowledge) (s : Shown) (p : Between) → IsOn was now → GoesOn (Spares p.conn) was now.front → IsKept was s p → IsKept now s p
kept_goes was now s p on goes k = kept_now was now s p on (λ named alone.
    let a : IsAlone p.conn was.number (goes.more ++ was.front) = subst (IsAlone p.conn was.number) goes.on alone in
    subst (λ es. Keeps was.of.settings es s p) (sym goes.on) (keeps_goes was.of.settings was.number was.names was.front goes.more s p named goes.own a (k (record { named = named; alone = alone_before p.conn was.number was.front goes.more a }))))

draws_go : (moments : Option (List ℕ)) (due : Bool) (g : Settings) (me : Knowledge) (c room : ℕ) (drew : Option Answer) (old left : List ℕ) (new : List Entry) → DrawsWhere due g me c room drew old left new → GoesOn (IsPumped moments c) me new
draws_go moments true g me c room (Some a) old left new d = goes_called (IsPumped moments c) g me (event.Draw c room) a new (inr (names_draw c room)) d.called
draws_go moments false g me c room None old left new d = subst (GoesOn (IsPumped moments c) me) (sym d.1) (goes_none (IsPumped moments c) me)
draws_go moments true g me c room None old left new d = absurd d
draws_go moments false g me c room (Some a) old left new d = absurd d

pub begins_goes : (g : Settings) (moments : Option (List ℕ)) (me : Knowledge) (c : ℕ) (old left : List ℕ) (new : List Entry) → Begins g moments me c old left new → GoesOn (IsPumped moments c) me new
begins_goes g moments me c old left new b =
    let P = IsPumped moments c in
    let ticked : Knowledge = record me { front = b.ticked; note = None } in
    goes_both P me ticked new refl (goes_called P g me (event.Tick b.now) b.answer b.ticked (inl b.moment) b.tick) (draws_go moments (goes_on_after b.answer && is_empty old) g ticked c PIECE b.drew old left new b.draw)

pub begun_on : (g : Settings) (moments : Option (List ℕ)) (me : Knowledge) (c : ℕ) (old left : List ℕ) (new : List Entry) → Begins g moments me c old left new → Continues me.front new
begun_on g moments me c old left new b = goes_continues (IsPumped moments c) me new (begins_goes g moments me c old left new b)

pub turn_goes : (g : Settings) (moments : Option (List ℕ)) (me : Knowledge) (c : ℕ) (old left : List ℕ) (new : List Entry) → IsTurn g moments me c old left new → GoesOn (IsPumped moments c) me new
turn_goes g moments me c old left new t =
    let begun : Knowledge = record me { front = t.begun; note = None } in
    goes_both (IsPumped moments c) me begun new refl (begins_goes g moments me c old left t.begun t.begins) (goes_as (Arrives c) (IsPumped moments c) begun new (λ e h. inr (arrives_names c e h)) t.arrivals)
