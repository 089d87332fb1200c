-- What is kept over the calls of its caller, and over the entries of others.
use Rattle.std.proofs.lemmas.Bool.Decides.{nat_tests}
use Rattle.std.proofs.Common.{◌≡◌, ◌<◌, ◌+◌, ◌∙◌, ℕ, Bool, true, false, cond, List, [], ◌∷◌, ◌++◌, refl, sym, ap, subst, arith}
use Rattle.rs_wire.specs.declared.settings.Settings.{Settings}
use Rattle.outside.specs.Links.{Shown}
use Rattle.tape.specs.Answers.{leaves}
use Rattle.tape.specs.Told.{entry_of}
use Rattle.tape.specs.declared.entry.Entry.{Entry}
use Rattle.tape.specs.declared.event.Event.{Event}
use Rattle.tape.specs.declared.answer.Answer.{Answer}
use Rattle.session_core.specs.Seen.{entries_after}
use Rattle.conn_lock.specs.Callers.{IsOthers, calls, once, times}
use Rattle.conn_shared.specs.Lines.{who_of}
use Rattle.conn_shared.specs.Members.{Follows, Knowledge}
use Rattle.link_model.specs.Carrying.{Between, IsAlone, Keeps, is_of}
use Rattle.link_model.proofs.Kept.{keeps_other}
use Rattle.pump.specs.declared.inner.Inner.{Inner}
use Rattle.pump.specs.declared.bringing.Brought.{Brought}
use Rattle.pump.specs.Moves.{Comes, all_of}
use Rattle.pump.specs.Turns.{HasBrought, IsKept, Steps, brought_by, has, leaves_by}
use Rattle.pump.proofs.Adding.{IsOn, all_split}
use Rattle.pump.proofs.Events.{leaves_is}

same_once : (n : ℕ) → once n n ≡ 1
same_once n = grind (arith, nat_tests)

-- an entry of another moves no bytes of the connection
pub other_not : (c n : ℕ) (e : Entry) → (is_of c e.event ≡ true → e.who ≡ n) → once e.who n ≡ 0 → is_of c e.event ≡ false
other_not c n e own none = elim (is_of c e.event) as (λ v. (is_of c e.event) ≡ v → v ≡ false) [
  | true ↦ λ is. absurd (let w : once n n ≡ 0 = subst (λ k. once k n ≡ 0) (own is) none in let o = same_once n in omega arith)
  | false ↦ λ is. refl
] refl

keeps_others : (g : Settings) (n : ℕ) (names : List ℕ) (old others : List Entry) (s : Shown) (p : Between) → 0 < times n names → IsOthers who_of names others → IsAlone p.conn n (others ++ old) → Keeps g old s p → Keeps g (others ++ old) s p
keeps_others g n names old [] s p named o alone k = k
keeps_others g n names old (e ∷ others) s p named o alone k =
    let none : once e.who n + calls who_of n others ≡ 0 = o n named in
    let apart : is_of p.conn e.event ≡ false = other_not p.conn n e alone.0 (omega arith) in
    let rest : IsOthers who_of names others = λ x x_named. (let sum : once e.who x + calls who_of x others ≡ 0 = o x x_named in omega arith) in
    keeps_other g (others ++ old) e s p apart (keeps_others g n names old others s p named rest alone.1 k)

pub alone_before : (c n : ℕ) (old more : List Entry) → IsAlone c n (more ++ old) → IsAlone c n old
alone_before c n old more h = (all_split _ more old h).1

keeps_follows : (g : Settings) (n : ℕ) (names : List ℕ) (old new : List Entry) (s : Shown) (p : Between) → 0 < times n names → Follows names old new → IsAlone p.conn n new → (IsAlone p.conn n old → Keeps g old s p) → Keeps g new s p
keeps_follows g n names old new s p named f alone k =
    let a : IsAlone p.conn n (f.0 ++ old) = subst (IsAlone p.conn n) f.1 alone in
    subst (λ es. Keeps g es s p) (sym f.1) (keeps_others g n names old f.0 s p named f.2 a (k (alone_before p.conn n old f.0 a)))

-- ---- as the caller knows

-- said of a caller of whom only the front and the note have changed
pub kept_now : (was now : Knowledge) (s : Shown) (q : Between) → IsOn was now → (0 < times was.number was.names → IsAlone q.conn was.number now.front → Keeps was.of.settings now.front s q) → IsKept now s q
kept_now was now s q on k own =
    let n : now.number ≡ was.number = ap (λ (x : Knowledge). x.number) on in
    let names : now.names ≡ was.names = ap (λ (x : Knowledge). x.names) on in
    let g : now.of.settings ≡ was.of.settings = ap (λ (x : Knowledge). x.of.settings) on in
    let named : 0 < times was.number was.names = subst (λ i. 0 < times i was.names) n (subst (λ ns. 0 < times now.number ns) names own.named) in
    subst (λ t. Keeps t now.front s q) (sym g) (k named (subst (λ i. IsAlone q.conn i now.front) n own.alone))

pub kept_follows : (was now : Knowledge) (s : Shown) (p : Between) → IsOn was now → Follows was.names was.front now.front → IsKept was s p → IsKept now s p
kept_follows was now s p on f k = kept_now was now s p on (λ named alone.
    keeps_follows was.of.settings was.number was.names was.front now.front s p named f alone (λ a. k (record { named = named; alone = a })))

left_as : (n : ℕ) (e : Event) (a : Answer) (past : List Entry) (b : Bool) → leaves a ≡ b → entries_after n e a past ≡ cond b (entry_of n e a ∷ past) past
left_as n e a past b is = rw is refl

leaves_so : (a : Answer) (b : Brought) (v : Bool) → b ≡ brought_by a → leaves_by b ≡ v → leaves a ≡ v
leaves_so a b v is by = leaves_is a ∙ (ap leaves_by (sym is) ∙ by)

-- a call that left no entry
pub kept_no_entry : (g : Settings) (was now : Knowledge) (e : Event) (b : Brought) (s : Shown) (p : Between) → IsOn was now → leaves_by b ≡ false → HasBrought g was e b now.front → IsKept was s p → IsKept now s p
kept_no_entry g was now e b s p on none h k =
    let same : now.front ≡ h.called.before = h.called.step.after ∙ left_as was.number e h.answer h.called.before false (leaves_so h.answer b false h.is none) in
    kept_follows was now s p on (subst (Follows was.names was.front) (sym same) h.called.follows) k

-- a call that left an entry, over which what is kept goes on
pub kept_entry : (g : Settings) (was now : Knowledge) (e : Event) (b : Brought) (s : Shown) (p q : Between) → IsOn was now → leaves_by b ≡ true → q.conn ≡ p.conn → (h : HasBrought g was e b now.front)
    → (Keeps was.of.settings h.called.before s p → Keeps was.of.settings (entry_of was.number e h.answer ∷ h.called.before) s q) → IsKept was s p → IsKept now s q
kept_entry g was now e b s p q on some conn h step k =
    let one : now.front ≡ entry_of was.number e h.answer ∷ h.called.before = h.called.step.after ∙ left_as was.number e h.answer h.called.before true (leaves_so h.answer b true h.is some) in
    kept_now was now s q on (λ named alone.
    let before : IsAlone p.conn was.number h.called.before = (subst (IsAlone p.conn was.number) one (subst (λ c. IsAlone c was.number now.front) conn alone)).1 in
    subst (λ es. Keeps was.of.settings es s q) (sym one) (step (keeps_follows was.of.settings was.number was.names was.front h.called.before s p named h.called.follows before (λ a. k (record { named = named; alone = a })))))

-- a call that moves no bytes of the connection
pub kept_other : (g : Settings) (was now : Knowledge) (e : Event) (b : Brought) (s : Shown) (p : Between) → IsOn was now → is_of p.conn e ≡ false → HasBrought g was e b now.front → IsKept was s p → IsKept now s p
kept_other g was now e b s p on apart h k = elim (leaves_by b) as (λ v. (leaves_by b) ≡ v → IsKept now s p) [
  | true ↦ λ some. kept_entry g was now e b s p p on some refl h (λ before. keeps_other was.of.settings h.called.before (entry_of was.number e h.answer) s p apart before) k
  | false ↦ λ none. kept_no_entry g was now e b s p on none h k
] refl

-- a call over which the pump became another
pub kept_steps : (g : Settings) (was now : Knowledge) (e : Event) (b : Brought) (s : Shown) (p q : Inner) → was.of.settings ≡ g → p.incoming.max_in ≡ g.max_in → IsOn was now → leaves_by b ≡ true → q.conn ≡ p.conn → Steps p q e → HasBrought g was e b now.front → IsKept was s (has p) → IsKept now s (has q)
kept_steps g was now e b s p q is limit on some conn steps h k =
    kept_entry g was now e b s (has p) (has q) on some conn h (λ before. steps was.of.settings h.called.before was.number h.answer s (limit ∙ ap (λ (t : Settings). t.max_in) (sym is)) before) k

-- the reader was handed what it did not have
pub fed_still : (me : Knowledge) (s : Shown) (p : Inner) (j : Comes) → all_of j ≡ all_of p.incoming → j.max_in ≡ p.incoming.max_in → IsKept me s (has p) → IsKept me s (has (record p { incoming = j }))
fed_still me s p j all most k = subst (λ m. IsKept me s (record (has p) { rest = all_of j; max_in = m })) (sym most) (subst (λ r. IsKept me s (record (has p) { rest = r })) (sym all) k)

pub fed_keeps : (g : Settings) (past : List Entry) (s : Shown) (p : Inner) (j : Comes) → all_of j ≡ all_of p.incoming → j.max_in ≡ p.incoming.max_in → Keeps g past s (has p) → Keeps g past s (has (record p { incoming = j }))
fed_keeps g past s p j all most k = subst (λ m. Keeps g past s (record (has p) { rest = all_of j; max_in = m })) (sym most) (subst (λ r. Keeps g past s (record (has p) { rest = r })) (sym all) k)

-- bytes of the link moved, whatever the entries
pub kept_moved : (me : Knowledge) (s t : Shown) (p q : Between) → q.conn ≡ p.conn → ((g : Settings) (past : List Entry) → Keeps g past s p → Keeps g past t q) → IsKept me s p → IsKept me t q
kept_moved me s t p q conn f k own = f me.of.settings me.front (k (record { named = own.named; alone = subst (λ c. IsAlone c me.number me.front) conn own.alone }))
