-- All that was taken has come, as far as it can.
use Rattle.std.proofs.Common.{◌≡◌, ◌<◌, ◌+◌, ◌∙◌, inl, inr, ℕ, true, true≢false, List, [], ◌∷◌, ◌++◌, is_some, refl, sym, ap, subst, arith}
use Rattle.rs_wire.specs.declared.settings.Settings.{Settings}
use Rattle.outside.specs.Links.{Shown}
use Rattle.tape.specs.declared.entry.Entry.{Entry}
use Rattle.session_model.specs.Frames.{came, was_opened}
use Rattle.conn_lock.specs.Callers.{IsOthers, calls, once, times}
use Rattle.conn_shared.specs.Lines.{who_of}
use Rattle.conn_shared.specs.Members.{Follows, Knowledge}
use Rattle.link_model.specs.Carrying.{Between, IsAlone, Keeps}
use Rattle.link_model.specs.Leaving.{ComesInTime, Heard, IsHeldBack, IsReadOut as HasReadOut}
use Rattle.link_model.specs.Reading.{IsInFront, IsPart}
use Rattle.link_model.proofs.Heard.{keeps_heard}
use Rattle.link_model.proofs.Same.{came_other, opened_on}
use Rattle.pump.specs.Turns.{IsKept, IsReadOut, MovesAlone, WasBusy}
use Rattle.pump.proofs.Adding.{IsOn}
use Rattle.pump.proofs.Keeping.{other_not}

opened_more : (c : ℕ) (past more : List Entry) → was_opened past c ≡ true → was_opened (more ++ past) c ≡ true
opened_more c past [] o = o
opened_more c past (x ∷ more) o = opened_on (more ++ past) x c (opened_more c past more o)

-- others bring nothing on a connection that one caller alone moves bytes of
came_others : (c n : ℕ) (names : List ℕ) (past others : List Entry) → 0 < times n names → IsOthers who_of names others → IsAlone c n (others ++ past) → was_opened past c ≡ true → came (others ++ past) c ≡ came past c
came_others c n names past [] named o alone opened = refl
came_others c n names past (e ∷ others) named o alone opened =
    let none : once e.who n + calls who_of n others ≡ 0 = o n named in
    let rest : IsOthers who_of names others = λ x x_named. (let sum : once e.who x + calls who_of x others ≡ 0 = o x x_named in omega arith) in
    came_other (others ++ past) e c (opened_more c past others opened) (other_not c n e alone.0 (omega arith)) ∙ came_others c n names past others named rest alone.1 opened

held_back : (g : Settings) (was now : Knowledge) (b : Between) (q : ℕ) → IsOn was now → was_opened was.front b.conn ≡ true → b.max_in ≡ g.max_in → MovesAlone now b.conn → WasBusy g was b now.front q → IsHeldBack g now.front b.conn b.rest
held_back g was now b q on opened limit own w =
    let names : now.names ≡ was.names = ap (λ (x : Knowledge). x.names) on in
    let f : Follows now.names w.before now.front = subst (λ ns. Follows ns w.before now.front) (sym names) w.follows in
    let before : was_opened w.before b.conn ≡ true = subst (λ es. was_opened es b.conn ≡ true) (sym w.since.1) (opened_more b.conn was.front w.since.0 opened) in
    let alone : IsAlone b.conn now.number (f.0 ++ w.before) = subst (IsAlone b.conn now.number) f.1 own.alone in
    let same : came now.front b.conn ≡ came w.before b.conn = ap (λ es. came es b.conn) f.1 ∙ came_others b.conn now.number now.names w.before f.0 own.named f.2 alone before in
    record {
      event = w.busy.event;
      before = w.before;
      later = f.0;
      queued = q;
      since = f.1;
      all = sym same;
      front = subst (λ m. IsInFront b.conn b.rest m w.busy.event) limit w.busy.front;
      busy = sym w.busy.answered;
    }

read_out : (g : Settings) (was now : Knowledge) (link : Shown) (b : Between) → IsOn was now → was_opened was.front b.conn ≡ true → b.max_in ≡ g.max_in → MovesAlone now b.conn → Keeps g now.front link b → IsReadOut g was b now.front → HasReadOut g now.front b.conn b.rest
read_out g was now link b on opened limit own k (inl (inl bad)) = inr (inl (λ none. true≢false (sym bad ∙ (k.bad ∙ ap is_some none))))
read_out g was now link b on opened limit own k (inl (inr part)) = inl (subst (λ m. IsPart b.rest m) limit part)
read_out g was now link b on opened limit own k (inr h) = inr (inr (held_back g was now b h.0 on opened limit own h.1))

pub is_heard : (was now : Knowledge) (link : Shown) (b : Between) → IsOn was now → was_opened was.front b.conn ≡ true → b.max_in ≡ now.of.settings.max_in → MovesAlone now b.conn → IsKept now link b → IsReadOut now.of.settings was b now.front → ComesInTime now.of.settings now.front b.conn → Heard now.of.settings now.front link b.conn
is_heard was now link b on opened limit own kept out in_time =
    let k = kept own in
    keeps_heard now.of.settings now.front link b k in_time (read_out now.of.settings was now link b on opened limit own k out)
