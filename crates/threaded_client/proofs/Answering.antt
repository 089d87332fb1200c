-- What holds where a call answered Ok, by facts that hold there.
use Rattle.std.proofs.Common.{◌≡◌, Bool, true, false, Result, Ok, Err, OnOk, IfOk, Option, Some, None, is_some, ℕ, refl, subst}
use Rattle.rs_wire.specs.declared.settings.Settings.{Settings}
use Rattle.tape.specs.declared.answer.Answer.{Answer}
use Rattle.tape.specs.declared.answer.Answer.TheVariants as answer
use Rattle.link_model.specs.Carrying.{Between}
use Rattle.cable_script.specs.declared.line.Line.{Line}
use Rattle.cable_script.specs.declared.line.Line.TheVariants as line
use Rattle.ring.specs.Parts.{cuts, ends}
use Rattle.threaded_model.specs.Threaded.{act, made_by}
use Rattle.carriers.specs.Moves.{mark_for}
use Rattle.carriers.proofs.Items.{IsPlain}
use Rattle.threaded_client.specs.Carrying.{IsSound, conn_of}

pub on_ok_two : {T E P Q R : Type 0} (r : Result T E) → (P → Q → R) → OnOk r P → OnOk r Q → OnOk r R
on_ok_two (Ok x) f p q = f p q
on_ok_two (Err e) f p q = tt

pub on_ok_one : {T E P Q : Type 0} (r : Result T E) → (P → Q) → OnOk r P → OnOk r Q
on_ok_one (Ok x) f p = f p
on_ok_one (Err e) f p = tt

pub on_ok : {T E P : Type 0} (r : Result T E) → P → OnOk r P
on_ok (Ok x) p = p
on_ok (Err e) p = tt

pub if_ok : {T E Q : Type 0} {P : T → Type 0} (r : Result T E) → ((x : T) → P x → Q) → IfOk r P → OnOk r Q
if_ok (Ok x) f p = f x p
if_ok (Err e) f p = tt

-- the mark between two halves of a round cuts and ends nothing
pub plain_for : (more : Bool) → IsPlain (mark_for more)
unfolding cuts ends
plain_for true = (refl, refl)
plain_for false = (refl, refl)

-- a line that opens does nothing where a connection joins the ends
pub idle_open : (p : Option Between) → is_some p ≡ true → act (conn_of p) line.Open ≡ None
idle_open None h = absurd (cc h)
idle_open (Some b) h = refl

-- an answer that made a connection opened it
pub made_opened : (a : Answer) (c : ℕ) → made_by a ≡ Some c → a ≡ answer.Opened c
made_opened (answer.Opened d) c h = cc h
made_opened _ c h = absurd (cc h)

-- no connection joins the ends
pub none_joins : (p : Option Between) → is_some p ≡ false → p ≡ None
none_joins None h = refl
none_joins (Some b) h = absurd (cc h)

-- the pump's connection is the carrier's
pub sound_conn : (g : Settings) (conn : ℕ) (p : Option Between) (b : Between) → p ≡ Some b → IsSound g conn p → b.conn ≡ conn
sound_conn g conn p b is h = (subst (λ (o : Option Between). IsSound g conn o) is h).0

-- the line never opens, cuts or ticks
abbrev pub is_idle : Line → Bool
is_idle line.Open = false
is_idle line.Cut = false
is_idle (line.Tick now) = false
is_idle _ = true

pub idle_line : (p : Option Between) (l : Line) → is_idle l ≡ true → act (conn_of p) l ≡ None
idle_line None line.Open h = absurd (cc h)
idle_line None line.Cut h = absurd (cc h)
idle_line None (line.Tick now) h = absurd (cc h)
idle_line None (line.Ask side asked) h = refl
idle_line None (line.Many side stream count size) h = refl
idle_line None (line.Up most) h = refl
idle_line None (line.Down most) h = refl
idle_line None line.Drain h = refl
idle_line None line.Drop h = refl
idle_line None (line.Late most) h = refl
idle_line (Some b) line.Open h = absurd (cc h)
idle_line (Some b) line.Cut h = absurd (cc h)
idle_line (Some b) (line.Tick now) h = absurd (cc h)
idle_line (Some b) (line.Ask side asked) h = refl
idle_line (Some b) (line.Many side stream count size) h = refl
idle_line (Some b) (line.Up most) h = refl
idle_line (Some b) (line.Down most) h = refl
idle_line (Some b) line.Drain h = refl
idle_line (Some b) line.Drop h = refl
idle_line (Some b) (line.Late most) h = refl
