-- A link is left at the end of its connection, however it came.
use Rattle.std.specs.List.{AllByRecursion}
use Rattle.std.proofs.Common.{◌≡◌, ◌∙◌, ◌||◌, inl, inr, ℕ, Bool, true, false, true≢false, List, [], ◌∷◌, ◌++◌, Some, None, refl, sym, arith}
use Rattle.std.proofs.lemmas.Grind.{common_steps}
use Rattle.rs_wire.specs.declared.settings.Settings.{Settings}
use Rattle.rs_wire.specs.declared.fault.Cause.{Cause}
use Rattle.outside.specs.Links.{Shown}
use Rattle.tape.specs.declared.answer.Answer.TheVariants as answer
use Rattle.tape.specs.declared.entry.Entry.{Entry}
use Rattle.session_model.specs.Life.{closed, is_live, live}
use Rattle.session_model.specs.Frames.{queued, was_opened}
use Rattle.session_model.specs.Legal.{Legal}
use Rattle.link_model.specs.Carrying.{Between, Keeps, is_of}
use Rattle.link_model.specs.Leaving.{ComesInTime, IsBroken, IsReadOut, Left, displaced, parted}
use Rattle.link_model.proofs.Heard.{keeps_heard}
use Rattle.link_model.proofs.Same.{opened_on}
use Rattle.link_laws.specs.Staying.{IsHeld, StaysOn, ends}
use Rattle.link_laws.proofs.Staying.{on_or_displaced}
use Rattle.link_laws.proofs.Ended.{closed_on, in_time, not_local}
use Rattle.link_laws.proofs.Leaving.{all_given, left_by_one}

-- the connection is not the live one
pub left_stale : (g : Settings) (link : Shown) (c : ℕ) (more base : List Entry) → Legal g (more ++ base) → StaysOn c more → is_live (live base) c ≡ true → is_live (live (more ++ base)) c ≡ false → displaced (more ++ base) c ≡ true
left_stale g link c more base legal stays here off = elim (on_or_displaced g c more base legal stays (inl here)) [
  | inl now ↦ absurd (true≢false (sym now ∙ off))
  | inr gone ↦ gone
]

-- its peer, or that of the connection that took its place, counted as dead
pub left_dead : (g : Settings) (c : ℕ) (x : Entry) (more base : List Entry) (last : ℕ) → x.answer ≡ answer.Dead last → Legal g (more ++ base) → StaysOn c more → is_live (live base) c ≡ true → displaced (x ∷ more ++ base) c ≡ true
unfolding displaced
left_dead g c x more base last dead legal stays here = elim (on_or_displaced g c more base legal stays (inl here)) [
  | inl now ↦ rw (now, dead) (grind (arith, common_steps))
  | inr gone ↦ rw gone refl
]

-- the session is closed, and all was given
pub left_over : (g : Settings) (link : Shown) (b : Between) (more base : List Entry) (why : Cause) → Legal g (more ++ base) → StaysOn b.conn more → is_live (live base) b.conn ≡ true → closed g base ≡ None → closed g (more ++ base) ≡ Some why
    → Keeps g (more ++ base) link b → b.left ≡ [] → queued g (more ++ base) ≡ 0 → Left g (more ++ base) link b.conn
left_over g link b more base why legal stays here free is k none empty = elim (closed_on g b.conn more base why legal stays here free is) [
  | inl gone ↦ inr (inl gone)
  | inr on ↦ elim (on_or_displaced g b.conn more base legal stays (inl here)) [
    | inl now ↦ inr (inr (inl (on, inl (all_given g (more ++ base) link b k none now empty))))
    | inr gone ↦ inr (inl gone)
  ]
]

-- the link failed or ended, and all that was taken has come as far as it can
pub left_broken : (g : Settings) (link : Shown) (b : Between) (more base : List Entry) → Legal g (more ++ base) → StaysOn b.conn more → parted base b.conn ≡ false → closed g base ≡ None → ComesInTime g base b.conn
    → Keeps g (more ++ base) link b → IsReadOut g (more ++ base) b.conn b.rest → IsBroken link → Left g (more ++ base) link b.conn
left_broken g link b more base legal stays joined free early k out broken = elim (displaced (more ++ base) b.conn) as (λ v. displaced (more ++ base) b.conn ≡ v → Left g (more ++ base) link b.conn) [
  | true ↦ λ gone. inr (inl gone)
  | false ↦ λ still. inr (inr (inr (broken, keeps_heard g (more ++ base) link b k (in_time g b.conn more base legal stays joined early still (not_local g b.conn more base stays free)) out)))
] refl

opened_more : (c : ℕ) (more past : List Entry) → was_opened past c ≡ true → was_opened (more ++ past) c ≡ true
opened_more c [] past o = o
opened_more c (x ∷ more) past o = opened_on (more ++ past) x c (opened_more c more past o)

-- and it stays so over entries that move no bytes of it
pub left_later : (g : Settings) (link : Shown) (c : ℕ) (more past : List Entry) → Legal g (more ++ past) → was_opened past c ≡ true → AllByRecursion (λ (x : Entry). is_of c x.event ≡ false) more → Left g past link c → Left g (more ++ past) link c
unfolding Legal
left_later g link c [] past legal opened apart left = left
left_later g link c (x ∷ more) past legal opened apart left =
    left_by_one g x (more ++ past) link c legal (opened_more c more past opened) apart.0 (left_later g link c more past legal.0 opened apart.1 left)

-- ---- nobody else ends it

pub stays_held : (c number : ℕ) (more : List Entry) → IsHeld c number more → AllByRecursion (λ (x : Entry). x.who ≡ number → ends c x.event ≡ false) more → StaysOn c more
stays_held c number [] held quiet = tt
stays_held c number (x ∷ more) held quiet = (by (ends c x.event) refl, stays_held c number more held.1 quiet.1)
  where
    either : (b : Bool) → (b || true) ≡ true
    either true = refl
    either false = refl

    by : (b : Bool) → ends c x.event ≡ b → ends c x.event ≡ false
    by false is = is
    by true is = quiet.0 (held.0 (rw is (either (is_of c x.event))))
