-- A link at first, and what is kept of it.
use Rattle.std.proofs.Common.{◌≡◌, ◌≤◌, ◌∙◌, ℕ, true, false, List, [], ◌∷◌, ◌++◌, take, Option, IfSome, is_some, refl, sym, ap, subst, arith}
use Rattle.rs_wire.specs.declared.settings.Settings.{Settings}
use Rattle.rs_frame.specs.Framed.{framed_all}
use Rattle.outside.specs.Links.{Shown}
use Rattle.tape.specs.declared.entry.Entry.{Entry}
use Rattle.session_model.specs.Frames.{came, drawn, due}
use Rattle.link_model.specs.Giving.{HasGiven, drawn_before, is_draw_of}
use Rattle.link_model.specs.Reading.{HasRead}
use Rattle.link_model.specs.Carrying.{Between, Carried, IsFresh, Keeps}
use Rattle.link_model.proofs.Bytes.{if_some}

before_le : (past : List Entry) (c : ℕ) → drawn_before past c ≤ drawn past c
unfolding drawn_before drawn
before_le [] c = omega arith
before_le (x ∷ past) c = elim (is_draw_of c x.event) as (λ v. (is_draw_of c x.event) ≡ v → drawn_before (x ∷ past) c ≤ drawn (x ∷ past) c) [
  | true ↦ λ is. rw is (omega arith)
  | false ↦ λ is. let h = before_le past c in rw is (omega (arith, h))
] refl

pub fresh_keeps : (g : Settings) (past : List Entry) (s : Shown) (c most : ℕ) (rest : List ℕ) → IsFresh g past s c rest → Keeps g past s (record { conn = c; left = []; rest = rest; max_in = most; bad = false })
fresh_keeps g past s c most rest f = record {
  opened = f.opened;
  bad = sym (ap is_some f.good);
  within = omega (arith, f.undrawn);
  given = if_some s.given (λ (given : List ℕ) (is : given ≡ []). record {
    all = ap (λ t. t ++ []) is ∙ ap (λ n. take n (framed_all (due g past c))) (sym f.undrawn);
    least = (let h = before_le past c in omega (arith, h, f.undrawn));
  }) f.ungiven;
  taken = subst (λ o. IfTaken o) (sym f.good) f.taken;
}
  where
    IfTaken : Option ℕ → Type 0
    IfTaken o = IfSome s.taken (λ taken. HasRead (came past c) o g.max_in rest taken)

pub is_carried : (g : Settings) (past : List Entry) (s : Shown) (p : Between) → Keeps g past s p → Carried g past s p.conn
is_carried g past s p k = record {
  given = if_some s.given (λ (given : List ℕ) (h : HasGiven g past p.conn p.left given). ((p.left, h.all), h.least)) k.given;
  taken = if_some s.taken (λ taken h. (p.rest, h)) k.taken;
}
