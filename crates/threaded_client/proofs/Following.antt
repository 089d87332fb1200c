-- The lines that the client follows, one more at a time.
use Rattle.std.proofs.Common.{◌≡◌, inl, inr, ◌∙◌, ℕ, true, false, List, [], ◌∷◌, ◌++◌, Option, Some, None, refl, ap, subst, append-nil}
use Rattle.std.specs.List.{AllByRecursion}
use Rattle.tape.specs.declared.entry.Entry.{Entry}
use Rattle.cable_script.specs.declared.line.Line.{Line}
use Rattle.threaded_model.specs.Threaded.{Acts, act, acts, is_act, joins_after}
use Rattle.threaded_client.specs.Following.{ActsTo}

pub acts_of : (on : Option ℕ) (lines : List Line) (entries : List Entry) (to : Option ℕ) → ActsTo on lines entries to → Acts on lines entries
unfolding ActsTo Acts
acts_of on [] entries to h = h.0
acts_of on (l ∷ lines) entries to (inl h) = inl (h.0, acts_of on lines entries to h.1)
acts_of on (l ∷ lines) entries to (inr h) = inr (h.0, h.1, h.2, h.3, acts_of (joins_after on l h.0.answer) lines h.1 to h.4)

-- one more line, which does nothing
pub acts_idle : (on : Option ℕ) (lines : List Line) (entries : List Entry) (to : Option ℕ) (l : Line) → act to l ≡ None → ActsTo on lines entries to → ActsTo on (lines ++ l ∷ []) entries to
unfolding ActsTo
acts_idle on [] entries to l none h = inl (subst (λ (o : Option ℕ). act o l ≡ None) h.1 none, h)
acts_idle on (x ∷ lines) entries to l none (inl h) = inl (h.0, acts_idle on lines entries to l none h.1)
acts_idle on (x ∷ lines) entries to l none (inr h) = inr (h.0, h.1, h.2, h.3, acts_idle (joins_after on x h.0.answer) lines h.1 to l none h.4)

-- one more line, which acts
pub acts_more : (on : Option ℕ) (lines : List Line) (entries : List Entry) (to : Option ℕ) (l : Line) (x : Entry) → act to l ≡ Some x.event → ActsTo on lines entries to → ActsTo on (lines ++ l ∷ []) (entries ++ x ∷ []) (joins_after to l x.answer)
unfolding ActsTo
acts_more on [] entries to l x some h = inr (x, [], ap (λ es. es ++ x ∷ []) h.0, subst (λ (o : Option ℕ). act o l ≡ Some x.event) h.1 some, (refl, ap (λ (o : Option ℕ). joins_after o l x.answer) h.1))
acts_more on (y ∷ lines) entries to l x some (inl h) = inl (h.0, acts_more on lines entries to l x some h.1)
acts_more on (y ∷ lines) entries to l x some (inr h) = inr (h.0, h.1 ++ x ∷ [], ap (λ es. es ++ x ∷ []) h.2, h.3, acts_more (joins_after on y h.0.answer) lines h.1 to l x some h.4)

pub acts_block : (more past : List Entry) → AllByRecursion (λ (x : Entry). is_act x.event ≡ false) more → acts (more ++ past) ≡ acts past
unfolding acts
acts_block [] past h = refl
acts_block (x ∷ more) past h = rw h.0 (append-nil (acts (more ++ past)) ∙ acts_block more past h.1)

pub acts_one : (x : Entry) (past : List Entry) → is_act x.event ≡ true → acts (x ∷ past) ≡ acts past ++ x ∷ []
unfolding acts
acts_one x past h = rw h refl
