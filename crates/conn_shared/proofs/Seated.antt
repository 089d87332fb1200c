-- Seats that have seen a session, and the longer front of two.
use Rattle.std.proofs.Common.{◌≡◌, Bool, true, false, cond, List, length, nat_lt, sym, ap, subst, ◌∙◌}
use Rattle.rs_wire.specs.declared.settings.Settings.{Settings}
use Rattle.tape.specs.declared.entry.Entry.{Entry}
use Rattle.session_model.specs.Legal.{Fair, Legal}
use Rattle.conn_lock.specs.Callers.{Known, longer}
use Rattle.conn_shared.specs.declared.line.Line.{Line}
use Rattle.conn_shared.specs.Members.{IsMember}
use Rattle.conn_shared.specs.Lines.{entries_in, lines_with, settings_in, tells_in}
use Rattle.conn_shared.proofs.Lines.{entries-noted}

pub seated : (g : Settings) (tells : Bool) (past : List Entry) (s : Known Line) → s.front ≡ lines_with g tells past → Legal g past → Fair g past → IsMember s
seated g tells past s is legal fair =
    let settings : settings_in s.front ≡ g = ap settings_in is in
    let telling : tells_in s.front ≡ tells = ap tells_in is in
    let entries : entries_in s.front ≡ past = ap entries_in is ∙ entries-noted past in
    record {
      lined = is ∙ (ap (λ h. lines_with h tells past) (sym settings) ∙ (ap (λ t. lines_with (settings_in s.front) t past) (sym telling) ∙ ap (lines_with (settings_in s.front) (tells_in s.front)) (sym entries)));
      legal = subst (λ h. Legal h (entries_in s.front)) (sym settings) (subst (Legal g) (sym entries) legal);
      fair = subst (λ h. Fair h (entries_in s.front)) (sym settings) (subst (Fair g) (sym entries) fair);
    }

-- what holds of both fronts holds of the longer one
pub of_longer : (P : List Entry → Type 0) (xs ys : List Entry) → P xs → P ys → P (longer xs ys)
of_longer P xs ys here there = picked (nat_lt (length xs) (length ys))
  where
    picked : (b : Bool) → P (cond b ys xs)
    picked true = there
    picked false = here

pub legal_by : (g : Settings) (s : Known Line) → settings_in s.front ≡ g → IsMember s → Legal g (entries_in s.front)
legal_by g s is c = subst (λ h. Legal h (entries_in s.front)) is c.legal

pub fair_by : (g : Settings) (s : Known Line) → settings_in s.front ≡ g → IsMember s → Fair g (entries_in s.front)
fair_by g s is c = subst (λ h. Fair h (entries_in s.front)) is c.fair
