-- Lines, one after the other.
use Rattle.std.proofs.lemmas.Grind.{common_steps}
use Rattle.std.proofs.Common.{◌≡◌, ◌==◌, ◌≤◌, ◌<◌, ◌+◌, ℕ, List, [], ◌∷◌, length, drop, get_or, Result, OnOk, is_err, None, false, refl, ap, subst, sym, ◌∙◌, arith}
use Rattle.std.proofs.lemmas.List.{drop_all}
use Rattle.rs_wire.specs.declared.words.Side.TheVariants.{Client, Server}
use Rattle.rs_wire.specs.Settings.{IsChecked}
use Rattle.rs_wire.specs.declared.settings.Settings.{Settings}
use Rattle.tape.specs.declared.entry.Entry.{Entry}
use Rattle.session_model.specs.Legal.{Fair, Legal}
use Rattle.session_core.specs.Seen.{Seen}
use Rattle.session_laws.specs.Ends.{AreEnds}
use Rattle.cable_script.specs.declared.line.Line.{Line}
use Rattle.cable.specs.Played.{Ends, Played, PlaysLine, PlaysLines, Sides, begins, nothing, opens}
use Rattle.cable.specs.Wires.{At, Keeps, Reaches, Wires, sides_of}

-- ---- the lines that are left

-- what plays the lines that are left plays all of them
abbrev pub IsLeft : Sides → List Line → ℕ → Ends → Ends → Type 0
IsLeft s lines i r now = (r' : Ends) → PlaysLines s (drop i lines) now r' → PlaysLines s lines r r'

none_left : (s : Sides) (lines : List Line) (r : Ends) → lines ≡ [] → PlaysLines s lines r r
unfolding PlaysLines
none_left s lines r none = subst (λ (ls : List Line). PlaysLines s ls r r) (sym none) refl

pub line_played : (u v w : Wires) (lines : List Line) (i : ℕ) (x : Line) (r : Ends) → Keeps u v → i < length lines → x ≡ get_or lines i x → (b : Reaches v (IsLeft (sides_of u) lines i r)) → Reaches w (PlaysLine (sides_of v) x b.ends) → Reaches w (IsLeft (sides_of u) lines (i + 1) r)
unfolding PlaysLines
line_played u v w lines i x r h1 h2 h3 b h4 = grind (arith, common_steps)

pub all_played : (u v : Wires) (lines : List Line) (i : ℕ) (r : Ends) → length lines ≤ i → Reaches v (IsLeft (sides_of u) lines i r) → Reaches v (PlaysLines (sides_of u) lines r)
all_played u v lines i r past b = record { ends = b.ends; at = b.at; holds = b.holds b.ends (none_left (sides_of u) (drop i lines) b.ends (drop_all i lines past)) }

-- ---- from the first line to the last

pub played_none : (v : Wires) (lines : List Line) → length lines ≡ 0 → At v nothing → Reaches v (PlaysLines (sides_of v) lines (begins (sides_of v) lines))
played_none v lines h1 h2 = grind (arith, common_steps, none_left)

-- the first line finds the connection open
pub begins_opened : (s : Sides) (lines : List Line) → (length lines == 0) ≡ false → begins s lines ≡ opens s nothing
begins_opened s [] some = absurd (cc)
begins_opened s (l ∷ lines) some = refl

pub some_at : (v : Wires) (Holds : Ends → Type 0) → Reaches v Holds → (r : Ends) × At v r
some_at v Holds b = (b.ends, b.at)

-- ---- a run

pub ok_holds : {A B : Type 0} (P : Type 0) (r : Result A B) → is_err r ≡ false → OnOk r P → P
ok_holds P r h1 h2 = grind (arith, common_steps)

-- the ends of a run
pub checked_ends : (g h : Settings) (C S : List Entry) → g.side ≡ Client → h.side ≡ Server → IsChecked g → IsChecked h → Legal g C → Fair g C → Legal h S → Fair h S → AreEnds g h C S
checked_ends g h C S client server cc sc cl cf sl sf = record { client = client; server = server; client_checked = cc; server_checked = sc; client_legal = cl; server_legal = sl; client_fair = cf; server_fair = sf }

-- the lines of the script were played
pub run_played : (client server : Seen) (v w : Wires) (C S : Seen) (script lines : List Line) → v ≡ record { client = client; server = server; wire = None; dropped = None } → C ≡ w.client → S ≡ w.server → lines ≡ script
    → Reaches w (PlaysLines (sides_of v) lines (begins (sides_of v) lines)) → Played (record { client = client.settings; server = server.settings }) script C.entries S.entries
run_played client server v w C S script lines h1 h2 h3 h4 h5 = grind (arith, common_steps)

pub run_client : (client server : Seen) (v w : Wires) (C : Seen) → v ≡ record { client = client; server = server; wire = None; dropped = None } → Keeps v w → C ≡ w.client → C ≡ record client { entries = C.entries; spare = C.spare }
run_client client server v w C is k c_is = c_is ∙ (k.client ∙ (ap (λ (u : Wires). record u.client { entries = w.client.entries; spare = w.client.spare }) is ∙ ap (λ (u : Seen). record client { entries = u.entries; spare = u.spare }) (sym c_is)))

pub run_server : (client server : Seen) (v w : Wires) (S : Seen) → v ≡ record { client = client; server = server; wire = None; dropped = None } → Keeps v w → S ≡ w.server → S ≡ record server { entries = S.entries; spare = S.spare }
run_server client server v w S is k s_is = s_is ∙ (k.server ∙ (ap (λ (u : Wires). record u.server { entries = w.server.entries; spare = w.server.spare }) is ∙ ap (λ (u : Seen). record server { entries = u.entries; spare = u.spare }) (sym s_is)))

pub legal_as : (first last : Seen) → last ≡ record first { entries = last.entries; spare = last.spare } → Legal last.settings last.entries → Legal first.settings last.entries
legal_as first last same legal = subst (λ (g : Settings). Legal g last.entries) (ap (λ (u : Seen). u.settings) same) legal

pub fair_as : (first last : Seen) → last ≡ record first { entries = last.entries; spare = last.spare } → Fair last.settings last.entries → Fair first.settings last.entries
fair_as first last same fair = subst (λ (g : Settings). Fair g last.entries) (ap (λ (u : Seen). u.settings) same) fair
