-- A script that was played over tapes of a shelf.
use Rattle.std.proofs.Common.{◌≡◌, ℕ, Bool, List, [], ◌∷◌, ◌++◌, length, Option, Some, None, IfSome, is_some, refl, sym, ap, subst, ◌∙◌, append_assoc, append-nil, arith, Result, Ok, Err, IfOk, OnOk}
use Rattle.rs_wire.specs.declared.words.Side.{Side}
use Rattle.tape.specs.declared.entry.Entry.{Entry}
use Rattle.session_model.specs.Legal.{Fair, Legal}
use Rattle.session_core.specs.Seen.{Seen, told_by}
use Rattle.cable.specs.Played.{Sides}
use Rattle.cable.specs.Report.{report_of}
use Rattle.rs_wire.specs.declared.settings.Settings.{Settings}
use Rattle.cable_script.specs.declared.setting.SettingLine.{SettingLine}
use Rattle.cable_script.specs.Setting.{settings_by}
use Rattle.cable.specs.Shelves.{GotTapes, IsEnd, IsOfSession, end_of}
use Rattle.cable_script.proofs.Settings.{settings_side}

both_back : (b b' b'' : List (Option (List Entry))) (c s : Option (List Entry)) → b' ≡ b ++ c ∷ [] → b'' ≡ b' ++ s ∷ [] → b'' ≡ b ++ c ∷ s ∷ []
both_back b b' b'' c s p q = q ∙ ap (λ (x : List (Option (List Entry))). x ++ s ∷ []) p ∙ append_assoc b (c ∷ []) (s ∷ [])

-- a shelf got back no tape, the client's, or both
pub no_tapes : (s : Sides) (fresh : Option (List Entry)) (b b' : List (Option (List Entry))) → b' ≡ b → GotTapes s fresh b b'
no_tapes s fresh b b' same = record { tapes = []; of_sessions = tt; back = same ∙ sym (append-nil b) }

pub one_tape : (s : Sides) (fresh : Option (List Entry)) (b b' b'' : List (Option (List Entry))) (t : Option (List Entry)) → b' ≡ b → b'' ≡ b' ++ t ∷ [] → IsOfSession s.client (is_some fresh) t → GotTapes s fresh b b''
one_tape s fresh b b' b'' t same one client = record { tapes = t ∷ []; of_sessions = (client, tt); back = one ∙ ap (λ (x : List (Option (List Entry))). x ++ t ∷ []) same }

pub two_tapes : (s : Sides) (fresh : Option (List Entry)) (b b' b'' b3 : List (Option (List Entry))) (t u : Option (List Entry)) → b' ≡ b → b'' ≡ b' ++ t ∷ [] → b3 ≡ b'' ++ u ∷ []
    → IsOfSession s.client (is_some fresh) t → IsOfSession s.server (is_some fresh) u → GotTapes s fresh b b3
two_tapes s fresh b b' b'' b3 t u same one two client server =
    record { tapes = t ∷ u ∷ []; of_sessions = (client, (server, tt)); back = both_back b b'' b3 t u (one ∙ ap (λ (x : List (Option (List Entry))). x ++ t ∷ []) same) two }

-- an empty tape is that of a session of which nothing happened yet
pub no_entries : (fresh : Option (List Entry)) (n : ℕ) → IfSome fresh (λ (entries : List Entry). length entries ≡ n) → n ≡ 0 → fresh ≡ told_by (is_some fresh) []
no_entries None n counted none = refl
no_entries (Some []) n counted none = refl
no_entries (Some (x ∷ entries)) n counted none = absurd (omega (arith, counted, none))

pub empty_tape : (fresh told : Option (List Entry)) (n : ℕ) → told ≡ fresh → IfSome told (λ (entries : List Entry). length entries ≡ n) → n ≡ 0 → told ≡ told_by (is_some fresh) []
empty_tape fresh told n is counted none = subst (λ (o : Option (List Entry)). told ≡ told_by (is_some o) []) is (no_entries told n counted none)

pub of_none : (g : Settings) (tells : Bool) (tape : Option (List Entry)) → tape ≡ told_by tells [] → IsOfSession g tells tape
unfolding Legal Fair
of_none g tells tape told = record { past = []; legal = tt; fair = tt; told = told }

-- an end that went on is one of its entries
pub went_on : (g : Settings) (fresh : Option (List Entry)) (old new : Seen) → IsEnd g fresh [] old → new ≡ record old { entries = new.entries; spare = new.spare } → IsEnd g fresh new.entries new
went_on g fresh old new begun grew = grew ∙ ap (λ (s : Seen). record s { entries = new.entries; spare = new.spare }) begun

-- what is told of its tape
pub told_of : (g : Settings) (fresh : Option (List Entry)) (old new : Seen) (told : Option (List Entry)) → IsEnd g fresh [] old → new ≡ record old { entries = new.entries; spare = new.spare } → told ≡ told_by new.tells new.entries
    → told ≡ told_by (is_some fresh) new.entries
told_of g fresh old new told begun grew is = is ∙ ap (λ (s : Seen). told_by s.tells new.entries) (went_on g fresh old new begun grew)

-- it is that of a session
pub session_tape : (g : Settings) (fresh : Option (List Entry)) (old new : Seen) (tape : Option (List Entry)) → IsEnd g fresh [] old → new ≡ record old { entries = new.entries; spare = new.spare } → tape ≡ told_by new.tells new.entries
    → Legal old.settings new.entries → Fair old.settings new.entries → IsOfSession g (is_some fresh) tape
session_tape g fresh old new tape begun grew told legal fair =
    let under : old.settings ≡ g = ap (λ (v : Seen). v.settings) begun in
    record {
      past = new.entries;
      legal = subst (λ (k : Settings). Legal k new.entries) under legal;
      fair = subst (λ (k : Settings). Fair k new.entries) under fair;
      told = told_of g fresh old new tape begun grew told;
    }

-- the settings of both
abbrev pub sides : Settings → Settings → Sides
sides g h = record { client = g; server = h }

pub sides_are : (g h : Settings) (fresh : Option (List Entry)) (client server : Seen) → IsEnd g fresh [] client → IsEnd h fresh [] server → sides client.settings server.settings ≡ sides g h
sides_are g h fresh client server c s =
    ap (λ (k : Settings). sides k server.settings) (ap (λ (v : Seen). v.settings) c) ∙ ap (λ (k : Settings). sides g k) (ap (λ (v : Seen). v.settings) s)

-- the side of an end under setting lines
pub side_is : (side : Side) (lines : List SettingLine) (fresh : Option (List Entry)) (v : Seen) → IsEnd (settings_by side lines) fresh [] v → v.settings.side ≡ side
side_is side lines fresh v is = ap (λ (s : Seen). s.settings.side) is ∙ settings_side side lines

-- the report of two ends is that of their entries
pub report_is : (g h : Settings) (fresh : Option (List Entry)) (client server : Seen) (text : List ℕ) → IsEnd g fresh client.entries client → IsEnd h fresh server.entries server → text ≡ report_of client server
    → text ≡ report_of (end_of g fresh client.entries) (end_of h fresh server.entries)
report_is g h fresh client server text c s is =
    is ∙ (ap (λ (v : Seen). report_of v server) c ∙ ap (λ (v : Seen). report_of (record (end_of g fresh client.entries) { spare = client.spare }) v) s)

-- the shelf got both tapes back
pub got_both : (b b' b'' b3 : List (Option (List Entry))) (t u t' u' : Option (List Entry)) → b' ≡ b → b'' ≡ b' ++ t ∷ [] → b3 ≡ b'' ++ u ∷ [] → t ≡ t' → u ≡ u' → b3 ≡ b ++ t' ∷ u' ∷ []
got_both b b' b'' b3 t u t' u' same one two t_is u_is =
    cc (both_back b' b'' b3 t u one two)

pub at_ok : {X E : Type 0} (r : Result X E) (P : X → Type 0) → ((x : X) → r ≡ Ok x → P x) → IfOk r P
at_ok {X} {E} (Ok x) P f = f x refl
at_ok {X} {E} (Err e) P f = tt

pub ok_is : {X E : Type 0} (r : Result X E) (x : X) (P : Type 0) → r ≡ Ok x → OnOk r P → P
ok_is r x P is h = subst (λ s. OnOk s P) is h

pub if_ok : {X E : Type 0} (r : Result X E) (x : X) (P : X → Type 0) → r ≡ Ok x → IfOk r P → P x
if_ok r x P is h = subst (λ s. IfOk s P) is h
