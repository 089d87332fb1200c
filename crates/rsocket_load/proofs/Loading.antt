-- The text of a run is the first two lines of its report, and the last line.
use Rattle.std.proofs.Common.{◌≡◌, ℕ, List, ◌++◌, Option, length, ap, sym, ◌∙◌, subst}
use Rattle.std.specs.Prelude.{is_some}
use Rattle.std.proofs.lemmas.List.{append_assoc}
use Rattle.rs_wire.specs.declared.settings.Settings.{Settings}
use Rattle.rs_wire.specs.declared.words.Side.{Side}
use Rattle.rs_wire.specs.declared.words.Side.TheVariants.{Client, Server}
use Rattle.tape.specs.declared.entry.Entry.{Entry}
use Rattle.position.specs.Boundaries.{pos}
use Rattle.session_model.specs.Frames.{handled, made}
use Rattle.session_core.specs.Seen.{told_by}
use Rattle.plain_text.specs.Lines.{HasNoFeed, ended}
use Rattle.cable_script.specs.Scripted.{Scripted}
use Rattle.cable_script.specs.Setting.{settings_by}
use Rattle.load_script.specs.Generated.{generated, load_settings}
use Rattle.cable.specs.Report.{counts_of, told_lines}
use Rattle.cable.specs.Shelves.{Reports}
use Rattle.rsocket_load.specs.Load.{Loads, summary}
use Rattle.rsocket_load.proofs.Counts.{counts_clean, counts_ended, counts_text}

-- the line of counts of an end, without its line feed
line_of : Side → Settings → List Entry → List ℕ
line_of side g past = counts_text side (length (made g past)) (pos (made g past)) (length (handled past)) (pos (handled past))

line_clean : (side : Side) (g : Settings) (past : List Entry) → HasNoFeed (line_of side g past)
unfolding line_of
line_clean side g past = counts_clean side (length (made g past)) (pos (made g past)) (length (handled past)) (pos (handled past))

line_ended : (side : Side) (g : Settings) (past : List Entry) → counts_of side g past ≡ ended (line_of side g past)
unfolding line_of
line_ended side g past = counts_ended side (length (made g past)) (pos (made g past)) (length (handled past)) (pos (handled past))

-- the first two lines are the counts
two_counts : (report two rest : List ℕ) (g h : Settings) (client server : List Entry) →
    ((one other more : List ℕ) → HasNoFeed one → HasNoFeed other → report ≡ ended one ++ (ended other ++ more) → two ≡ ended one ++ ended other) →
    report ≡ counts_of Client g client ++ (counts_of Server h server ++ rest) → two ≡ counts_of Client g client ++ counts_of Server h server
two_counts report two rest g h client server first is =
    let c = line_ended Client g client in
    let s = line_ended Server h server in
    let lines : report ≡ ended (line_of Client g client) ++ (ended (line_of Server h server) ++ rest) =
    is ∙ ap (λ (t : List ℕ). t ++ (counts_of Server h server ++ rest)) c ∙ ap (λ (t : List ℕ). ended (line_of Client g client) ++ (t ++ rest)) s in
    first (line_of Client g client) (line_of Server h server) rest (line_clean Client g client) (line_clean Server h server) lines
    ∙ ap (λ (t : List ℕ). t ++ ended (line_of Server h server)) (sym c) ∙ ap (λ (t : List ℕ). counts_of Client g client ++ t) (sym s)

loads_of : (seed : ℕ) (fresh : Option (List Entry)) (shelf shelf' : List (Option (List Entry))) (report two text : List ℕ) →
    Reports (generated seed) fresh shelf shelf' report →
    ((one other more : List ℕ) → HasNoFeed one → HasNoFeed other → report ≡ ended one ++ (ended other ++ more) → two ≡ ended one ++ ended other) →
    text ≡ two ++ summary seed → Loads seed fresh shelf shelf' text
loads_of seed fresh shelf shelf' report two text r first is =
    let g = settings_by Client load_settings in
    let h = settings_by Server load_settings in
    let told : List ℕ = told_lines Client (told_by (is_some fresh) r.client) ++ told_lines Server (told_by (is_some fresh) r.server) in
    let counts = two_counts report two told g h r.client r.server first r.reported in
    record {
      client = r.client;
      server = r.server;
      ends = r.ends;
      put_back = r.put_back;
      text_is = is ∙ ap (λ (t : List ℕ). t ++ summary seed) counts ∙
          append_assoc (counts_of Client g r.client) (counts_of Server h r.server) (summary seed);
    }

pub loads : (seed : ℕ) (script : Scripted) (fresh : Option (List Entry)) (shelf shelf' : List (Option (List Entry))) (report two text : List ℕ) →
    script ≡ generated seed → Reports script fresh shelf shelf' report →
    ((one other more : List ℕ) → HasNoFeed one → HasNoFeed other → report ≡ ended one ++ (ended other ++ more) → two ≡ ended one ++ ended other) →
    text ≡ two ++ summary seed → Loads seed fresh shelf shelf' text
loads seed script fresh shelf shelf' report two text same reported first is =
    loads_of seed fresh shelf shelf' report two text (subst (λ (s : Scripted). Reports s fresh shelf shelf' report) same reported) first is
