-- The streams of a lawful list keep their laws.
use Rattle.std.proofs.Common.{◌≤◌, ℕ, List, [], ◌∷◌, ◌++◌}
use Rattle.rs_wire.specs.declared.settings.Settings.{Settings}
use Rattle.rs_wire.specs.declared.words.Way.{Way}
use Rattle.tape.specs.declared.entry.Entry.{Entry}
use Rattle.stream_model.specs.Marks.{Mark}
use Rattle.stream_model.specs.Turns.{Turn, delivered, taken, waiting}
use Rattle.stream_model.specs.Streams.{live, turn}
use Rattle.stream_model.specs.Fair.{Fair as FairMarks}
use Rattle.stream_model.specs.Laws.{IsOver, Laws}
use Rattle.stream_model.proofs.ForGood.{over_for_good}
use Rattle.stream_model.proofs.Lawful.{each_stream}
use Rattle.stream_model.proofs.Places.{live_within}
use Rattle.session_model.specs.Leases.{is_covered}
use Rattle.session_model.specs.Lists.{IsPrefix}
use Rattle.session_model.specs.Streams.{heard_in, marks_in, unfinished, words}
use Rattle.session_model.specs.Legal.{Fair, Legal}
use Rattle.session_model.proofs.Fairness.{legal_fair}
use Rattle.session_laws.specs.Streams.{IsLawful, IsStream, stream}

pub before_lawful : (g : Settings) (more past : List Entry) → IsLawful g (more ++ past) → IsLawful g past
unfolding Legal Fair
before_lawful g [] past h = h
before_lawful g (x ∷ more) past h = before_lawful g more past (record { legal = h.legal.0; fair = h.fair.0 })

pub fair_marks : (g : Settings) (past : List Entry) → IsLawful g past → FairMarks g.max_streams (words g past)
fair_marks g past h = legal_fair g past h.legal h.fair

pub laws_of : (g : Settings) (past : List Entry) (s : ℕ) (t : Turn) → IsStream g past s t → Laws t
laws_of g past s t is = each_stream g.max_streams (words g past) (fair_marks g past is.lawful) s t is.there

pub taken_prefix : (g : Settings) (past : List Entry) (s : ℕ) (t : Turn) → IsStream g past s t → IsPrefix (taken t.words) (delivered t.opening t.words)
taken_prefix g past s t is = (waiting t.opening t.words, (laws_of g past s t is).taken)

pub within_limit : (g : Settings) (past : List Entry) → IsLawful g past → live g.max_streams (words g past) ≤ g.max_streams
within_limit g past h = live_within g.max_streams (words g past) (fair_marks g past h)

-- a way that is over is over after more marks
over_marks : (most : ℕ) (more seen : List Mark) (s : ℕ) (w : Way) → FairMarks most (more ++ seen) → IsOver (turn most seen s) w → IsOver (turn most (more ++ seen) s) w
unfolding FairMarks
over_marks most [] seen s w fair is = is
over_marks most (m ∷ more) seen s w fair is = over_for_good most (more ++ seen) m fair s w (over_marks most more seen s w fair.0 is)

pub over_later : (g : Settings) (more past : List Entry) (s : ℕ) (w : Way) → IsLawful g (more ++ past) → IsOver (stream g past s) w → IsOver (stream g (more ++ past) s) w
unfolding Legal Fair heard_in
over_later g [] past s w h is = is
over_later g (x ∷ more) past s w h is =
    let earlier : IsLawful g (more ++ past) = record { legal = h.legal.0; fair = h.fair.0 } in
    over_marks g.max_streams (marks_in (is_covered g (more ++ past)) (unfinished g (more ++ past)) x.answer x.event) (words g (more ++ past)) s w (fair_marks g (x ∷ (more ++ past)) h) (over_later g more past s w earlier is)
