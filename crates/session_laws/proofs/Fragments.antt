-- No request or payload that was made is longer than the mtu.
use Rattle.std.proofs.Common.{◌≡◌, ◌≤◌, ℕ, false, Bool, List, [], ◌∷◌, ◌++◌, Option, Some, None, IfSome, arith}
use Rattle.std.proofs.lemmas.Grind.{common_steps}
use Rattle.std.specs.List.{AllByRecursion}
use Rattle.rs_wire.specs.declared.call.Call.{Call}
use Rattle.rs_wire.specs.declared.settings.Settings.{Settings}
use Rattle.rs_frame.specs.declared.frame.Frame.{Frame}
use Rattle.rs_frame.specs.declared.frame.Frame.TheVariants as frame
use Rattle.rs_frame.specs.Spelling.{length_of}
use Rattle.fragment.specs.Splitting.{IsSplittable, follows_of, split_of, first_fragment}
use Rattle.fragment.proofs.Cuts.{first_length}
use Rattle.fragment.proofs.Splits.{by_cuts}
use Rattle.tape.specs.declared.answer.Answer.{Answer}
use Rattle.tape.specs.declared.answer.Answer.TheVariants as answer
use Rattle.tape.specs.declared.event.Event.{Event}
use Rattle.tape.specs.declared.event.Event.TheVariants as event
use Rattle.tape.specs.declared.entry.Entry.{Entry}
use Rattle.stream_model.specs.Known.{Known}
use Rattle.session_model.specs.Leases.{is_covered}
use Rattle.session_model.specs.Streams.{turned_away_for, known}
use Rattle.session_model.specs.Frames.{in_fragments, made, makes, sent_as, spoken, turned_away_with}
use Rattle.session_laws.specs.Fragments.{FitsMtu}

abbrev pub AllFit : ℕ → List Frame → Type 0
AllFit mtu fs = AllByRecursion (FitsMtu mtu) fs

fits_if_short : (mtu : ℕ) (f : Frame) → length_of f ≤ mtu → FitsMtu mtu f
fits_if_short mtu f short = grind (arith, common_steps)

split_fits_mtu : (mtu : ℕ) (f : Frame) → 64 ≤ mtu → IsSplittable f → AllFit mtu (split_of f mtu)
split_fits_mtu mtu f least whole =
    by_cuts (λ h hs. AllFit mtu hs) mtu (λ some. least)
    (λ h h_whole fits. (fits_if_short mtu h (fits (omega arith)), tt))
    (λ h hs long rest. let full = first_length mtu h long in (fits_if_short mtu (first_fragment mtu h) (omega arith), rest))
    (length_of f) f (omega arith) whole

fragments_fit_mtu : (mtu : ℕ) (f : Frame) → 64 ≤ mtu → follows_of f ≡ false → AllFit mtu (in_fragments mtu f)
fragments_fit_mtu mtu (frame.Request r) least whole = split_fits_mtu mtu (frame.Request r) least whole
fragments_fit_mtu mtu (frame.Payload s follows complete next message) least whole = split_fits_mtu mtu (frame.Payload s follows complete next message) least whole
fragments_fit_mtu mtu f least whole = (tt, tt)

spoken_whole : (t : Known) (id : ℕ) (asked : Call) → IfSome (spoken t id asked) (λ f. follows_of f ≡ false)
spoken_whole t id asked = grind (arith, common_steps)

sent_fits : (g : Settings) (o : Option Frame) → 64 ≤ g.mtu → IfSome o (λ f. follows_of f ≡ false) → AllFit g.mtu (sent_as g o)
sent_fits g None least whole = tt
sent_fits g (Some f) least whole = fragments_fit_mtu g.mtu f least whole

turned_fits : (mtu s : ℕ) (word : Option (List ℕ)) → AllFit mtu (turned_away_with s word)
turned_fits mtu s (Some word) = (tt, tt)
turned_fits mtu s None = tt

makes_fits : (g : Settings) (covered : Bool) (t : Known) (a : Answer) (e : Event) → 64 ≤ g.mtu → AllFit g.mtu (makes g covered t a e)
makes_fits g covered t (answer.Started id) (event.Asked asked) least = sent_fits g (spoken t id asked) least (spoken_whole t id asked)
makes_fits g covered t answer.Done (event.Asked asked) least = sent_fits g (spoken t 0 asked) least (spoken_whole t 0 asked)
makes_fits g covered t answer.Handled (event.Came conn (frame.Request r)) least = turned_fits g.mtu r.stream (turned_away_for g covered t r)
makes_fits g covered t a e least = tt

both_fit : (mtu : ℕ) (xs ys : List Frame) → AllFit mtu xs → AllFit mtu ys → AllFit mtu (xs ++ ys)
both_fit mtu [] ys h k = k
both_fit mtu (x ∷ xs) ys h k = (h.0, both_fit mtu xs ys h.1 k)

pub made_fits : (g : Settings) (past : List Entry) → 64 ≤ g.mtu → AllFit g.mtu (made g past)
unfolding made
made_fits g [] least = tt
made_fits g (x ∷ past) least = both_fit g.mtu (made g past) (makes g (is_covered g past) (known g past) x.answer x.event) (made_fits g past least) (makes_fits g (is_covered g past) (known g past) x.answer x.event least)
