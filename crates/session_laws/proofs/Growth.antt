-- What only grows, and what is seen.
use Rattle.std.proofs.Common.{◌≡◌, Bool, List, [], ◌∷◌, ◌++◌, Some, map, refl, ap, ◌∙◌}
use Rattle.rs_wire.specs.declared.fault.Cause.{Cause}
use Rattle.rs_wire.specs.declared.settings.Settings.{Settings}
use Rattle.rs_frame.specs.declared.frame.Frame.{Frame}
use Rattle.tape.specs.declared.entry.Entry.{Entry}
use Rattle.session_model.specs.Leases.{is_covered}
use Rattle.session_model.specs.Lists.{IsPrefix}
use Rattle.session_model.specs.Life.{closed}
use Rattle.session_model.specs.Streams.{known}
use Rattle.session_model.specs.Frames.{made, makes, handled, handles, seen, Mark, Sent, Got}
use Rattle.session_laws.specs.Marks.{sent, got}
use Rattle.session_laws.proofs.Prefixes.{prefix_refl, prefix_more}

pub stays_closed : (g : Settings) (more past : List Entry) (why : Cause) → closed g past ≡ Some why → closed g (more ++ past) ≡ Some why
unfolding closed
stays_closed g [] past why h = h
stays_closed g (x ∷ more) past why h = rw (stays_closed g more past why h) refl

pub made_grows : (g : Settings) (more past : List Entry) → IsPrefix (made g past) (made g (more ++ past))
unfolding made
made_grows g [] past = prefix_refl (made g past)
made_grows g (x ∷ more) past = prefix_more (made g past) (made g (more ++ past)) (makes g (is_covered g (more ++ past)) (known g (more ++ past)) x.answer x.event) (made_grows g more past)

pub handled_grows : (more past : List Entry) → IsPrefix (handled past) (handled (more ++ past))
unfolding handled
handled_grows [] past = prefix_refl (handled past)
handled_grows (x ∷ more) past = prefix_more (handled past) (handled (more ++ past)) (handles x.answer x.event) (handled_grows more past)

-- what is sent and got of marks with more of both
sent_more : (ms : List Mark) (covered : Bool) (gots sents : List Frame) → sent (ms ++ (map (Got covered) gots ++ map Sent sents)) ≡ sent ms ++ sents
sent_more [] covered [] [] = refl
sent_more [] covered [] (f ∷ sents) = ap (λ (l : List Frame). f ∷ l) (sent_more [] covered [] sents)
sent_more [] covered (f ∷ gots) sents = sent_more [] covered gots sents
sent_more (Sent f ∷ ms) covered gots sents = ap (λ (l : List Frame). f ∷ l) (sent_more ms covered gots sents)
sent_more (Got c f ∷ ms) covered gots sents = sent_more ms covered gots sents

got_more : (ms : List Mark) (covered : Bool) (gots sents : List Frame) → got (ms ++ (map (Got covered) gots ++ map Sent sents)) ≡ got ms ++ gots
got_more [] covered [] [] = refl
got_more [] covered [] (f ∷ sents) = got_more [] covered [] sents
got_more [] covered (f ∷ gots) sents = ap (λ (l : List Frame). f ∷ l) (got_more [] covered gots sents)
got_more (Sent f ∷ ms) covered gots sents = got_more ms covered gots sents
got_more (Got c f ∷ ms) covered gots sents = ap (λ (l : List Frame). f ∷ l) (got_more ms covered gots sents)

pub sent_is_made : (g : Settings) (past : List Entry) → sent (seen g past) ≡ made g past
unfolding seen made
sent_is_made g [] = refl
sent_is_made g (x ∷ past) =
    let new = makes g (is_covered g past) (known g past) x.answer x.event in
    sent_more (seen g past) (is_covered g past) (handles x.answer x.event) new ∙ ap (λ (l : List Frame). l ++ new) (sent_is_made g past)

pub got_is_handled : (g : Settings) (past : List Entry) → got (seen g past) ≡ handled past
unfolding seen handled
got_is_handled g [] = refl
got_is_handled g (x ∷ past) =
    let new = handles x.answer x.event in
    got_more (seen g past) (is_covered g past) new (makes g (is_covered g past) (known g past) x.answer x.event) ∙ ap (λ (l : List Frame). l ++ new) (got_is_handled g past)
