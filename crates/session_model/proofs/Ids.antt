-- The ids of the streams have 31 bits.
use Rattle.std.proofs.Common.{◌≡◌, ◌≤◌, ◌<◌, ◌+◌, ◌^◌, ◌==◌, ℕ, Bool, true, false, cond, List, [], ◌∷◌, ◌++◌, option_to_list, Option, None, arith}
use Rattle.std.proofs.lemmas.Grind.{common_steps}
use Rattle.std.specs.Option.{option_map}
use Rattle.rs_wire.specs.declared.words.Side.{Side}
use Rattle.rs_wire.specs.declared.words.Side.TheVariants.{Client, Server}
use Rattle.rs_wire.specs.declared.words.Kind.{Kind}
use Rattle.rs_wire.specs.declared.message.Message.{Message}
use Rattle.rs_wire.specs.declared.call.Call.TheVariants as call
use Rattle.rs_wire.specs.Settings.{IsChecked}
use Rattle.rs_wire.specs.declared.settings.Settings.{Settings}
use Rattle.rs_frame.specs.declared.frame.Frame.{Frame}
use Rattle.rs_frame.specs.declared.frame.Frame.TheVariants as frame
use Rattle.rs_frame.specs.Spelling.{IsSpellable}
use Rattle.tape.specs.declared.event.Event.{Event}
use Rattle.tape.specs.declared.event.Event.TheVariants as event
use Rattle.tape.specs.declared.answer.Answer.{Answer}
use Rattle.tape.specs.declared.answer.Answer.TheVariants as answer
use Rattle.tape.specs.declared.entry.Entry.{Entry}
use Rattle.stream_model.specs.Marks.{Mark}
use Rattle.stream_model.specs.Streams.{highest, higher}
use Rattle.stream_model.specs.Known.{Known, known as known_after, highest_at, limits_of, next_id}
use Rattle.stream_model.specs.Arriving.{heard}
use Rattle.stream_model.specs.Refused.{by_ids}
use Rattle.fragment.specs.Joining.{Gathered}
use Rattle.session_model.specs.Leases.{is_covered}
use Rattle.session_model.specs.Streams.{arrival_in, heard_in, known, marks_in, unfinished, words}
use Rattle.session_model.specs.Answers.{Facts, facts}
use Rattle.session_model.specs.Legal.{Fair, IsFair, Legal}
use Rattle.session_model.specs.Means.{Means, Starting}
use Rattle.session_model.proofs.Meaning.{last_means}
use Rattle.session_model.proofs.Refusals.{unrefused}

-- the highest ids have 31 bits
pub record IdsFit (t : Known) : Type 0 where
  pub even : t.even < 2 ^ 31
  pub odd : t.odd < 2 ^ 31

pub highest_fits : (t : Known) (s : ℕ) → IdsFit t → highest_at t s < 2 ^ 31
highest_fits t s ids = let even = ids.even in let odd = ids.odd in grind (arith, common_steps)

-- the id of a request that is not refused
pub next_above : (side : Side) (t : Known) → 0 < next_id side t
next_above Client t = elim (t.odd == 0) as (λ v. 0 < cond v 1 (t.odd + 2)) [ true ↦ omega arith | false ↦ omega arith ]
next_above Server t = elim (t.even == 0) as (λ v. 0 < cond v 2 (t.even + 2)) [ true ↦ omega arith | false ↦ omega arith ]

pub next_fits : (g : Settings) (t : Known) (kind : Kind) (initial : Option ℕ) (message : Message) (complete : Bool) → IsChecked g
    → by_ids (limits_of g) t (call.Request kind initial message complete) ≡ None → next_id g.side t < 2 ^ 31
next_fits g t kind initial message complete checked none =
    let last = checked.last_id.below in
    let within : next_id g.side t ≤ g.last_id = grind (arith, common_steps) in
    omega arith

pub started_fits : (g : Settings) (t : Facts) (kind : Kind) (initial : Option ℕ) (message : Message) (complete : Bool) (id : ℕ) → IsChecked g
    → Starting g t (call.Request kind initial message complete) id → (0 < id) × (id < 2 ^ 31)
started_fits g t kind initial message complete id checked starts =
    let above = next_above g.side t.streams in
    let below = next_fits g t.streams kind initial message complete checked (unrefused g t (call.Request kind initial message complete) starts.accepted).ids in
    let next = starts.next in
    (omega arith, omega arith)

-- a request raises the highest id to its own at most
raised : (parity s before : ℕ) → s < 2 ^ 31 → before < 2 ^ 31 → higher parity s before < 2 ^ 31
raised parity s before fits below = grind (arith, common_steps)

heard_below : (covered : Bool) (held : ℕ → Gathered) (f : Frame) (seen : List Mark) (parity : ℕ) → IsSpellable f → highest parity seen < 2 ^ 31
    → highest parity (option_to_list (option_map heard (arrival_in covered held f)) ++ seen) < 2 ^ 31
unfolding highest
heard_below true held (frame.Request r) seen parity spellable before = raised parity r.stream (highest parity seen) spellable.fields.0.1 before
heard_below false held (frame.Request r) seen parity spellable before = raised parity r.stream (highest parity seen) spellable.fields.0.1 before
heard_below covered held f seen parity spellable before = grind (arith, common_steps)

highest_after : (g : Settings) (t : Facts) (covered : Bool) (held : ℕ → Gathered) (a : Answer) (e : Event) (seen : List Mark) (parity : ℕ) → IsChecked g → IsFair g e → Means g t e a
    → highest parity seen < 2 ^ 31 → highest parity (marks_in covered held a e ++ seen) < 2 ^ 31
unfolding highest
highest_after g t covered held (answer.Started id) (event.Asked (call.Request kind initial message complete)) seen parity checked fair means before =
    raised parity id (highest parity seen) (started_fits g t kind initial message complete id checked means).1 before
highest_after g t covered held answer.Handled (event.Came conn f) seen parity checked fair means before = heard_below covered held f seen parity fair before
highest_after g t covered held a e seen parity checked fair means before = grind (arith, common_steps)

highest_below : (g : Settings) (past : List Entry) (parity : ℕ) → IsChecked g → Legal g past → Fair g past → highest parity (words g past) < 2 ^ 31
unfolding Legal Fair heard_in highest
highest_below g [] parity checked legal fair = omega arith
highest_below g (x ∷ past) parity checked legal fair =
    highest_after g (facts g past) (is_covered g past) (unfinished g past) x.answer x.event (words g past) parity checked fair.1 (last_means g x past legal) (highest_below g past parity checked legal.0 fair.0)

pub ids_fit : (g : Settings) (past : List Entry) → IsChecked g → Legal g past → Fair g past → IdsFit (known g past)
unfolding known_after
ids_fit g past checked legal fair = record { even = highest_below g past 0 checked legal fair; odd = highest_below g past 1 checked legal fair }
