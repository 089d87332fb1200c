-- The bytes given to a link, as bytes that were drawn. Entries stand newest first.
use Rattle.std.specs.Prelude.{◌≡◌, ◌≤◌, ℕ, Bool, false, ◌==◌, if◌then◌else◌, List, [], ◌∷◌, ◌++◌, length, take, drop}
use Rattle.rs_wire.specs.declared.settings.Settings.{Settings}
use Rattle.rs_frame.specs.Framed.{framed_all}
use Rattle.tape.specs.declared.event.Event.{Event}
use Rattle.tape.specs.declared.event.Event.TheVariants as event
use Rattle.tape.specs.declared.answer.Answer.{Answer}
use Rattle.tape.specs.declared.answer.Answer.TheVariants as answer
use Rattle.tape.specs.declared.entry.Entry.{Entry}
use Rattle.session_model.specs.Frames.{drawn, due, given as bytes_drawn}

abbrev pub is_draw_of : ℕ → Event → Bool
is_draw_of c (event.Draw conn room) = conn == c
is_draw_of c _ = false

-- how many bytes were drawn on connection c before its last draw
unfoldable pub drawn_before : List Entry → ℕ → ℕ
drawn_before [] c = 0
drawn_before (x ∷ past) c = if is_draw_of c x.event then drawn past c else drawn_before past c

-- how many bytes are drawn by a draw so answered
abbrev pub count_drawn : Answer → ℕ
count_drawn (answer.Drawn n) = n
count_drawn _ = 0

-- the bytes that a draw so answered draws on connection c, after these entries
abbrev pub next_drawn : Settings → List Entry → ℕ → Answer → List ℕ
next_drawn g past c a = take (count_drawn a) (drop (drawn past c) (framed_all (due g past c)))

-- The bytes that the link was given, and then those drawn that it was not given yet, are all bytes drawn. It was given all that was drawn before the last draw.
pub record HasGiven (g : Settings) (past : List Entry) (c : ℕ) (left bytes : List ℕ) : Type 0 where
  pub all : bytes ++ left ≡ bytes_drawn g past c
  pub least : drawn_before past c ≤ length bytes
