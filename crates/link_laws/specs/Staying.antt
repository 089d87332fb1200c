-- A connection that its own caller alone moves and ends. Entries stand newest first.
use Rattle.std.specs.Prelude.{◌≡◌, ◌==◌, ◌||◌, ℕ, Bool, true, false, List}
use Rattle.std.specs.List.{AllByRecursion}
use Rattle.rs_wire.specs.declared.call.Call.TheVariants as call
use Rattle.tape.specs.declared.event.Event.{Event}
use Rattle.tape.specs.declared.event.Event.TheVariants as event
use Rattle.tape.specs.declared.entry.Entry.{Entry}
use Rattle.link_model.specs.Carrying.{is_of}

abbrev pub asks_close : Event → Bool
asks_close (event.Asked call.Close) = true
asks_close _ = false

-- the event cuts connection c, or asks for the end of the session
abbrev pub ends : ℕ → Event → Bool
ends c (event.Cut conn) = conn == c
ends c e = asks_close e

-- the caller of this number alone moves bytes of connection c, cuts it, or closes the session
abbrev pub IsHeld : ℕ → ℕ → List Entry → Type 0
IsHeld c number past = AllByRecursion (λ x. (is_of c x.event || ends c x.event) ≡ true → x.who ≡ number) past

-- no entry cuts connection c or closes the session by a call
abbrev pub StaysOn : ℕ → List Entry → Type 0
StaysOn c more = AllByRecursion (λ (x : Entry). ends c x.event ≡ false) more
