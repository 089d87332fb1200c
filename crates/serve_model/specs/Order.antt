-- Who handles a connection, and that a server opens connections before it closes their session. Entries stand newest first.
use Rattle.std.specs.Prelude.{◌≡◌, ◌<◌, ◌||◌, ◌==◌, ℕ, Bool, true, false, nat_lt, List, [], ◌∷◌}
use Rattle.std.specs.List.{AllByRecursion}
use Rattle.tape.specs.declared.entry.Entry.{Entry}
use Rattle.tape.specs.declared.event.Event.{Event}
use Rattle.tape.specs.declared.event.Event.TheVariants as event
use Rattle.session_model.specs.Life.{openings_in}
use Rattle.link_model.specs.Carrying.{is_of}
use Rattle.link_laws.specs.Staying.{asks_close}
use Rattle.serve_model.specs.Counts.{opened_by}

abbrev pub is_opening : Event → Bool
is_opening e = nat_lt 0 (openings_in e)

-- bytes of a connection are moved by the caller that opened it
abbrev pub IsOwn : List Entry → Entry → Type 0
IsOwn all x = (c : ℕ) → is_of c x.event ≡ true → 0 < opened_by x.who c all

abbrev pub is_cut_of : ℕ → Event → Bool
is_cut_of c (event.Cut conn) = conn == c
is_cut_of c _ = false

-- and it is cut by that caller
abbrev pub IsHandledByOwner : List Entry → Entry → Type 0
IsHandledByOwner all x = (c : ℕ) → (is_of c x.event || is_cut_of c x.event) ≡ true → 0 < opened_by x.who c all

-- a call, or a cut: nothing is opened, no bytes are moved, and no moment is told
abbrev pub IsQuiet : Event → Type 0
IsQuiet (event.Asked asked) = Unit {0}
IsQuiet (event.Cut conn) = Unit {0}
IsQuiet _ = ⊥

-- no entry asks for the end of the session
abbrev pub HasNoClose : List Entry → Type 0
HasNoClose past = AllByRecursion (λ (x : Entry). asks_close x.event ≡ false) past

-- once a Close was asked nothing is opened
unfoldable pub OpensFirst : List Entry → Type 0
OpensFirst [] = Unit {0}
OpensFirst (x ∷ past) = OpensFirst past × (is_opening x.event ≡ true → HasNoClose past)
